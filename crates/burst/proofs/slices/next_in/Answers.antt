use lib.ListN.{length-take}
use native.Mathlib.Omega.{arith}
use Rattle.burst.proofs.NextLaws.{stop_fits, cut_fits, event_fits, next_none, next_short, next_cut, next_first, next_recovery, next_behind}
use borrow.Author.Rules.{rules}
use Rattle.burst.proofs.slices.next_in.Goals as goal

pub returns-then-e-lt1 : goal.returns-then-e-lt1
returns-then-e-lt1 c = search (rules, next_none, stop_fits)

pub returns-then-e-lt-LENGTH_SIZE : goal.returns-then-e-lt-LENGTH_SIZE
returns-then-e-lt-LENGTH_SIZE c = search (rules, next_short, cut_fits)

pub returns-then-e-size : goal.returns-then-e-size
returns-then-e-size c = search (rules, next_cut, cut_fits)

pub returns-then-first : goal.returns-then-first
returns-then-first c = search (rules, next_first, event_fits)

pub slice_bounds-is_recovery-end : goal.slice_bounds-is_recovery-end
slice_bounds-is_recovery-end c = simp length-take (omega arith)

pub returns-then-is_recovery : goal.returns-then-is_recovery
returns-then-is_recovery c = search (rules, next_recovery, stop_fits)

pub returns : goal.returns
returns c = search (rules, next_behind, event_fits)
