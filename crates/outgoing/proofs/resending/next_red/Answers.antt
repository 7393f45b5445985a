use borrow.Author.Rules.{rules}
use Rattle.outgoing.proofs.WalkLaws.{none_left, short_left, is_next}
use native.Mathlib.Omega.{arith}
use Rattle.outgoing.proofs.resending.next_red.Goals as goal

pub returns-in_default : goal.returns-in_default
returns-in_default c = none_left _ (search rules) _ _ _ c.in_default.ensures

pub returns-then-high-from : goal.returns-then-high-from
returns-then-high-from c =
    short_left _ (search rules) _ _ _ _ c.in-Some.ensures c.index_at-index.ensures _ (omega (arith, c.from.ensures))

pub returns : goal.returns
returns c =
    is_next _ (search rules) _ _ _ _ c.in-Some.ensures c.index_at-index.ensures _ (omega (arith, c.from.ensures))
