use mathlib.Core.Path.{refl}
use borrow.Author.Rules.{rules}
use Rattle.record.specs.Values.{ids_by}
use Rattle.record.proofs.Turns.{pass_start, size_again, marked_again, pass_denied, pass_again, pass_end}
use Rattle.record.proofs.lists.Ids.differ_by.Goals as goal

pub loop-k-init : goal.loop-k-init
unfolding ids_by
loop-k-init c = record { size = refl; marked = search rules; passed = pass_start _ _ _ _ _ }

pub returns-then-not-is_new : goal.returns-then-not-is_new
returns-then-not-is_new c = search (rules, pass_denied)

pub loop-k-preserved : goal.loop-k-preserved
loop-k-preserved c = search (rules, size_again, marked_again, pass_again)

pub returns : goal.returns
returns c = search (rules, pass_end)
