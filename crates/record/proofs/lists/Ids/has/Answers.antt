use mathlib.Core.Path.{refl}
use borrow.Author.Rules.{rules}
use Rattle.format.specs.Range.{has_id}
use Rattle.record.specs.Values.{ids_by}
use Rattle.record.proofs.Turns.{among_again, among_here}
use Rattle.record.proofs.lists.Ids.has.Goals as goal

pub loop-k-init : goal.loop-k-init
unfolding has_id ids_by
loop-k-init c = refl

pub loop-k-preserved : goal.loop-k-preserved
loop-k-preserved c = search (rules, among_again)

pub returns-then-is_at : goal.returns-then-is_at
returns-then-is_at c = search (rules, among_here)
