use Rattle.base.proofs.TestLaws.{pick_yes, pick_no}
use Rattle.record.specs.Values.{table_place}
use borrow.Author.Rules.{rules}
use Rattle.record.proofs.ActionId.place.Goals as goal

pub returns-then-id_ok : goal.returns-then-id_ok
unfolding table_place
returns-then-id_ok c = search (rules, pick_yes)

pub returns-else-id_ok : goal.returns-else-id_ok
unfolding table_place
returns-else-id_ok c = search (rules, pick_no)
