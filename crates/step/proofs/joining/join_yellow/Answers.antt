use Rattle.step.proofs.VotesLaws.{valid_lent, valid_joined}
use Rattle.outgoing.proofs.LentLaws.{lent_header}
use borrow.Author.Rules.{rules}
use Rattle.step.proofs.joining.join_yellow.Goals as goal

pub make_yellow_valid-requires : goal.make_yellow_valid-requires
make_yellow_valid-requires c = search (rules, lent_header)

pub join_unmarked-requires : goal.join_unmarked-requires
join_unmarked-requires c = valid_lent _ _ _ _ _ c.requires c.make_yellow_valid.ensures

pub returns : goal.returns
returns c = valid_joined _ _ _ _ _ c.requires c.make_yellow_valid.ensures _ _ _ c.join_unmarked.ensures
