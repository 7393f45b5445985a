use Rattle.step.proofs.VotesLaws.{unmarked_lent, unmarked_joined}
use Rattle.outgoing.proofs.LentLaws.{lent_header}
use borrow.Author.Rules.{rules}
use Rattle.step.proofs.joining.join_unmarked.Goals as goal

pub clear_mark-requires : goal.clear_mark-requires
clear_mark-requires c = search (rules, lent_header)

pub join-requires : goal.join-requires
join-requires c = unmarked_lent _ _ _ _ _ c.requires c.clear_mark.ensures

pub returns : goal.returns
returns c = unmarked_joined _ _ _ _ _ c.requires c.clear_mark.ensures _ _ _ c.join.ensures
