use Rattle.updates.proofs.VotesTaken.{votes_taken, list_room}
use borrow.Author.Rules.{rules}
use Rattle.updates.proofs.votes.take_votes.Goals as goal

pub copy-requires : goal.copy-requires
copy-requires c = search (rules, list_room)

pub returns : goal.returns
returns c = search (rules, votes_taken, c.with_votes-t.ensures)
