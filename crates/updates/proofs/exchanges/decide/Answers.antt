use Rattle.image.proofs.InPlace.{such_some}
use Rattle.updates.proofs.ExchangeLaws.{decided_room, decided_made}
use borrow.Author.Rules.{rules}
use Rattle.updates.proofs.exchanges.decide.Goals as goal

pub note_all-requires : goal.note_all-requires
note_all-requires c = search (rules, such_some)

pub take_votes-requires : goal.take_votes-requires
take_votes-requires c = decided_room _ _ _ c.requires c.note_all.ensures

pub returns : goal.returns
returns c = decided_made _ _ _ _ _ c.note_all.ensures c.take_votes.ensures
