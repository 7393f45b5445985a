use Rattle.updates.proofs.NoteAllLaws.{sent_place, sent_read}
use Rattle.updates.proofs.StateLaws.{sent_fits}
use borrow.Author.Rules.{rules}
use Rattle.updates.proofs.notes.sent_length.Goals as goal

pub overflow_add-at : goal.overflow_add-at
overflow_add-at c = search (rules, sent_fits)

pub num32-requires : goal.num32-requires
num32-requires c = search (rules, sent_place)

pub returns : goal.returns
returns c = search (rules, sent_read)
