use Rattle.outgoing.proofs.WaitingLaws.{lent_own, sent_few, unsent_few, behind_room, behind_high, behind_fits, waiting_length, waiting_bytes}
use Rattle.outgoing.proofs.LentLaws.{lent_header}
use borrow.Author.Rules.{rules}
use Rattle.outgoing.proofs.sending.send_records.Goals as goal

pub load-h-requires : goal.load-h-requires
load-h-requires c = search (rules, lent_header)

pub unsent-requires : goal.unsent-requires
unsent-requires c = search (rules, sent_few)

pub overflow_sub-low : goal.overflow_sub-low
overflow_sub-low c = search (rules, unsent_few)

pub send_behind-requires : goal.send_behind-requires
send_behind-requires c = search (rules, lent_own, behind_room, behind_high)

pub overflow_cast-result : goal.overflow_cast-result
overflow_cast-result c = search (rules, behind_fits)

pub returns : goal.returns
returns c = search (rules, waiting_length, waiting_bytes)
