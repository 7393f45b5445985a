use Rattle.register_check.proofs.CheckCode.{next_answered, next_denied, tested_next}
use borrow.Author.Rules.{rules}
use Rattle.register_check.proofs.checking.next_reads.Goals as goal

pub rises-requires : goal.rises-requires
rises-requires c = search (rules, tested_next)

pub returns-then-slot_reads : goal.returns-then-slot_reads
returns-then-slot_reads c = search (rules, next_answered)

pub returns-else-slot_reads : goal.returns-else-slot_reads
returns-else-slot_reads c = search (rules, next_denied)
