use Rattle.register_check.proofs.CheckCode.{first_denied, next_room, no_slots, slots_again, slots_denied, slots_end, slots_start}
use borrow.Author.Rules.{rules}
use Rattle.register_check.proofs.checking.slots_read.Goals as goal

pub returns-then-count-eq0 : goal.returns-then-count-eq0
returns-then-count-eq0 c = search (rules, no_slots)

pub returns-then-not-slot_reads : goal.returns-then-not-slot_reads
returns-then-not-slot_reads c = search (rules, first_denied)

pub loop-i-init : goal.loop-i-init
loop-i-init c = search (rules, slots_start)

pub next_reads-requires : goal.next_reads-requires
next_reads-requires c = search (rules, next_room)

pub returns-then-not-next_reads : goal.returns-then-not-next_reads
returns-then-not-next_reads c = search (rules, slots_denied)

pub loop-i-preserved : goal.loop-i-preserved
loop-i-preserved c = search (rules, slots_again)

pub returns : goal.returns
returns c = search (rules, slots_end)
