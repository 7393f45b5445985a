use Rattle.queries.proofs.EntriesCode.{along_starts, along_low, along_few, along_ends, along_behind, along_inside, slot_inside, along_full, along_room, along_on}
use borrow.Author.Rules.{rules}
use Rattle.queries.proofs.entries.put_entries.Goals as goal

pub loop-k-init : goal.loop-k-init
loop-k-init c = search (rules, along_starts)

pub green_slot-requires : goal.green_slot-requires
green_slot-requires c = search (rules, along_behind, along_inside)

pub put-requires : goal.put-requires
put-requires c = search (rules, along_few)

pub returns-then-out-at : goal.returns-then-out-at
returns-then-out-at c = search (rules, along_full)

pub put_entry-requires : goal.put_entry-requires
put_entry-requires c = search (rules, slot_inside, along_room)

pub loop-k-preserved : goal.loop-k-preserved
loop-k-preserved c = search (rules, along_on)

pub put-requires-2 : goal.put-requires-2
put-requires-2 c = search (rules, along_few)

pub returns : goal.returns
returns c = search (rules, along_ends)
