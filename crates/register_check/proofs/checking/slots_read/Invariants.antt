use Rattle.register_check.proofs.CheckCode.{SlotsBehind}
use Rattle.register_check.proofs.checking.slots_read.Given as goal

abbrev pub invariant-loop-i : goal.invariant-loop-i
invariant-loop-i l = SlotsBehind l.b l.count l.i
