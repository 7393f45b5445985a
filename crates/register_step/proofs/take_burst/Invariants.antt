use Rattle.register_step.proofs.BurstCode.{Along}
use lib.ListN.{length}
use Prim.Native.Nat.{◌-◌}
use Rattle.register_step.proofs.take_burst.Given as goal

abbrev pub invariant-loop-all : goal.invariant-loop-all
invariant-loop-all l = Along l.initial.state l.initial.register l.events l.initial.out l.state l.register l.out l.all

abbrev pub decreases-loop-all : goal.decreases-loop-all
decreases-loop-all l = length l.events - l.all.bytes
