use Rattle.burst.proofs.BurstCode.{Along}
use lib.ListN.{length}
use Prim.Native.Nat.{◌-◌}
use Rattle.burst.proofs.take_events.Given as goal

abbrev pub invariant-loop-size : goal.invariant-loop-size
invariant-loop-size l = Along l.initial.state l.events l.initial.out l.state l.out l.taken l.at

abbrev pub decreases-loop-size : goal.decreases-loop-size
decreases-loop-size l = length l.events - l.at
