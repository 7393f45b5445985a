use Rattle.outgoing.specs.Resending.{reds_of, Sends}
use lib.ListN.{length}
use Prim.Native.Nat.{◌-◌, ◌≤◌}
use Rattle.outgoing.proofs.resending.send_creator.Given as goal

abbrev pub invariant-loop-i : goal.invariant-loop-i
invariant-loop-i l =
    (l.low ≤ l.i) × (l.i - l.low ≤ l.high - l.low) × Sends (length (reds_of l.me l.creator l.low l.i l.state)) (reds_of l.me l.creator l.low l.i l.state) l.initial.out l.out l.sent

abbrev pub decreases-loop-i : goal.decreases-loop-i
decreases-loop-i l = l.high - l.i
