use Rattle.outgoing.specs.Resending.{greens_of, Sends}
use lib.ListN.{length}
use Prim.Native.Nat.{◌-◌, ◌≤◌}
use Rattle.outgoing.proofs.resending.send_positions.Given as goal

abbrev pub invariant-loop-p : goal.invariant-loop-p
invariant-loop-p l =
    (l.p - l.low ≤ l.high - l.low) × Sends (length (greens_of l.me l.low l.p l.state)) (greens_of l.me l.low l.p l.state) l.initial.out l.out l.sent
