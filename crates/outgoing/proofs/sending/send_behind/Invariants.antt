use Rattle.outgoing.specs.Resending.{Sends}
use Rattle.outgoing.specs.Sending.{own_at}
use Rattle.base.specs.Lists.{gather, above}
use Prim.Native.Nat.{◌-◌, ◌≤◌}
use Rattle.outgoing.proofs.sending.send_behind.Given as goal

abbrev pub invariant-loop-p : goal.invariant-loop-p
invariant-loop-p l =
    (l.p - l.low ≤ l.high - l.low) × Sends (l.p - l.low) (gather (own_at l.state) (above l.low l.p)) l.initial.out l.out l.sent
