use Rattle.replication.specs.Machine.White.{highest_white}
use Rattle.image.specs.Decode.{actions_at}
use Rattle.image.specs.Layout.{slot_size}
use Prim.Native.Nat.{◌+◌, ◌-◌, ◌*◌, ◌≤◌, max}
use mathlib.Core.Path.{◌≡◌}
use lib.ListN.{length}
use Rattle.updates.proofs.recovery.highest_white.Given as goal

abbrev pub invariant-loop-k : goal.invariant-loop-k
invariant-loop-k l =
    (l.k ≤ l.own) × (l.at + slot_size * l.own ≤ length l.state) × (highest_white (actions_at l.own l.state l.at) ≡ max l.high (highest_white (actions_at (l.own - l.k) l.state (l.at + slot_size * l.k))))
