use Rattle.replication.specs.Machine.White.{least}
use Rattle.base.specs.Bytes.{numbers_at}
use Prim.Native.Nat.{◌+◌, ◌-◌, ◌*◌, ◌≤◌}
use mathlib.Core.Path.{◌≡◌}
use mathlib.Core.List.{◌∷◌}
use lib.ListN.{length}
use Rattle.updates.proofs.notes.least_noted.Given as goal

abbrev pub invariant-loop-k : goal.invariant-loop-k
invariant-loop-k l =
    (l.k ≤ l.servers) × (l.at + 4 * l.servers ≤ length l.state) × (least (numbers_at 4 l.servers l.state l.at) ≡ least (l.low ∷ numbers_at 4 (l.servers - l.k) l.state (l.at + 4 * l.k)))
