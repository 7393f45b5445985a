use Rattle.record.specs.Values.{the_id}
use Rattle.format.specs.Read.{ids_at}
use Rattle.format.specs.Range.{has_id}
use Prim.Native.Nat.{◌+◌, ◌-◌, ◌*◌}
use mathlib.Core.Path.{◌≡◌}
use Rattle.format.specs.Places.{id_size}
use Rattle.updates.proofs.yellow.has_id.Given as goal

abbrev pub invariant-loop-k : goal.invariant-loop-k
invariant-loop-k l =
    has_id (the_id l.id) (ids_at l.count l.e l.at) ≡ has_id (the_id l.id) (ids_at (l.count - l.k) l.e (l.at + id_size * l.k))
