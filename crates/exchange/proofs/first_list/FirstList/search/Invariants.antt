use Prim.Native.Nat.{◌+◌, ◌*◌, ◌-◌}
use mathlib.Core.Path.{◌≡◌}
use Rattle.record.specs.Values.{the_id}
use Rattle.format.specs.Places.{id_size}
use Rattle.format.specs.Read.{ids_at}
use Rattle.exchange.specs.Table.{place_in}
use Rattle.exchange.specs.First.{the_list}
use Rattle.exchange.proofs.first_list.FirstList.search.Given as goal

abbrev pub invariant-loop-k : goal.invariant-loop-k
invariant-loop-k l =
    place_in (the_id l.id) (the_list l.self)
    ≡ l.k + place_in (the_id l.id) (ids_at (l.self.count - l.k) l.self.bytes.now (0 + id_size * l.k))
