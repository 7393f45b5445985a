use Rattle.exchange.specs.Hints.{sought_in}
use Rattle.exchange.specs.Table.{raised_all}
use Rattle.format.specs.Read.{ids_at}
use Rattle.format.specs.Places.{id_size}
use Prim.Native.Nat.{◌*◌}
use mathlib.Core.Path.{◌≡◌}
use Prim.Native.Nat.{◌+◌, ◌-◌, ◌≤◌}
use Rattle.exchange.proofs.first_list.FirstList.raise_list.Given as goal

abbrev pub invariant-loop-j : goal.invariant-loop-j
invariant-loop-j l =
    (l.j ≤ l.count) × (raised_all (sought_in l.self.count l.self.bytes.now) l.round l.initial.table (ids_at l.count l.e l.at) ≡ raised_all (sought_in l.self.count l.self.bytes.now) l.round l.table (ids_at (l.count - l.j) l.e (l.at + id_size * l.j)))
