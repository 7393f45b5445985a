use Rattle.install.specs.Table.{Turned}
use Rattle.record.specs.Values.{id_of}
use Rattle.base.specs.Lists.{above}
use mathlib.Core.List.{map}
use Prim.Native.Nat.{◌-◌, ◌≤◌}
use Rattle.install.proofs.passes.turn_creator.Given as goal

abbrev pub invariant-loop-i : goal.invariant-loop-i
invariant-loop-i l =
    (l.i ≤ l.cut) × Turned (map (id_of l.creator) (above 0 l.i)) l.initial.state l.places l.state

abbrev pub decreases-loop-i : goal.decreases-loop-i
decreases-loop-i l = l.cut - l.i
