use Rattle.install.specs.Table.{yellows_in, Turned}
use mathlib.Core.Path.{◌≡◌}
use Prim.Native.Nat.{◌-◌, ◌≤◌}
use lib.ListN.{length, take}
use Rattle.install.proofs.passes.turn_yellow.Given as goal

abbrev pub invariant-loop-j : goal.invariant-loop-j
invariant-loop-j l =
    (l.j ≤ l.count) × (length l.state ≡ length l.initial.state) × Turned (take l.j (yellows_in l.initial.state)) l.initial.state l.places l.state
