use Rattle.install.specs.Table.{log_in, Turned}
use Rattle.replication.specs.Machine.Install.{ids_up_to}
use mathlib.Core.Path.{◌≡◌}
use Prim.Native.Nat.{◌-◌, ◌≤◌}
use lib.ListN.{length, take}
use Rattle.install.proofs.passes.turn_rest.Given as goal

abbrev pub invariant-loop-c : goal.invariant-loop-c
invariant-loop-c l =
    (l.c ≤ l.n) × (length l.state ≡ length l.initial.state) × Turned (ids_up_to 0 (take l.c (log_in l.initial.state).cuts)) l.initial.state l.places l.state
