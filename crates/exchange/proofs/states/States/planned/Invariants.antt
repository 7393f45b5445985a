use Prim.Native.Nat.{◌+◌, ◌*◌, ◌≤◌}
use mathlib.Core.Path.{◌≡◌}
use Rattle.replication.specs.Machine.Plan.{planned as planned_of}
use Rattle.exchange.specs.States.{sent}
use Rattle.exchange.proofs.states.States.planned.Given as goal

abbrev pub invariant-loop-c : goal.invariant-loop-c
invariant-loop-c l = (l.total ≤ 4294967296 * (l.c-counter + 1)) × (l.total ≡ planned_of l.c-counter (sent l.self))
