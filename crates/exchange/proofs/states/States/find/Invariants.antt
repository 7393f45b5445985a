use Prim.Native.Nat.{◌-◌}
use mathlib.Core.Bool.{Bool}
use mathlib.Core.Path.{◌≡◌}
use Rattle.base.specs.Lists.{filter}
use Rattle.format.specs.Types.{State}
use Rattle.exchange.specs.Slots.{states_from}
use Rattle.exchange.specs.States.{Tells, sent}
use Rattle.exchange.proofs.states.States.find.Given as goal

abbrev pub invariant-loop-k : goal.invariant-loop-k
invariant-loop-k g l =
    (t : State → Bool) → Tells l.self (goal.F-post g l.test) t
    → filter t (sent l.self) ≡ filter t (states_from l.self.slots l.self.bytes.now (l.self.slots.servers - l.k) l.k)
