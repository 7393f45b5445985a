use Prim.Native.Nat.{◌-◌}
use mathlib.Core.Bool.{Bool}
use mathlib.Core.Path.{◌≡◌}
use Rattle.base.specs.Lists.{any}
use Rattle.format.specs.Types.{State}
use Rattle.exchange.specs.Slots.{states_from}
use Rattle.exchange.specs.States.{Tells, sent}
use Rattle.exchange.proofs.states.States.any.Given as goal

abbrev pub invariant-loop-k : goal.invariant-loop-k
invariant-loop-k g l =
    (t : State → Bool) → Tells l.self (goal.F-post g l.test) t
    → any t (sent l.self) ≡ any t (states_from l.self.slots l.self.bytes.now (l.self.slots.servers - l.k) l.k)
