use Prim.Native.Nat.{◌-◌}
use mathlib.Core.Path.{◌≡◌}
use Rattle.format.specs.Types.{State}
use Rattle.exchange.specs.Slots.{states_from}
use Rattle.exchange.specs.Folds.{folded}
use Rattle.exchange.specs.States.{Steps, sent}
use Rattle.exchange.proofs.states.States.fold.Given as goal

abbrev pub invariant-loop-k : goal.invariant-loop-k
invariant-loop-k g l =
    (step : _ → State → _) → Steps l.self (goal.F-post g l.f) step
    → folded step l.fn.start (sent l.self) ≡ folded step l.a (states_from l.self.slots l.self.bytes.now (l.self.slots.servers - l.k) l.k)
