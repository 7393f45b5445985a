use mathlib.Core.Bool.{Bool}
use mathlib.Core.Path.{◌≡◌}
use Rattle.format.specs.Types.{State}
use Rattle.exchange.specs.States.{Tells}
use Rattle.exchange.proofs.PassingLaws.{passing_to}
use Rattle.exchange.proofs.states.States.those.Given as goal

abbrev pub invariant-loop-k : goal.invariant-loop-k
invariant-loop-k g l =
    (t : State → Bool) → Tells l.self (goal.F-post g l.test) t → l.here ≡ passing_to t l.self.slots l.self.bytes.now l.k
