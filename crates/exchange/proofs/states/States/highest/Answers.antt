use Prim.Native.Nat.{ℕ, max}
use mathlib.Core.Path.{ap, ◌∙◌}
use Rattle.exchange.specs.Folds.{Steps, Tells}
use Rattle.exchange.proofs.PlanLaws.{highest_made}
use Rattle.exchange.proofs.states.States.highest.Goals as goal

pub returns : goal.returns
unfolding Steps Tells
returns g c = λ n s.
    c.fold.ensures (λ high x. max (n x) high) (λ a k r l m e. e.2 ∙ ap (λ (y : ℕ). max y a) (s k e.0 l m e.1))
    ∙ highest_made n _
