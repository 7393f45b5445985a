use Prim.Native.Nat.{ℕ, min}
use mathlib.Core.Path.{ap, ◌∙◌}
use Rattle.exchange.specs.Folds.{Steps, Tells}
use Rattle.exchange.proofs.PlanLaws.{lowest_made, lowest_none}
use Rattle.exchange.proofs.states.States.lowest.Goals as goal

pub returns : goal.returns
returns g c = λ n s. lowest_none n _ _ c.in-None.ensures

pub returns-in-Some : goal.returns-in-Some
unfolding Steps Tells
returns-in-Some g c = λ n s.
    c.fold.ensures (λ low x. min low (n x)) (λ a k r l m e. e.2 ∙ ap (λ (y : ℕ). min a y) (s k e.0 l m e.1))
    ∙ lowest_made n _ _ _ _ c.in-Some.ensures (s _ _ c.in-Some.ensures.low c.in-Some.ensures.meant c.number.ensures)
