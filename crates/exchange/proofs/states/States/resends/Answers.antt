use mathlib.Core.Path.{ap, ◌∙◌}
use Prim.Native.Nat.{ℕ}
use Rattle.base.specs.Tests.{◌=?◌}
use Rattle.exchange.specs.Folds.{Tells}
use Rattle.exchange.proofs.PlanLaws.{resends_none, resends_told}
use Rattle.exchange.proofs.states.States.resends.Goals as goal

pub returns-in-Some : goal.returns-in-Some
unfolding Tells ◌=?◌
returns-in-Some g c = λ n s.
    resends_told n _ _ _ _ _ _ (c.highest-high.ensures n s)
    (c.in-Some.ensures.found (λ x. n x =? c.highest-high.result) (λ k r l m e. e.2 ∙ ap (λ (y : ℕ). y =? c.highest-high.result) (s k e.0 l m e.1)))
    c.head.ensures

pub returns-in-None : goal.returns-in-None
unfolding Tells ◌=?◌
returns-in-None g c = λ n s.
    resends_none n _ _ _ _ (c.highest-high.ensures n s)
    (c.in-None.ensures.found (λ x. n x =? c.highest-high.result) (λ k r l m e. e.2 ∙ ap (λ (y : ℕ). y =? c.highest-high.result) (s k e.0 l m e.1)))
