use mathlib.Core.Path.{sym, ◌∙◌}
use native.Mathlib.Omega.{arith}
use Rattle.exchange.specs.Folds.{Tells}
use Rattle.exchange.specs.Slots.{with_here}
use Rattle.exchange.proofs.PassingLaws.{passing_start, passing_out, passing_not, passing_yes, passing_end}
use Rattle.exchange.proofs.states.States.those.Goals as goal
use Rattle.exchange.proofs.states.States.those.Goals.{then-has+then-test, else-has, else-has-via-then-has+else-test, else-has-via-else-has}

pub loop-k-init : goal.loop-k-init
loop-k-init g c = λ t s. passing_start t _ _

pub loop-k-preserved : goal.loop-k-preserved
unfolding Tells
loop-k-preserved g c = λ t s.
    elim c.if-has.branch [
      | then-has+then-test w ↦ passing_yes t _ _ _ _ _ (sym c.has.ensures ∙ w.if-has.true)
          (sym w.if-test.true ∙ s _ _ c.loop-k-test.true (sym c.has.ensures ∙ w.if-has.true) w.test.ensures)
          (w.here-is ∙ w.with_member-here.ensures) (c.loop-k.invariant t s)
      | else-has w ↦ w.here-is ∙ elim w.else-has.branch [
        | else-has-via-then-has+else-test x ↦ passing_not t _ _ _ _ (sym c.has.ensures ∙ x.if-has.true)
            (sym x.if-test.false ∙ s _ _ c.loop-k-test.true (sym c.has.ensures ∙ x.if-has.true) x.test.ensures) (c.loop-k.invariant t s)
        | else-has-via-else-has x ↦ passing_out t _ _ _ _ (sym c.has.ensures ∙ x.if-has.false) (c.loop-k.invariant t s)
      ]
    ]

pub returns : goal.returns
unfolding with_here
returns g c = λ t s. passing_end t _ _ _ _ (omega arith) (omega arith) (c.loop-k.invariant t s)
