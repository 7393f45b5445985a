use mathlib.Core.Path.{sym, ap, ◌∙◌}
use native.Mathlib.Omega.{arith}
use Rattle.base.specs.Lists.{filter}
use Rattle.exchange.specs.Folds.{Tells}
use Rattle.exchange.proofs.SlotLaws.{states_start}
use Rattle.exchange.proofs.FoldLaws.{find_met, find_step, other_again, find_end}
use Rattle.exchange.proofs.states.States.find.Goals as goal
use Rattle.exchange.proofs.states.States.find.Goals.{else-has-via-then-has+else-test, else-has-via-else-has}

pub loop-k-init : goal.loop-k-init
loop-k-init g c = λ t s. ap (filter t) (states_start c.args.self.now.slots c.args.self.now.bytes.now)

pub returns-then-test : goal.returns-then-test
unfolding Tells
returns-then-test g c = record { slot = c.loop-k-test.true; found = λ t s. find_met _ _ _ t c.loop-k-test.true (sym c.has.ensures ∙ c.if-has.true) (sym c.if-test.true ∙ s _ _ c.loop-k-test.true (sym c.has.ensures ∙ c.if-has.true) c.test.ensures) (c.loop-k.invariant t s) }

pub loop-k-preserved : goal.loop-k-preserved
unfolding Tells
loop-k-preserved g c = λ t s.
    elim c.else-has.branch [
      | else-has-via-then-has+else-test w ↦ find_step _ _ _ t _ c.loop-k-test.true (sym c.has.ensures ∙ w.if-has.true)
          (sym w.if-test.false ∙ s _ _ c.loop-k-test.true (sym c.has.ensures ∙ w.if-has.true) w.test.ensures) (c.loop-k.invariant t s)
      | else-has-via-else-has w ↦ other_again _ _ _ (filter t) _ c.loop-k-test.true (sym c.has.ensures ∙ w.if-has.false) (c.loop-k.invariant t s)
    ]

pub returns : goal.returns
returns g c = record { slot = tt; found = λ t s. find_end _ _ _ t _ (omega arith) (c.loop-k.invariant t s) }
