use mathlib.Core.Path.{sym, ap, ◌∙◌}
use native.Mathlib.Omega.{arith}
use Rattle.exchange.specs.Folds.{folded, Steps}
use Rattle.exchange.proofs.SlotLaws.{states_start}
use Rattle.exchange.proofs.FoldLaws.{fold_step, fold_other, fold_end}
use Rattle.exchange.proofs.states.States.fold.Goals as goal
use Rattle.exchange.proofs.states.States.fold.Goals.{then-has, else-has}

pub loop-k-init : goal.loop-k-init
loop-k-init g c = λ step s. ap (folded step c.args.start) (states_start c.args.self.now.slots c.args.self.now.bytes.now)

pub loop-k-preserved : goal.loop-k-preserved
unfolding Steps
loop-k-preserved g c = λ step s.
    elim c.if-has.branch [
      | then-has w ↦ fold_step _ _ _ step _ _ _ c.loop-k-test.true (sym c.has.ensures ∙ w.if-has.true)
          (w.a-is ∙ s _ _ _ c.loop-k-test.true (sym c.has.ensures ∙ w.if-has.true) w.f-a.ensures) (c.loop-k.invariant step s)
      | else-has w ↦ fold_other _ _ _ step _ _ _ c.loop-k-test.true (sym c.has.ensures ∙ w.if-has.false) w.a-is (c.loop-k.invariant step s)
    ]

pub returns : goal.returns
returns g c = λ step s. fold_end _ _ _ step _ _ (omega arith) (c.loop-k.invariant step s)
