use borrow.Author.Rules.{rules}
use native.Mathlib.Omega.{arith}
use Rattle.replication.specs.Machine.Plan.{green_in, cut_in}
use Rattle.exchange.specs.Folds.{Tells}
use Rattle.exchange.proofs.ReadLaws.{green_read}
use Rattle.exchange.proofs.ResendLaws.{planned_start, planned_again, planned_end}
use Rattle.exchange.proofs.states.States.planned.Goals as goal

pub loop-c-init : goal.loop-c-init
unfolding Tells
loop-c-init c = (omega arith, planned_start _ _ (c.missing-total.ensures green_in (λ k r l m e. search (rules, green_read))))

pub overflow_add-total : goal.overflow_add-total
overflow_add-total c = omega arith

pub loop-c-preserved : goal.loop-c-preserved
unfolding Tells
loop-c-preserved c = (omega arith, planned_again _ _ _ _ (c.missing.ensures (cut_in c.loop-c.c-counter) (λ k r l m e. search rules)) c.loop-c.invariant.1)

pub returns : goal.returns
returns c = search (rules, planned_end)
