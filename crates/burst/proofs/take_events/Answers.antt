use Rattle.burst.proofs.BurstCode.{along_starts, along_none, along_bad, along_inside, along_less, end_fits, taken_fits, along_refused, along_ends, along_on}
use Rattle.step.proofs.ReadingLaws.{above_zero}
use Rattle.step.specs.Answers.{taken_answer}
use mathlib.Core.Path.{refl}
use borrow.Author.Rules.{rules}
use Rattle.burst.proofs.take_events.Goals as goal

pub loop-size-init : goal.loop-size-init
loop-size-init c = search (rules, along_starts)

pub returns-in-Ok-None : goal.returns-in-Ok-None
returns-in-Ok-None c = search (rules, along_none)

pub returns-in-Err : goal.returns-in-Err
returns-in-Err c = search (rules, along_bad)

pub overflow_add-end : goal.overflow_add-end
overflow_add-end c = search (rules, end_fits)

pub slice_bounds-step-end : goal.slice_bounds-step-end
slice_bounds-step-end c = search (rules, along_inside)

pub returns-in-Err-step : goal.returns-in-Err-step
returns-in-Err-step c = let s = c.in-Err-step.ensures in search (rules, along_refused, above_zero)

pub overflow_add-taken : goal.overflow_add-taken
overflow_add-taken c = search (rules, taken_fits)

pub returns-then-not-is_silent : goal.returns-then-not-is_silent
returns-then-not-is_silent c =
    along_ends _ _ _ _ _ _ _ c.loop-size.invariant _ c.next_in.ensures.value _ _ c.in-Ok-Some.is c.in-Ok-Some.field-0-is c.next_in.ensures.ends_in
    (taken_answer c.in-Ok.t) _ _ c.in-Ok.ensures refl _ c.is_silent.ensures (search rules)

pub loop-size-smaller : goal.loop-size-smaller
loop-size-smaller c = search (rules, along_less)

pub loop-size-preserved : goal.loop-size-preserved
loop-size-preserved c = let s = c.in-Ok.ensures in search (rules, along_on)
