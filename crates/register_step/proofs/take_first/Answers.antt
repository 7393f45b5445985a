use mathlib.Core.Path.{refl}
use Rattle.register_step.proofs.BurstCode.{first_stops, first_size_lem, first_refused, first_taken}
use Rattle.register_check.proofs.Found.{refusal_some}
use borrow.Author.Rules.{rules}
use Rattle.register_step.proofs.take_first.Goals as goal

pub returns-in-Ok-None : goal.returns-in-Ok-None
returns-in-Ok-None c = first_stops _ _ _ _ _ 0 0 _ (rw c.in-Ok-None.field-0-is at c.in-Ok-None.ensures.value) refl c.stopped.ensures

pub returns-in-Err : goal.returns-in-Err
returns-in-Err c = first_stops _ _ _ _ _ _ _ _ c.in-Err.ensures.value c.from.ensures c.stopped-in-Err.ensures

pub slice_bounds-take_event-end : goal.slice_bounds-take_event-end
slice_bounds-take_event-end c = search (rules, first_size_lem)

pub returns-in-Ok : goal.returns-in-Ok
returns-in-Ok c = search (rules, first_taken)

pub returns-in-Err-take_event : goal.returns-in-Err-take_event
returns-in-Err-take_event c = search (rules, first_refused, refusal_some)
