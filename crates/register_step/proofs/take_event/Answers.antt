use mathlib.Core.Path.{refl}
use Rattle.register_step.proofs.StepLaws.{ready_some, ready_register, event_queue, event_number, event_raises, event_refused, event_ready, greened_few, refused_few, event_done}
use borrow.Author.Rules.{rules}
use Rattle.register_step.proofs.take_event.Goals as goal

pub carry_met-first-requires : goal.carry_met-first-requires
carry_met-first-requires c = search (rules, ready_some, ready_register)

pub green_length-from-requires : goal.green_length-from-requires
green_length-from-requires c = event_queue _ _ _ c.requires _ _ _ _ c.carry_met-first.ensures

pub act-requires : goal.act-requires
act-requires c = event_number _ _ _ c.requires _ _ _ _ c.carry_met-first.ensures

pub returns-in_err-a-clause-joint : goal.returns-in_err-a-clause-joint
returns-in_err-a-clause-joint c = search (rules, event_refused _ _ _ c.requires _ _ _ _ c.carry_met-first.ensures _ _ _ _ c.in_err-a.ensures)

pub carry-rest-requires : goal.carry-rest-requires
carry-rest-requires c = event_ready _ _ _ c.requires _ _ _ _ c.carry_met-first.ensures _ _ _ _ c.in_ok-a.ensures _ c.green_length-from.ensures.value.0

pub raise-requires : goal.raise-requires
raise-requires c = event_raises _ _ _ c.requires _ _ _ _ c.carry_met-first.ensures _ _ _ _ c.in_ok-a.ensures

pub overflow_add-result : goal.overflow_add-result
overflow_add-result c = search (rules, greened_few _ _ _ c.requires _ _ _ _ c.carry_met-first.ensures _ _ _ _ c.in_ok-a.ensures _ c.green_length-from.ensures.value.0 _ _ (c.carry-rest.ensures.register_after, c.carry-rest.ensures.carries_on))

pub overflow_add-result-2 : goal.overflow_add-result-2
overflow_add-result-2 c = search (rules, refused_few _ _ _ c.requires _ _ _ _ c.carry_met-first.ensures _ _ _ _ c.in_ok-a.ensures _ c.green_length-from.ensures.value.0 _ _ (c.carry-rest.ensures.register_after, c.carry-rest.ensures.carries_on))

pub shape_of-state : goal.shape_of-state
shape_of-state c = search (rules, c.raise, c.act, c.carry_met-first)

pub shape_of-register : goal.shape_of-register
shape_of-register c = search (rules, c.carry-rest, c.carry_met-first)

pub shape_of-out : goal.shape_of-out
shape_of-out c = search (rules, c.act)

pub returns-clause-joint : goal.returns-clause-joint
returns-clause-joint c =
    event_done _ _ _ c.requires _ _ _ _ c.carry_met-first.ensures _ _ _ _ c.in_ok-a.ensures _ c.green_length-from.ensures.value.0 _ _ (c.carry-rest.ensures.register_after, c.carry-rest.ensures.carries_on) _ _ (search rules) refl c.raise.ensures
