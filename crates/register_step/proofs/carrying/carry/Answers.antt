use Rattle.register_step.proofs.CarryLaws.{along_starts, ready_below, along_inside, along_ends, along_onward, slot_inside, one_more_lem, along_on}
use Rattle.base.proofs.BytesLaws.{given_bytes_lem}
use borrow.Author.Rules.{rules}
use native.Mathlib.Omega.{arith}
use Rattle.register_step.proofs.carrying.carry.Goals as goal

pub loop-k-init : goal.loop-k-init
loop-k-init c = search (rules, along_starts)

pub green_slot-requires : goal.green_slot-requires
green_slot-requires c = search (rules, along_inside)

pub is_refused-requires : goal.is_refused-requires
is_refused-requires c = search (rules, slot_inside)

pub overflow_add-refused : goal.overflow_add-refused
overflow_add-refused c = search (rules, one_more_lem)

pub loop-k-preserved : goal.loop-k-preserved
loop-k-preserved c = search (rules, along_on, given_bytes_lem)

pub overflow_sub-result : goal.overflow_sub-result
overflow_sub-result c = search (rules, ready_below)

pub returns : goal.returns
returns c = search (rules, along_ends, along_onward)
