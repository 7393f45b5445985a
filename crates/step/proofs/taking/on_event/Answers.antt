use Rattle.step.proofs.TakingLaws.{arm_action, arm_retransmission, arm_state, arm_cpc, arm_regular, arm_transitional, arm_request, arm_recovery}
use Rattle.step.proofs.KindLaws.{action_done, retransmission_done, state_done, cpc_done, regular_done, transitional_done, request_done, recovered_done}
use borrow.Author.Rules.{rules}
use Rattle.step.proofs.taking.on_event.Goals as goal

pub delivered-requires : goal.delivered-requires
delivered-requires c = search (rules, arm_action)

pub resent-requires : goal.resent-requires
resent-requires c = search (rules, arm_retransmission)

pub on_state-requires : goal.on_state-requires
on_state-requires c = search (rules, arm_state)

pub on_cpc-requires : goal.on_cpc-requires
on_cpc-requires c = search (rules, arm_cpc)

pub on_regular-requires : goal.on_regular-requires
on_regular-requires c = search (rules, arm_regular)

pub on_transitional-requires : goal.on_transitional-requires
on_transitional-requires c = search (rules, arm_transitional)

pub requested-requires : goal.requested-requires
requested-requires c = search (rules, arm_request)

pub recovered-requires : goal.recovered-requires
recovered-requires c = search (rules, arm_recovery)

pub returns-in-Action : goal.returns-in-Action
returns-in-Action c = search (rules, action_done)

pub returns-in-Retransmission : goal.returns-in-Retransmission
returns-in-Retransmission c = search (rules, retransmission_done)

pub returns-in-State : goal.returns-in-State
returns-in-State c = search (rules, state_done)

pub returns-in-Cpc : goal.returns-in-Cpc
returns-in-Cpc c = search (rules, cpc_done)

pub returns-in-Regular : goal.returns-in-Regular
returns-in-Regular c = search (rules, regular_done)

pub returns-in-Transitional : goal.returns-in-Transitional
returns-in-Transitional c = search (rules, transitional_done)

pub returns-in-Request : goal.returns-in-Request
returns-in-Request c = search (rules, request_done)

pub returns-in-Recovery : goal.returns-in-Recovery
returns-in-Recovery c = search (rules, recovered_done)
