use Rattle.reader.proofs.Arms.{arm_lists, arm_action, arm_retransmission, arm_state, arm_cpc, arm_regular, arm_transitional, arm_request, arm_recovery}
use borrow.Author.Rules.{rules}
use Rattle.reader.proofs.event_ok.Goals as goal

pub state_ok-requires : goal.state_ok-requires
state_ok-requires c = search (rules, arm_lists)

pub returns-in-Action : goal.returns-in-Action
returns-in-Action c = search (rules, arm_action)

pub returns-in-Retransmission : goal.returns-in-Retransmission
returns-in-Retransmission c = search (rules, arm_retransmission)

pub returns-in-State : goal.returns-in-State
returns-in-State c = search (rules, arm_state)

pub returns-in-Cpc : goal.returns-in-Cpc
returns-in-Cpc c = search (rules, arm_cpc)

pub returns-in-Regular : goal.returns-in-Regular
returns-in-Regular c = search (rules, arm_regular)

pub returns-in-Transitional : goal.returns-in-Transitional
returns-in-Transitional c = search (rules, arm_transitional)

pub returns-in-Request : goal.returns-in-Request
returns-in-Request c = search (rules, arm_request)

pub returns-in-Recovery : goal.returns-in-Recovery
returns-in-Recovery c = search (rules, arm_recovery)
