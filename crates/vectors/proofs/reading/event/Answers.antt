use Rattle.reader.proofs.Callers.{action_placed, retransmission_placed, state_placed, request_placed}
use Rattle.std.proofs.Common.{rules}
use Rattle.vectors.proofs.reading.event.Goals as goal

pub action-requires : goal.action-requires
action-requires g c = search (rules, action_placed)

pub retransmission-requires : goal.retransmission-requires
retransmission-requires g c = search (rules, retransmission_placed)

pub state-requires : goal.state-requires
state-requires g c = search (rules, state_placed)

pub request-requires : goal.request-requires
request-requires g c = search (rules, request_placed)
