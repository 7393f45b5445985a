use Rattle.reader.proofs.Callers.{action_placed, retransmission_placed, state_placed}
use Rattle.std.proofs.Common.{rules}
use Rattle.vectors.proofs.writing.again.Goals as goal

pub action-requires : goal.action-requires
action-requires c = search (rules, action_placed)

pub retransmission-requires : goal.retransmission-requires
retransmission-requires c = search (rules, retransmission_placed)

pub state-requires : goal.state-requires
state-requires c = search (rules, state_placed)
