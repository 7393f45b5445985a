use Rattle.updates.proofs.StateLaws.{state_put_room, state_collected}
use borrow.Author.Rules.{rules}
use Rattle.updates.proofs.states.collect_state.Goals as goal

pub put_state-requires : goal.put_state-requires
put_state-requires c = search (rules, state_put_room)

pub returns : goal.returns
returns c = search (rules, state_collected)
