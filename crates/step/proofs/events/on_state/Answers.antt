use Rattle.step.proofs.StateEventLaws.{state_sender_below, state_ignored, state_untaken, state_outside, state_came, state_collected}
use borrow.Author.Rules.{rules}
use Rattle.step.proofs.events.on_state.Goals as goal

pub returns-then-h-eq-NON_PRIM : goal.returns-then-h-eq-NON_PRIM
returns-then-h-eq-NON_PRIM c = search (rules, state_ignored)

pub returns-then-h-ne-EXCHANGE_STATES : goal.returns-then-h-ne-EXCHANGE_STATES
returns-then-h-ne-EXCHANGE_STATES c = search (rules, state_untaken)

pub state_from_member-requires : goal.state_from_member-requires
state_from_member-requires c = search (rules, state_sender_below)

pub returns-then-not-state_from_member : goal.returns-then-not-state_from_member
returns-then-not-state_from_member c = search (rules, state_outside)

pub collect-requires : goal.collect-requires
collect-requires c = search (rules, state_came)

pub returns : goal.returns
returns c = search (rules, state_collected)
