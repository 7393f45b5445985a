use Rattle.outgoing.proofs.StateLaws.{state_small, state_done}
use Rattle.outgoing.proofs.LentLaws.{lent_header, lent_yellow, lent_counts, lent_queue}
use borrow.Author.Rules.{rules}
use Rattle.outgoing.proofs.states.send_state.Goals as goal

pub own_numbers-head-requires : goal.own_numbers-head-requires
own_numbers-head-requires c = search (rules, lent_queue)

pub place_of-at-requires : goal.place_of-at-requires
place_of-at-requires c = search (rules, lent_counts)

pub slice_bounds-write_state-count : goal.slice_bounds-write_state-count
slice_bounds-write_state-count c = search (rules, lent_header)

pub slice_bounds-write_state-start : goal.slice_bounds-write_state-start
slice_bounds-write_state-start c = search (rules, lent_header)

pub slice_bounds-write_state-count-2 : goal.slice_bounds-write_state-count-2
slice_bounds-write_state-count-2 c = search (rules, lent_yellow)

pub slice_bounds-write_state-start-2 : goal.slice_bounds-write_state-start-2
slice_bounds-write_state-start-2 c = search (rules, lent_yellow)

pub overflow_cast-result : goal.overflow_cast-result
overflow_cast-result c = search (rules, state_small)

pub returns : goal.returns
returns c =
    state_done _ _ _ _ _ _ _ _ c.requires c.own_numbers-head.ensures c.place_of-at.ensures c.write_state-size.ensures c.unwrap_or.ensures
