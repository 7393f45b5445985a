use Rattle.step.proofs.StatesLaws.{collect_room, collect_some, collect_waiting, collect_complete, collect_done}
use borrow.Author.Tests.{not-true, not-false}
use borrow.Author.Rules.{rules}
use mathlib.Core.Path.{ap}
use mathlib.Core.Bool.{not}
use Rattle.step.proofs.exchanging.collect.Goals as goal

pub collect_state-requires : goal.collect_state-requires
collect_state-requires c = collect_room _ _ _ _ c.requires

pub all_states_in-requires : goal.all_states_in-requires
all_states_in-requires c = search (rules, collect_some)

pub returns-then-not-all_states_in : goal.returns-then-not-all_states_in
returns-then-not-all_states_in c =
    collect_waiting _ _ _ _ c.requires _
    c.collect_state.ensures _ c.all_states_in.ensures
    (not-true _ (ap not c.if-not-all_states_in.true)) _ c.quiet.ensures

pub after_states-requires : goal.after_states-requires
after_states-requires c =
    collect_complete _ _ _ _ c.requires _
    c.collect_state.ensures _ c.all_states_in.ensures
    (not-false _ (ap not c.if-not-all_states_in.false))

pub returns : goal.returns
returns c =
    collect_done _ _ _ _
    c.requires
    _ c.collect_state.ensures _
    c.all_states_in.ensures
    (not-false _ (ap not c.if-not-all_states_in.false)) _ _ _
    c.after_states.ensures
