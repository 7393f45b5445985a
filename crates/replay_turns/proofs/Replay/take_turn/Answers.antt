use Rattle.base.specs.Text.{ascii}
use Rattle.std.proofs.Common.{arith, rules}
use Rattle.replay_turns.proofs.TurnLaws.{event_server, event_inside, event_turn, wrong_turn, more_turn, done_turn}
use Rattle.replay_turns.proofs.Replay.take_turn.Goals as goal

pub bounds-input-0 : goal.bounds-input-0
bounds-input-0 g c = let inside = event_inside _ _ _ _ c.in-Ok-Event.ensures _ c.in-Ok-Event.field-0-is in omega arith

pub overflow_add-size : goal.overflow_add-size
overflow_add-size g c = let inside = event_inside _ _ _ _ c.in-Ok-Event.ensures _ c.in-Ok-Event.field-0-is in search rules

pub slice_bounds-answer-end : goal.slice_bounds-answer-end
slice_bounds-answer-end g c = let inside = event_inside _ _ _ _ c.in-Ok-Event.ensures _ c.in-Ok-Event.field-0-is in search rules

pub answer-requires : goal.answer-requires
answer-requires g c =
    let server = event_server _ _ _ _ c.in-Ok-Event.ensures _ c.in-Ok-Event.field-0-is (search rules) in search rules

pub returns-in-Ok-Event-clause-took : goal.returns-in-Ok-Event-clause-took
returns-in-Ok-Event-clause-took g c =
    event_turn _ _ _ _ _ _ _ _ _ _ c.in-Ok-Event.ensures c.in-Ok-Event.field-0-is c.answer.ensures.table_value c.answer.ensures.put

pub returns-in-Ok-More-clause-took : goal.returns-in-Ok-More-clause-took
returns-in-Ok-More-clause-took g c = more_turn _ _ _ _ _ _ _ c.in-Ok-More.ensures c.in-Ok-More.field-0-is

pub returns-in-Ok-Done-clause-took : goal.returns-in-Ok-Done-clause-took
returns-in-Ok-Done-clause-took g c = done_turn _ _ _ _ _ _ _ c.in-Ok-Done.ensures c.in-Ok-Done.field-0-is

pub returns-in-Err-clause-took : goal.returns-in-Err-clause-took
unfolding ascii
returns-in-Err-clause-took g c = wrong_turn _ _ _ _ _ _ _ _ _ c.in-Err.ensures (search rules) c.push_refusal.ensures
