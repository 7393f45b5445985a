use Rattle.replay_lines.proofs.InputLaws.{next_cut, next_event_lem}
use Rattle.replay_lines.specs.Input.{next_of}
use Rattle.base.proofs.TestLaws.{choices, pick_yes, pick_no}
use Rattle.std.proofs.Common.{rules}
use Rattle.replay_lines.proofs.input.next_in.Goals as goal

pub returns-then-ended : goal.returns-then-ended
unfolding next_of
returns-then-ended c = search (rules, choices, pick_yes, pick_no)

pub returns-else-ended : goal.returns-else-ended
unfolding next_of
returns-else-ended c = search (rules, choices, pick_yes, pick_no)

pub returns-then-servers-input : goal.returns-then-servers-input
unfolding next_of
returns-then-servers-input c = search (rules, choices, pick_yes, pick_no)

pub returns-then-input-lt-FRONT : goal.returns-then-input-lt-FRONT
unfolding next_of
returns-then-input-lt-FRONT c = search (rules, choices, pick_yes, pick_no)

pub returns-then-input-size : goal.returns-then-input-size
returns-then-input-size c = search (rules, next_cut)

pub returns : goal.returns
returns c = search (rules, next_event_lem)
