use Rattle.std.proofs.Common.{rules}
use Rattle.replay_lines.specs.Input.{cut_short}
use Rattle.base.proofs.TestLaws.{pick_yes, pick_no}
use Rattle.replay_lines.proofs.input.cut_short.Goals as goal

pub returns-then-ended : goal.returns-then-ended
unfolding cut_short
returns-then-ended c = search (rules, pick_yes, pick_no)

pub returns-else-ended : goal.returns-else-ended
unfolding cut_short
returns-else-ended c = search (rules, pick_yes, pick_no)
