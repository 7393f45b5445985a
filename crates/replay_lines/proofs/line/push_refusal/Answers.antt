use Rattle.std.proofs.Common.{rules}
use Rattle.base.specs.Text.{ascii}
use Rattle.replay_lines.proofs.LineLaws.{refusal_put}
use Rattle.replay_lines.proofs.line.push_refusal.Goals as goal

pub returns : goal.returns
unfolding ascii
returns g c = search (rules, refusal_put)
