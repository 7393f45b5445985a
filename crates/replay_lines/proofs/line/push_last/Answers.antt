use Rattle.std.proofs.Common.{rules}
use Rattle.base.specs.Text.{ascii}
use Rattle.replay_lines.proofs.LineLaws.{last_put}
use Rattle.replay_lines.proofs.line.push_last.Goals as goal

pub returns : goal.returns
unfolding ascii
returns g c = search (rules, last_put)
