use Rattle.std.proofs.Common.{rules}
use Rattle.base.specs.Text.{ascii}
use Rattle.replay_lines.proofs.LineLaws.{mode_put}
use Rattle.replay_lines.proofs.line.push_mode.Goals as goal

pub returns : goal.returns
unfolding ascii
returns g c = search (rules, mode_put)
