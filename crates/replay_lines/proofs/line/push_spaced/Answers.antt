use Rattle.std.proofs.Common.{rules}
use Rattle.base.specs.Text.{ascii}
use Rattle.replay_lines.proofs.LineLaws.{spaced_put}
use Rattle.replay_lines.proofs.line.push_spaced.Goals as goal

pub returns : goal.returns
unfolding ascii
returns g c = search (rules, spaced_put)
