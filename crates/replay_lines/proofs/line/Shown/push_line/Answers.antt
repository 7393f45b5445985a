use Rattle.std.proofs.Common.{rules}
use Rattle.replay_lines.proofs.LineLaws.{line_put}
use Rattle.replay_lines.proofs.line.Shown.push_line.Goals as goal

pub returns : goal.returns
returns g c = search (rules, line_put)
