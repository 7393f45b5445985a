use Rattle.std.proofs.Common.{rules}
use Rattle.replay_lines.proofs.LineLaws.{number_put}
use Rattle.replay_lines.proofs.line.push_number.Goals as goal

pub returns : goal.returns
returns g c = search (rules, number_put)
