use Rattle.std.proofs.Common.{rules}
use Rattle.replay_lines.proofs.LineLaws.{pair_put}
use Rattle.replay_lines.proofs.line.push_pair.Goals as goal

pub returns : goal.returns
returns g c = search (rules, pair_put)
