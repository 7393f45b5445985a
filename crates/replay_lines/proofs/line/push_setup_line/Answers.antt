use Rattle.std.proofs.Common.{rules}
use Rattle.base.specs.Text.{ascii}
use Rattle.replication.specs.Replay.{setup_line}
use Rattle.replay_lines.proofs.line.push_setup_line.Goals as goal

pub returns : goal.returns
unfolding ascii setup_line
returns g c = c.push_refusal.ensures
