use Rattle.std.proofs.Common.{refl}
use Rattle.base.specs.Text.{ascii}
use Rattle.replication.specs.Replay.{header}
use Rattle.replay_lines.proofs.line.header.Goals as goal

pub returns : goal.returns
unfolding ascii header
returns c = refl
