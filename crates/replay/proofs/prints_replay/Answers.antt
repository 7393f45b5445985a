use Rattle.replay.proofs.PrintsParts.{prints_replay}
use Rattle.replay.proofs.prints_replay.Goals as goal

pub returns : goal.returns
returns c = prints_replay
