use Rattle.replay.proofs.ReachedLaws.{serves_replay}
use Rattle.replay.proofs.serves_replay.Goals as goal

pub returns : goal.returns
returns c = serves_replay
