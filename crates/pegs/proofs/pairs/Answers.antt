use Rattle.pegs.proofs.PairsHold.{pairs_hold}
use Rattle.pegs.proofs.pairs.Goals as goal

pub returns : goal.returns
returns c = pairs_hold
