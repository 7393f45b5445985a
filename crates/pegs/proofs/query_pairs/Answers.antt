use Rattle.pegs.proofs.QueryPairsHold.{query_pairs_hold}
use Rattle.pegs.proofs.query_pairs.Goals as goal

pub returns : goal.returns
returns c = query_pairs_hold
