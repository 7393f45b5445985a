use Rattle.pegs.proofs.Nearest.{nearest_theorem}
use Rattle.pegs.proofs.nearest_is_least.Goals as goal

pub returns : goal.returns
returns c = nearest_theorem
