use Rattle.pegs.proofs.Listed.{names_theorem}
use Rattle.pegs.proofs.names_are_given.Goals as goal

pub returns : goal.returns
returns c = names_theorem
