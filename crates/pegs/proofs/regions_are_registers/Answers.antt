use Rattle.pegs.proofs.Regions.{region_theorem}
use Rattle.pegs.proofs.regions_are_registers.Goals as goal

pub returns : goal.returns
returns c = region_theorem
