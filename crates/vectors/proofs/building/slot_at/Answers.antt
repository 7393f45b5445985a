use Rattle.image.proofs.SizeLaws.{sizes_answered}
use Rattle.std.proofs.Common.{rules}
use Rattle.vectors.proofs.building.slot_at.Goals as goal

pub invariant_of-sizes : goal.invariant_of-sizes
invariant_of-sizes c = search (rules, sizes_answered)
