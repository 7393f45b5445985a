use Rattle.std.proofs.Common.{arith, rules}
use Rattle.image.proofs.InPlace.{such_header}
use Rattle.vectors.proofs.Checked.{creator_held}
use Rattle.vectors.proofs.decisions.part.Goals as goal

pub num8-requires : goal.num8-requires
num8-requires c = omega (arith, such_header _ _ c.requires)

pub resends_red-requires : goal.resends_red-requires
resends_red-requires c = creator_held _ _ _ (search rules) c.num8.ensures (search rules)
