use Rattle.vectors.proofs.Checked.{accepted_holds}
use Rattle.std.proofs.Common.{rules}
use Rattle.vectors.proofs.decisions.own_part.Goals as goal

pub part-requires : goal.part-requires
part-requires g c = search (rules, accepted_holds)
