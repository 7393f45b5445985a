use Rattle.vectors.proofs.Checked.{accepted_holds}
use Rattle.std.proofs.Common.{rules}
use Rattle.vectors.proofs.decisions.own_mark.Goals as goal

pub taken_votes-requires : goal.taken_votes-requires
taken_votes-requires g c = search (rules, accepted_holds)
