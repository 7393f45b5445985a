use Rattle.vectors.proofs.Checked.{passed_holds}
use Rattle.std.proofs.Common.{rules}
use Rattle.vectors.proofs.decisions.decide.Goals as goal

pub answers-requires : goal.answers-requires
answers-requires g c = search (rules, passed_holds)
