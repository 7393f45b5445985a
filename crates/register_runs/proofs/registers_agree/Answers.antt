use Rattle.register_runs.specs.Claim.{RegistersClaim}
use Rattle.register_runs.proofs.Folds.{registers_fold}
use Rattle.register_runs.proofs.Agreement.{registers_agree}
use Rattle.register_runs.proofs.Depots.{depots_follow, depots_agree}
use Rattle.register_runs.proofs.registers_agree.Goals as goal

registers-claim : RegistersClaim
registers-claim = record {
  folds = registers_fold;
  agree = registers_agree;
  depots = λ n q l S x long. (depots_follow S x long, depots_agree S x long);
}

pub returns : goal.returns
returns c = registers-claim
