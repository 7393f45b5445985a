use Rattle.register_check.proofs.CheckCode.{RisesFrom}
use Rattle.register_check.proofs.checking.rises.Given as goal

abbrev pub invariant-loop-j : goal.invariant-loop-j
invariant-loop-j l = RisesFrom l.b l.at l.next l.j
