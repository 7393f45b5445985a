use Rattle.register_step.proofs.CarryLaws.{Along}
use Rattle.register_step.proofs.carrying.carry.Given as goal

abbrev pub invariant-loop-k : goal.invariant-loop-k
invariant-loop-k l = Along l.state l.initial.register l.from l.register l.k l.refused
