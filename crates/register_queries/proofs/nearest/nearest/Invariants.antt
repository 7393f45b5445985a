use Rattle.register_queries.proofs.Along.{Along}
use Rattle.register_queries.proofs.nearest.nearest.Given as goal

abbrev pub invariant-loop-index : goal.invariant-loop-index
invariant-loop-index l = Along l.register.bytes.now l.p l.best l.least l.index
