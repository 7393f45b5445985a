use Rattle.std.proofs.Common.{◌<◌}
use Rattle.vector_tools.proofs.output.digest.Given as goal

abbrev pub invariant-loop-b : goal.invariant-loop-b
invariant-loop-b l = (l.low < 65521) × (l.high < 65521)
