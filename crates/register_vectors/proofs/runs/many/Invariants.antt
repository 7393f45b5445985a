use Rattle.std.proofs.Common.{◌≤◌}
use Rattle.register_vectors.proofs.runs.many.Given as goal

abbrev pub invariant-loop-i : goal.invariant-loop-i
invariant-loop-i g l = l.taken ≤ l._i
