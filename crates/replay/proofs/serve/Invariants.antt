use Rattle.replay.proofs.ReadingLaws.{Serving}
use Rattle.replay.proofs.serve.Given as goal

abbrev pub invariant-loop-left : goal.invariant-loop-left
invariant-loop-left l = Serving l.fn.setup.servers l.fn.setup.quota l.standing
