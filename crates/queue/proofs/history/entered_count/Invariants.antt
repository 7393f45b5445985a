use Rattle.queue.proofs.WhiteLaws.{Summed}
use Rattle.queue.proofs.history.entered_count.Given as goal

abbrev pub invariant-loop-k : goal.invariant-loop-k
invariant-loop-k l = Summed l.state l.servers l.total l.k
