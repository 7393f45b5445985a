use Rattle.queue.proofs.CountLaws.{Counted}
use Rattle.queue.proofs.counting.count_of.Given as goal

abbrev pub invariant-loop-k : goal.invariant-loop-k
invariant-loop-k l = Counted l.state l.creator l.slots l.at l.count l.k
