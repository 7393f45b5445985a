use Rattle.record.specs.Context.{context_of}
use Rattle.exchange.proofs.HintLaws.{Hints}
use Rattle.exchange.proofs.table.hints.Given as goal

abbrev pub invariant-loop-k : goal.invariant-loop-k
invariant-loop-k l = Hints (context_of l.c) l.ids l.k l.first l.t
