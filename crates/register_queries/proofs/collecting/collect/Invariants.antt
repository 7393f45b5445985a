use Rattle.register_queries.proofs.Collected.{Collected}
use Rattle.register_queries.proofs.collecting.collect.Given as goal

abbrev pub invariant-loop-index : goal.invariant-loop-index
invariant-loop-index l = Collected l.register.bytes.now l.region l.initial.answer l.answer l.index l.found
