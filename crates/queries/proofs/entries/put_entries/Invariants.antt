use Rattle.queries.proofs.EntriesCode.{Along}
use Rattle.queries.proofs.entries.put_entries.Given as goal

abbrev pub invariant-loop-k : goal.invariant-loop-k
invariant-loop-k l = Along l.state l.from l.initial.out l.out l.k l.at
