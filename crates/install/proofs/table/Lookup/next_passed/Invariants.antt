use Rattle.install.specs.Table.{NextBefore}
use Rattle.install.proofs.table.Lookup.next_passed.Given as goal

abbrev pub invariant-loop-k : goal.invariant-loop-k
invariant-loop-k l = NextBefore l.k l.self.first l.creator l.above l.found l.self.state.now
