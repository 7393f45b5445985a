use Rattle.exchange.proofs.RaiseLaws.{Met}
use Rattle.exchange.specs.Hints.{sought_in}
use Rattle.exchange.proofs.first_list.FirstList.raise_lists.Given as goal

abbrev pub invariant-loop-k : goal.invariant-loop-k
invariant-loop-k l = Met (sought_in l.self.count l.self.bytes.now) l.states.slots l.states.bytes.now l.start l.k l.round l.initial.table l.table
