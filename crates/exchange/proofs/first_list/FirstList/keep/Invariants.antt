use lib.ListN.{length}
use Rattle.exchange.specs.Hints.{sought_in}
use Rattle.exchange.specs.Table.{is_kept}
use Rattle.exchange.proofs.KeepLaws.{Kept}
use Rattle.exchange.proofs.first_list.FirstList.keep.Given as goal

abbrev pub invariant-loop-j : goal.invariant-loop-j
invariant-loop-j l = Kept (is_kept (sought_in l.self.count l.self.bytes.now) l.round l.table) l.self.bytes.now 0 l.self.count l.j l.kept (length l.initial.out) l.out
