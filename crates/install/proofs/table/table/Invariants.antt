use Prim.Native.Nat.{◌-◌}
use Rattle.install.proofs.TableLaws.{Filled}
use Rattle.install.proofs.table.table.Given as goal

abbrev pub invariant-loop-k : goal.invariant-loop-k
invariant-loop-k l = Filled l.k l.places l.state
