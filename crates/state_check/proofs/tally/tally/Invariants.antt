use Prim.Native.Nat.{◌+◌, ◌*◌, ◌-◌}
use Rattle.image.specs.Layout.{slot_size}
use Rattle.state_check.proofs.TallyCode.{Counted}
use Rattle.state_check.proofs.tally.tally.Given as goal

abbrev pub invariant-loop-k : goal.invariant-loop-k
invariant-loop-k l = Counted l.count l.b l.at (l.count - l.k) (l.at + slot_size * l.k) l.t
