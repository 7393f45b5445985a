use Prim.Native.Nat.{◌-◌}
use Rattle.register_check.proofs.Searched.{Between}
use Rattle.register_check.proofs.contents.Register.position.Given as goal

abbrev pub invariant-loop-low : goal.invariant-loop-low
invariant-loop-low l = Between l.self.bytes.now l.name l.low l.high

abbrev pub decreases-loop-low : goal.decreases-loop-low
decreases-loop-low l = l.high - l.low
