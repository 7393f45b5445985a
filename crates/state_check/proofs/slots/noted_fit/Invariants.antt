use Prim.Native.Nat.{◌+◌, ◌*◌, ◌-◌}
use mathlib.Core.Path.{◌≡◌}
use Rattle.base.specs.Lists.{every_at}
use Rattle.state_check.specs.Slots.{noted_at}
use Rattle.state_check.proofs.slots.noted_fit.Given as goal

abbrev pub invariant-loop-k : goal.invariant-loop-k
invariant-loop-k l = every_at (noted_at l.b) 4 l.servers l.at ≡ every_at (noted_at l.b) 4 (l.servers - l.k) (l.at + 4 * l.k)
