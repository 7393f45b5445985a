use Prim.Native.Nat.{◌+◌, ◌-◌}
use mathlib.Core.Path.{◌≡◌}
use Rattle.base.specs.Lists.{every_at}
use Rattle.base.specs.Bytes.{zero_at}
use Rattle.state_check.specs.Slots.{payload_space}
use Rattle.state_check.proofs.Gathered.{unread}
use Rattle.state_check.proofs.slots.zeros.Given as goal

abbrev pub invariant-loop-j : goal.invariant-loop-j
invariant-loop-j l = every_at (zero_at l.b) 1 (payload_space - l.m) (l.at + l.m) ≡ unread l.b l.at l.m l.all l.j
