use Prim.Native.Nat.{◌≤◌}
use Rattle.format.specs.Limits.{most_payload_limit}
use Rattle.state_check.proofs.Gathered.{MasksTo}
use Rattle.state_check.proofs.slots.masks.Given as goal

abbrev pub invariant-loop-j : goal.invariant-loop-j
invariant-loop-j l = (most_payload_limit ≤ l.j) × MasksTo l.j l.t
