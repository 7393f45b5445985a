use Rattle.queue.specs.Queue.{position}
use Rattle.image.specs.Decode.{actions_at}
use Rattle.record.specs.Values.{the_id}
use Prim.Native.Nat.{◌+◌, ◌*◌, ◌-◌}
use mathlib.Core.Path.{◌≡◌}
use Rattle.image.specs.Layout.{slot_size}
use Rattle.queue.proofs.finding.find.Given as goal

abbrev pub invariant-loop-k : goal.invariant-loop-k
invariant-loop-k l = position (the_id l.id) (actions_at l.count l.state l.at) ≡ l.k + position (the_id l.id) (actions_at (l.count - l.k) l.state (l.at + slot_size * l.k))
