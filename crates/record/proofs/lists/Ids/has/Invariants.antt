use mathlib.Core.Bool.{false}
use mathlib.Core.Path.{◌≡◌}
use Rattle.format.specs.Range.{has_id}
use Rattle.record.specs.Values.{the_id, ids_by}
use Rattle.record.proofs.lists.Ids.has.Given as goal

abbrev pub invariant-loop-k : goal.invariant-loop-k
invariant-loop-k l = has_id (the_id l.id) (ids_by l.self.step l.k l.self.bytes.now l.self.at) ≡ false
