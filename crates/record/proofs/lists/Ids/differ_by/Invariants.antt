use Prim.Native.Nat.{◌-◌, ◌+◌, ◌*◌}
use lib.ListN.{length}
use mathlib.Core.Path.{◌≡◌}
use Rattle.format.specs.Range.{ids_ok}
use Rattle.record.specs.Values.{ids_by, Marked}
use Rattle.record.specs.Context.{context_of}
use Rattle.record.proofs.OnePass.{pass}
use Rattle.record.proofs.lists.Ids.differ_by.Given as goal

abbrev pub invariant-loop-k : goal.invariant-loop-k
invariant-loop-k l = record {
  size : length l.met ≡ length l.initial.met;
  marked : Marked l.met (ids_by l.self.step l.k l.self.bytes.now l.self.at);
  passed :
      ids_ok (context_of l.c) (ids_by l.self.step l.self.count l.self.bytes.now l.self.at)
      ≡ pass (context_of l.c) (ids_by l.self.step l.k l.self.bytes.now l.self.at) (ids_by l.self.step (l.self.count - l.k) l.self.bytes.now (l.self.at + l.self.step * l.k));
}
