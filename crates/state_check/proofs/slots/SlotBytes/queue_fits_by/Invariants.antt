use mathlib.Core.Path.{◌≡◌}
use lib.ListN.{length}
use Rattle.image.specs.Layout.{slot_size}
use Rattle.record.specs.Context.{context_of}
use Rattle.record.specs.Values.{ids_by, Marked}
use Rattle.state_check.specs.Slots.{queue_fits}
use Rattle.state_check.proofs.QueueCode.{queue_left}
use Rattle.state_check.proofs.slots.SlotBytes.queue_fits_by.Given as goal

abbrev pub invariant-loop-k : goal.invariant-loop-k
invariant-loop-k l = record {
  size : length l.met ≡ length l.initial.met;
  marked : Marked l.met (ids_by slot_size l.k l.self.bytes.now l.at);
  passed : queue_fits (context_of l.c) l.cuts l.count l.self.bytes.now l.at ≡ queue_left (context_of l.c) l.cuts l.count l.self.bytes.now l.at l.k;
}
