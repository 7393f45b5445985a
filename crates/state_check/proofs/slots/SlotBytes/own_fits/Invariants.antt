use Prim.Native.Nat.{◌+◌, ◌*◌, ◌-◌}
use mathlib.Core.Path.{◌≡◌}
use Rattle.record.specs.Context.{context_of}
use Rattle.state_check.specs.Slots.{own_fits}
use Rattle.image.specs.Layout.{slot_size}
use Rattle.state_check.proofs.slots.SlotBytes.own_fits.Given as goal

abbrev pub invariant-loop-i : goal.invariant-loop-i
invariant-loop-i l = own_fits (context_of l.c) l.k l.count l.self.bytes.now l.at ≡ own_fits (context_of l.c) (l.k + l.i) (l.count - l.i) l.self.bytes.now (l.at + slot_size * l.i)
