use native.Mathlib.Omega.{arith}
use Rattle.register_check.proofs.Held.{held_slot}
use Rattle.register_check.proofs.contents.Register.place.Goals as goal

pub overflow_mul-index : goal.overflow_mul-index
overflow_mul-index c = let s = held_slot c.args.self.bytes.now c.args.self.reads c.args.index c.requires in omega (arith, s.few, s.room, s.name)

pub overflow_add-index : goal.overflow_add-index
overflow_add-index c = let s = held_slot c.args.self.bytes.now c.args.self.reads c.args.index c.requires in omega (arith, s.few, s.room, s.name)

pub point_at-requires : goal.point_at-requires
point_at-requires c = let s = held_slot c.args.self.bytes.now c.args.self.reads c.args.index c.requires in omega (arith, s.few, s.room, s.name)
