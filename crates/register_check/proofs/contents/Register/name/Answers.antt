use native.Mathlib.Omega.{arith}
use borrow.Author.Rules.{rules}
use Rattle.register_check.proofs.Held.{held_slot}
use Rattle.register_check.proofs.Searched.{named_part}
use Rattle.register_check.proofs.contents.Register.name.Goals as goal

pub overflow_mul-at : goal.overflow_mul-at
overflow_mul-at c = let s = held_slot c.args.self.bytes.now c.args.self.reads c.args.index c.requires in omega (arith, s.few, s.room, s.name)

pub overflow_add-at : goal.overflow_add-at
overflow_add-at c = let s = held_slot c.args.self.bytes.now c.args.self.reads c.args.index c.requires in omega (arith, s.few, s.room, s.name)

pub overflow_add-from : goal.overflow_add-from
overflow_add-from c = let s = held_slot c.args.self.bytes.now c.args.self.reads c.args.index c.requires in omega (arith, s.few, s.room, s.name)

pub num8-requires : goal.num8-requires
num8-requires c = let s = held_slot c.args.self.bytes.now c.args.self.reads c.args.index c.requires in omega (arith, s.few, s.room, s.name)

pub overflow_add-to : goal.overflow_add-to
overflow_add-to c = let s = held_slot c.args.self.bytes.now c.args.self.reads c.args.index c.requires in omega (arith, s.few, s.room, s.name)

pub slice_bounds-result-end : goal.slice_bounds-result-end
slice_bounds-result-end c = let s = held_slot c.args.self.bytes.now c.args.self.reads c.args.index c.requires in omega (arith, s.few, s.room, s.name)

pub returns : goal.returns
returns c = search (rules, named_part)
