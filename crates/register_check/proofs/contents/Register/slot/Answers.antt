use Prim.Native.Nat.{ℕ, ◌+◌, ◌-◌}
use mathlib.Core.Path.{◌≡◌, ap}
use mathlib.Core.List.{List}
use native.Mathlib.Omega.{arith}
use lib.ListN.{take, drop}
use borrow.Author.Rules.{rules}
use Rattle.base.specs.Bytes.{part_at}
use Rattle.pegs.specs.Image.{peg_size}
use Rattle.register_check.proofs.Held.{held_slot}
use Rattle.register_check.proofs.contents.Register.slot.Goals as goal

part : (b : List ℕ) (p : ℕ) → take (p + peg_size - p) (drop p b) ≡ part_at peg_size b p
unfolding part_at
part b p = let e : p + peg_size - p ≡ peg_size = omega arith in ap (λ (n : ℕ). take n (drop p b)) e

pub overflow_mul-at : goal.overflow_mul-at
overflow_mul-at c = let s = held_slot c.args.self.bytes.now c.args.self.reads c.args.index c.requires in omega (arith, s.few, s.room, s.name)

pub overflow_add-at : goal.overflow_add-at
overflow_add-at c = let s = held_slot c.args.self.bytes.now c.args.self.reads c.args.index c.requires in omega (arith, s.few, s.room, s.name)

pub overflow_add-result : goal.overflow_add-result
overflow_add-result c = let s = held_slot c.args.self.bytes.now c.args.self.reads c.args.index c.requires in omega (arith, s.few, s.room, s.name)

pub slice_bounds-result-end : goal.slice_bounds-result-end
slice_bounds-result-end c = let s = held_slot c.args.self.bytes.now c.args.self.reads c.args.index c.requires in omega (arith, s.few, s.room, s.name)

pub returns : goal.returns
returns c = search (rules, part)
