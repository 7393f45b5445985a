-- A buffer that is not refused: its names, in order, each as long as its slot says.
use Prim.Native.Nat.{ℕ, ◌+◌, ◌*◌, ◌≤◌, ◌<◌}
use mathlib.Core.Path.{◌≡◌}
use mathlib.Core.List.{List}
use native.Mathlib.Omega.{arith}
use lib.ListN.{length, drop, length-take, length-drop}
use Rattle.base.specs.Bytes.{number_at, part_at}
use Rattle.pegs.specs.Operations.{most_name}
use Rattle.pegs.specs.Claim.{Sorted}
use Rattle.pegs.specs.Register.{most_pegs}
use Rattle.pegs.specs.Image.{count_size, at_slot_name, peg_size, peg_at, peg_count, pegs_in}
use Rattle.pegs.specs.Outcome.{register_number}
use Rattle.pegs.proofs.Places.{formed_sorted}
use Rattle.pegs.proofs.ImageLaws.{number_zero, count_most, slot_range}

-- In a whole slot a name that is no longer than 24 bytes is as long as the slot says.
pub name_length : (b : List ℕ) (p : ℕ) → p + peg_size ≤ length b → length (peg_at b p).name ≤ most_name → length (peg_at b p).name ≡ number_at 1 b p
unfolding peg_at part_at
name_length b p h l =
    let e = length-take (number_at 1 b p) (drop (p + at_slot_name) b) in
    let f = length-drop (p + at_slot_name) b in
    omega arith

module _ (b : List ℕ) (ok : register_number b ≡ 0) where
  pub held_sorted : Sorted (pegs_in b)
  held_sorted = formed_sorted (pegs_in b) (number_zero b ok).formed

  pub held_room : (k : ℕ) → k < peg_count b → count_size + peg_size * k + peg_size ≤ length b
  held_room k h = let t = number_zero b ok in omega (arith, t.long, count_most b t)

  pub held_name : (k : ℕ) → k < peg_count b → number_at 1 b (count_size + peg_size * k) ≤ most_name
  held_name k h =
      let f = (slot_range b (number_zero b ok) k h).most in
      omega (arith, f, name_length b (count_size + peg_size * k) (held_room k h) f)

  -- The slot k: it lies in the buffer, and its name is no longer than 24 bytes.
  pub record HeldSlot (k : ℕ) : Type 0 where
    pub few : k < most_pegs
    pub room : count_size + peg_size * k + peg_size ≤ length b
    pub name : number_at 1 b (count_size + peg_size * k) ≤ most_name

  pub held_slot : (k : ℕ) → k < peg_count b → HeldSlot k
  held_slot k h = record { few = omega (arith, count_most b (number_zero b ok)); room = held_room k h; name = held_name k h }
