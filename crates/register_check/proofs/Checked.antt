-- A slot that was tested: its name filled up with zeros, its peg in range, and the bytes of its peg.
use Prim.Native.Nat.{ℕ, ◌+◌, ◌-◌, ◌≤◌}
use mathlib.Core.Path.{◌≡◌, refl, sym, ap, subst, ◌∙◌}
use mathlib.Core.Bool.{true}
use mathlib.Core.List.{List, ◌++◌}
use native.Mathlib.Omega.{arith}
use lib.ListN.{length}
use Rattle.base.specs.Bytes.{Bytes, bytes_of, number_at, part_at, zeros, slot}
use Rattle.base.proofs.TestLaws.{and_holds, both_yes, le_yes, le_holds}
use Rattle.base.proofs.BytesLaws.{bytes_length, part_length, part_append, number_lt}
use Rattle.base.proofs.Occurs.{Occurs, occurs_at, occurs_second, joined_parts, parts_joined, number_occurs, number_read}
use Rattle.base.proofs.Over.{zeros_length, slot_length}
use Rattle.pegs.specs.Operations.{most_name, coordinate_size, place_at, name_fits}
use Rattle.pegs.specs.Image.{at_slot_name, at_place, peg_size, peg_bytes, peg_at}
use Rattle.pegs.proofs.PegLaws.{PegRange}
use Rattle.register_check.specs.Slots.{filled_at, slot_reads}
use Rattle.register_check.proofs.Filled.{Zeros, every_zeros, zeros_every, zeros_part, part_zeros}

-- The name of the slot at p is as long as the slot says, and is filled up.
pub record Named (b : List ℕ) (p : ℕ) : Type 0 where
  pub low : 1 ≤ number_at 1 b p
  pub most : number_at 1 b p ≤ most_name
  pub filled : Zeros b (most_name - number_at 1 b p) (p + at_slot_name + number_at 1 b p)

pub slot_named : (b : List ℕ) (p : ℕ) → slot_reads b p ≡ true → Named b p
unfolding slot_reads name_fits filled_at
slot_named b p t =
    let u = and_holds _ _ t in
    let n = and_holds _ _ u.0 in
    record { low = le_holds _ _ n.0; most = le_holds _ _ n.1; filled = every_zeros b _ _ u.1 }

pub named_slot : (b : List ℕ) (p : ℕ) → Named b p → slot_reads b p ≡ true
unfolding slot_reads name_fits filled_at
named_slot b p n = both_yes _ _ (both_yes _ _ (le_yes _ _ n.low) (le_yes _ _ n.most)) (zeros_every b _ _ n.filled)

module _ (b : List ℕ) (p : ℕ) (h : p + peg_size ≤ length b) where
  module _ (n : Named b p) where
    pub named_length : length (peg_at b p).name ≡ number_at 1 b p
    unfolding peg_at
    named_length = part_length (number_at 1 b p) b (p + at_slot_name) (omega (arith, n.most))

    pub named_part : part_at most_name b (p + at_slot_name) ≡ slot most_name (peg_at b p).name
    unfolding slot peg_at
    named_part =
        let k : ℕ = number_at 1 b p in
        let e : most_name ≡ k + (most_name - k) = omega (arith, n.most) in
        ap (λ (m : ℕ). part_at m b (p + at_slot_name)) e
        ∙ part_append k (most_name - k) b (p + at_slot_name)
        ∙ ap (λ (l : List ℕ). part_at k b (p + at_slot_name) ++ l) (zeros_part (most_name - k) b (p + at_slot_name + k) (omega (arith, n.most)) n.filled)
        ∙ ap (λ (m : ℕ). part_at k b (p + at_slot_name) ++ zeros (most_name - m)) (sym named_length)

    pub named_range : Bytes b → PegRange (peg_at b p)
    unfolding peg_at place_at
    named_range k = record {
      low = omega (arith, named_length, n.low);
      most = omega (arith, named_length, n.most);
      easting = number_lt coordinate_size b (p + at_place) k;
      northing = number_lt coordinate_size b (p + at_place + coordinate_size) k;
    }

    -- What is written of the peg stands there.
    pub named_occurs : Bytes b → Occurs (peg_bytes (peg_at b p)) b p
    unfolding peg_bytes peg_at place_at
    named_occurs k =
        let m : List ℕ = part_at (number_at 1 b p) b (p + at_slot_name) in
        let size : length (bytes_of 1 (length m)) ≡ 1 = bytes_length 1 (length m) in
        let name : length (slot most_name m) ≡ most_name = slot_length most_name m (omega (arith, named_length, n.most)) in
        let east : length (bytes_of coordinate_size (number_at coordinate_size b (p + at_place))) ≡ coordinate_size = bytes_length coordinate_size _ in
        parts_joined _ b p (
          subst (λ (v : ℕ). Occurs (bytes_of 1 v) b p) (sym named_length) (number_occurs 1 b p refl k (omega arith)),
          (
            occurs_at (record { part = ap (λ (i : ℕ). part_at i b (p + at_slot_name)) name ∙ named_part }) (omega (arith, size)),
            (
              number_occurs coordinate_size b (p + at_place) (omega (arith, size, name)) k (omega arith),
              (number_occurs coordinate_size b (p + at_place + coordinate_size) (omega (arith, size, name, east)) k (omega arith), tt),
            ),
          ),
        )

  -- ---- and back

  pub occurs_named : PegRange (peg_at b p) → Occurs (peg_bytes (peg_at b p)) b p → Named b p
  unfolding peg_bytes slot
  occurs_named r o =
      let m : List ℕ = (peg_at b p).name in
      let parts = joined_parts _ b p o in
      let size : length (bytes_of 1 (length m)) ≡ 1 = bytes_length 1 (length m) in
      let long : number_at 1 b p ≡ length m = number_read 1 p parts.0 refl (omega (arith, r.most)) in
      let rest : Occurs (zeros (most_name - length m)) b (p + at_slot_name + length m) =
      occurs_second m (zeros (most_name - length m)) b _ (p + at_slot_name + length m) (omega (arith, size)) parts.1.0 in
      record {
        low = omega (arith, r.low, long);
        most = omega (arith, r.most, long);
        filled = subst (λ (k : ℕ). Zeros b (most_name - k) (p + at_slot_name + k)) (sym long) (part_zeros (most_name - length m) b (p + at_slot_name + length m) (ap (λ (i : ℕ). part_at i b (p + at_slot_name + length m)) (sym (zeros_length (most_name - length m))) ∙ rest.part));
      }
