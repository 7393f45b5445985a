-- The code's tests of slots decide whether a buffer that is long enough holds the image of a register.
use Prim.Native.Nat.{ℕ, zero, suc, ◌+◌, ◌*◌, ◌-◌, ◌≤◌, ◌<◌}
use mathlib.Core.Path.{◌≡◌, refl, sym, ap, ap₂, subst, ◌∙◌}
use mathlib.Core.Bool.{Bool, true}
use mathlib.Core.List.{List, [], ◌∷◌, ◌++◌, map}
use mathlib.Core.Option.{some}
use native.Mathlib.Omega.{arith}
use lib.ListN.{length, drop, take-append-drop}
use Rattle.base.specs.Tests.{◌<?◌, ◌=?◌, pick}
use Rattle.base.specs.Bytes.{Bytes, bytes_of, part_at, joined, over}
use Rattle.base.specs.Lists.{all, at, every_at, same}
use Rattle.base.proofs.AtLaws.{none_some, some_same}
use Rattle.base.proofs.TestLaws.{Known, known, holds, fails, and_holds, both_yes, le_yes, le_holds, lt_no, eq_holds, eq_fails, pick_yes, pick_no}
use Rattle.base.proofs.Branches.{same_truth}
use Rattle.base.proofs.BytesLaws.{bytes_length}
use Rattle.base.proofs.Occurs.{Occurs, occurs_nil, occurs_append, number_occurs}
use Rattle.base.proofs.SameLaws.{same_yes}
use Rattle.base.proofs.Entries.{every_each, each_every}
use Rattle.pegs.specs.Names.{before}
use Rattle.pegs.specs.Operations.{Peg}
use Rattle.pegs.specs.Register.{most_pegs}
use Rattle.pegs.specs.Image.{count_size, peg_size, register_length, peg_bytes, register_bytes, register_image, peg_at, pegs_at, peg_count, pegs_in, leads, rising, peg_fits, formed, register_reads}
use Rattle.pegs.specs.Outcome.{register_short, register_number}
use Rattle.pegs.proofs.PegLaws.{range_fits, peg_length}
use Rattle.pegs.proofs.ImageLaws.{Holds, number_zero, slots_count, slot_at_lem, count_most, slot_occurs, slot_range}
use Rattle.register_check.specs.Slots.{slot_reads, next_reads, slots_read, checks}
use Rattle.register_check.proofs.Checked.{Named, slot_named, named_slot, named_range, named_occurs, occurs_named}

-- What the tests say of the m slots from p on.
pub record Rows (b : List ℕ) (m p : ℕ) : Type 0 where
  pub slots : (k : ℕ) → k < m → slot_reads b (p + peg_size * k) ≡ true
  pub order : (k : ℕ) → suc k < m → before (peg_at b (p + peg_size * k)).name (peg_at b (p + peg_size * suc k)).name ≡ true

module _ (b : List ℕ) where
  next_place : (p k : ℕ) → p + peg_size * k + peg_size ≡ p + peg_size * suc k
  next_place p k = omega arith

  next_name : (p k : ℕ) → before (peg_at b (p + peg_size * k)).name (peg_at b (p + peg_size * k + peg_size)).name ≡ before (peg_at b (p + peg_size * k)).name (peg_at b (p + peg_size * suc k)).name
  next_name p k = ap (λ (i : ℕ). before (peg_at b (p + peg_size * k)).name (peg_at b i).name) (next_place p k)

  slots_rows : (m p : ℕ) → slots_read b m p ≡ true → Rows b m p
  unfolding slots_read next_reads pick
  slots_rows m p t = go (known (m =? 0))
    where
      go : Known (m =? 0) → Rows b m p
      go (holds e) = let z = eq_holds m 0 e in record { slots = λ k h. absurd (omega arith); order = λ k h. absurd (omega arith) }
      go (fails e) =
          let u = and_holds (slot_reads b p) (every_at (next_reads b) peg_size (m - 1) p) (rw e at t) in
          let next = every_each (next_reads b) peg_size (m - 1) p u.1 in
          record { slots = each u.0 next; order = λ k h. sym (next_name p k) ∙ (and_holds _ _ (next k (omega arith))).1 }
        where
          each : slot_reads b p ≡ true → ((k : ℕ) → k < m - 1 → next_reads b (p + peg_size * k) ≡ true) → (k : ℕ) → k < m → slot_reads b (p + peg_size * k) ≡ true
          each f n zero h = let z : p + peg_size * 0 ≡ p = omega arith in ap (slot_reads b) z ∙ f
          each f n (suc k) h = ap (slot_reads b) (sym (next_place p k)) ∙ (and_holds _ _ (n k (omega arith))).0

  rows_slots : (m p : ℕ) → Rows b m p → slots_read b m p ≡ true
  unfolding slots_read next_reads pick
  rows_slots m p r = go (known (m =? 0))
    where
      go : Known (m =? 0) → slots_read b m p ≡ true
      go (holds e) = rw e
      go (fails e) =
          let z = eq_fails m 0 e in
          let first : p ≡ p + peg_size * 0 = omega arith in
          rw e (both_yes _ _ (ap (slot_reads b) first ∙ r.slots 0 (omega arith)) (each_every (next_reads b) peg_size (m - 1) p next))
        where
          next : (k : ℕ) → k < m - 1 → next_reads b (p + peg_size * k) ≡ true
          next k h = both_yes _ _ (ap (slot_reads b) (next_place p k) ∙ r.slots (suc k) (omega arith)) (next_name p k ∙ r.order k (omega arith))

  -- ---- of the slots to the register

  rows_more : (m p : ℕ) → Rows b (suc m) p → Rows b m (p + peg_size)
  rows_more m p r = record {
    slots = λ k h. ap (slot_reads b) (place k) ∙ r.slots (suc k) (omega arith);
    order = λ k h. named k (suc k) ∙ r.order (suc k) (omega arith);
  }
    where
      place : (k : ℕ) → p + peg_size + peg_size * k ≡ p + peg_size * suc k
      place k = omega arith

      named : (j k : ℕ) → before (peg_at b (p + peg_size + peg_size * j)).name (peg_at b (p + peg_size + peg_size * k)).name ≡ before (peg_at b (p + peg_size * suc j)).name (peg_at b (p + peg_size * suc k)).name
      named j k = rw (place j, place k)

  first_slot : (m p : ℕ) → Rows b (suc m) p → Named b p
  first_slot m p r = let e : p + peg_size * 0 ≡ p = omega arith in slot_named b p (ap (slot_reads b) (sym e) ∙ r.slots 0 (omega arith))

  rows_rise : (m p : ℕ) → Rows b m p → rising (pegs_at m b p) ≡ true
  unfolding pegs_at rising leads
  rows_rise zero p r = refl
  rows_rise (suc zero) p r = both_yes _ _ refl refl
  rows_rise (suc (suc m)) p r =
      let e : p ≡ p + peg_size * 0 = omega arith in
      let f : p + peg_size ≡ p + peg_size * suc 0 = omega arith in
      let o : before (peg_at b p).name (peg_at b (p + peg_size)).name ≡ true =
      ap₂ {A = ℕ} {B = ℕ} {C = Bool} (λ i j. before (peg_at b i).name (peg_at b j).name) e f ∙ r.order 0 (omega arith) in
      both_yes _ _ o (rows_rise (suc m) (p + peg_size) (rows_more (suc m) p r))

  module _ (bytes : Bytes b) where
    rows_fit : (m p : ℕ) → p + peg_size * m ≤ length b → Rows b m p → all peg_fits (pegs_at m b p) ≡ true
    unfolding pegs_at all
    rows_fit zero p h r = refl
    rows_fit (suc m) p h r =
        both_yes _ _ (range_fits (peg_at b p) (named_range b p (omega arith) (first_slot m p r) bytes))
        (rows_fit m (p + peg_size) (omega arith) (rows_more m p r))

    rows_occur : (m p : ℕ) → p + peg_size * m ≤ length b → Rows b m p → Occurs (joined (map peg_bytes (pegs_at m b p))) b p
    unfolding pegs_at joined
    rows_occur zero p h r = occurs_nil b p
    rows_occur (suc m) p h r =
        let n = first_slot m p r in
        let size = peg_length (peg_at b p) (named_range b p (omega arith) n bytes).most in
        occurs_append (peg_bytes (peg_at b p)) _ b p (p + peg_size) (omega (arith, size)) (named_occurs b p (omega arith) n bytes)
        (rows_occur m (p + peg_size) (omega arith) (rows_more m p r))

-- Where what is written stands in front already, nothing changes.
over_same : (y b : List ℕ) → Occurs y b 0 → over y b ≡ b
unfolding over part_at
over_same y b o = ap (λ (x : List ℕ). x ++ drop (length y) b) (sym o.part) ∙ take-append-drop (length y) b

rising_at : (l : List Peg) → rising l ≡ true → (k : ℕ) (g h : Peg) → at l k ≡ some g → at l (suc k) ≡ some h → before g.name h.name ≡ true
unfolding rising leads at
rising_at [] t k g h e f = none_some e
rising_at (x ∷ []) t k g h e f = none_some f
rising_at (x ∷ y ∷ l) t zero g h e f =
    ap (λ (z : Peg). before z.name h.name) (sym (some_same e)) ∙ ap (λ (z : Peg). before x.name z.name) (sym (some_same f)) ∙ (and_holds _ _ t).0
rising_at (x ∷ y ∷ l) t (suc k) g h e f = rising_at (y ∷ l) (and_holds _ _ t).1 k g h e f

module _ (b : List ℕ) (bytes : Bytes b) (long : register_length ≤ length b) where
  checks_read : checks b ≡ true → register_reads b ≡ true
  unfolding checks register_reads formed pegs_in register_image register_bytes joined
  checks_read t =
      let u = and_holds _ _ t in
      let few : peg_count b ≤ most_pegs = le_holds _ _ u.0 in
      let r = slots_rows b (peg_count b) count_size u.1 in
      let l : List Peg = pegs_at (peg_count b) b count_size in
      let count : length l ≡ peg_count b = slots_count b in
      let number : Occurs (bytes_of count_size (length l)) b 0 =
      subst (λ (v : ℕ). Occurs (bytes_of count_size v) b 0) (sym count) (number_occurs count_size b 0 refl bytes (omega arith)) in
      let written : Occurs (bytes_of count_size (length l) ++ joined (map peg_bytes l)) b 0 =
      occurs_append (bytes_of count_size (length l)) (joined (map peg_bytes l)) b 0 count_size (omega (arith, bytes_length count_size (length l))) number
      (rows_occur b bytes (peg_count b) count_size (omega arith) r) in
      both_yes _ _
      (both_yes _ _ (le_yes _ _ (omega (arith, count))) (both_yes _ _ (rows_fit b bytes (peg_count b) count_size (omega arith) r) (rows_rise b (peg_count b) count_size r)))
      (ap (λ (x : List ℕ). same x b) (over_same (bytes_of count_size (length l) ++ joined (map peg_bytes l)) b written) ∙ same_yes b)

  reads_holds : register_reads b ≡ true → Holds b
  unfolding register_number register_short
  reads_holds t = number_zero b (sym (pick_no (length b <? register_length) 0 7 _ (lt_no _ _ long) (pick_yes (register_reads b) 0 0 8 t refl)))

  reads_checks : register_reads b ≡ true → checks b ≡ true
  unfolding checks formed
  reads_checks t =
      let h = reads_holds t in
      let few = count_most b h in
      let rises = (and_holds _ _ (and_holds _ _ h.formed).1).1 in
      both_yes _ _ (le_yes _ _ few)
      (rows_slots b (peg_count b) count_size
      (record {
        slots = λ k l. named_slot b _ (occurs_named b (count_size + peg_size * k) (omega arith) (slot_range b h k l) (slot_occurs b h k l));
        order = λ k l. rising_at (pegs_in b) rises k _ _ (slot_at_lem b k (omega arith)) (slot_at_lem b (suc k) l);
      }))

  pub reads_are_checks : register_reads b ≡ checks b
  reads_are_checks = same_truth (register_reads b) (checks b) reads_checks checks_read
