-- The laws of a register's image over the bytes of its buffer.
use Prim.Native.Nat.{ℕ, ◌+◌, ◌*◌, ◌≤◌, ◌<◌}
use mathlib.Core.Path.{◌≡◌, refl, sym, ap, subst, ◌∙◌}
use mathlib.Core.Bool.{Bool, true, false}
use mathlib.Core.List.{List, ◌++◌, map}
use mathlib.Core.Option.{none, some}
use native.Mathlib.Omega.{arith}
use lib.ListN.{length, drop, length-append}
use lib.Seq.{take_at}
use Rattle.base.specs.Tests.{◌<?◌, pick}
use Rattle.base.specs.Bytes.{bytes_of, joined, over}
use Rattle.base.specs.Lists.{same, at, Each}
use Rattle.base.proofs.AtLaws.{none_some, some_same}
use Rattle.base.proofs.BytesLaws.{bytes_length}
use Rattle.base.proofs.ListLaws.{all_each, each_at}
use Rattle.base.proofs.Occurs.{Occurs, occurs_whole, occurs_first, occurs_second, number_read}
use Rattle.base.proofs.SameLaws.{same_yes, same_holds}
use Rattle.base.proofs.TestLaws.{lt_no, lt_fails, and_holds, both_yes, pick_yes, pick_no}
use Rattle.base.proofs.Over.{over_length, over_again}
use Rattle.pegs.specs.Operations.{Peg}
use Rattle.pegs.specs.Register.{most_pegs}
use Rattle.pegs.specs.Image.{count_size, peg_size, register_length, peg_bytes, register_bytes, register_image, peg_at, pegs_at, peg_count, pegs_in, peg_fits, formed, register_reads, read_register, used_in}
use Rattle.pegs.specs.Outcome.{register_short, register_number}
use Rattle.pegs.proofs.Places.{formed_most, formed_all}
use Rattle.pegs.proofs.PegLaws.{PegRange, peg_range, pegs_length, pegs_read, pegs_occur, pegs_count, pegs_at_lem}

pub formed_range : (l : List Peg) → formed l ≡ true → Each PegRange l
formed_range l ok = all_each peg_fits PegRange peg_range l (formed_all l ok)

pub bytes_used : (l : List Peg) → formed l ≡ true → length (register_bytes l) ≡ count_size + peg_size * length l
unfolding register_bytes joined
bytes_used l ok =
    length-append (bytes_of count_size (length l)) (joined (map peg_bytes l))
    ∙ omega (arith, bytes_length count_size (length l), pegs_length l (formed_range l ok))

pub used_fits : (l : List Peg) → formed l ≡ true → length (register_bytes l) ≤ register_length
used_fits l ok = omega (arith, bytes_used l ok, formed_most l ok)

-- ---- a register where its bytes occur

module _ (l : List Peg) (b : List ℕ) (ok : formed l ≡ true) (o : Occurs (register_bytes l) b 0) where
  pub count_read : peg_count b ≡ length l
  unfolding register_bytes joined
  count_read =
      number_read count_size 0 (occurs_first (bytes_of count_size (length l)) (joined (map peg_bytes l)) b 0 o) refl
      (omega (arith, formed_most l ok))

  pub register_occurs : pegs_in b ≡ l
  unfolding pegs_in register_bytes joined
  register_occurs =
      let second : Occurs (joined (map peg_bytes l)) b count_size =
      occurs_second (bytes_of count_size (length l)) (joined (map peg_bytes l)) b 0 count_size (omega (arith, bytes_length count_size (length l))) o in
      ap (λ (m : ℕ). pegs_at m b count_size) count_read ∙ pegs_read l b count_size (formed_range l ok) second

-- ---- the image

module _ (l : List Peg) (old : List ℕ) (ok : formed l ≡ true) (h : register_length ≤ length old) where
  pub image_length : length (register_image l old) ≡ length old
  unfolding register_image
  image_length = over_length (register_bytes l) old (omega (arith, used_fits l ok))

  image_occurs : Occurs (register_bytes l) (register_image l old) 0
  unfolding register_image over
  image_occurs =
      occurs_first (register_bytes l) (drop (length (register_bytes l)) old) (register_bytes l ++ drop (length (register_bytes l)) old) 0 (occurs_whole _)

  pub pegs_image : pegs_in (register_image l old) ≡ l
  pegs_image = register_occurs l (register_image l old) ok image_occurs

  pub count_image : peg_count (register_image l old) ≡ length l
  count_image = count_read l (register_image l old) ok image_occurs

  pub image_again : register_image l (register_image l old) ≡ register_image l old
  unfolding register_image
  image_again = over_again (register_bytes l) old

  pub image_reads : register_reads (register_image l old) ≡ true
  unfolding register_reads
  image_reads =
      let again : register_image (pegs_in (register_image l old)) (register_image l old) ≡ register_image l old =
      ap (λ (k : List Peg). register_image k (register_image l old)) pegs_image ∙ image_again in
      both_yes _ _ (ap formed pegs_image ∙ ok) (ap (λ (c : List ℕ). same c (register_image l old)) again ∙ same_yes (register_image l old))

  pub register_read : read_register (register_image l old) ≡ some l
  unfolding read_register
  register_read = sym (pick_yes (register_reads (register_image l old)) (some l) _ _ image_reads (ap some (sym pegs_image)))

  pub image_number_lem : register_number (register_image l old) ≡ 0
  unfolding register_number register_short
  image_number_lem =
      sym (pick_no (length (register_image l old) <? register_length) 0 7 _ (lt_no _ _ (omega (arith, image_length)))
      (pick_yes (register_reads (register_image l old)) 0 0 8 image_reads refl))

  pub image_used : used_in (register_image l old) ≡ register_bytes l
  unfolding used_in register_image over
  image_used =
      take_at (register_bytes l) (drop (length (register_bytes l)) old) (count_size + peg_size * peg_count (register_image l old))
      (omega (arith, bytes_used l ok, count_image))

-- ---- what is read

read_some : (t : Bool) (x l : List Peg) → pick t (some x) none ≡ some l → (t ≡ true) × (x ≡ l)
unfolding pick
read_some true x l h = (refl, some_same h)
read_some false x l h = none_some h

pub read_register_lem : (b : List ℕ) (l : List Peg) → read_register b ≡ some l → (register_image l b ≡ b) × (formed l ≡ true) × (l ≡ pegs_in b)
unfolding read_register register_reads
read_register_lem b l h =
    let r = read_some (register_reads b) (pegs_in b) l h in
    let t = and_holds _ _ r.0 in
    let written : register_image (pegs_in b) b ≡ b = same_holds _ b t.1 in
    (ap (λ (x : List Peg). register_image x b) (sym r.1) ∙ written, ap formed (sym r.1) ∙ t.0, sym r.1)

-- A buffer that is long enough and holds a register.
pub record Holds (b : List ℕ) : Type 0 where
  pub long : register_length ≤ length b
  pub reads : register_reads b ≡ true
  pub formed : formed (pegs_in b) ≡ true
  pub image : register_image (pegs_in b) b ≡ b
  pub read : read_register b ≡ some (pegs_in b)

long_reads : (s t : Bool) → ◌≡◌ {A = ℕ} (pick s 7 (pick t 0 8)) 0 → (s ≡ false) × (t ≡ true)
unfolding pick
long_reads true t h = absurd (omega (arith, h))
long_reads false true h = (refl, refl)
long_reads false false h = absurd (omega (arith, h))

pub number_zero : (b : List ℕ) → register_number b ≡ 0 → Holds b
unfolding register_number register_short register_reads read_register
number_zero b h =
    let z = long_reads (length b <? register_length) (register_reads b) h in
    let t = and_holds _ _ z.1 in
    record {
      long = lt_fails _ _ z.0;
      reads = z.1;
      formed = t.0;
      image = same_holds _ b t.1;
      read = sym (pick_yes (register_reads b) _ (some (pegs_in b)) none z.1 refl);
    }

-- ---- slots

pub slots_count : (b : List ℕ) → length (pegs_in b) ≡ peg_count b
unfolding pegs_in
slots_count b = pegs_count (peg_count b) b count_size

pub slot_at_lem : (b : List ℕ) (k : ℕ) → k < peg_count b → at (pegs_in b) k ≡ some (peg_at b (count_size + peg_size * k))
unfolding pegs_in
slot_at_lem b k h = pegs_at_lem (peg_count b) b count_size k h

-- ---- a buffer that holds a register

module _ (b : List ℕ) (h : Holds b) where
  pub used_is : used_in b ≡ register_bytes (pegs_in b)
  used_is = ap used_in (sym h.image) ∙ image_used (pegs_in b) b h.formed h.long

  pub used_occurs : Occurs (register_bytes (pegs_in b)) b 0
  unfolding register_image over
  used_occurs = subst (λ (c : List ℕ). Occurs (register_bytes (pegs_in b)) c 0) h.image (image_occurs (pegs_in b) b h.formed h.long)

  pub count_most : peg_count b ≤ most_pegs
  count_most = omega (arith, slots_count b, formed_most (pegs_in b) h.formed)

  -- Every slot holds the bytes of its peg.
  pub slot_occurs : (k : ℕ) → k < peg_count b → Occurs (peg_bytes (peg_at b (count_size + peg_size * k))) b (count_size + peg_size * k)
  unfolding register_bytes joined
  slot_occurs k l =
      let second : Occurs (joined (map peg_bytes (pegs_in b))) b count_size =
      occurs_second (bytes_of count_size (length (pegs_in b))) (joined (map peg_bytes (pegs_in b))) b 0 count_size
      (omega (arith, bytes_length count_size (length (pegs_in b)))) used_occurs in
      pegs_occur (pegs_in b) b count_size k (peg_at b (count_size + peg_size * k)) (formed_range (pegs_in b) h.formed) second (slot_at_lem b k l)

  pub slot_range : (k : ℕ) → k < peg_count b → PegRange (peg_at b (count_size + peg_size * k))
  slot_range k l = each_at PegRange (pegs_in b) k (peg_at b (count_size + peg_size * k)) (formed_range (pegs_in b) h.formed) (slot_at_lem b k l)
