-- What each return of the form check is worth.
use Prim.Native.Nat.{ℕ, ◌+◌, ◌*◌, ◌-◌, ◌≤◌, ◌<◌}
use mathlib.Core.Path.{◌≡◌, refl, sym, ap, ap₂, subst, ◌∙◌}
use mathlib.Core.Bool.{Bool, true, false, not}
use mathlib.Core.List.{List, ◌++◌}
use native.Mathlib.Omega.{arith}
use borrow.Author.Tests.{not-true, not-false, ne_eqb, le-leb, lt-leb}
use lib.Dec.{eqb, leb, ltb}
use lib.ListN.{length}
use Rattle.base.specs.Tests.{◌≤?◌, ◌<?◌, ◌=?◌, pick}
use Rattle.base.specs.Bytes.{Bytes, number_at, part_at, slot, zero_at}
use Rattle.base.specs.Lists.{every_at, same}
use Rattle.base.proofs.TestLaws.{Known, known, holds, fails, and_holds, and_yes, and_no, le_yes, le_no, le_holds, lt_yes, lt_no, eq_yes, eq_no, eq_holds, eq_fails, pick_yes, pick_no}
use Rattle.base.proofs.Branches.{told_lt, told_eq}
use Rattle.base.proofs.BytesLaws.{part_length, part_append}
use Rattle.pegs.specs.Names.{before}
use Rattle.pegs.specs.Operations.{most_name, name_fits}
use Rattle.pegs.specs.Register.{most_pegs}
use Rattle.pegs.specs.Image.{count_size, at_slot_name, peg_size, register_length, peg_at, peg_count, register_reads}
use Rattle.base.proofs.Entries.{every_again, every_denied, every_end}
use Rattle.pegs.specs.Outcome.{register_short, register_number}
use Rattle.register_check.specs.Slots.{word_size, name_words, long_size, filled_at, slot_reads, next_reads, slots_read, checks, Tested}
use Rattle.register_check.proofs.Filled.{Zeros, every_zeros, zeros_every, number_zeros, zeros_number, inside, together}
use Rattle.register_check.proofs.Checked.{slot_named, named_length, named_part}
use Rattle.register_check.proofs.ReadsLaw.{reads_are_checks}
use Rattle.register_check.proofs.Words.{further, ranked, further_append, further_number, before_filled}

-- ---- two names by words

nothing_further : (b : List ℕ) (p q : ℕ) (t : Bool) → further (part_at 0 b p) (part_at 0 b q) t ≡ t
unfolding further pick same part_at
nothing_further b p q t = refl

-- What is left of both names behind j words, and at the end their lengths, decides.
abbrev left_at : List ℕ → (p j : ℕ) → List ℕ
left_at b p j = part_at (most_name - word_size * j) b (p + at_slot_name + word_size * j)

pub record RisesFrom (b : List ℕ) (p q j : ℕ) : Type 0 where
  pub left : before (peg_at b p).name (peg_at b q).name ≡ further (left_at b p j) (left_at b q j) (number_at 1 b p <? number_at 1 b q)

slot_left : (b : List ℕ) (p : ℕ) → Tested b p → slot most_name (peg_at b p).name ≡ left_at b p 0
slot_left b p t =
    let e : p + at_slot_name ≡ p + at_slot_name + word_size * 0 = omega arith in
    sym (named_part b p t.room (slot_named b p t.reads)) ∙ ap (part_at most_name b) e

next_left : (b : List ℕ) (p j : ℕ) → j < name_words → left_at b p j ≡ part_at word_size b (p + at_slot_name + word_size * j) ++ left_at b p (j + 1)
next_left b p j h =
    let e : most_name - word_size * j ≡ word_size + (most_name - word_size * (j + 1)) = omega arith in
    let f : p + at_slot_name + word_size * j + word_size ≡ p + at_slot_name + word_size * (j + 1) = omega arith in
    ap (λ (m : ℕ). part_at m b (p + at_slot_name + word_size * j)) e
    ∙ part_append word_size (most_name - word_size * (j + 1)) b (p + at_slot_name + word_size * j)
    ∙ ap (λ (i : ℕ). part_at word_size b (p + at_slot_name + word_size * j) ++ part_at (most_name - word_size * (j + 1)) b i) f

module _ (b : List ℕ) (p q : ℕ) (s : Tested b p) (t : Tested b q) where
  pub rises_start : RisesFrom b p q 0
  rises_start =
      let n = slot_named b p s.reads in
      let m = slot_named b q t.reads in
      let k = named_length b p s.room n in
      let l = named_length b q t.room m in
      record {
        left =
            before_filled most_name (peg_at b p).name (peg_at b q).name (omega (arith, k, n.most)) (omega (arith, l, m.most))
            ∙ rw (slot_left b p s, slot_left b q t, k, l);
      }

  module _ (j x y : ℕ) (h : j < name_words) (e : x ≡ number_at word_size b (p + at_slot_name + word_size * j)) (f : y ≡ number_at word_size b (q + at_slot_name + word_size * j))
      (r : RisesFrom b p q j) where
    by_word : before (peg_at b p).name (peg_at b q).name ≡ ranked x y (further (left_at b p (j + 1)) (left_at b q (j + 1)) (number_at 1 b p <? number_at 1 b q))
    by_word =
        let u : p + at_slot_name + word_size * j + word_size ≤ length b = omega (arith, s.room) in
        let v : q + at_slot_name + word_size * j + word_size ≤ length b = omega (arith, t.room) in
        r.left
        ∙ ap₂ {A = List ℕ} {B = List ℕ} {C = Bool} (λ c d. further c d (number_at 1 b p <? number_at 1 b q)) (next_left b p j h) (next_left b q j h)
        ∙ further_append _ _ (left_at b p (j + 1)) (left_at b q (j + 1)) _ (part_length word_size b _ u ∙ sym (part_length word_size b _ v))
        ∙ further_number word_size b _ _ _ s.bytes u v
        ∙ ap₂ {A = ℕ} {B = ℕ} {C = Bool} (λ c d. ranked c d (further (left_at b p (j + 1)) (left_at b q (j + 1)) (number_at 1 b p <? number_at 1 b q))) (sym e) (sym f)

    pub word_other : (x ≡ y → ⊥) → ltb x y ≡ before (peg_at b p).name (peg_at b q).name
    unfolding ranked pick
    word_other n = told_lt x y ∙ sym (by_word ∙ rw (eq_no x y n))

    pub word_equal : x ≡ y → RisesFrom b p q (j + 1)
    unfolding ranked pick
    word_equal z = record { left = by_word ∙ rw (eq_yes x y z) }

pub words_end : (b : List ℕ) (p q j x y : ℕ) → RisesFrom b p q j → name_words ≤ j → x ≡ number_at 1 b p → y ≡ number_at 1 b q
    → ltb x y ≡ before (peg_at b p).name (peg_at b q).name
words_end b p q j x y r k e f =
    let m : most_name - word_size * j ≡ 0 = omega arith in
    told_lt x y
    ∙ ap₂ {A = ℕ} {B = ℕ} {C = Bool} (λ c d. c <? d) e f
    ∙ sym (r.left ∙ none_left m)
  where
    none_left : most_name - word_size * j ≡ 0 → further (left_at b p j) (left_at b q j) (number_at 1 b p <? number_at 1 b q) ≡ (number_at 1 b p <? number_at 1 b q)
    none_left m = rw m (nothing_further b _ _ _)

-- ---- the filling

-- The filling is not zero where a word of it is not.
not_filled : (b : List ℕ) (m p n d : ℕ) → d + n ≤ m → (number_at n b (p + d) ≡ 0 → ⊥) → false ≡ every_at (zero_at b) 1 m p
not_filled b m p n d h f = go (known (every_at (zero_at b) 1 m p))
  where
    go : Known (every_at (zero_at b) 1 m p) → false ≡ every_at (zero_at b) 1 m p
    go (holds z) = absurd (f (zeros_number b n (p + d) (inside b m p n d h (every_zeros b m p z))))
    go (fails z) = sym z

-- The first w bytes of it, x, and the last, y.
module _ (w : ℕ) (b : List ℕ) (p k x : ℕ) (h : k + w ≤ most_name) (e : x ≡ number_at w b (p + k)) where
  pub first_filled : (x ≡ 0 → ⊥) → false ≡ every_at (zero_at b) 1 (most_name - k) (p + k)
  first_filled f =
      let z : p + k + 0 ≡ p + k = omega arith in
      not_filled b (most_name - k) (p + k) w 0 (omega arith) (λ n. f (e ∙ ap (number_at w b) (sym z) ∙ n))

  pub first_other : (x ≡ 0 → ⊥) → eqb x 0 ≡ every_at (zero_at b) 1 (most_name - k) (p + k)
  first_other f = ne_eqb x 0 f ∙ first_filled f

  module _ (y : ℕ) (g : y ≡ number_at w b (p + (most_name - w))) where
    last_place : p + k + (most_name - w - k) ≡ p + (most_name - w)
    last_place = omega arith

    pub last_filled : (y ≡ 0 → ⊥) → false ≡ every_at (zero_at b) 1 (most_name - k) (p + k)
    last_filled f =
        not_filled b (most_name - k) (p + k) w (most_name - w - k) (omega arith) (λ n. f (g ∙ ap (number_at w b) (sym last_place) ∙ n))

    pub last_other : (y ≡ 0 → ⊥) → eqb y 0 ≡ every_at (zero_at b) 1 (most_name - k) (p + k)
    last_other f = ne_eqb y 0 f ∙ last_filled f

    module _ (zx : x ≡ 0) where
      first : Zeros b w (p + k)
      first = number_zeros b w (p + k) (sym e ∙ zx)

      last : y ≡ 0 → Zeros b w (p + k + (most_name - w - k))
      last zy = subst (Zeros b w) (sym last_place) (number_zeros b w (p + (most_name - w)) (sym g ∙ zy))

      pub both_filled : y ≡ 0 → most_name < k + 2 * w → true ≡ every_at (zero_at b) 1 (most_name - k) (p + k)
      both_filled zy l =
          sym (zeros_every b (most_name - k) (p + k) (together b (most_name - k) (p + k) w w (most_name - w - k) (omega arith) (omega arith) first (last zy)))

      pub ends_filled : most_name < k + 2 * w → eqb y 0 ≡ every_at (zero_at b) 1 (most_name - k) (p + k)
      ends_filled l = told_eq y 0 ∙ go (known (y =? 0))
        where
          go : Known (y =? 0) → (y =? 0) ≡ every_at (zero_at b) 1 (most_name - k) (p + k)
          go (holds n) = n ∙ both_filled (eq_holds y 0 n) l
          go (fails n) = n ∙ last_filled (eq_fails y 0 n)

      middle_filled : (z : ℕ) → y ≡ 0 → k + 2 * w ≤ most_name → most_name ≤ 3 * w → z ≡ number_at w b (p + k + w) → eqb z 0 ≡ every_at (zero_at b) 1 (most_name - k) (p + k)
      middle_filled z zy l m d = told_eq z 0 ∙ go (known (z =? 0))
        where
          go : Known (z =? 0) → (z =? 0) ≡ every_at (zero_at b) 1 (most_name - k) (p + k)
          go (holds n) =
              let middle : Zeros b w (p + k + w) = number_zeros b w (p + k + w) (sym d ∙ eq_holds z 0 n) in
              let two = together b (w + w) (p + k) w w w (omega arith) (omega arith) first middle in
              n ∙ sym (zeros_every b (most_name - k) (p + k) (together b (most_name - k) (p + k) (w + w) w (most_name - w - k) (omega arith) (omega arith) two (last zy)))
          go (fails n) =
              n ∙ not_filled b (most_name - k) (p + k) w w (omega arith) (λ f. eq_fails z 0 n (d ∙ f))

pub words_filled : (b : List ℕ) (p k x y z : ℕ) → k + 2 * long_size ≤ most_name → x ≡ number_at long_size b (p + k) → y ≡ number_at long_size b (p + (most_name - long_size))
    → z ≡ number_at long_size b (p + k + long_size) → x ≡ 0 → y ≡ 0 → eqb z 0 ≡ every_at (zero_at b) 1 (most_name - k) (p + k)
words_filled b p k x y z h e f g zx zy = middle_filled long_size b p k x (omega arith) e y f zx z zy h (omega arith) g

-- One byte is left, or none.
pub byte_filled : (b : List ℕ) (p k x : ℕ) → k < most_name → most_name < k + 2 → x ≡ number_at 1 b (p + k) → eqb x 0 ≡ every_at (zero_at b) 1 (most_name - k) (p + k)
byte_filled b p k x h l e = told_eq x 0 ∙ go (known (x =? 0))
  where
    there : x ≡ number_at 1 b (p + (most_name - 1))
    there = let m : most_name - 1 ≡ k = omega arith in e ∙ ap (λ (i : ℕ). number_at 1 b (p + i)) (sym m)

    go : Known (x =? 0) → (x =? 0) ≡ every_at (zero_at b) 1 (most_name - k) (p + k)
    go (holds n) = let z = eq_holds x 0 n in n ∙ both_filled 1 b p k x (omega arith) e x there z z l
    go (fails n) = n ∙ first_filled 1 b p k x (omega arith) e (eq_fails x 0 n)

pub none_filled : (b : List ℕ) (p k : ℕ) → most_name ≤ k → leb most_name k ≡ every_at (zero_at b) 1 (most_name - k) (p + k)
none_filled b p k h = le-leb most_name k h ∙ sym (zeros_every b (most_name - k) (p + k) (λ i l. absurd (omega arith)))

-- ---- one slot, and the next one

pub fits_most : (k : ℕ) (t : Bool) → t ≡ name_fits k → t ≡ true → k ≤ most_name
unfolding name_fits
fits_most k t e y = le_holds k most_name (and_holds (1 ≤? k) (k ≤? most_name) (sym e ∙ y)).1

module _ (b : List ℕ) (p k : ℕ) (e : k ≡ number_at 1 b p) where
  pub name_unfit : (t : Bool) → t ≡ name_fits k → t ≡ false → t ≡ slot_reads b p
  unfolding slot_reads
  name_unfit t f n = n ∙ and_no (name_fits (number_at 1 b p)) _ (sym (f ∙ ap name_fits e) ∙ n)

  pub name_filled : (t r : Bool) → t ≡ name_fits k → t ≡ true → r ≡ every_at (zero_at b) 1 (most_name - k) (p + at_slot_name + k) → r ≡ slot_reads b p
  unfolding slot_reads filled_at
  name_filled t r f y g =
      and_yes r (name_fits (number_at 1 b p)) _ (sym (f ∙ ap name_fits e) ∙ y)
      (g ∙ ap (λ (m : ℕ). every_at (zero_at b) 1 (most_name - m) (p + at_slot_name + m)) e)

pub tested : (b : List ℕ) (p : ℕ) (t : Bool) → Bytes b → p + peg_size ≤ length b → t ≡ slot_reads b p → not t ≡ false → Tested b p
tested b p t k h e f = record { bytes = k; room = h; reads = sym e ∙ not-false t f }

module _ (b : List ℕ) (p : ℕ) (t : Bool) (e : t ≡ slot_reads b (p + peg_size)) where
  pub tested_next : Tested b p → p + peg_size + peg_size ≤ length b → t ≡ true → Tested b (p + peg_size)
  tested_next s h f = record { bytes = s.bytes; room = h; reads = sym e ∙ f }

  pub next_denied : t ≡ false → t ≡ next_reads b p
  unfolding next_reads
  next_denied f = f ∙ and_no (slot_reads b (p + peg_size)) _ (sym e ∙ f)

  pub next_answered : (r : Bool) → t ≡ true → r ≡ before (peg_at b p).name (peg_at b (p + peg_size)).name → r ≡ next_reads b p
  unfolding next_reads
  next_answered r f h = and_yes r (slot_reads b (p + peg_size)) _ (sym e ∙ f) h

-- ---- all slots

-- The slot at p was tested, and what is left of the answer at p.
pub record SlotsFrom (b : List ℕ) (m left p : ℕ) : Type 0 where
  pub here : Tested b p
  pub room : p + peg_size + peg_size * left ≤ length b
  pub rest : slots_read b m count_size ≡ every_at (next_reads b) peg_size left p

-- The same, from the slot i on.
abbrev pub SlotsBehind : (b : List ℕ) (m i : ℕ) → Type 0
SlotsBehind b m i = SlotsFrom b m (m - 1 - i) (count_size + peg_size * i)

pub no_slots : (b : List ℕ) (m : ℕ) → m ≡ 0 → true ≡ slots_read b m count_size
unfolding slots_read
no_slots b m h = pick_yes (m =? 0) true true _ (eq_yes m 0 h) refl

module _ (b : List ℕ) (m : ℕ) (t : Bool) (l : m ≡ 0 → ⊥) (e : t ≡ slot_reads b count_size) where
  pub first_denied : not t ≡ true → false ≡ slots_read b m count_size
  unfolding slots_read
  first_denied f = pick_no (m =? 0) false true _ (eq_no m 0 l) (and_no (slot_reads b count_size) _ (sym e ∙ not-true t f))

  pub slots_start : Bytes b → count_size + peg_size * m ≤ length b → not t ≡ false → SlotsBehind b m 0
  unfolding slots_read
  slots_start k h f =
      let n : m - 1 ≡ m - 1 - 0 = omega arith in
      let p : count_size ≡ count_size + peg_size * 0 = omega arith in
      subst (λ (i : ℕ). SlotsFrom b m i (count_size + peg_size * 0)) n
      (subst (λ (i : ℕ). SlotsFrom b m (m - 1) i) p
      (record {
        here = tested b count_size t k (omega arith) e f;
        room = omega arith;
        rest = sym (pick_no (m =? 0) _ true _ (eq_no m 0 l) (and_yes _ (slot_reads b count_size) _ (sym e ∙ not-false t f) refl));
      }))

module _ (b : List ℕ) (m i : ℕ) (r : SlotsBehind b m i) where
  pub next_room : i < m - 1 → count_size + peg_size * i + peg_size + peg_size ≤ length b
  next_room l = omega (arith, r.room)

  pub slots_denied : (t : Bool) → i < m - 1 → t ≡ next_reads b (count_size + peg_size * i) → not t ≡ true → false ≡ slots_read b m count_size
  slots_denied t l e f =
      every_denied (next_reads b) peg_size (m - 1 - i) (count_size + peg_size * i) (slots_read b m count_size) t r.rest (omega arith) e f

  pub slots_again : (t : Bool) → i < m - 1 → t ≡ next_reads b (count_size + peg_size * i) → not t ≡ false → SlotsBehind b m (i + 1)
  unfolding next_reads
  slots_again t l e f =
      let n : m - 1 - i - 1 ≡ m - 1 - (i + 1) = omega arith in
      let p : count_size + peg_size * i + peg_size ≡ count_size + peg_size * (i + 1) = omega arith in
      subst (λ (j : ℕ). SlotsFrom b m j (count_size + peg_size * (i + 1))) n
      (subst (λ (j : ℕ). SlotsFrom b m (m - 1 - i - 1) j) p
      (record {
        here = record { bytes = r.here.bytes; room = next_room l; reads = (and_holds _ _ (sym e ∙ not-false t f)).0 };
        room = omega (arith, r.room);
        rest = every_again (next_reads b) peg_size (m - 1 - i) (count_size + peg_size * i) (slots_read b m count_size) t r.rest (omega arith) e f;
      }))

  pub slots_end : m - 1 ≤ i → true ≡ slots_read b m count_size
  slots_end l = every_end (next_reads b) peg_size (m - 1 - i) (count_size + peg_size * i) (slots_read b m count_size) r.rest (omega arith)

-- ---- the whole

module _ (b : List ℕ) (k : Bytes b) (h : register_length ≤ length b) (m : ℕ) (e : m ≡ peg_count b) where
  pub many_denied : most_pegs < m → leb m most_pegs ≡ register_reads b
  unfolding checks
  many_denied l = lt-leb m most_pegs l ∙ and_no (peg_count b ≤? most_pegs) _ (le_no _ most_pegs (rw e at l)) ∙ sym (reads_are_checks b k h)

  pub slots_answered : (r : Bool) → m ≤ most_pegs → r ≡ slots_read b m count_size → r ≡ register_reads b
  unfolding checks
  slots_answered r l f =
      and_yes r (peg_count b ≤? most_pegs) _ (le_yes _ most_pegs (rw e at l)) (f ∙ ap (λ (i : ℕ). slots_read b i count_size) e) ∙ sym (reads_are_checks b k h)

module _ (b : List ℕ) where
  pub number_seven : length b < register_length → 7 ≡ register_number b
  unfolding register_number register_short
  number_seven h = pick_yes (length b <? register_length) 7 7 _ (lt_yes _ _ h) refl

  module _ (t : Bool) (h : register_length ≤ length b) (e : t ≡ register_reads b) where
    pub number_eight : not t ≡ true → 8 ≡ register_number b
    unfolding register_number register_short
    number_eight f = pick_no (length b <? register_length) 8 7 _ (lt_no _ _ h) (pick_no (register_reads b) 8 0 8 (sym e ∙ not-true t f) refl)

    pub number_nought : not t ≡ false → 0 ≡ register_number b
    unfolding register_number register_short
    number_nought f = pick_no (length b <? register_length) 0 7 _ (lt_no _ _ h) (pick_yes (register_reads b) 0 0 8 (sym e ∙ not-false t f) refl)

-- ---- two words as one number

both_words : (e : List ℕ) (at : ℕ) → number_at long_size e at ≡ number_at 4 e at * 4294967296 + number_at 4 e (at + 4)
unfolding number_at
both_words e at =
    let a : at + 4 + 0 ≡ at + 4 = omega arith in
    let b : at + 4 + 1 ≡ at + 5 = omega arith in
    let c : at + 4 + 2 ≡ at + 6 = omega arith in
    let d : at + 4 + 3 ≡ at + 7 = omega arith in
    rw (a, b, c, d) (omega arith)

pub eight_read : (e : List ℕ) (at x y u v : ℕ) → x ≡ number_at 4 e at → y ≡ number_at 4 e (at + 4) → u ≡ x → v ≡ y → u * 4294967296 + v ≡ number_at long_size e at
eight_read e at x y u v h k i j = let z = both_words e at in omega arith
