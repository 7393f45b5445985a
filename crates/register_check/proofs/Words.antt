-- The order of names by words: filled up with zeros, two names are in the order of their numbers, and where these are equal in that of their lengths.
use Prim.Native.Nat.{ℕ, zero, suc, ◌+◌, ◌*◌, ◌-◌, ◌≤◌, ◌<◌}
use mathlib.Core.Path.{◌≡◌, refl, sym, ap, ap₂, ◌∙◌}
use mathlib.Core.Bool.{Bool, true, false}
use mathlib.Core.List.{List, [], ◌∷◌, ◌++◌}
use native.Mathlib.Omega.{arith}
use lib.ListN.{length, get_or, take, drop, length-drop}
use lib.Seq.{take-suc, get_or-drop}
use Rattle.base.specs.Tests.{◌and◌, ◌or◌, ◌<?◌, ◌=?◌, pick}
use Rattle.base.specs.Bytes.{Bytes, bytes_of, number_at, part_at, zeros, slot}
use Rattle.base.specs.Lists.{same}
use Rattle.base.proofs.TestLaws.{Known, known, holds, fails, lt_yes, lt_no, lt_holds, lt_fails, eq_yes, eq_holds, eq_fails}
use Rattle.base.proofs.Branches.{same_truth}
use Rattle.base.proofs.SameLaws.{same_yes, same_holds}
use Rattle.base.proofs.BytesLaws.{part_length, bytes_number, number_part}
use Rattle.base.proofs.Over.{slot_length}
use Rattle.pegs.specs.Names.{before}

-- By the first parts, and where these are the same by t.
unfoldable pub further : List ℕ → List ℕ → Bool → Bool
further x y t = pick (same x y) t (before x y)

-- By the first numbers, and where these are equal by t.
unfoldable pub ranked : ℕ → ℕ → Bool → Bool
ranked m n t = pick (m =? n) t (m <? n)

further_none : (t : Bool) → further [] [] t ≡ t
unfolding further pick same
further_none t = refl

further_same : (x : List ℕ) (t : Bool) → further x x t ≡ t
unfolding further pick
further_same x t = rw (same_yes x)

further_first : (a b : ℕ) (x y : List ℕ) (t : Bool) → further (a ∷ x) (b ∷ y) t ≡ ranked a b (further x y t)
unfolding further ranked pick same before ◌and◌ ◌or◌
further_first a b x y t = go (known (a =? b)) (known (a <? b))
  where
    go : Known (a =? b) → Known (a <? b) → further (a ∷ x) (b ∷ y) t ≡ ranked a b (further x y t)
    go (holds e) (holds l) = absurd (omega (arith, eq_holds a b e, lt_holds a b l))
    go (holds e) (fails l) = rw (e, l)
    go (fails e) (holds l) = rw (e, l)
    go (fails e) (fails l) = rw (e, l)

before_first : (a b : ℕ) (x y : List ℕ) → before (a ∷ x) (b ∷ y) ≡ ranked a b (before x y)
unfolding ranked pick before ◌and◌ ◌or◌
before_first a b x y = go (known (a =? b)) (known (a <? b))
  where
    go : Known (a =? b) → Known (a <? b) → before (a ∷ x) (b ∷ y) ≡ ranked a b (before x y)
    go (holds e) (holds l) = absurd (omega (arith, eq_holds a b e, lt_holds a b l))
    go (holds e) (fails l) = rw (e, l)
    go (fails e) (holds l) = rw (e, l)
    go (fails e) (fails l) = rw (e, l)

-- ---- one part behind another

pub before_append : (x y u v : List ℕ) → length x ≡ length y → before (x ++ u) (y ++ v) ≡ further x y (before u v)
unfolding further pick same
before_append [] [] u v h = refl
before_append [] (b ∷ y) u v h = absurd (omega arith)
before_append (a ∷ x) [] u v h = absurd (omega arith)
before_append (a ∷ x) (b ∷ y) u v h =
    before_first a b (x ++ u) (y ++ v)
    ∙ ap (ranked a b) (before_append x y u v (omega arith))
    ∙ sym (further_first a b x y (before u v))

pub further_append : (x y u v : List ℕ) (t : Bool) → length x ≡ length y → further (x ++ u) (y ++ v) t ≡ further x y (further u v t)
further_append [] [] u v t h = sym (further_none (further u v t))
further_append [] (b ∷ y) u v t h = absurd (omega arith)
further_append (a ∷ x) [] u v t h = absurd (omega arith)
further_append (a ∷ x) (b ∷ y) u v t h =
    further_first a b (x ++ u) (y ++ v) t
    ∙ ap (ranked a b) (further_append x y u v t (omega arith))
    ∙ sym (further_first a b x y (further u v t))

-- ---- filled up with zeros

-- Zeros stand before all that is as long, and nothing before them.
least : (n : ℕ) (l : List ℕ) (t : Bool) → length l ≡ n → t ≡ true → further (zeros n) l t ≡ true
unfolding zeros ranked pick
least zero [] t h e = further_none t ∙ e
least zero (c ∷ l) t h e = absurd (omega arith)
least (suc n) [] t h e = absurd (omega arith)
least (suc n) (c ∷ l) t h e = further_first 0 c (zeros n) l t ∙ go (known (0 =? c)) (least n l t (omega arith) e)
  where
    go : Known (0 =? c) → further (zeros n) l t ≡ true → ranked 0 c (further (zeros n) l t) ≡ true
    go (holds f) i = rw f i
    go (fails f) i = let z = eq_fails 0 c f in rw f (lt_yes 0 c (omega arith))

greatest : (n : ℕ) (l : List ℕ) (t : Bool) → length l ≡ n → t ≡ false → further l (zeros n) t ≡ false
unfolding zeros ranked pick
greatest zero [] t h e = further_none t ∙ e
greatest zero (c ∷ l) t h e = absurd (omega arith)
greatest (suc n) [] t h e = absurd (omega arith)
greatest (suc n) (c ∷ l) t h e = further_first c 0 l (zeros n) t ∙ go (known (c =? 0)) (greatest n l t (omega arith) e)
  where
    go : Known (c =? 0) → further l (zeros n) t ≡ false → ranked c 0 (further l (zeros n) t) ≡ false
    go (holds f) i = rw f i
    go (fails f) i = rw f (lt_no c 0 (omega arith))

slot_none : (n : ℕ) → slot n [] ≡ zeros n
unfolding slot
slot_none n = let e : n - 0 ≡ n = omega arith in ap zeros e

slot_cons : (n a : ℕ) (u : List ℕ) → slot (suc n) (a ∷ u) ≡ a ∷ slot n u
unfolding slot
slot_cons n a u = let e : suc n - length (a ∷ u) ≡ n - length u = omega arith in ap (λ (m : ℕ). a ∷ (u ++ zeros m)) e

pub before_filled : (n : ℕ) (u v : List ℕ) → length u ≤ n → length v ≤ n → before u v ≡ further (slot n u) (slot n v) (length u <? length v)
unfolding before
before_filled n [] [] h k = sym (further_same (slot n []) (0 <? 0) ∙ lt_no 0 0 (omega arith))
before_filled n [] (b ∷ v) h k = rw (slot_none n) (sym (least n (slot n (b ∷ v)) (0 <? length (b ∷ v)) (slot_length n (b ∷ v) k) (lt_yes 0 (length (b ∷ v)) (omega arith))))
before_filled n (a ∷ u) [] h k = rw (slot_none n) (sym (greatest n (slot n (a ∷ u)) (length (a ∷ u) <? 0) (slot_length n (a ∷ u) h) (lt_no (length (a ∷ u)) 0 (omega arith))))
before_filled zero (a ∷ u) (b ∷ v) h k = absurd (omega arith)
before_filled (suc n) (a ∷ u) (b ∷ v) h k =
    before_first a b u v
    ∙ ap (ranked a b) (before_filled n u v (omega arith) (omega arith))
    ∙ sym (further_first a b (slot n u) (slot n v) (length u <? length v))
    ∙ rw (slot_cons n a u, slot_cons n b v) (ap (further (a ∷ slot n u) (b ∷ slot n v)) (shorter (known (length u <? length v))))
  where
    shorter : Known (length u <? length v) → (length u <? length v) ≡ (length (a ∷ u) <? length (b ∷ v))
    shorter (holds l) = l ∙ sym (lt_yes _ _ (omega (arith, lt_holds (length u) (length v) l)))
    shorter (fails l) = l ∙ sym (lt_no _ _ (omega (arith, lt_fails (length u) (length v) l)))

-- ---- numbers

pub same_number : (w : ℕ) (e : List ℕ) (p q : ℕ) → Bytes e → p + w ≤ length e → q + w ≤ length e → same (part_at w e p) (part_at w e q) ≡ (number_at w e p =? number_at w e q)
same_number w e p q b h k = same_truth _ _ there back
  where
    there : same (part_at w e p) (part_at w e q) ≡ true → (number_at w e p =? number_at w e q) ≡ true
    there s =
        eq_yes _ _
        (sym (number_part w e p w (omega arith)) ∙ ap (λ (x : List ℕ). number_at w x 0) (same_holds _ _ s) ∙ number_part w e q w (omega arith))

    back : (number_at w e p =? number_at w e q) ≡ true → same (part_at w e p) (part_at w e q) ≡ true
    back s =
        let f : part_at w e p ≡ part_at w e q = sym (bytes_number w e p b h) ∙ ap (bytes_of w) (eq_holds _ _ s) ∙ bytes_number w e q b k in
        ap (same (part_at w e p)) (sym f) ∙ same_yes (part_at w e p)

part_last : (w : ℕ) (e : List ℕ) (p : ℕ) → p + suc w ≤ length e → part_at (suc w) e p ≡ part_at w e p ++ (get_or e (p + w) 0 ∷ [])
unfolding part_at
part_last w e p h = take-suc (drop p e) w 0 (omega (arith, length-drop p e)) ∙ ap (λ (x : ℕ). take w (drop p e) ++ (x ∷ [])) (get_or-drop p e w 0)

one_byte : (a b : ℕ) → before (a ∷ []) (b ∷ []) ≡ (a <? b)
unfolding before ◌or◌ ◌and◌
one_byte a b = go (known (a <? b)) (known (a =? b))
  where
    go : Known (a <? b) → Known (a =? b) → before (a ∷ []) (b ∷ []) ≡ (a <? b)
    go (holds l) e = rw l
    go (fails l) (holds e) = rw (l, e)
    go (fails l) (fails e) = rw (l, e)

none_before : (e : List ℕ) (p q : ℕ) → before (part_at 0 e p) (part_at 0 e q) ≡ false
unfolding before part_at
none_before e p q = refl

ranked_byte : (m n a b : ℕ) → a < 256 → b < 256 → ranked m n (a <? b) ≡ (m * 256 + a <? n * 256 + b)
unfolding ranked pick
ranked_byte m n a b h k = go (known (m =? n)) (known (m <? n)) (known (a <? b))
  where
    go : Known (m =? n) → Known (m <? n) → Known (a <? b) → ranked m n (a <? b) ≡ (m * 256 + a <? n * 256 + b)
    go (holds e) l (holds f) = let z = eq_holds m n e in rw e (f ∙ sym (lt_yes _ _ (omega (arith, lt_holds a b f))))
    go (holds e) l (fails f) = let z = eq_holds m n e in rw e (f ∙ sym (lt_no _ _ (omega (arith, lt_fails a b f))))
    go (fails e) (holds l) f = rw e (l ∙ sym (lt_yes _ _ (omega (arith, lt_holds m n l))))
    go (fails e) (fails l) f = let z = eq_fails m n e in rw e (l ∙ sym (lt_no _ _ (omega (arith, lt_fails m n l))))

pub before_number : (w : ℕ) (e : List ℕ) (p q : ℕ) → Bytes e → p + w ≤ length e → q + w ≤ length e → before (part_at w e p) (part_at w e q) ≡ (number_at w e p <? number_at w e q)
unfolding number_at further ranked
before_number zero e p q b h k = none_before e p q ∙ sym (lt_no 0 0 (omega arith))
before_number (suc w) e p q b h k =
    ap₂ {A = List ℕ} {B = List ℕ} {C = Bool} before (part_last w e p h) (part_last w e q k)
    ∙ before_append (part_at w e p) (part_at w e q) _ _ (part_length w e p (omega arith) ∙ sym (part_length w e q (omega arith)))
    ∙ ap (further (part_at w e p) (part_at w e q)) (one_byte (get_or e (p + w) 0) (get_or e (q + w) 0))
    ∙ ap₂ {A = Bool} {B = Bool} {C = Bool} (λ s l. pick s (get_or e (p + w) 0 <? get_or e (q + w) 0) l) (same_number w e p q b (omega arith) (omega arith))
    (before_number w e p q b (omega arith) (omega arith))
    ∙ ranked_byte (number_at w e p) (number_at w e q) (get_or e (p + w) 0) (get_or e (q + w) 0) (b (p + w)) (b (q + w))

pub further_number : (w : ℕ) (e : List ℕ) (p q : ℕ) (t : Bool) → Bytes e → p + w ≤ length e → q + w ≤ length e
    → further (part_at w e p) (part_at w e q) t ≡ ranked (number_at w e p) (number_at w e q) t
unfolding further ranked
further_number w e p q t b h k =
    ap₂ {A = Bool} {B = Bool} {C = Bool} (λ s l. pick s t l) (same_number w e p q b h k) (before_number w e p q b h k)
