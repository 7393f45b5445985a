-- Lists of which one begins the other.
use Prim.Native.Nat.{ℕ, zero, suc, ◌≤◌}
use mathlib.Core.Path.{◌≡◌, refl, sym, ap, subst, ◌∙◌}
use mathlib.Core.List.Memᴰ
use mathlib.Core.List.{List, [], ◌∷◌, ◌++◌, map, map-append, append_assoc, cons≢nil, head-eq_of_cons-eq, tail-eq_of_cons-eq, Memᴰ}
use mathlib.Core.Logic.{◌⊎◌, inl, inr}
use mathlib.Core.Option.{Option, none, some}
use native.Mathlib.Omega.{arith}
use native.Mathlib.Decide.{dec_le}
use lib.ListN.{length, take, drop, take-append-drop, length-append}
use lib.Seq.{take-append_seam, take_all}
use Rattle.base.specs.Lists.{at_front, gather, gather_all, Begins}
use Rattle.base.proofs.Prefixes.{begins_same, begins_append, begins_length}

-- One of x and y begins the other.
unfoldable pub Comparable : {A : Type 0} → List A → List A → Type 0
Comparable x y = Begins x y ⊎ Begins y x

module _ {A : Type 0} where
  -- ---- beginnings, element by element

  pub begins_nil : (y : List A) → Begins [] y
  unfolding Begins
  begins_nil y = (y, refl)

  pub begins_cons : (a b : A) (x y : List A) → a ≡ b → Begins x y → Begins (a ∷ x) (b ∷ y)
  unfolding Begins
  begins_cons a b x y e h = (h.0, λ j. sym e j ∷ h.1 j)

  pub begins_heads : (a b : A) (x y : List A) → Begins (a ∷ x) (b ∷ y) → a ≡ b
  unfolding Begins
  begins_heads a b x y h = sym (head-eq_of_cons-eq h.1)

  pub begins_tails : (a b : A) (x y : List A) → Begins (a ∷ x) (b ∷ y) → Begins x y
  unfolding Begins
  begins_tails a b x y h = (h.0, tail-eq_of_cons-eq h.1)

  pub begins_empty : (a : A) (x : List A) → Begins (a ∷ x) [] → ⊥
  unfolding Begins
  begins_empty a x h = cons≢nil (sym h.1)

  pub begins_member : (x y : List A) (a : A) → Begins x y → Memᴰ a x → Memᴰ a y
  unfolding Begins
  begins_member x y a h m = subst (Memᴰ a) (sym h.1) (Memᴰ.append_left h.0 m)

  -- Behind one and the same list.
  pub begins_behind : (g x y : List A) → Begins x y → Begins (g ++ x) (g ++ y)
  unfolding Begins
  begins_behind g x y h = (h.0, ap (λ z. g ++ z) h.1 ∙ sym (append_assoc g x h.0))

  -- The element that follows a beginning.
  pub next_member : (x y : List A) (a : A) → Begins (x ++ (a ∷ [])) y → Memᴰ a y
  next_member x y a h = begins_member (x ++ (a ∷ [])) y a h (Memᴰ.append_right x (Memᴰ.head refl))

  -- ---- the same list

  pub begins_same_length : (x y : List A) → Begins x y → length x ≡ length y → x ≡ y
  begins_same_length [] [] h e = refl
  begins_same_length [] (b ∷ y) h e = absurd (omega arith)
  begins_same_length (a ∷ x) [] h e = absurd (omega arith)
  begins_same_length (a ∷ x) (b ∷ y) h e =
      let first = begins_heads a b x y h in
      let rest = begins_same_length x y (begins_tails a b x y h) (omega arith) in
      λ j. first j ∷ rest j

  pub begins_antisym : (x y : List A) → Begins x y → Begins y x → x ≡ y
  begins_antisym x y p q = begins_same_length x y p (omega (arith, begins_length x y p, begins_length y x q))

  -- ---- comparable lists

  pub begins_comparable : (x y : List A) → Begins x y → Comparable x y
  unfolding Comparable
  begins_comparable x y h = inl h

  pub begun_comparable : (x y : List A) → Begins y x → Comparable x y
  unfolding Comparable
  begun_comparable x y h = inr h

  -- Two beginnings of one list.
  pub beginnings_comparable : (x y z : List A) → Begins x z → Begins y z → Comparable x y
  unfolding Comparable
  beginnings_comparable [] y z p q = begins_comparable [] y (begins_nil y)
  beginnings_comparable (a ∷ x) [] z p q = begun_comparable (a ∷ x) [] (begins_nil (a ∷ x))
  beginnings_comparable (a ∷ x) (b ∷ y) [] p q = absurd (begins_empty a x p)
  beginnings_comparable (a ∷ x) (b ∷ y) (c ∷ z) p q = go (beginnings_comparable x y z (begins_tails a c x z p) (begins_tails b c y z q))
    where
      e : a ≡ b
      e = begins_heads a c x z p ∙ sym (begins_heads b c y z q)

      go : Comparable x y → Comparable (a ∷ x) (b ∷ y)
      go (inl h) = inl (begins_cons a b x y e h)
      go (inr h) = inr (begins_cons b a y x (sym e) h)

  -- The shorter begins the longer.
  pub comparable_shorter : (x y : List A) → Comparable x y → length x ≤ length y → Begins x y
  unfolding Comparable
  comparable_shorter x y (inl h) l = h
  comparable_shorter x y (inr h) l = begins_same x y (begins_same_length y x h (omega (arith, begins_length y x h)))

  -- Of two beginnings of one list the shorter begins the other.
  pub shorter_begins : (x y z : List A) → Begins x z → Begins y z → length x ≤ length y → Begins x y
  shorter_begins x y z p q l = comparable_shorter x y (beginnings_comparable x y z p q) l

  pub comparable_same_length : (x y : List A) → Comparable x y → length x ≡ length y → x ≡ y
  comparable_same_length x y h e = begins_same_length x y (comparable_shorter x y h (omega arith)) e

  -- Beside x with one more element.
  pub comparable_next : (x y : List A) (a : A) → Comparable y (x ++ (a ∷ [])) → Begins y x ⊎ Begins (x ++ (a ∷ [])) y
  unfolding Comparable
  comparable_next x y a (inr h) = inr h
  comparable_next x y a (inl h) = go (dec_le (length y) (length x))
    where
      go : Dec (length y ≤ length x) → Begins y x ⊎ Begins (x ++ (a ∷ [])) y
      go (yes l) = inl (shorter_begins y x (x ++ (a ∷ [])) h (begins_append x (a ∷ [])) l)
      go (no l) =
          inr (begins_same (x ++ (a ∷ [])) y
          (begins_same_length y (x ++ (a ∷ [])) h (omega (arith, begins_length y (x ++ (a ∷ [])) h, length-append x (a ∷ [])))))

  -- ---- first elements

  pub begins_take : (m : ℕ) (x : List A) → Begins (take m x) x
  unfolding Begins
  begins_take m x = (drop m x, sym (take-append-drop m x))

  pub begins_is_take : (x y : List A) → Begins x y → x ≡ take (length x) y
  unfolding Begins
  begins_is_take x y h = sym (ap (take (length x)) h.1 ∙ take-append_seam x h.0)

  pub takes_begin : (m : ℕ) (x y : List A) → Begins x y → Begins (take m x) (take m y)
  takes_begin zero x y h = begins_nil (take zero y)
  takes_begin (suc m) [] y h = begins_nil (take (suc m) y)
  takes_begin (suc m) (a ∷ x) [] h = absurd (begins_empty a x h)
  takes_begin (suc m) (a ∷ x) (b ∷ y) h = begins_cons a b (take m x) (take m y) (begins_heads a b x y h) (takes_begin m x y (begins_tails a b x y h))

  pub begins_within_take : (m : ℕ) (x y : List A) → Begins x y → length x ≤ m → Begins x (take m y)
  begins_within_take m x y h l = subst (λ z. Begins z (take m y)) (take_all m x l) (takes_begin m x y h)

-- ---- beginnings of what is made of the elements

front_append : {B : Type 0} (o : Option B) (x y : List B) → at_front o x ++ y ≡ at_front o (x ++ y)
unfolding at_front
front_append none x y = refl
front_append (some b) x y = refl

module _ {A B : Type 0} where
  pub begins_map : (f : A → B) (x y : List A) → Begins x y → Begins (map f x) (map f y)
  unfolding Begins
  begins_map f x y h = (map f h.0, ap (map f) h.1 ∙ map-append f x h.0)

  pub comparable_map : (f : A → B) (x y : List A) → Comparable x y → Comparable (map f x) (map f y)
  unfolding Comparable
  comparable_map f x y (inl h) = inl (begins_map f x y h)
  comparable_map f x y (inr h) = inr (begins_map f y x h)

  pub gather_append : (f : A → Option B) (x y : List A) → gather f (x ++ y) ≡ gather f x ++ gather f y
  unfolding gather
  gather_append f [] y = refl
  gather_append f (a ∷ x) y = ap (at_front (f a)) (gather_append f x y) ∙ sym (front_append (f a) (gather f x) (gather f y))

  pub begins_gather : (f : A → Option B) (x y : List A) → Begins x y → Begins (gather f x) (gather f y)
  unfolding Begins
  begins_gather f x y h = (gather f h.0, ap (gather f) h.1 ∙ gather_append f x h.0)

  pub gather_all_append : (f : A → List B) (x y : List A) → gather_all f (x ++ y) ≡ gather_all f x ++ gather_all f y
  unfolding gather_all
  gather_all_append f [] y = refl
  gather_all_append f (a ∷ x) y = ap (λ z. f a ++ z) (gather_all_append f x y) ∙ sym (append_assoc (f a) (gather_all f x) (gather_all f y))
