-- Lists of which one begins the other, and beginnings of a given length.
use Prim.Native.Nat.{ℕ, zero, suc, ◌≤◌}
use mathlib.Core.Path.{◌≡◌, refl, sym, subst}
use mathlib.Core.List.{List, [], ◌∷◌, ◌++◌}
use mathlib.Core.Logic.{inl, inr}
use native.Mathlib.Omega.{arith}
use lib.ListN.{length, take}
use Rattle.base.proofs.Comparable as B
use Rattle.base.proofs.Comparable.{begins_cons, begins_heads, begins_tails, beginnings_comparable, comparable_shorter, comparable_same_length, begins_within_take, begins_is_take}
use Rattle.base.specs.Lists.{Begins}
use Rattle.base.proofs.Prefixes.{begins_same, begins_trans, begins_length}

-- x begins y: `Begins`, as a record, so that the lists are read off it.
pub record Prefix {A : Type 0} (x y : List A) : Type 0 where
  pub begins : Begins x y

pub data Comparable {A : Type 0} (x y : List A) : Type 0 where
  shorter : Prefix x y → Comparable x y
  longer : Prefix y x → Comparable x y

module _ {A : Type 0} where
  pub prefix_refl : {x : List A} → Prefix x x
  prefix_refl {x} = record { begins = begins_same x x refl }

  pub prefix_trans : {x y z : List A} → Prefix x y → Prefix y z → Prefix x z
  prefix_trans {x} {y} {z} h k = record { begins = begins_trans x y z h.begins k.begins }

  pub prefix_to : {x y z : List A} → Prefix x y → y ≡ z → Prefix x z
  prefix_to {x} h e = subst (λ w. Prefix x w) e h

  pub prefix_from : {x y z : List A} → x ≡ y → Prefix y z → Prefix x z
  prefix_from {x} {y} {z} e h = subst (λ w. Prefix w z) (sym e) h

  pub prefix_same : {x y : List A} → x ≡ y → Prefix x y
  prefix_same {x} {y} e = record { begins = begins_same x y (sym e) }

  pub prefix_length : {x y : List A} → Prefix x y → length x ≤ length y
  prefix_length {x} {y} h = begins_length x y h.begins

  pub prefix_nil : {x : List A} → Prefix [] x
  unfolding Begins
  prefix_nil {x} = record { begins = (x, refl) }

  pub prefix_append : (x z : List A) → Prefix x (x ++ z)
  unfolding Begins
  prefix_append x z = record { begins = (z, refl) }

  pub comparable_sym : {x y : List A} → Comparable x y → Comparable y x
  comparable_sym (shorter h) = longer h
  comparable_sym (longer h) = shorter h

  pub prefix_cons : {x y : List A} (a b : A) → a ≡ b → Prefix x y → Prefix (a ∷ x) (b ∷ y)
  prefix_cons {x} {y} a b e h = record { begins = begins_cons a b x y e h.begins }

  pub prefix_head : {a b : A} {x y : List A} → Prefix (a ∷ x) (b ∷ y) → a ≡ b
  prefix_head {a} {b} {x} {y} h = begins_heads a b x y h.begins

  pub prefix_tail : {a b : A} {x y : List A} → Prefix (a ∷ x) (b ∷ y) → Prefix x y
  prefix_tail {a} {b} {x} {y} h = record { begins = begins_tails a b x y h.begins }

  -- ---- as the base has it

  pub comparable_lists : {x y : List A} → Comparable x y → B.Comparable x y
  unfolding B.Comparable
  comparable_lists (shorter h) = inl h.begins
  comparable_lists (longer h) = inr h.begins

  pub lists_comparable : (x y : List A) → B.Comparable x y → Comparable x y
  unfolding B.Comparable
  lists_comparable x y (inl h) = shorter (record { begins = h })
  lists_comparable x y (inr h) = longer (record { begins = h })

  -- Two beginnings of one list are comparable.
  pub both_begin : (x y w : List A) → Prefix x w → Prefix y w → Comparable x y
  both_begin x y w h k = lists_comparable x y (beginnings_comparable x y w h.begins k.begins)

  -- Beginnings of comparable lists are comparable.
  pub comparable_beginnings : {x x' y y' : List A} → Prefix x x' → Prefix y y' → Comparable x' y' → Comparable x y
  comparable_beginnings {x} {x'} {y} {y'} h k (shorter p) = both_begin x y y' (prefix_trans h p) k
  comparable_beginnings {x} {x'} {y} {y'} h k (longer p) = both_begin x y x' h (prefix_trans k p)

  -- Of two comparable lists, the one that is no longer begins the other.
  pub shorter_begins : (x y : List A) → Comparable x y → length x ≤ length y → Prefix x y
  shorter_begins x y c h = record { begins = comparable_shorter x y (comparable_lists c) h }

  pub equal_lengths : (x y : List A) → Comparable x y → length x ≡ length y → x ≡ y
  equal_lengths x y c e = comparable_same_length x y (comparable_lists c) e

  -- ---- the first m entries

  pub take_begins : (m : ℕ) (x : List A) → Prefix (take m x) x
  take_begins m x = record { begins = B.begins_take m x }

  pub begins_take : (m : ℕ) (x y : List A) → Prefix x y → length x ≤ m → Prefix x (take m y)
  begins_take m x y h k = record { begins = begins_within_take m x y h.begins k }

  -- A beginning is found by its length.
  pub take_prefix : (x y : List A) → Prefix x y → take (length x) y ≡ x
  take_prefix x y h = sym (begins_is_take x y h.begins)

  take-length : (m : ℕ) (x : List A) → length (take m x) ≤ m
  take-length zero x = omega arith
  take-length (suc m) [] = omega arith
  take-length (suc m) (a ∷ x) = omega (arith, take-length m x)

  -- The first entries of y, no more than x has, where x and y are comparable, begin x.
  pub take_within : (m : ℕ) (x y : List A) → Comparable x y → m ≤ length x → Prefix (take m y) x
  take_within m x y c h = shorter_begins (take m y) x (comparable_beginnings (take_begins m y) prefix_refl (comparable_sym c)) (omega (arith, take-length m y))
