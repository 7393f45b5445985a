-- The laws of how many elements of a list pass a test.
use Prim.Native.Nat.{ℕ, ◌+◌, ◌≤◌}
use mathlib.Core.Path.{◌≡◌, refl, ap}
use mathlib.Core.Bool.{Bool, true, false}
use mathlib.Core.List.{List, [], ◌∷◌, ◌++◌, map}
use native.Mathlib.Omega.{arith}
use Rattle.base.specs.Tests.{pick}
use Rattle.base.proofs.TestLaws.{Known, holds, fails, known}
use Rattle.base.specs.Lists.{filter, Each}
use Rattle.base.specs.Counts.{one, count}

pub one_yes : (t : Bool) → t ≡ true → one t ≡ 1
unfolding one
one_yes t h = rw h

pub one_no : (t : Bool) → t ≡ false → one t ≡ 0
unfolding one
one_no t h = rw h

module _ {A : Type 0} (t : A → Bool) where
  pub count_append : (xs ys : List A) → count t (xs ++ ys) ≡ count t xs + count t ys
  unfolding count
  count_append [] ys = omega arith
  count_append (x ∷ xs) ys = omega (arith, count_append xs ys)

  pub count_single : (x : A) → count t (x ∷ []) ≡ one (t x)
  unfolding count
  count_single x = omega arith

  count_picked : (u : Bool) (x : A) (xs : List A) (k : ℕ) → count t xs ≤ k → count t (pick u (x ∷ xs) xs) ≤ one (t x) + k
  unfolding count pick
  count_picked true x xs k h = omega arith
  count_picked false x xs k h = omega arith

  pub count_filter : (u : A → Bool) (xs : List A) → count t (filter u xs) ≤ count t xs
  unfolding count filter
  count_filter u [] = omega arith
  count_filter u (x ∷ xs) = count_picked (u x) x (filter u xs) (count t xs) (count_filter u xs)

  pub count_none : (xs : List A) → Each (λ x. t x ≡ false) xs → count t xs ≡ 0
  unfolding count
  count_none [] h = refl
  count_none (x ∷ xs) h = omega (arith, one_no (t x) h.0, count_none xs h.1)

  -- A counted element, with a fact of every element.
  pub counted_element : (P : A → Type 0) (xs : List A) → Each P xs → 1 ≤ count t xs → (x : A) × (t x ≡ true) × P x
  unfolding count
  counted_element P [] h l = absurd (omega arith)
  counted_element P (x ∷ xs) h l = go (known (t x)) (λ m. counted_element P xs h.1 m)
    where
      go : Known (t x) → (1 ≤ count t xs → (y : A) × (t y ≡ true) × P y) → (y : A) × (t y ≡ true) × P y
      go (holds e) more = (x, e, h.0)
      go (fails e) more = more (omega (arith, one_no (t x) e))

pub count_map : {A B : Type 0} (t : B → Bool) (f : A → B) (xs : List A) → count t (map f xs) ≡ count (λ x. t (f x)) xs
unfolding count
count_map t f [] = refl
count_map t f (x ∷ xs) = ap (λ k. one (t (f x)) + k) (count_map t f xs)
