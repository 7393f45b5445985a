-- Laws of filters, and of tests on every element.
use Prim.Native.Nat.{◌≤◌}
use mathlib.Core.Path.{◌≡◌, refl, sym, ap, ◌∙◌}
use mathlib.Core.Bool.{Bool, true, false}
use mathlib.Core.List.{List, [], ◌∷◌, ◌++◌, Memᴰ}
use native.Mathlib.Omega.{arith}
use lib.ListN.{length}
use Rattle.base.specs.Tests.{pick}
use Rattle.base.proofs.TestLaws.{pick_yes, pick_no, and_holds, both_yes, Known, holds, fails, known}
use Rattle.base.specs.Lists.{all, filter}

module _ {A : Type 0} where
  pub filter_yes : (t : A → Bool) (a : A) (x : List A) → t a ≡ true → filter t (a ∷ x) ≡ a ∷ filter t x
  unfolding filter
  filter_yes t a x h = sym (pick_yes _ _ _ _ h refl)

  pub filter_no : (t : A → Bool) (a : A) (x : List A) → t a ≡ false → filter t (a ∷ x) ≡ filter t x
  unfolding filter
  filter_no t a x h = sym (pick_no _ _ _ _ h refl)

  pub filter_length : (t : A → Bool) (x : List A) → length (filter t x) ≤ length x
  unfolding filter
  filter_length t [] = omega arith
  filter_length t (a ∷ x) = go (known (t a)) (filter_length t x)
    where
      go : Known (t a) → length (filter t x) ≤ length x → length (filter t (a ∷ x)) ≤ length (a ∷ x)
      go (holds h) k = omega (arith, ap length (filter_yes t a x h))
      go (fails h) k = omega (arith, ap length (filter_no t a x h))

  pub filter_append : (t : A → Bool) (x y : List A) → filter t (x ++ y) ≡ filter t x ++ filter t y
  unfolding filter pick
  filter_append t [] y = refl
  filter_append t (a ∷ x) y = go (known (t a)) (filter_append t x y)
    where
      go : Known (t a) → filter t (x ++ y) ≡ filter t x ++ filter t y → filter t ((a ∷ x) ++ y) ≡ filter t (a ∷ x) ++ filter t y
      go (holds e) h = rw e (ap (λ z. a ∷ z) h)
      go (fails e) h = rw e h

  -- Two tests that agree on every element.
  pub filter_same : (t u : A → Bool) (x : List A) → ((a : A) → Memᴰ a x → t a ≡ u a) → filter t x ≡ filter u x
  unfolding filter pick
  filter_same t u [] f = refl
  filter_same t u (a ∷ x) f = go (known (u a)) (f a (Memᴰ.head refl)) (filter_same t u x (λ b m. f b (Memᴰ.tail m)))
    where
      go : Known (u a) → t a ≡ u a → filter t x ≡ filter u x → filter t (a ∷ x) ≡ filter u (a ∷ x)
      go (holds e) p h = rw (p, e) (ap (λ z. a ∷ z) h)
      go (fails e) p h = rw (p, e) h

  -- A test that every element passes.
  pub filter_all : (t : A → Bool) (x : List A) → ((a : A) → Memᴰ a x → t a ≡ true) → filter t x ≡ x
  unfolding filter pick
  filter_all t [] f = refl
  filter_all t (a ∷ x) f = rw (f a (Memᴰ.head refl)) (ap (λ z. a ∷ z) (filter_all t x (λ b m. f b (Memᴰ.tail m))))

  pub all_yes : (t : A → Bool) (x : List A) → ((a : A) → Memᴰ a x → t a ≡ true) → all t x ≡ true
  unfolding all
  all_yes t [] f = refl
  all_yes t (a ∷ x) f = both_yes _ _ (f a (Memᴰ.head refl)) (all_yes t x (λ b m. f b (Memᴰ.tail m)))

  pub all_member : (t : A → Bool) (x : List A) (a : A) → all t x ≡ true → Memᴰ a x → t a ≡ true
  unfolding all
  all_member t [] a h x3 = elim x3 [ ]
  all_member t (b ∷ x) a h (Memᴰ.head e) = ap t e ∙ (and_holds _ _ h).0
  all_member t (b ∷ x) a h (Memᴰ.tail m) = all_member t x a (and_holds _ _ h).1 m
