-- The numbers below p that pass a test: which they are, and that none stands twice.
use Prim.Native.Nat.{ℕ, zero, suc, ◌≤◌, ◌<◌}
use mathlib.Core.Path.{◌≡◌, refl, sym, ap, subst, ◌∙◌}
use mathlib.Core.Bool.{Bool, true, false}
use mathlib.Core.List.Memᴰ
use mathlib.Core.List.{List, [], ◌∷◌, Memᴰ}
use mathlib.Core.Logic.{◌⊎◌, inl, inr}
use native.Mathlib.Omega.{arith}
use native.Mathlib.Decide.{dec_lt}
use lib.ListN.{length}
use Rattle.base.specs.Tests.{pick}
use Rattle.base.proofs.TestLaws.{not_both, Known, holds, fails, known}
use Rattle.base.proofs.Distinct.{Distinct}

-- The highest stands first.
unfoldable pub passing : (ℕ → Bool) → ℕ → List ℕ
passing t zero = []
passing t (suc p) = pick (t p) (p ∷ passing t p) (passing t p)

module _ (t : ℕ → Bool) where
  pub passing_more : (p : ℕ) → t p ≡ true → passing t (suc p) ≡ p ∷ passing t p
  unfolding passing pick
  passing_more p e = rw e

  pub passing_same : (p : ℕ) → t p ≡ false → passing t (suc p) ≡ passing t p
  unfolding passing pick
  passing_same p e = rw e

  pub passing_has : (p x : ℕ) → x < p → t x ≡ true → Memᴰ x (passing t p)
  passing_has zero x h e = absurd (omega arith)
  passing_has (suc p) x h e = go (known (t p)) (dec_lt x p) (λ k. passing_has p x k e)
    where
      go : Known (t p) → Dec (x < p) → (x < p → Memᴰ x (passing t p)) → Memᴰ x (passing t (suc p))
      go (holds f) (yes k) g = subst (Memᴰ x) (sym (passing_more p f)) (Memᴰ.tail (g k))
      go (holds f) (no k) g = let z : x ≡ p = omega arith in subst (Memᴰ x) (sym (passing_more p f)) (Memᴰ.head z)
      go (fails f) (yes k) g = subst (Memᴰ x) (sym (passing_same p f)) (g k)
      go (fails f) (no k) g = let z : x ≡ p = omega arith in not_both (sym f ∙ ap t (sym z) ∙ e)

  pub passing_in : (p x : ℕ) → Memᴰ x (passing t p) → (x < p) × (t x ≡ true)
  unfolding passing
  passing_in zero x m = absurd (Memᴰ.not-nil m)
  passing_in (suc p) x m = go (known (t p)) (λ k. passing_in p x k)
    where
      later : (x < p) × (t x ≡ true) → (x < suc p) × (t x ≡ true)
      later h = (omega (arith, h.0), h.1)

      at : t p ≡ true → (x ≡ p) ⊎ Memᴰ x (passing t p) → (Memᴰ x (passing t p) → (x < p) × (t x ≡ true)) → (x < suc p) × (t x ≡ true)
      at f (inl e) g = (omega arith, ap t e ∙ f)
      at f (inr k) g = later (g k)

      go : Known (t p) → (Memᴰ x (passing t p) → (x < p) × (t x ≡ true)) → (x < suc p) × (t x ≡ true)
      go (holds f) g = at f (Memᴰ.cases_cons (subst (Memᴰ x) (passing_more p f) m)) g
      go (fails f) g = later (g (subst (Memᴰ x) (passing_same p f) m))

  pub passing_distinct : (p : ℕ) → Distinct (passing t p)
  unfolding passing
  passing_distinct zero = tt
  passing_distinct (suc p) = go (known (t p)) (passing_distinct p)
    where
      go : Known (t p) → Distinct (passing t p) → Distinct (passing t (suc p))
      go (holds f) d = subst Distinct (sym (passing_more p f)) (λ m. omega (arith, (passing_in p p m).0), d)
      go (fails f) d = subst Distinct (sym (passing_same p f)) d

  pub passing_longer : (p : ℕ) → length (passing t p) ≤ length (passing t (suc p))
  passing_longer p = go (known (t p))
    where
      go : Known (t p) → length (passing t p) ≤ length (passing t (suc p))
      go (holds f) = omega (arith, ap length (passing_more p f))
      go (fails f) = omega (arith, ap length (passing_same p f))

  pub passing_none : (p : ℕ) → ((x : ℕ) → x < p → t x ≡ true → ⊥) → passing t p ≡ []
  unfolding passing
  passing_none zero f = refl
  passing_none (suc p) f = go (known (t p)) (passing_none p (λ x h. f x (omega arith)))
    where
      go : Known (t p) → passing t p ≡ [] → passing t (suc p) ≡ []
      go (holds e) g = absurd (f p (omega arith) e)
      go (fails e) g = passing_same p e ∙ g
