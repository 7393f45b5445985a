-- The first element of a list that passes a test.
use Prim.Native.Nat.{ℕ, zero, suc, ◌+◌, ◌<◌}
use mathlib.Core.Path.{◌≡◌, refl, sym, ap, ◌∙◌}
use mathlib.Core.Bool.{Bool, true, false}
use mathlib.Core.List.{List, [], ◌∷◌}
use mathlib.Core.Option.{some}
use native.Mathlib.Omega.{arith}
use Rattle.base.specs.Lists.{at, first_from}
use Rattle.base.proofs.AtLaws.{none_some, some_same}
use Rattle.base.proofs.TestLaws.{Known, known, holds, fails, pick_yes, pick_no}

module _ {A : Type 0} (t : A → Bool) where
  pub record First (l : List A) (i : ℕ) : Type 0 where
    pub element : A
    pub stands : at l i ≡ some element
    pub passes : t element ≡ true
    pub earlier : (j : ℕ) (x : A) → j < i → at l j ≡ some x → t x ≡ false

  first_here : (x : A) (l : List A) (k : ℕ) → t x ≡ true → first_from t k (x ∷ l) ≡ some k
  unfolding first_from
  first_here x l k e = sym (pick_yes (t x) _ _ _ e refl)

  first_later : (x : A) (l : List A) (k : ℕ) → t x ≡ false → first_from t k (x ∷ l) ≡ first_from t (suc k) l
  unfolding first_from
  first_later x l k e = sym (pick_no (t x) _ _ _ e refl)

  -- ---- what it gives

  head_first : (x : A) (l : List A) → t x ≡ true → First (x ∷ l) 0
  unfolding at
  head_first x l e = record { element = x; stands = refl; passes = e; earlier = λ j y h f. absurd (omega arith) }

  tail_first : (x : A) (l : List A) (i : ℕ) → t x ≡ false → First l i → First (x ∷ l) (suc i)
  unfolding at
  tail_first x l i e f = record { element = f.element; stands = f.stands; passes = f.passes; earlier = before }
    where
      before : (j : ℕ) (y : A) → j < suc i → at (x ∷ l) j ≡ some y → t y ≡ false
      before zero y h g = ap t (sym (some_same g)) ∙ e
      before (suc j) y h g = f.earlier j y (omega arith) g

  pub first_found : (l : List A) (k m : ℕ) → first_from t k l ≡ some m → (i : ℕ) × (m ≡ k + i) × First l i
  unfolding first_from
  first_found [] k m h = none_some h
  first_found (x ∷ l) k m h = go (known (t x)) (λ g. first_found l (suc k) m g)
    where
      go : Known (t x) → (first_from t (suc k) l ≡ some m → (i : ℕ) × (m ≡ suc k + i) × First l i) → (i : ℕ) × (m ≡ k + i) × First (x ∷ l) i
      go (holds e) next = let z : k ≡ m = some_same (sym (first_here x l k e) ∙ h) in (0, omega arith, head_first x l e)
      go (fails e) next =
          let r = next (sym (first_later x l k e) ∙ h) in
          let z : m ≡ k + suc r.0 = omega (arith, r.1) in
          (suc r.0, z, tail_first x l r.0 e r.2)

  -- ---- and back

  pub first_is_lem : (l : List A) (k i : ℕ) → First l i → first_from t k l ≡ some (k + i)
  unfolding at
  first_is_lem [] k i f = none_some f.stands
  first_is_lem (x ∷ l) k zero f =
      let z : k ≡ k + 0 = omega arith in
      first_here x l k (ap t (some_same f.stands) ∙ f.passes) ∙ ap some z
  first_is_lem (x ∷ l) k (suc i) f =
      let z : suc k + i ≡ k + suc i = omega arith in
      let rest : First l i = record { element = f.element; stands = f.stands; passes = f.passes; earlier = λ j y h g. f.earlier (suc j) y (omega arith) g } in
      first_later x l k (f.earlier 0 x (omega arith) refl) ∙ first_is_lem l (suc k) i rest ∙ ap some z
