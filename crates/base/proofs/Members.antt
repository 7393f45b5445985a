-- Elements of lists: where filters and lists of options keep them, and where gathered ones come from.
use Prim.Native.Nat.{ℕ, zero, suc}
use mathlib.Core.Path.{◌≡◌, refl, sym, ap, ◌∙◌}
use mathlib.Core.Bool.{Bool, true, false}
use mathlib.Core.List.Memᴰ
use mathlib.Core.List.{List, [], ◌∷◌, Memᴰ}
use mathlib.Core.Logic.{⊎_elim}
use mathlib.Core.Option.{Option, none, some, none-ne-some, some-injective}
use lib.ListN.{get_or}
use Rattle.base.specs.Tests.{◌or◌, pick}
use Rattle.base.proofs.TestLaws.{not_both, Known, holds, fails, known}
use Rattle.base.specs.Lists.{any, filter, at_front, present, gather, gather_all}

module _ {A : Type 0} where
  -- An element that passes the test is among those that pass.
  pub filter_has : (t : A → Bool) (x : A) (l : List A) → Memᴰ x l → t x ≡ true → Memᴰ x (filter t l)
  unfolding filter pick
  filter_has t x [] x3 h = elim x3 [ ]
  filter_has t x (y ∷ l) (Memᴰ.head e) h = rw (ap t (sym e), h) (Memᴰ.head e)
  filter_has t x (y ∷ l) (Memᴰ.tail m) h = go (known (t y)) (filter_has t x l m h)
    where
      go : Known (t y) → Memᴰ x (filter t l) → Memᴰ x (filter t (y ∷ l))
      go (holds e) k = rw e (Memᴰ.tail k)
      go (fails e) k = rw e k

  -- A value that is there is among those present.
  pub present_has : (x : A) (l : List (Option A)) (k : ℕ) → get_or l k none ≡ some x → Memᴰ x (present l)
  unfolding present at_front
  present_has x [] k h = absurd (none-ne-some x h)
  present_has x (none ∷ l) zero h = absurd (none-ne-some x h)
  present_has x (none ∷ l) (suc k) h = present_has x l k h
  present_has x (some y ∷ l) zero h = Memᴰ.head (sym (some-injective y x h))
  present_has x (some y ∷ l) (suc k) h = Memᴰ.tail (present_has x l k h)

  pub present_from : (x : A) (l : List (Option A)) → Memᴰ x (present l) → (k : ℕ) × (get_or l k none ≡ some x)
  unfolding present at_front
  present_from x [] m = absurd (Memᴰ.not-nil m)
  present_from x (none ∷ l) m = let r = present_from x l m in (suc r.0, r.1)
  present_from x (some y ∷ l) (Memᴰ.head e) = (0, ap some (sym e))
  present_from x (some y ∷ l) (Memᴰ.tail m) = let r = present_from x l m in (suc r.0, r.1)

  -- What a filter keeps is an element that passes.
  pub filter_from : (t : A → Bool) (x : A) (l : List A) → Memᴰ x (filter t l) → Memᴰ x l × (t x ≡ true)
  unfolding filter pick
  filter_from t x [] m = absurd (Memᴰ.not-nil m)
  filter_from t x (y ∷ l) m = go (known (t y)) (λ z. filter_from t x l z)
    where
      front : t y ≡ true → Memᴰ x (y ∷ filter t l) → (Memᴰ x (filter t l) → Memᴰ x l × (t x ≡ true)) → Memᴰ x (y ∷ l) × (t x ≡ true)
      front h (Memᴰ.head e) f = (Memᴰ.head e, ap t e ∙ h)
      front h (Memᴰ.tail z) f = let r = f z in (Memᴰ.tail r.0, r.1)

      go : Known (t y) → (Memᴰ x (filter t l) → Memᴰ x l × (t x ≡ true)) → Memᴰ x (y ∷ l) × (t x ≡ true)
      go (holds h) f = front h (rw h at m) f
      go (fails h) f = let r = f (rw h at m) in (Memᴰ.tail r.0, r.1)

  -- Whether some element passes.
  pub any_yes : (t : A → Bool) (x : A) (l : List A) → Memᴰ x l → t x ≡ true → any t l ≡ true
  unfolding any ◌or◌
  any_yes t x [] x3 h = elim x3 [ ]
  any_yes t x (y ∷ l) (Memᴰ.head e) h = rw (ap t (sym e), h)
  any_yes t x (y ∷ l) (Memᴰ.tail m) h = go (known (t y)) (any_yes t x l m h)
    where
      go : Known (t y) → any t l ≡ true → any t (y ∷ l) ≡ true
      go (holds e) k = rw e
      go (fails e) k = rw e k

  pub any_no : (t : A → Bool) (l : List A) → ((x : A) → Memᴰ x l → t x ≡ false) → any t l ≡ false
  unfolding any ◌or◌
  any_no t [] f = refl
  any_no t (x ∷ l) f = rw (f x (Memᴰ.head refl)) (any_no t l (λ y m. f y (Memᴰ.tail m)))

  pub any_from : (t : A → Bool) (l : List A) → any t l ≡ true → (x : A) × Memᴰ x l × (t x ≡ true)
  unfolding any ◌or◌
  any_from t [] h = not_both h
  any_from t (x ∷ l) h = go (known (t x)) (any_from t l)
    where
      go : Known (t x) → (any t l ≡ true → (y : A) × Memᴰ y l × (t y ≡ true)) → (y : A) × Memᴰ y (x ∷ l) × (t y ≡ true)
      go (holds a) f = (x, Memᴰ.head refl, a)
      go (fails a) f = let r = f (sym (ap (λ z. z or any t l) a) ∙ h) in (r.0, Memᴰ.tail r.1, r.2)

module _ {A B : Type 0} where
  -- What is gathered was made of some element.
  pub gathered_from : (f : A → Option B) (y : B) (l : List A) → Memᴰ y (gather f l) → (x : A) × Memᴰ x l × (f x ≡ some y)
  unfolding gather at_front
  gathered_from f y [] m = absurd (Memᴰ.not-nil m)
  gathered_from f y (x ∷ l) m = go (f x) refl m (λ k. gathered_from f y l k)
    where
      Made : Type 0
      Made = (z : A) × Memᴰ z (x ∷ l) × (f z ≡ some y)

      later : (z : A) × Memᴰ z l × (f z ≡ some y) → Made
      later r = (r.0, Memᴰ.tail r.1, r.2)

      go : (o : Option B) → f x ≡ o → Memᴰ y (at_front o (gather f l)) → (Memᴰ y (gather f l) → (z : A) × Memᴰ z l × (f z ≡ some y)) → Made
      go none e k h = later (h k)
      go (some w) e k h = ⊎_elim (λ p. (x, Memᴰ.head refl, e ∙ ap (λ v. some v) (sym p))) (λ p. later (h p)) (Memᴰ.cases_cons k)

  pub gathered_all_from : (f : A → List B) (y : B) (l : List A) → Memᴰ y (gather_all f l) → (x : A) × Memᴰ x l × Memᴰ y (f x)
  unfolding gather_all
  gathered_all_from f y [] m = absurd (Memᴰ.not-nil m)
  gathered_all_from f y (x ∷ l) m =
      ⊎_elim (λ p. (x, Memᴰ.head refl, p)) (λ p. let r = gathered_all_from f y l p in (r.0, Memᴰ.tail r.1, r.2)) (Memᴰ.append_cases (f x) m)
