-- Beginnings of lists; entries that rise.
use Prim.Native.Nat.{ℕ, zero, suc, ◌≤◌}
use mathlib.Core.Path.{◌≡◌, refl, sym, ap, ◌∙◌}
use mathlib.Core.List.{List, [], ◌∷◌, ◌++◌, append-nil, append_assoc}
use native.Mathlib.Omega.{arith}
use lib.ListN.{length, drop, get_or, set, length-append}
use Rattle.base.specs.Lists.{Begins}

module _ {A : Type 0} where
  pub begins_same : (x y : List A) → y ≡ x → Begins x y
  unfolding Begins
  begins_same x y e = ([], e ∙ sym (append-nil x))

  pub begins_refl : (x : List A) → Begins x x
  begins_refl x = begins_same x x refl

  pub begins_append : (x z : List A) → Begins x (x ++ z)
  unfolding Begins
  begins_append x z = (z, refl)

  pub begins_trans : (x y z : List A) → Begins x y → Begins y z → Begins x z
  unfolding Begins
  begins_trans x y z p q = (p.0 ++ q.0, q.1 ∙ ap (λ w. w ++ q.0) p.1 ∙ append_assoc x p.0 q.0)

  pub begins_more : (x y z : List A) → Begins x y → Begins x (y ++ z)
  begins_more x y z p = begins_trans x y (y ++ z) p (begins_append y z)

  pub begins_length : (x y : List A) → Begins x y → length x ≤ length y
  unfolding Begins
  begins_length x y p = omega (arith, ap length p.1, length-append x p.0)

  -- What a list gained over its beginning.
  pub drop_beginning : (x z : List A) → drop (length x) (x ++ z) ≡ z
  drop_beginning [] z = refl
  drop_beginning (a ∷ x) z = drop_beginning x z

  pub begins_gained : (x y : List A) → Begins x y → y ≡ x ++ drop (length x) y
  unfolding Begins
  begins_gained x y p = p.1 ∙ ap (λ w. x ++ w) (sym (ap (drop (length x)) p.1 ∙ drop_beginning x p.0))

-- A number put in the place of a lower one lowers no entry.
pub set_rises : (l : List ℕ) (i v j : ℕ) → get_or l i 0 ≤ v → get_or l j 0 ≤ get_or (set l i v) j 0
set_rises [] i v j h = omega arith
set_rises (x ∷ l) zero v zero h = h
set_rises (x ∷ l) zero v (suc j) h = omega arith
set_rises (x ∷ l) (suc i) v zero h = omega arith
set_rises (x ∷ l) (suc i) v (suc j) h = set_rises l i v j h

-- A number put in leaves an entry at most as high as both are.
pub set_most : (l : List ℕ) (i v j h : ℕ) → get_or l j 0 ≤ h → (j ≡ i → v ≤ h) → get_or (set l i v) j 0 ≤ h
set_most [] i v j h a b = a
set_most (x ∷ l) zero v zero h a b = b refl
set_most (x ∷ l) zero v (suc j) h a b = a
set_most (x ∷ l) (suc i) v zero h a b = a
set_most (x ∷ l) (suc i) v (suc j) h a b = set_most l i v j h a (λ e. b (ap suc e))
