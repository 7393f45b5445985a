-- The element at a place of a list, and maps changed at one place.
use Prim.Native.Nat.{ℕ, zero, suc, ◌≤◌, ◌<◌}
use mathlib.Core.Path.{◌≡◌, refl, sym, ap}
use mathlib.Core.List.{List, [], ◌∷◌, ◌++◌, map, Memᴰ}
use mathlib.Core.Option.{Option, none, some}
use native.Mathlib.Omega.{arith}
use lib.ListN.{length, take, set}
use Rattle.base.specs.Tests.{◌=?◌, pick}
use Rattle.base.proofs.TestLaws.{Known, holds, fails, known, eq_holds, eq_fails}
use Rattle.base.specs.Lists.{at, upd}

pub none_some : {A X : Type 0} {x : A} → ◌≡◌ {A = Option A} none (some x) → X
none_some e = let z : ◌≡◌ {A = ℕ} 0 1 = cc in absurd (omega arith)

pub some_same : {A : Type 0} {x y : A} → ◌≡◌ {A = Option A} (some x) (some y) → x ≡ y
some_same e = cc

module _ {A : Type 0} where
  -- What stands at a place stands below the length.
  pub at_low : (l : List A) (p : ℕ) (x : A) → at l p ≡ some x → p < length l
  unfolding at
  at_low [] p x e = none_some e
  at_low (y ∷ l) zero x e = omega arith
  at_low (y ∷ l) (suc p) x e = omega (arith, at_low l p x e)

  pub at_there : (l : List A) (p : ℕ) → p < length l → (x : A) × (at l p ≡ some x)
  unfolding at
  at_there [] p h = absurd (omega arith)
  at_there (y ∷ l) zero h = (y, refl)
  at_there (y ∷ l) (suc p) h = at_there l p (omega arith)

  pub at_take : (k : ℕ) (l : List A) (p : ℕ) → p < k → at (take k l) p ≡ at l p
  unfolding at
  at_take zero l p h = absurd (omega arith)
  at_take (suc k) [] p h = refl
  at_take (suc k) (y ∷ l) zero h = refl
  at_take (suc k) (y ∷ l) (suc p) h = at_take k l p (omega arith)

  -- What stands in the first k stands among them.
  pub at_in_take : (k : ℕ) (l : List A) (p : ℕ) (x : A) → at (take k l) p ≡ some x → (p < k) × (at l p ≡ some x)
  unfolding at
  at_in_take zero l p x e = none_some e
  at_in_take (suc k) [] p x e = none_some e
  at_in_take (suc k) (y ∷ l) zero x e = (omega arith, e)
  at_in_take (suc k) (y ∷ l) (suc p) x e = let h = at_in_take k l p x e in (omega (arith, h.0), h.1)

  pub at_past_take : (k : ℕ) (l : List A) (p : ℕ) → k ≤ p → at (take k l) p ≡ none
  unfolding at
  at_past_take zero l p h = refl
  at_past_take (suc k) [] p h = refl
  at_past_take (suc k) (y ∷ l) zero h = absurd (omega arith)
  at_past_take (suc k) (y ∷ l) (suc p) h = at_past_take k l p (omega arith)

  -- Past the end stands nothing.
  pub take_past : (l : List A) (p : ℕ) → at l p ≡ none → take (suc p) l ≡ take p l
  unfolding at
  take_past [] zero e = refl
  take_past [] (suc p) e = refl
  take_past (y ∷ l) zero e = none_some (sym e)
  take_past (y ∷ l) (suc p) e = ap (λ z. y ∷ z) (take_past l p e)

  pub take_next : (l : List A) (p : ℕ) (x : A) → at l p ≡ some x → take (suc p) l ≡ take p l ++ (x ∷ [])
  unfolding at
  take_next [] p x e = none_some e
  take_next (y ∷ l) zero x e = let f : y ≡ x = some_same e in ap (λ z. z ∷ []) f
  take_next (y ∷ l) (suc p) x e = ap (λ z. y ∷ z) (take_next l p x e)

  pub at_among : (l : List A) (p : ℕ) (x : A) → at l p ≡ some x → Memᴰ x l
  unfolding at
  at_among [] p x e = none_some e
  at_among (y ∷ l) zero x e = Memᴰ.head (sym (some_same e))
  at_among (y ∷ l) (suc p) x e = Memᴰ.tail (at_among l p x e)

  pub among_at : (l : List A) (x : A) → Memᴰ x l → (p : ℕ) × (at l p ≡ some x)
  unfolding at
  among_at [] x x3 = elim x3 [ ]
  among_at (y ∷ l) x (Memᴰ.head e) = (0, ap some (sym e))
  among_at (y ∷ l) x (Memᴰ.tail m) = let r = among_at l x m in (suc r.0, r.1)

  pub at_single : (y : A) (p : ℕ) (x : A) → at (y ∷ []) p ≡ some x → (p ≡ 0) × (x ≡ y)
  unfolding at
  at_single y zero x e = (refl, sym (some_same e))
  at_single y (suc p) x e = none_some e

  -- An element set anew.
  pub at_set_same : (l : List A) (i : ℕ) (x : A) → i < length l → at (set l i x) i ≡ some x
  unfolding at
  at_set_same [] i x h = absurd (omega arith)
  at_set_same (y ∷ l) zero x h = refl
  at_set_same (y ∷ l) (suc i) x h = at_set_same l i x (omega arith)

  pub at_set_other : (l : List A) (i j : ℕ) (x : A) → (j ≡ i → ⊥) → at (set l i x) j ≡ at l j
  unfolding at
  at_set_other [] i j x h = refl
  at_set_other (y ∷ l) zero zero x h = absurd (h refl)
  at_set_other (y ∷ l) zero (suc j) x h = refl
  at_set_other (y ∷ l) (suc i) zero x h = refl
  at_set_other (y ∷ l) (suc i) (suc j) x h = at_set_other l i j x (λ e. h (ap suc e))

pub at_map : {A B : Type 0} (f : A → B) (l : List A) (p : ℕ) (y : B) → at (map f l) p ≡ some y → (x : A) × (at l p ≡ some x) × (y ≡ f x)
unfolding at
at_map f [] p y e = none_some e
at_map f (x ∷ l) zero y e = (x, refl, sym (some_same e))
at_map f (x ∷ l) (suc p) y e = at_map f l p y e

-- ---- maps

-- A map changed at i, looked at in j.
pub data Upd {A : Type 0} (f : ℕ → A) (i : ℕ) (v : A) (j : ℕ) : Type 0 where
  here : j ≡ i → upd f i v j ≡ v → Upd f i v j
  elsewhere : (j ≡ i → ⊥) → upd f i v j ≡ f j → Upd f i v j

pub upd? : {A : Type 0} (f : ℕ → A) (i : ℕ) (v : A) (j : ℕ) → Upd f i v j
unfolding upd pick
upd? f i v j = go (known (j =? i))
  where
    go : Known (j =? i) → Upd f i v j
    go (holds e) = here (eq_holds j i e) (rw e)
    go (fails e) = elsewhere (eq_fails j i e) (rw e)

pub upd_here : {A : Type 0} (f : ℕ → A) (i : ℕ) (v : A) → upd f i v i ≡ v
upd_here f i v = go (upd? f i v i)
  where
    go : Upd f i v i → upd f i v i ≡ v
    go (here p e) = e
    go (elsewhere p e) = absurd (p refl)

pub upd_elsewhere : {A : Type 0} (f : ℕ → A) (i : ℕ) (v : A) (j : ℕ) → (j ≡ i → ⊥) → upd f i v j ≡ f j
upd_elsewhere f i v j h = go (upd? f i v j)
  where
    go : Upd f i v j → upd f i v j ≡ f j
    go (here p e) = absurd (h p)
    go (elsewhere p e) = e
