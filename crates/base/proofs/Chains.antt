-- From one step to many: sequences indexed by numbers.
use Prim.Native.Nat.{ℕ, zero, suc, ◌≤◌, ◌<◌}
use mathlib.Core.Path.{◌≡◌, sym, subst}
use native.Mathlib.Omega.{arith}
use native.Mathlib.Decide.{dec_lt}

-- What each step keeps holds between any two places.
pub chain : {A : Type 0} (R : A → A → Type 0) → ((a : A) → R a a) → ((a b c : A) → R a b → R b c → R a c) → (f : ℕ → A)
    → (p r : ℕ) → p ≤ r → ((x : ℕ) → p ≤ x → x < r → R (f x) (f (suc x))) → R (f p) (f r)
chain {A} R same through f p zero h step = let e : p ≡ 0 = omega arith in subst (λ x. R (f x) (f 0)) (sym e) (same (f 0))
chain {A} R same through f p (suc r) h step = go (dec_lt r p) (λ k. chain R same through f p r k (λ x a b. step x a (omega arith)))
  where
    go : Dec (r < p) → (p ≤ r → R (f p) (f r)) → R (f p) (f (suc r))
    go (yes a) k = let e : p ≡ suc r = omega arith in subst (λ x. R (f x) (f (suc r))) (sym e) (same (f (suc r)))
    go (no a) k = through (f p) (f r) (f (suc r)) (k (omega arith)) (step r (omega arith) (omega arith))

-- A fact of each place that holds of all places if it holds of those below.
pub strong : (P : ℕ → Type 0) → ((p : ℕ) → ((x : ℕ) → x < p → P x) → P p) → (p : ℕ) → P p
strong P step p = below (suc p) p (omega arith)
  where
    below : (k x : ℕ) → x < k → P x
    below zero x h = absurd (omega arith)
    below (suc k) x h = step x (λ y a. below k y (omega arith))
