-- Totals over the numbers below n, and numbering of pairs by them.
use Prim.Native.Nat.{ℕ, zero, suc, ◌+◌, ◌≤◌, ◌<◌}
use mathlib.Core.Path.{◌≡◌, refl, sym, ap, ◌∙◌}
use mathlib.Core.Bool.{false}
use mathlib.Core.List.{List, [], ◌∷◌, ◌++◌, map, map-append}
use native.Mathlib.Omega.{arith}
use native.Mathlib.Decide.{dec_lt}
use Rattle.base.specs.Tests.{◌=?◌, pick}
use Rattle.base.proofs.TestLaws.{eq_no, eq_holds, Known, holds, fails, known}
use Rattle.base.specs.Lists.{below, sum}

-- f 0 + .. + f (n - 1)
unfoldable pub total : ℕ → (ℕ → ℕ) → ℕ
total zero f = 0
total (suc n) f = total n f + f n

pub sum_append : (x y : List ℕ) → sum (x ++ y) ≡ sum x + sum y
unfolding sum
sum_append [] y = omega arith
sum_append (a ∷ x) y = omega (arith, sum_append x y)

pub total_sum : (n : ℕ) (f : ℕ → ℕ) → sum (map f (below n)) ≡ total n f
unfolding total below sum
total_sum zero f = refl
total_sum (suc n) f =
    ap sum (map-append f (below n) (n ∷ [])) ∙ sum_append (map f (below n)) (f n ∷ []) ∙ omega (arith, total_sum n f)

pub total_add : (n : ℕ) (f g : ℕ → ℕ) → total n (λ k. f k + g k) ≡ total n f + total n g
unfolding total
total_add zero f g = omega arith
total_add (suc n) f g = omega (arith, total_add n f g)

pub total_most : (n : ℕ) (f g : ℕ → ℕ) → ((k : ℕ) → f k ≤ g k) → total n f ≤ total n g
unfolding total
total_most zero f g h = omega arith
total_most (suc n) f g h = omega (arith, total_most n f g h, h n)

pub total_none : (n : ℕ) → total n (λ k. 0) ≡ 0
unfolding total
total_none zero = refl
total_none (suc n) = omega (arith, total_none n)

pub total_swap : (n m : ℕ) (h : ℕ → ℕ → ℕ) → total n (λ k. total m (h k)) ≡ total m (λ c. total n (λ k. h k c))
unfolding total
total_swap zero m h = sym (total_none m)
total_swap (suc n) m h = omega (arith, total_swap n m h, total_add m (λ c. total n (λ k. h k c)) (h n))

pub total_rises : (n m : ℕ) (f : ℕ → ℕ) → n ≤ m → total n f ≤ total m f
unfolding total
total_rises n zero f h = let e : n ≡ 0 = omega arith in omega (arith, ap (λ k. total k f) e)
total_rises n (suc m) f h = go (dec_lt m n) (λ k. total_rises n m f k)
  where
    go : Dec (m < n) → (n ≤ m → total n f ≤ total m f) → total n f ≤ total (suc m) f
    go (yes a) g = let e : n ≡ suc m = omega arith in omega (arith, ap (λ k. total k f) e)
    go (no a) g = omega (arith, g (omega arith))

-- At most one of the numbers is j.
none_before : (n j v : ℕ) → n ≤ j → total n (λ k. pick (j =? k) v 0) ≡ 0
unfolding total pick
none_before zero j v h = refl
none_before (suc n) j v h =
    let e : (j =? n) ≡ false = eq_no j n (λ z. omega arith) in
    omega (arith, none_before n j v (omega arith), ap (λ b. pick b v 0) e)

pub total_one : (n j v : ℕ) → total n (λ k. pick (j =? k) v 0) ≤ v
unfolding total pick
total_one zero j v = omega arith
total_one (suc n) j v = go (known (j =? n)) (total_one n j v)
  where
    go : Known (j =? n) → total n (λ k. pick (j =? k) v 0) ≤ v → total (suc n) (λ k. pick (j =? k) v 0) ≤ v
    go (holds e) h = let z = eq_holds j n e in omega (arith, none_before n j v (omega arith), ap (λ b. pick b v 0) e)
    go (fails e) h = omega (arith, ap (λ b. pick b v 0) e)

-- ---- the number total k f + j, with j below f k, stands for the pair of k and j

pub slot_below : (n : ℕ) (f : ℕ → ℕ) (k j : ℕ) → k < n → j < f k → total k f + j < total n f
unfolding total
slot_below n f k j h g = omega (arith, total_rises (suc k) n f h)

pub slot_same : (f : ℕ → ℕ) (k j k' j' : ℕ) → j < f k → j' < f k' → total k f + j ≡ total k' f + j' → (k ≡ k') × (j ≡ j')
slot_same f k j k' j' g g' e = go (dec_lt k k') (dec_lt k' k)
  where
    go : Dec (k < k') → Dec (k' < k) → (k ≡ k') × (j ≡ j')
    go (yes a) b = absurd (omega (arith, slot_below k' f k j a g))
    go (no a) (yes b) = absurd (omega (arith, slot_below k f k' j' b g'))
    go (no a) (no b) = let z : k ≡ k' = omega arith in (z, omega (arith, ap (λ x. total x f) z))
