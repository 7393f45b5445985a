-- Sums over creators: actions of creators below n are as many as each creator's together; with room for one creator there is room for a place.
use Prim.Native.Nat.{ℕ, zero, suc, ◌*◌, ◌≤◌, ◌<◌}
use mathlib.Core.Path.{◌≡◌, refl, ap, ◌∙◌}
use mathlib.Core.List.{List, [], ◌∷◌}
use native.Mathlib.Omega.{arith}
use native.Mathlib.Decide.{dec_lt}
use lib.ListN.{length}
use Rattle.base.specs.Tests.{◌=?◌, pick}
use Rattle.base.proofs.TestLaws.{eq_yes, eq_no}
use Rattle.base.specs.Lists.{Each}
use Rattle.base.proofs.Totals.{total, total_none}
use Rattle.format.specs.Types.{Action}
use Rattle.replication.specs.Machine.Colours.{of_creator}

-- One more of the number k.
total_past : (n k : ℕ) (f : ℕ → ℕ) → n ≤ k → total n (λ c. pick (k =? c) (suc (f c)) (f c)) ≡ total n f
unfolding total pick
total_past zero k f h = refl
total_past (suc n) k f h =
    omega (arith, total_past n k f (omega arith), ap (λ b. pick b (suc (f n)) (f n)) (eq_no k n (λ e. omega arith)))

total_more : (n k : ℕ) (f : ℕ → ℕ) → k < n → total n (λ c. pick (k =? c) (suc (f c)) (f c)) ≡ suc (total n f)
unfolding total pick
total_more zero k f h = absurd (omega arith)
total_more (suc n) k f h = go (λ a. total_more n k f a) (dec_lt k n)
  where
    go : (k < n → total n (λ c. pick (k =? c) (suc (f c)) (f c)) ≡ suc (total n f)) → Dec (k < n) → total (suc n) (λ c. pick (k =? c) (suc (f c)) (f c)) ≡ suc (total (suc n) f)
    go t (yes a) = omega (arith, t a, ap (λ b. pick b (suc (f n)) (f n)) (eq_no k n (λ e. omega arith)))
    go t (no a) =
        let e : k ≡ n = omega arith in
        omega (arith, total_past n k f (omega arith), ap (λ b. pick b (suc (f n)) (f n)) (eq_yes k n e))

pub creators_total : (n : ℕ) (xs : List Action) → Each (λ a. a.id.creator < n) xs → total n (λ c. of_creator c xs) ≡ length xs
unfolding of_creator
creators_total n [] h = total_none n
creators_total n (x ∷ xs) h = total_more n x.id.creator (λ c. of_creator c xs) h.0 ∙ ap suc (creators_total n xs h.1)

total_bound : (n q : ℕ) (f : ℕ → ℕ) → ((c : ℕ) → c < n → f c ≤ q) → total n f ≤ n * q
unfolding total
total_bound zero q f h = omega arith
total_bound (suc n) q f h = omega (arith, total_bound n q f (λ c k. h c (omega arith)), h n (omega arith))

-- Where one has room, not all places are used.
pub total_room : (n q k : ℕ) (f : ℕ → ℕ) → ((c : ℕ) → c < n → f c ≤ q) → k < n → f k < q → total n f < n * q
unfolding total
total_room zero q k f h a r = absurd (omega arith)
total_room (suc n) q k f h a r = go (λ b. total_room n q k f (λ c j. h c (omega arith)) b r) (dec_lt k n)
  where
    go : (k < n → total n f < n * q) → Dec (k < n) → total (suc n) f < suc n * q
    go t (yes b) = omega (arith, t b, h n (omega arith))
    go t (no b) = let e : k ≡ n = omega arith in omega (arith, total_bound n q f (λ c j. h c (omega arith)), ap f e)

pub places_left : (n q k : ℕ) (xs : List Action) → Each (λ a. a.id.creator < n) xs → ((c : ℕ) → c < n → of_creator c xs ≤ q) → k < n
    → of_creator k xs < q → length xs < n * q
places_left n q k xs e h a r = omega (arith, creators_total n xs e, total_room n q k (λ c. of_creator c xs) h a r)

pub places_most : (n q : ℕ) (xs : List Action) → Each (λ a. a.id.creator < n) xs → ((c : ℕ) → c < n → of_creator c xs ≤ q) → length xs ≤ n * q
places_most n q xs e h = omega (arith, creators_total n xs e, total_bound n q (λ c. of_creator c xs) h)

-- In any list those of creators below n are no more than all.
total_most : (n k : ℕ) (f : ℕ → ℕ) → total n (λ c. pick (k =? c) (suc (f c)) (f c)) ≤ suc (total n f)
total_most n k f = go (dec_lt k n)
  where
    go : Dec (k < n) → total n (λ c. pick (k =? c) (suc (f c)) (f c)) ≤ suc (total n f)
    go (yes a) = omega (arith, total_more n k f a)
    go (no a) = omega (arith, total_past n k f (omega arith))

pub creators_at_most : (n : ℕ) (xs : List Action) → total n (λ c. of_creator c xs) ≤ length xs
unfolding of_creator
creators_at_most n [] = omega (arith, total_none n)
creators_at_most n (x ∷ xs) = omega (arith, total_most n x.id.creator (λ c. of_creator c xs), creators_at_most n xs)
