-- Entries of one size, one after another: a test at the place of each, with the laws of a loop over them.
use Prim.Native.Nat.{ℕ, zero, suc, ◌+◌, ◌*◌, ◌-◌, ◌≤◌, ◌<◌}
use mathlib.Core.Path.{◌≡◌, refl, sym, ap, ◌∙◌}
use mathlib.Core.Bool.{Bool, true, false, not}
use mathlib.Core.List.{List}
use native.Mathlib.Omega.{arith}
use borrow.Author.Tests.{not-true, not-false}
use Rattle.base.specs.Tests.{◌and◌}
use Rattle.base.proofs.TestLaws.{and_holds, and_yes, and_no, both_yes}
use Rattle.base.specs.Lists.{every_at, all}
use Rattle.base.specs.Bytes.{number_at, numbers_at}

-- ---- for a loop: the first of the entries that are left, and the others

pub every_more : (t : ℕ → Bool) (w m at : ℕ) → 0 < m → every_at t w m at ≡ (t at and every_at t w (m - 1) (at + w))
unfolding every_at
every_more t w zero at h = absurd (omega arith)
every_more t w (suc m) at h = let e : suc m - 1 ≡ m = omega arith in rw e

-- v is the answer for all, b what a call answered of the first.

pub every_again : (t : ℕ → Bool) (w m at : ℕ) (v b : Bool) → v ≡ every_at t w m at → 0 < m → b ≡ t at → not b ≡ false
    → v ≡ every_at t w (m - 1) (at + w)
every_again t w m at v b h l e k = h ∙ every_more t w m at l ∙ sym (and_yes _ (t at) _ (sym e ∙ not-false b k) refl)

pub every_denied : (t : ℕ → Bool) (w m at : ℕ) (v b : Bool) → v ≡ every_at t w m at → 0 < m → b ≡ t at → not b ≡ true → false ≡ v
every_denied t w m at v b h l e k = and_no (t at) _ (sym e ∙ not-true b k) ∙ sym (h ∙ every_more t w m at l)

pub every_end : (t : ℕ → Bool) (w m at : ℕ) (v : Bool) → v ≡ every_at t w m at → m ≤ 0 → true ≡ v
unfolding every_at
every_end t w zero at v h l = sym h
every_end t w (suc m) at v h l = absurd (omega arith)

-- ---- what it says

pub every_implied : (t u : ℕ → Bool) → ((i : ℕ) → t i ≡ true → u i ≡ true) → (w m at : ℕ) → every_at t w m at ≡ true → every_at u w m at ≡ true
unfolding every_at
every_implied t u f w zero at h = refl
every_implied t u f w (suc m) at h = let b = and_holds _ _ h in both_yes _ _ (f at b.0) (every_implied t u f w m (at + w) b.1)

pub every_both : (t u : ℕ → Bool) (w m at : ℕ) → every_at t w m at ≡ true → every_at u w m at ≡ true → every_at (λ i. t i and u i) w m at ≡ true
unfolding every_at
every_both t u w zero at h k = refl
every_both t u w (suc m) at h k =
    let a = and_holds _ _ h in
    let b = and_holds _ _ k in
    both_yes _ _ (both_yes _ _ a.0 b.0) (every_both t u w m (at + w) a.1 b.1)

-- Of numbers.
pub every_number : (t : ℕ → Bool) (w m : ℕ) (e : List ℕ) (at : ℕ) → every_at (λ i. t (number_at w e i)) w m at ≡ all t (numbers_at w m e at)
unfolding every_at all numbers_at
every_number t w zero e at = refl
every_number t w (suc m) e at = ap (λ (b : Bool). t (number_at w e at) and b) (every_number t w m e (at + w))

-- ---- every entry, and each

module _ (t : ℕ → Bool) (w : ℕ) where
  next_entry : (p k : ℕ) → t (p + w + w * k) ≡ t (p + w * suc k)
  next_entry p k = let e : p + w + w * k ≡ p + w * suc k = omega arith in ap t e

  pub every_each : (m p : ℕ) → every_at t w m p ≡ true → (k : ℕ) → k < m → t (p + w * k) ≡ true
  unfolding every_at
  every_each zero p h k l = absurd (omega arith)
  every_each (suc m) p h zero l = let e : p + w * 0 ≡ p = omega arith in ap t e ∙ (and_holds _ _ h).0
  every_each (suc m) p h (suc k) l = sym (next_entry p k) ∙ every_each m (p + w) (and_holds _ _ h).1 k (omega arith)

  pub each_every : (m p : ℕ) → ((k : ℕ) → k < m → t (p + w * k) ≡ true) → every_at t w m p ≡ true
  unfolding every_at
  each_every zero p f = refl
  each_every (suc m) p f =
      let e : p ≡ p + w * 0 = omega arith in
      both_yes _ _ (ap t e ∙ f 0 (omega arith)) (each_every m (p + w) (λ k l. next_entry p k ∙ f (suc k) (omega arith)))
