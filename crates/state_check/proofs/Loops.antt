-- A loop over entries of one size: the first k of m entries of w bytes from `at` on passed the test.
use Prim.Native.Nat.{ℕ, ◌+◌, ◌*◌, ◌-◌, ◌≤◌, ◌<◌}
use mathlib.Core.Path.{◌≡◌, ◌∙◌}
use mathlib.Core.Bool.{Bool, true, false, not}
use native.Mathlib.Nat.{mul-suc}
use native.Mathlib.Omega.{arith}
use Rattle.base.specs.Lists.{every_at}
use Rattle.base.proofs.Entries.{every_again, every_denied, every_end}

module _ (t : ℕ → Bool) (w m at : ℕ) where
  pub each_start : every_at t w m at ≡ every_at t w (m - 0) (at + w * 0)
  each_start =
      let z : m ≡ m - 0 = omega arith in
      let y : at ≡ at + w * 0 = omega arith in
      λ i. every_at t w (z i) (y i)

  module _ (k : ℕ) (v : Bool) (e : v ≡ every_at t w (m - k) (at + w * k)) where
    pub each_again : (b : Bool) → k < m → b ≡ t (at + w * k) → not b ≡ false → v ≡ every_at t w (m - (k + 1)) (at + w * (k + 1))
    each_again b h f g =
        let z : m - k - 1 ≡ m - (k + 1) = omega arith in
        let y : at + w * k + w ≡ at + w * (k + 1) = omega (arith, mul-suc w k) in
        every_again t w (m - k) (at + w * k) v b e (omega arith) f g ∙ (λ i. every_at t w (z i) (y i))

    pub each_denied : (b : Bool) → k < m → b ≡ t (at + w * k) → not b ≡ true → false ≡ v
    each_denied b h f g = every_denied t w (m - k) (at + w * k) v b e (omega arith) f g

    pub each_end : m ≤ k → true ≡ v
    each_end h = every_end t w (m - k) (at + w * k) v e (omega arith)
