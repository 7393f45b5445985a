-- When two sets share a member of a third one.
use Prim.Native.Nat.{ℕ, zero, suc, ◌+◌, ◌≤◌, ◌<◌, ◌/◌, ◌%◌, ◌^◌, min}
use mathlib.Core.Path.{◌≡◌, refl, sym, ap, ◌∙◌}
use mathlib.Core.Bool.{true}
use native.Mathlib.Nat.{mod-lt, pow-succ'}
use native.Mathlib.Omega.{arith}
use lib.Bits.{bit_and, and_zero_l}
use lib.Count.{ones, ones_step}
use Rattle.base.proofs.TestLaws.{eq_yes, and_holds}
use Rattle.base.specs.Sets.{in_set, size, common}
use Rattle.base.proofs.SetLaws.{common_below, in_set_zero, in_set_suc, and_half, and_rest, in_common}

rest : (n : ℕ) → n % 2 < 2
rest n = mod-lt n (omega arith)

common_step : (s t : ℕ) → size (common s t) ≡ min (s % 2) (t % 2) + size (common (s / 2) (t / 2))
unfolding size common
common_step s t = omega (arith, ones_step (bit_and s t), and_rest s t, ap ones (and_half s t))

least : (x y z : ℕ) → x < 2 → y < 2 → z < 2 → min x y + min x z ≤ x + min x (min y z)
least x y z h j k = omega arith

-- What two sets have of a set, and what both of them have of it.
shared : (m p a b : ℕ) → p < 2 ^ m → size (common p a) + size (common p b) ≤ size p + size (common p (common a b))
unfolding size common
shared zero p a b h = let e : p ≡ 0 = omega arith in rw e (omega (arith, ap ones (and_zero_l a), ap ones (and_zero_l b)))
shared (suc m) p a b h =
    let with-a = common_step p a in
    let with-b = common_step p b in
    let with-both = common_step p (common a b) in
    let halves = ap (λ x. size (common (p / 2) x)) (and_half a b) in
    let lowest = least (p % 2) (a % 2) (b % 2) (rest p) (rest a) (rest b) in
    let others = shared m (p / 2) (a / 2) (b / 2) (omega (arith, pow-succ' 2 m)) in
    omega (arith, ones_step p, and_rest a b)

-- A set that is not empty has a member.
pub some_member : (m s : ℕ) → s < 2 ^ m → 0 < size s → (k : ℕ) × (in_set k s ≡ true)
unfolding size ones
some_member zero s h z = let e : s ≡ 0 = omega arith in absurd (omega (arith, rw e at z))
some_member (suc m) s h z = go (s % 2) refl (rest s) (some_member m (s / 2) (omega (arith, pow-succ' 2 m)))
  where
    go : (r : ℕ) → s % 2 ≡ r → r < 2 → (0 < size (s / 2) → (k : ℕ) × (in_set k (s / 2) ≡ true)) → (k : ℕ) × (in_set k s ≡ true)
    go zero e l f = let x = f (omega (arith, ones_step s)) in (suc x.0, in_set_suc x.0 s ∙ x.1)
    go (suc zero) e l f = (0, in_set_zero s ∙ eq_yes _ 1 e)
    go (suc (suc r)) e l f = absurd (omega arith)

-- Two sets that together have more of a set's members than there are share one of them.
pub shares_meet : (m p a b : ℕ) → p < 2 ^ m → size p < size (common p a) + size (common p b)
    → (k : ℕ) × (in_set k p ≡ true) × (in_set k a ≡ true) × (in_set k b ≡ true)
shares_meet m p a b h f =
    let x = some_member m (common p (common a b)) (common_below m p (common a b) h) (omega (arith, shared m p a b h)) in
    let y = and_holds _ _ (sym (in_common x.0 p (common a b)) ∙ x.1) in
    let z = and_holds _ _ (sym (in_common x.0 a b) ∙ y.1) in
    (x.0, y.0, z.0, z.1)

-- So do two sets that both have one and the same member of it.
pub member_meets : (k p a b : ℕ) → in_set k (common p a) ≡ true → in_set k (common p b) ≡ true
    → (k : ℕ) × (in_set k p ≡ true) × (in_set k a ≡ true) × (in_set k b ≡ true)
member_meets k p a b f g =
    let y = and_holds _ _ (sym (in_common k p a) ∙ f) in
    let z = and_holds _ _ (sym (in_common k p b) ∙ g) in
    (k, y.0, y.1, z.1)
