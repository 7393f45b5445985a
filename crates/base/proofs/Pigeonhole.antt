-- Values that differ pairwise and lie below m are at most m; two numbers as one, to count pairs.
use Prim.Native.Nat.{ℕ, zero, suc, ◌+◌, ◌*◌, ◌/◌, ◌≤◌, ◌<◌}
use mathlib.Core.Path.{◌≡◌, refl, sym, ap, ◌∙◌}
use native.Mathlib.Nat.{suc-mul, mul-le-mul_right, mul-add-div_right, div-eq_of_lt}
use native.Mathlib.Omega.{arith}
use Rattle.base.specs.Tests.{◌=?◌, pick}
use Rattle.base.proofs.TestLaws.{pick_yes, pick_no, eq_holds, eq_fails, Known, holds, fails, known}

-- f with the value v in place of m
instead : (m v : ℕ) → (ℕ → ℕ) → ℕ → ℕ
instead m v f i = pick (f i =? m) v (f i)

data Instead (m v : ℕ) (f : ℕ → ℕ) (i : ℕ) : Type 0 where
  changed : f i ≡ m → instead m v f i ≡ v → Instead m v f i
  kept : (f i ≡ m → ⊥) → instead m v f i ≡ f i → Instead m v f i

instead? : (m v : ℕ) (f : ℕ → ℕ) (i : ℕ) → Instead m v f i
unfolding instead
instead? m v f i = go (known (f i =? m))
  where
    go : Known (f i =? m) → Instead m v f i
    go (holds h) = changed (eq_holds (f i) m h) (sym (pick_yes (f i =? m) v v (f i) h refl))
    go (fails h) = kept (eq_fails (f i) m h) (sym (pick_no (f i =? m) (f i) v (f i) h refl))

abbrev pub Differ : (k : ℕ) → (ℕ → ℕ) → Type 0
Differ k f = (i j : ℕ) → i < j → j < k → f i ≡ f j → ⊥

abbrev pub Below : (k m : ℕ) → (ℕ → ℕ) → Type 0
Below k m f = (i : ℕ) → i < k → f i < m

-- The k values f 0, f 1, .. differ and lie below m.
pub pigeonhole : (k m : ℕ) (f : ℕ → ℕ) → Below k m f → Differ k f → k ≤ m
pigeonhole zero m f b d = omega arith
pigeonhole (suc k) zero f b d = absurd (omega (arith, b 0 (omega arith)))
pigeonhole (suc k) (suc m) f b d = let fewer : k ≤ m = pigeonhole k m (instead m (f k) f) below differ in omega arith
  where
    below : Below k m (instead m (f k) f)
    below i h = go (instead? m (f k) f i)
      where
        go : Instead m (f k) f i → instead m (f k) f i < m
        go (changed p e) = omega (arith, b k (omega arith), d i k h (omega arith))
        go (kept p e) = omega (arith, b i (omega arith))

    differ : Differ k (instead m (f k) f)
    differ i j h l = go (instead? m (f k) f i) (instead? m (f k) f j)
      where
        go : Instead m (f k) f i → Instead m (f k) f j → instead m (f k) f i ≡ instead m (f k) f j → ⊥
        go (changed p e) (changed p' e') q = d i j h (omega arith) (p ∙ sym p')
        go (changed p e) (kept p' e') q = d j k l (omega arith) (omega arith)
        go (kept p e) (changed p' e') q = d i k (omega arith) (omega arith) (omega arith)
        go (kept p e) (kept p' e') q = d i j h (omega arith) (omega arith)

-- ---- the number a * q + b, with b below q, stands for the pair of a and b

pub pair_below : (n q a b : ℕ) → a < n → b < q → a * q + b < n * q
pair_below n q a b h k =
    let rows : suc a * q ≤ n * q = mul-le-mul_right q h in
    let row : suc a * q ≡ a * q + q = suc-mul a q in
    omega arith

pub pair_first : (q a b a' b' : ℕ) → b < q → b' < q → a * q + b ≡ a' * q + b' → a ≡ a'
pair_first q a b a' b' h h' e =
    let positive : 0 < q = omega arith in
    let left : (a * q + b) / q ≡ a + b / q = mul-add-div_right positive a b in
    let right : (a' * q + b') / q ≡ a' + b' / q = mul-add-div_right positive a' b' in
    omega (arith, left, right, ap (λ (n : ℕ). n / q) e, div-eq_of_lt h, div-eq_of_lt h')

pub pair_second : (q a b a' b' : ℕ) → b < q → b' < q → a * q + b ≡ a' * q + b' → b ≡ b'
pair_second q a b a' b' h h' e = omega (arith, ap (λ (n : ℕ). n * q) (pair_first q a b a' b' h h' e))
