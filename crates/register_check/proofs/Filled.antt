-- Zeros behind a name: as bytes, as a part of the buffer, and by words that may overlap.
use Prim.Native.Nat.{ℕ, zero, suc, ◌+◌, ◌*◌, ◌-◌, ◌≤◌, ◌<◌}
use mathlib.Core.Path.{◌≡◌, refl, sym, ap, ap₂, ◌∙◌}
use mathlib.Core.Bool.{true}
use mathlib.Core.List.{List, ◌∷◌}
use native.Mathlib.Omega.{arith}
use lib.ListN.{length, get_or, take, drop}
use lib.Seq.{drop-cons, get_or-take, get_or-drop}
use Rattle.base.specs.Tests.{◌<?◌}
use Rattle.base.specs.Bytes.{number_at, part_at, zeros, zero_at}
use Rattle.base.specs.Lists.{every_at}
use Rattle.base.proofs.TestLaws.{Known, known, holds, fails, lt_holds, lt_fails, eq_yes, eq_holds}
use Rattle.base.proofs.Entries.{every_each, each_every}
use Rattle.base.proofs.ListLaws.{replicate_at}

-- The m bytes from p on are zero.
abbrev pub Zeros : List ℕ → (m p : ℕ) → Type 0
Zeros b m p = (k : ℕ) → k < m → get_or b (p + k) 0 ≡ 0

at_one : (b : List ℕ) (p k : ℕ) → get_or b (p + 1 * k) 0 ≡ get_or b (p + k) 0
at_one b p k = let e : p + 1 * k ≡ p + k = omega arith in ap (λ (i : ℕ). get_or b i 0) e

pub every_zeros : (b : List ℕ) (m p : ℕ) → every_at (zero_at b) 1 m p ≡ true → Zeros b m p
unfolding zero_at
every_zeros b m p h k l = sym (at_one b p k) ∙ eq_holds _ 0 (every_each (zero_at b) 1 m p h k l)

pub zeros_every : (b : List ℕ) (m p : ℕ) → Zeros b m p → every_at (zero_at b) 1 m p ≡ true
unfolding zero_at
zeros_every b m p z = each_every (zero_at b) 1 m p (λ k l. eq_yes _ 0 (at_one b p k ∙ z k l))

-- ---- as a part

pub zeros_part : (m : ℕ) (b : List ℕ) (p : ℕ) → p + m ≤ length b → Zeros b m p → part_at m b p ≡ zeros m
unfolding part_at zeros
zeros_part zero b p h z = refl
zeros_part (suc m) b p h z =
    let e : get_or b p 0 ≡ 0 = (let f : p ≡ p + 0 = omega arith in ap (λ (i : ℕ). get_or b i 0) f) ∙ z 0 (omega arith) in
    let more : Zeros b m (suc p) = λ k l. (let f : suc p + k ≡ p + suc k = omega arith in ap (λ (i : ℕ). get_or b i 0) f) ∙ z (suc k) (omega arith) in
    ap (take (suc m)) (drop-cons b p 0 (omega arith)) ∙ ap₂ {A = ℕ} {B = List ℕ} {C = List ℕ} (λ x y. x ∷ y) e (zeros_part m b (suc p) (omega arith) more)

pub part_zeros : (m : ℕ) (b : List ℕ) (p : ℕ) → part_at m b p ≡ zeros m → Zeros b m p
unfolding part_at zeros
part_zeros m b p e k l = sym (get_or-drop p b k 0) ∙ sym (get_or-take m (drop p b) k 0 l) ∙ ap (λ (x : List ℕ). get_or x k 0) e ∙ replicate_at 0 m k

-- ---- as a number

pub number_zeros : (b : List ℕ) (w p : ℕ) → number_at w b p ≡ 0 → Zeros b w p
unfolding number_at
number_zeros b zero p e k l = absurd (omega arith)
number_zeros b (suc w) p e k l = go (known (k <? w)) (λ n. number_zeros b w p (omega arith) k n)
  where
    go : Known (k <? w) → (k < w → get_or b (p + k) 0 ≡ 0) → get_or b (p + k) 0 ≡ 0
    go (holds h) i = i (lt_holds k w h)
    go (fails h) i = let f : p + k ≡ p + w = omega (arith, lt_fails k w h) in ap (λ (j : ℕ). get_or b j 0) f ∙ omega arith

pub zeros_number : (b : List ℕ) (w p : ℕ) → Zeros b w p → number_at w b p ≡ 0
unfolding number_at
zeros_number b zero p z = refl
zeros_number b (suc w) p z = omega (arith, zeros_number b w p (λ k l. z k (omega arith)), z w (omega arith))

-- ---- parts

-- Bytes from d on among those from p on.
pub inside : (b : List ℕ) (m p n d : ℕ) → d + n ≤ m → Zeros b m p → Zeros b n (p + d)
inside b m p n d h z k l = (let e : p + d + k ≡ p + (d + k) = omega arith in ap (λ (i : ℕ). get_or b i 0) e) ∙ z (d + k) (omega arith)

-- Two parts, of n bytes and of w, that leave no byte out between them.
pub together : (b : List ℕ) (m p n w d : ℕ) → d ≤ n → m ≤ d + w → Zeros b n p → Zeros b w (p + d) → Zeros b m p
together b m p n w d h g y z k l = go (known (k <? n))
  where
    go : Known (k <? n) → get_or b (p + k) 0 ≡ 0
    go (holds f) = y k (lt_holds k n f)
    go (fails f) =
        let o : n ≤ k = lt_fails k n f in
        (let e : p + k ≡ p + d + (k - d) = omega arith in ap (λ (i : ℕ). get_or b i 0) e) ∙ z (k - d) (omega arith)
