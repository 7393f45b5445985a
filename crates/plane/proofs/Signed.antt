-- Signed numbers of 32 bits: compared, and how far apart two of them are.
use Prim.Native.Nat.{ℕ, zero, suc, ◌+◌, ◌-◌, ◌≤◌, ◌<◌}
use mathlib.Core.Path.{◌≡◌, refl, sym, ap, ap₂, ◌∙◌}
use mathlib.Core.Bool.{Bool, false, cond}
use native.Mathlib.Omega.{arith}
use lib.Dec.{T, le→leb}
use lib.IntN.{ℤ, pos, negsuc, sub_ℕ, ◌-ℤ◌, nat_abs}
use lib.Signed.{le_z, ◌≤ℤ◌}
use mir.Syntax.{w32}
use mir.Val.{SFits, to_z, of_z}
use mir.Facts.{to_z-of_z}
use Rattle.base.specs.Tests.{◌<?◌}
use Rattle.base.proofs.Branches.{told_le}
use Rattle.base.proofs.TestLaws.{Known, known, holds, fails, not_both, le_fails, lt_holds, lt_fails}

-- What the code has of a number: its bits, read.
abbrev pub bits_of : ℤ → ℤ
bits_of z = to_z w32 (of_z w32 z)

-- ---- compared

not_le : (x y : ℤ) → le_z x y ≡ false → T (le_z y x)
not_le (pos a) (pos b) e = le→leb b a (omega (arith, le_fails a b (sym (told_le a b) ∙ e)))
not_le (pos a) (negsuc b) e = tt
not_le (negsuc a) (pos b) e = not_both (sym e)
not_le (negsuc a) (negsuc b) e = le→leb a b (omega (arith, le_fails b a (sym (told_le b a) ∙ e)))

pub le_other : (x y : ℤ) → le_z x y ≡ false → y ≤ℤ x
le_other x y e = record { le = not_le x y e }

-- As the code compares them, by their bits.
pub bits_test : (x y : ℤ) → SFits w32 x → SFits w32 y → le_z (bits_of x) (bits_of y) ≡ le_z x y
bits_test x y f g = ap₂ {A = ℤ} {B = ℤ} {C = Bool} le_z (to_z-of_z f) (to_z-of_z g)

-- ---- differences

sub_abs : (a b : ℕ) → nat_abs (sub_ℕ a b) ≡ (a - b) + (b - a)
unfolding ◌<?◌
sub_abs a b = go (known (a <? b))
  where
    go : Known (a <? b) → nat_abs (sub_ℕ a b) ≡ (a - b) + (b - a)
    go (holds e) =
        let h : a < b = lt_holds a b e in
        ap (λ (t : Bool). nat_abs (cond t (negsuc (b - suc a)) (pos (a - b)))) e ∙ omega arith
    go (fails e) =
        let h : b ≤ a = lt_fails a b e in
        ap (λ (t : Bool). nat_abs (cond t (negsuc (b - suc a)) (pos (a - b)))) e ∙ omega arith

-- Either way round they are as far apart.
pub same_gap : (x y : ℤ) → nat_abs (x -ℤ y) ≡ nat_abs (y -ℤ x)
same_gap (pos zero) (pos zero) = refl
same_gap (pos zero) (pos (suc b)) = sub_abs 0 (suc b) ∙ omega arith
same_gap (pos (suc a)) (pos zero) = let e : suc a + 0 ≡ (0 - suc a) + (suc a - 0) = omega arith in e ∙ sym (sub_abs 0 (suc a))
same_gap (pos (suc a)) (pos (suc b)) =
    let e : (suc a - suc b) + (suc b - suc a) ≡ (suc b - suc a) + (suc a - suc b) = omega arith in
    sub_abs (suc a) (suc b) ∙ e ∙ sym (sub_abs (suc b) (suc a))
same_gap (pos zero) (negsuc b) = let e : 0 + suc b ≡ (0 - suc b) + (suc b - 0) = omega arith in e ∙ sym (sub_abs 0 (suc b))
same_gap (pos (suc a)) (negsuc b) = let e : suc a + suc b ≡ suc (suc (b + a)) = omega arith in e
same_gap (negsuc a) (pos zero) = sub_abs 0 (suc a) ∙ omega arith
same_gap (negsuc a) (pos (suc b)) = let e : suc (suc (a + b)) ≡ suc b + suc a = omega arith in e
same_gap (negsuc a) (negsuc b) =
    let e : (suc b - suc a) + (suc a - suc b) ≡ (suc a - suc b) + (suc b - suc a) = omega arith in
    sub_abs (suc b) (suc a) ∙ e ∙ sym (sub_abs (suc a) (suc b))
