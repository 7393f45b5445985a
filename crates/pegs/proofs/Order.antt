-- The order of names.
use Prim.Native.Nat.{ℕ, ◌<◌}
use mathlib.Core.Path.{◌≡◌, refl, sym, ◌∙◌}
use mathlib.Core.Bool.{true, false}
use mathlib.Core.List.{List, [], ◌∷◌}
use native.Mathlib.Omega.{arith}
use Rattle.base.specs.Tests.{◌and◌, ◌or◌, ◌<?◌, ◌=?◌}
use Rattle.base.specs.Lists.{same}
use Rattle.base.proofs.TestLaws.{Known, known, holds, fails, lt_holds, lt_yes, lt_no, lt_fails, eq_holds, eq_yes, eq_fails, and_holds, not_both}
use Rattle.pegs.specs.Names.{before}

-- ---- the order of names

-- The first bytes decide, whatever follows; then what follows.
is_lower : (a b : ℕ) (u v : List ℕ) → a < b → before (a ∷ u) (b ∷ v) ≡ true
unfolding before ◌or◌
is_lower a b u v h = rw (lt_yes a b h)

is_level : (a b : ℕ) (u v : List ℕ) → a ≡ b → before u v ≡ true → before (a ∷ u) (b ∷ v) ≡ true
unfolding before ◌or◌ ◌and◌
is_level a b u v h e = rw (lt_no a b (omega arith), eq_yes a b h, e)

pub data First (a b : ℕ) (u v : List ℕ) : Type 0 where
  lower : a < b → First a b u v
  level : a ≡ b → before u v ≡ true → First a b u v

first? : (a b : ℕ) (u v : List ℕ) → before (a ∷ u) (b ∷ v) ≡ true → First a b u v
unfolding before ◌or◌
first? a b u v e = go (known (a <? b))
  where
    go : Known (a <? b) → First a b u v
    go (holds f) = lower (lt_holds a b f)
    go (fails f) = let h = and_holds (a =? b) (before u v) (rw f at e) in level (eq_holds a b h.0) h.1

pub before_trans : (u v w : List ℕ) → before u v ≡ true → before v w ≡ true → before u w ≡ true
unfolding before
before_trans [] [] w e f = not_both e
before_trans [] (b ∷ v) [] e f = not_both f
before_trans [] (b ∷ v) (c ∷ w) e f = e
before_trans (a ∷ u) [] w e f = not_both e
before_trans (a ∷ u) (b ∷ v) [] e f = not_both f
before_trans (a ∷ u) (b ∷ v) (c ∷ w) e f = go (first? a b u v e) (first? b c v w f) (λ g h. before_trans u v w g h)
  where
    go : First a b u v → First b c v w → (before u v ≡ true → before v w ≡ true → before u w ≡ true) → before (a ∷ u) (c ∷ w) ≡ true
    go (lower x) (lower y) i = is_lower a c u w (omega arith)
    go (lower x) (level y g) i = is_lower a c u w (omega arith)
    go (level x g) (lower y) i = is_lower a c u w (omega arith)
    go (level x g) (level y h) i = is_level a c u w (omega arith) (i g h)

pub before_irrefl : (u : List ℕ) → before u u ≡ false
unfolding before ◌or◌ ◌and◌
before_irrefl [] = refl
before_irrefl (a ∷ u) = rw (lt_no a a (omega arith), eq_yes a a refl) (before_irrefl u)

pub before_total : (u v : List ℕ) → same u v ≡ false → before u v ≡ false → before v u ≡ true
unfolding same before ◌or◌ ◌and◌
before_total [] [] e f = not_both (sym e)
before_total [] (b ∷ v) e f = not_both (sym f)
before_total (a ∷ u) [] e f = refl
before_total (a ∷ u) (b ∷ v) e f = go (known (a <? b)) (known (a =? b)) (λ x y. before_total u v x y)
  where
    go : Known (a <? b) → Known (a =? b) → (same u v ≡ false → before u v ≡ false → before v u ≡ true) → before (b ∷ v) (a ∷ u) ≡ true
    go (holds x) y i = not_both (sym f ∙ rw x)
    go (fails x) (holds y) i =
        let z : a ≡ b = eq_holds a b y in
        is_level b a v u (sym z) (i (rw y at e) (rw (x, y) at f))
    go (fails x) (fails y) i = is_lower b a v u (omega (arith, lt_fails a b x, eq_fails a b y))
