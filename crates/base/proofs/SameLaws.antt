-- The test that two lists of numbers are the same.
use Prim.Native.Nat.{ℕ}
use mathlib.Core.Path.{◌≡◌, refl}
use mathlib.Core.Bool.{true}
use mathlib.Core.List.{List, [], ◌∷◌}
use Rattle.base.proofs.TestLaws.{not_both, and_holds, both_yes, eq_yes, eq_holds}
use Rattle.base.specs.Lists.{same}

pub same_yes : (x : List ℕ) → same x x ≡ true
unfolding same
same_yes [] = refl
same_yes (a ∷ x) = both_yes _ _ (eq_yes a a refl) (same_yes x)

pub same_holds : (x y : List ℕ) → same x y ≡ true → x ≡ y
unfolding same
same_holds [] [] h = refl
same_holds [] (b ∷ y) h = not_both h
same_holds (a ∷ x) [] h = not_both h
same_holds (a ∷ x) (b ∷ y) h =
    let t = and_holds _ _ h in
    let first = eq_holds a b t.0 in
    let rest = same_holds x y t.1 in
    λ i. first i ∷ rest i
