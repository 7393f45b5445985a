-- The order of names, and whether they are the same, as std compares slices.
use Prim.Native.Nat.{ℕ}
use mathlib.Core.Path.{◌≡◌, refl, sym, ap, ap₂, ◌∙◌}
use mathlib.Core.Bool.{Bool, true, false}
use mathlib.Core.List.{List, [], ◌∷◌}
use native.Mathlib.Omega.{arith}
use Rattle.std.specs.Prelude.{◌&&◌, nat_eq, Some}
use Rattle.std.specs.Ordering.{nat_cmp, is_lt, is_some_and}
use Rattle.std.specs.Cmp.Lexicographic.{pointwise, slice_partial_cmp}
use Rattle.std.proofs.lemmas.Bool.Decides.{nat_tests}
use Rattle.std.proofs.lemmas.Cmp.{same_from_slice_cmp_tested, nat_list_eq_equiv}
use Rattle.base.specs.Tests.{◌<?◌, ◌=?◌, ◌or◌, ◌and◌}
use Rattle.base.specs.Lists.{same}
use Rattle.pegs.specs.Names.{before}

pub less_before : (u v : List ℕ) (r : Bool) → r ≡ is_some_and is_lt (slice_partial_cmp (λ x y. Some (nat_cmp x y)) u v) → r ≡ before u v
unfolding before ◌or◌ ◌and◌ ◌<?◌ ◌=?◌
less_before = same_from_slice_cmp_tested nat_cmp is_lt before refl (λ _ _. refl) (λ _ _. refl) (λ x y xs ys o h. grind (arith, nat_tests))

both : (t u : Bool) → (t && u) ≡ (t and u)
unfolding ◌and◌
both true u = refl
both false u = refl

equal_same : (u v : List ℕ) → pointwise nat_eq u v ≡ same u v
unfolding same ◌=?◌
equal_same [] [] = refl
equal_same [] (b ∷ v) = refl
equal_same (a ∷ u) [] = refl
equal_same (a ∷ u) (b ∷ v) = ap (λ (t : Bool). nat_eq a b && t) (equal_same u v) ∙ both (nat_eq a b) (same u v)

pub equal_is : (u v : List ℕ) (r : Bool) → r ≡ pointwise nat_eq u v → r ≡ same v u
equal_is u v r h = h ∙ nat_list_eq_equiv.symm u v ∙ equal_same v u
