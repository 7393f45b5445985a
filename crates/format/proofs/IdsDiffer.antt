-- Ids that differ: no two places of their list hold the same one.
use Prim.Native.Nat.{ℕ, zero, suc, ◌<◌}
use mathlib.Core.Path.{◌≡◌, sym, ◌∙◌}
use mathlib.Core.Bool.{true, false}
use mathlib.Core.List.{List, [], ◌∷◌}
use native.Mathlib.Omega.{arith}
use lib.ListN.{length, get_or}
use Rattle.base.proofs.TestLaws.{not_both, and_holds, both_yes, not_holds, or_fails, eq_yes}
use Rattle.format.specs.Types.{Id}
use Rattle.format.specs.Range.{same_id, has_id, ids_differ}

-- what `get_or` gives past a list's end
abbrev pub no_id : Id
no_id = record { creator = 0; index = 0 }

same_id_lem : (x y : Id) → x.creator ≡ y.creator → x.index ≡ y.index → same_id x y ≡ true
unfolding same_id
same_id_lem x y a b = both_yes _ _ (eq_yes x.creator y.creator a) (eq_yes x.index y.index b)

not_had : (x : Id) (ys : List Id) (j : ℕ) → has_id x ys ≡ false → j < length ys → same_id x (get_or ys j no_id) ≡ false
unfolding has_id
not_had x [] j no_such h = absurd (omega arith)
not_had x (y ∷ ys) zero no_such h = (or_fails _ _ no_such).0
not_had x (y ∷ ys) (suc j) no_such h = not_had x ys j (or_fails _ _ no_such).1 (omega arith)

pub differ_at : (xs : List Id) (i j : ℕ) → ids_differ xs ≡ true → i < j → j < length xs → (get_or xs i no_id).creator ≡ (get_or xs j no_id).creator
    → (get_or xs i no_id).index ≡ (get_or xs j no_id).index → ⊥
unfolding ids_differ
differ_at [] i j ok h l a b = absurd (omega arith)
differ_at (x ∷ xs) zero zero ok h l a b = omega arith
differ_at (x ∷ xs) (suc i) zero ok h l a b = omega arith
differ_at (x ∷ xs) zero (suc j) ok h l a b =
    not_both (sym (not_had x xs j (not_holds _ (and_holds _ _ ok).0) (omega arith)) ∙ same_id_lem x (get_or xs j no_id) a b)
differ_at (x ∷ xs) (suc i) (suc j) ok h l a b = differ_at xs i j (and_holds _ _ ok).1 (omega arith) (omega arith) a b
