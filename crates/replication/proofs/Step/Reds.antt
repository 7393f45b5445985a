-- Install leaves no red action, if the reds differ and each is within its creator's cut.
use Prim.Native.Nat.{◌-◌, ◌≤◌}
use mathlib.Core.Path.{◌≡◌, refl, ap, subst}
use mathlib.Core.Bool.{true, false}
use mathlib.Core.List.{List, [], ◌∷◌}
use native.Mathlib.Omega.{arith}
use Rattle.base.specs.Tests.{◌or◌}
use Rattle.base.proofs.TestLaws.{not_both, Known, holds, fails, known}
use Rattle.base.specs.Counts.{count}
use Rattle.base.proofs.CountLaws.{one_yes}
use Rattle.format.specs.Types.{Id, Action}
use Rattle.format.specs.Range.{same_id, has_id}
use Rattle.replication.specs.Machine.Types.{Log}
use Rattle.replication.specs.Machine.Colours.{remove, promote, promote_found, green_id, green_ids}
use Rattle.replication.specs.Machine.Install.{ids_up_to, install_log}
use Rattle.replication.proofs.WellFormed.Ids.{same_id_yes, same_id_holds}
use Rattle.replication.proofs.WellFormed.Held.{action_count, Found, absent, found, found?}

-- ---- greening by ids

-- Greening one id adds no red action, and takes away one with that id.
green_id_reds : (d : Id) (l : Log) (e : Id)
    → (action_count e (green_id d l).red ≤ action_count e l.red) × (action_count d (green_id d l).red ≤ action_count d l.red - 1)
unfolding green_id promote_found promote
green_id_reds d l e = go (found? d l.red)
  where
    go : Found d l.red → (action_count e (green_id d l).red ≤ action_count e l.red) × (action_count d (green_id d l).red ≤ action_count d l.red - 1)
    go (absent f none) = rw f (omega arith, omega arith)
    go (found x f p rest) =
        let here = one_yes _ (same_id_yes d x.id (ap (λ y. y.creator) p) (ap (λ y. y.index) p)) in
        rw f (
          omega (arith, rest e, ap (λ y. action_count e (remove y l.red)) p),
          omega (arith, rest d, here, ap (λ y. action_count d (remove y l.red)) p),
        )

green_ids_most : (ds : List Id) (e : Id) (l : Log) → action_count e (green_ids ds l).red ≤ action_count e l.red
unfolding green_ids
green_ids_most [] e l = omega arith
green_ids_most (d ∷ ds) e l = omega (arith, green_ids_most ds e (green_id d l), (green_id_reds d l e).0)

-- An id that is greened is held red once less.
green_ids_one : (ds : List Id) (e : Id) (l : Log) → has_id e ds ≡ true → action_count e (green_ids ds l).red ≤ action_count e l.red - 1
unfolding green_ids has_id ◌or◌
green_ids_one [] e l h = not_both h
green_ids_one (d ∷ ds) e l h = go (known (same_id e d)) (λ k. green_ids_one ds e (green_id d l) k)
  where
    go : Known (same_id e d) → (has_id e ds ≡ true → action_count e (green_ids ds (green_id d l)).red ≤ action_count e (green_id d l).red - 1)
        → action_count e (green_ids ds (green_id d l)).red ≤ action_count e l.red - 1
    go (holds f) k =
        let less = subst (λ x. action_count e (green_id x l).red ≤ action_count e l.red - 1) (same_id_holds e d f) (green_id_reds e l e).1 in
        omega (arith, less, green_ids_most ds e (green_id d l))
    go (fails f) k = omega (arith, k (rw f at h), (green_id_reds d l e).0)

-- A list with no action of any id is empty.
none_empty : (l : List Action) → ((d : Id) → action_count d l ≡ 0) → l ≡ []
unfolding count
none_empty [] h = refl
none_empty (a ∷ l) h = absurd (omega (arith, h a.id, one_yes _ (same_id_yes a.id a.id refl refl)))

-- Install greens every red action.
pub install_empties : (ys : List Id) (l : Log) → ((d : Id) → action_count d l.red ≤ 1)
    → ((d : Id) → has_id d (ids_up_to 0 l.cuts) ≡ false → action_count d l.red ≡ 0) → (install_log ys l).red ≡ []
unfolding install_log
install_empties ys l once within = none_empty _ (λ d. go d (known (has_id d (ids_up_to 0 l.cuts))))
  where
    go : (d : Id) → Known (has_id d (ids_up_to 0 l.cuts)) → action_count d (green_ids (ids_up_to 0 l.cuts) (green_ids ys l)).red ≡ 0
    go d (holds h) = omega (arith, green_ids_one (ids_up_to 0 l.cuts) d (green_ids ys l) h, green_ids_most ys d l, once d)
    go d (fails h) = omega (arith, green_ids_most (ids_up_to 0 l.cuts) d (green_ids ys l), green_ids_most ys d l, within d h)
