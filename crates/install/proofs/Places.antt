-- Places in a list of actions with no id twice.
use Prim.Native.Nat.{ℕ, zero, suc, ◌≤◌}
use mathlib.Core.Path.{◌≡◌, sym, ap, ◌∙◌}
use mathlib.Core.Bool.{true}
use mathlib.Core.List.{List, [], ◌∷◌}
use mathlib.Core.Option.{some}
use native.Mathlib.Omega.{arith}
use Rattle.base.proofs.AtLaws.{none_some, some_same}
use Rattle.base.proofs.CountLaws.{one_yes}
use Rattle.base.specs.Lists.{at}
use Rattle.base.specs.Tests.{pick}
use Rattle.base.proofs.TestLaws.{Known, holds, fails, known}
use Rattle.format.specs.Types.{Id, Action}
use Rattle.format.specs.Range.{same_id}
use Rattle.replication.proofs.WellFormed.Ids.{same_id_yes, same_id_holds}
use Rattle.replication.proofs.WellFormed.Held.{action_count}
use Rattle.queue.specs.Queue.{position}
use Rattle.install.proofs.SwapLaws.{Once, cons_count}

same_itself : (d e : Id) → d ≡ e → same_id d e ≡ true
same_itself d e p = same_id_yes d e (ap (λ (x : Id). x.creator) p) (ap (λ (x : Id). x.index) p)

at_counted : (l : List Action) (j : ℕ) (a : Action) → at l j ≡ some a → 1 ≤ action_count a.id l
unfolding at
at_counted [] j a e = none_some e
at_counted (x ∷ l) zero a e =
    omega (arith, cons_count a.id x l, one_yes (same_id a.id x.id) (same_itself a.id x.id (ap (λ (y : Action). y.id) (sym (some_same e)))))
at_counted (x ∷ l) (suc j) a e = omega (arith, cons_count a.id x l, at_counted l j a e)

-- The place of the action's id is its own.
pub position_at_lem : (l : List Action) → Once l → (j : ℕ) (a : Action) → at l j ≡ some a → position a.id l ≡ j
unfolding at position pick
position_at_lem [] once j a e = none_some e
position_at_lem (x ∷ l) once zero a e = rw (same_itself a.id x.id (ap (λ (y : Action). y.id) (sym (some_same e))))
position_at_lem (x ∷ l) once (suc j) a e =
    go (known (same_id a.id x.id)) (position_at_lem l (λ d. omega (arith, once d, cons_count d x l)) j a e)
  where
    go : Known (same_id a.id x.id) → position a.id l ≡ j → pick (same_id a.id x.id) 0 (suc (position a.id l)) ≡ suc j
    go (holds t) more = absurd (omega (arith, once a.id, cons_count a.id x l, one_yes (same_id a.id x.id) t, at_counted l j a e))
    go (fails t) more = rw t (ap suc more)

-- Two places with one id are one place.
pub same_place_lem : (l : List Action) → Once l → (i j : ℕ) (a b : Action) → at l i ≡ some a → at l j ≡ some b → same_id a.id b.id ≡ true → i ≡ j
same_place_lem l once i j a b e f t =
    sym (position_at_lem l once i a e) ∙ ap (λ (d : Id). position d l) (same_id_holds a.id b.id t) ∙ position_at_lem l once j b f
