-- Yellowing adds the ids of those entered to the yellow list. If the list's ids were of entered actions, each of them is new, and the list gains
-- exactly these.
use Prim.Native.Nat.{ℕ, ◌+◌, ◌≤◌, ◌<◌}
use mathlib.Core.Path.{◌≡◌, refl, sym, ap, subst, ◌∙◌}
use mathlib.Core.Bool.{true, false}
use mathlib.Core.List.Memᴰ
use mathlib.Core.List.{List, [], ◌∷◌, ◌++◌, map, append-nil, append_assoc, Memᴰ}
use native.Mathlib.Omega.{arith}
use lib.ListN.{length, get_or, set, length-set}
use lib.Seq.{get_or-set_same}
use Rattle.base.specs.Tests.{pick}
use Rattle.base.proofs.TestLaws.{pick_as, eq_holds, Known, holds, fails, known}
use Rattle.base.specs.Lists.{Each}
use Rattle.base.proofs.ListLaws.{each_append, each_implied}
use Rattle.base.proofs.Prefixes.{set_rises}
use Rattle.format.specs.Types.{Id, Action}
use Rattle.format.specs.Range.{has_id}
use Rattle.replication.specs.Machine.Types.{Server}
use Rattle.replication.specs.Machine.Colours.{cut, add_id}
use Rattle.replication.specs.Laws.Folds.{follows, cuts_with, cuts_after, entered, add_ids, Yellowed}
use Rattle.replication.proofs.WellFormed.Clauses.{YellowWithinCuts, YellowGained}
use Rattle.replication.proofs.WellFormed.Ids.{has_counted, has_member, counted_fact}

-- ---- one id

-- A list that an id joins, by cases: it is there already, or it is new.
pub add_as : (P : List Id → Type 0) (d : Id) (ids : List Id) → (has_id d ids ≡ true → P ids) → (has_id d ids ≡ false → P (ids ++ (d ∷ []))) → P (add_id d ids)
unfolding add_id
add_as P d ids again new = pick_as P (has_id d ids) ids (ids ++ (d ∷ [])) again new

-- ---- what is on the list after ids joined

add_keeps : (x d : Id) (ids : List Id) → Memᴰ x ids → Memᴰ x (add_id d ids)
add_keeps x d ids m = add_as (Memᴰ x) d ids (λ h. m) (λ h. Memᴰ.append_left _ m)

add_joins : (d : Id) (ids : List Id) → Memᴰ d (add_id d ids)
add_joins d ids = add_as (Memᴰ d) d ids (has_member d ids) (λ h. Memᴰ.append_right ids (Memᴰ.head refl))

pub add_ids_keeps : (x : Id) (ds ids : List Id) → Memᴰ x ids → Memᴰ x (add_ids ds ids)
unfolding add_ids
add_ids_keeps x [] ids m = m
add_ids_keeps x (d ∷ ds) ids m = add_ids_keeps x ds (add_id d ids) (add_keeps x d ids m)

pub add_ids_joins : (x : Id) (ds ids : List Id) → Memᴰ x ds → Memᴰ x (add_ids ds ids)
unfolding add_ids
add_ids_joins x [] ids x'' = elim x'' [ ]
add_ids_joins x (d ∷ ds) ids (Memᴰ.head e) = add_ids_keeps x ds (add_id d ids) (rw e (add_joins d ids))
add_ids_joins x (d ∷ ds) ids (Memᴰ.tail m) = add_ids_joins x ds (add_id d ids) m

-- ---- ids within the cuts

-- With these cuts the action with the id d was entered.
abbrev Within : List ℕ → Id → Type 0
Within cuts d = d.index ≤ get_or cuts d.creator 0

module _ (cuts : List ℕ) (a : Action) (ids : List Id) (w : Each (Within cuts) ids) (inside : a.id.creator < length cuts) (f : follows cuts a ≡ true) where
  next : a.id.index ≡ get_or cuts a.id.creator 0 + 1
  unfolding follows
  next = eq_holds _ _ f

  entered_new : add_id a.id ids ≡ ids ++ (a.id ∷ [])
  entered_new =
      add_as (λ l. l ≡ ids ++ (a.id ∷ [])) a.id ids
      (λ h. absurd (omega (arith, next, counted_fact (Within cuts) a.id ids w (has_counted a.id ids h)))) (λ h. refl)

  entered_within : Each (Within (set cuts a.id.creator a.id.index)) (ids ++ (a.id ∷ []))
  entered_within =
      let then = set cuts a.id.creator a.id.index in
      each_append (Within then) ids (a.id ∷ [])
      (each_implied (Within cuts) (Within then) (λ d h. omega (arith, set_rises cuts a.id.creator a.id.index d.creator (omega (arith, next)))) ids w)
      (omega (arith, get_or-set_same cuts a.id.creator a.id.index 0 inside), tt)

-- ---- those entered, one after another

abbrev entered_ids : List ℕ → List Action → List Id
entered_ids cuts delivered = map (λ a. a.id) (entered cuts delivered)

abbrev Gained : List ℕ → List Id → List Action → Type 0
Gained cuts ids delivered =
    (add_ids (entered_ids cuts delivered) ids ≡ ids ++ entered_ids cuts delivered) × Each (Within (cuts_after cuts delivered)) (ids ++ entered_ids cuts delivered)

ids_gained : (cuts : List ℕ) (ids : List Id) (delivered : List Action) → Each (Within cuts) ids → Each (λ a. a.id.creator < length cuts) delivered
    → Gained cuts ids delivered
unfolding add_ids entered cuts_after cuts_with pick
ids_gained cuts ids [] w c = (sym (append-nil ids), rw (append-nil ids) w)
ids_gained cuts ids (a ∷ more) w c = go (known (follows cuts a)) (λ then gained v k. ids_gained then gained more v k)
  where
    go : Known (follows cuts a)
        → ((then : List ℕ) (gained : List Id) → Each (Within then) gained → Each (λ x. x.id.creator < length then) more → Gained then gained more)
        → Gained cuts ids (a ∷ more)
    go (holds e) rest =
        let then = set cuts a.id.creator a.id.index in
        let same = append_assoc ids (a.id ∷ []) (entered_ids then more) in
        let r = rest then (ids ++ (a.id ∷ [])) (entered_within cuts a ids w c.0 e) (rw (length-set cuts a.id.creator a.id.index) c.1) in
        rw e (ap (add_ids (entered_ids then more)) (entered_new cuts a ids w c.0 e) ∙ r.0 ∙ same, subst (Each (Within (cuts_after then more))) same r.1)
    go (fails e) rest = rw e (rest cuts ids w c.1)

pub yellow_gained : (delivered : List Action) (s t : Server) → Yellowed delivered s t → YellowWithinCuts s
    → Each (λ a. a.id.creator < length s.log.cuts) delivered → YellowGained delivered s t
unfolding cut
yellow_gained delivered s t y w c =
    let g = ids_gained s.log.cuts s.votes.yellow.ids delivered w c in
    record { ids = y.ids ∙ g.0; within = rw (y.ids ∙ g.0, y.cuts) g.1 }
