-- Where an id stands in a list: by a search, or by a hint that is right.
use Prim.Native.Nat.{ℕ, zero, suc, ◌+◌, ◌*◌, ◌-◌, ◌≤◌, ◌<◌}
use mathlib.Core.Path.{◌≡◌, refl, sym, ap, subst, ◌∙◌}
use mathlib.Core.Bool.{Bool, true, false}
use mathlib.Core.List.{List, [], ◌∷◌}
use native.Mathlib.Omega.{arith}
use lib.ListN.{length, get_or}
use Rattle.base.specs.Tests.{pick, ◌and◌, ◌or◌, ◌≤?◌, ◌<?◌}
use Rattle.base.proofs.TestLaws.{not_both, and_holds, le_holds, le_fails, lt_holds, pick_yes, pick_no, Known, known, holds, fails}
use Rattle.format.specs.Types.{Id}
use Rattle.format.specs.Places.{id_size}
use Rattle.format.specs.Range.{same_id, has_id, ids_differ}
use Rattle.format.specs.Read.{id_at, ids_at}
use Rattle.format.proofs.IdsDiffer.{no_id, differ_at}
use Rattle.format.proofs.Writing.{ids_number, ids_more}
use Rattle.record.specs.Values.{id_of, the_id}
use Rattle.record.specs.Events.{id_in}
use Rattle.record.specs.declared.ActionId.{ActionId}
use Rattle.std.specs.Prelude.{Option}
use Rattle.replication.proofs.WellFormed.Ids.{same_id_yes, same_id_holds}
use Rattle.exchange.specs.Hints.{sought_in, Sought}
use Rattle.exchange.specs.Table.{place_in, Stands}

-- ---- the place

pub place_same : (x d : Id) (l : List Id) → same_id x d ≡ true → place_in d l ≡ place_in x l
place_same x d l e = ap (λ (y : Id). place_in y l) (sym (same_id_holds x d e))

-- At its place stands the id itself, so that no other has the same.
place_named : (d : Id) (l : List Id) → place_in d l < length l → d ≡ get_or l (place_in d l) no_id
unfolding place_in pick
place_named d [] h = absurd (omega arith)
place_named d (x ∷ l) h = go (known (same_id d x)) (place_named d l)
  where
    go : Known (same_id d x) → (place_in d l < length l → d ≡ get_or l (place_in d l) no_id) → d ≡ get_or (x ∷ l) (pick (same_id d x) 0 (suc (place_in d l))) no_id
    go (holds e) f = rw e (same_id_holds d x e)
    go (fails e) f = rw e (f (let z : suc (place_in d l) < suc (length l) = rw e at h in omega arith))

pub place_other : (x d : Id) (l : List Id) → place_in x l < length l → place_in d l ≡ place_in x l → x ≡ d
place_other x d l h e =
    place_named x l h ∙ ap (λ (k : ℕ). get_or l k no_id) (sym e) ∙ sym (place_named d l (let z = e in omega arith))

pub place_has : (d : Id) (l : List Id) → has_id d l ≡ true → place_in d l < length l
unfolding place_in has_id pick ◌or◌
place_has d [] h = not_both h
place_has d (x ∷ l) h = go (known (same_id d x)) (place_has d l)
  where
    go : Known (same_id d x) → (has_id d l ≡ true → place_in d l < length l) → pick (same_id d x) 0 (suc (place_in d l)) < suc (length l)
    go (holds e) f = rw e (omega arith)
    go (fails e) f = rw e (let z = f (rw e at h) in omega arith)

place_first : (d : Id) (l : List Id) (k : ℕ) → k < length l → d ≡ get_or l k no_id → place_in d l ≤ k
unfolding place_in pick
place_first d [] k h e = absurd (omega arith)
place_first d (x ∷ l) zero h e = rw (same_id_yes d x (ap (λ (y : Id). y.creator) e) (ap (λ (y : Id). y.index) e)) (omega arith)
place_first d (x ∷ l) (suc k) h e = go (known (same_id d x)) (place_first d l k (omega arith) e)
  where
    go : Known (same_id d x) → place_in d l ≤ k → pick (same_id d x) 0 (suc (place_in d l)) ≤ suc k
    go (holds s) m = rw s (omega arith)
    go (fails s) m = rw s (omega arith)

-- Where the ids differ, an id has no other place.
pub place_at_lem : (d : Id) (l : List Id) (k : ℕ) → ids_differ l ≡ true → k < length l → d ≡ get_or l k no_id → k ≡ place_in d l
place_at_lem d l k ok h e = go (known (k ≤? place_in d l))
  where
    most : place_in d l ≤ k
    most = place_first d l k h e

    go : Known (k ≤? place_in d l) → k ≡ place_in d l
    go (holds s) = let z = le_holds k (place_in d l) s in omega (arith, most)
    go (fails s) =
        let less : place_in d l < k = le_fails k (place_in d l) s in
        let same : get_or l (place_in d l) no_id ≡ get_or l k no_id = sym (place_named d l (omega arith)) ∙ e in
        absurd (differ_at l (place_in d l) k ok less h (ap (λ (y : Id). y.creator) same) (ap (λ (y : Id). y.index) same))

-- ---- in bytes

ids_get : (m : ℕ) (e : List ℕ) (p k : ℕ) → k < m → get_or (ids_at m e p) k no_id ≡ id_at e (p + id_size * k)
unfolding ids_at
ids_get zero e p k h = absurd (omega arith)
ids_get (suc m) e p zero h = let f : p ≡ p + id_size * 0 = omega arith in ap (id_at e) f
ids_get (suc m) e p (suc k) h =
    let f : p + id_size + id_size * k ≡ p + id_size * suc k = omega arith in
    ids_get m e (p + id_size) k (omega arith) ∙ ap (id_at e) f

pub sought_count : (m : ℕ) (e : List ℕ) → length (sought_in m e) ≡ m
unfolding sought_in
sought_count m e = ids_number m e 0

-- The id at the place k.
pub place_own : (m : ℕ) (e : List ℕ) (k : ℕ) (d : Id) → Sought m e → k < m → d ≡ id_at e (id_size * k) → k ≡ place_in d (sought_in m e)
unfolding sought_in
place_own m e k d s h f =
    let z : id_size * k ≡ 0 + id_size * k = omega arith in
    place_at_lem d (ids_at m e 0) k s.differ (omega (arith, ids_number m e 0)) (f ∙ ap (id_at e) z ∙ sym (ids_get m e 0 k h))

-- The hint k is right.
pub hint_right : (m : ℕ) (e : List ℕ) (k : ℕ) (d : Id) (r : Bool) → Sought m e → r ≡ (k <? m and same_id d (id_at e (id_size * k))) → r ≡ true
    → k ≡ place_in d (sought_in m e)
hint_right m e k d r s f g =
    let both = and_holds (k <? m) _ (sym f ∙ g) in
    place_own m e k d s (lt_holds k m both.0) (same_id_holds d (id_at e (id_size * k)) both.1)

-- ---- the search: the first of those that are left

pub search_start : (m : ℕ) (e : List ℕ) (d : Id) → place_in d (sought_in m e) ≡ 0 + place_in d (ids_at (m - 0) e (0 + id_size * 0))
unfolding sought_in
search_start m e d =
    let a : m ≡ m - 0 = omega arith in
    let b : place_in d (ids_at m e 0) ≡ place_in d (ids_at (m - 0) e (0 + id_size * 0)) = ap (λ (i : ℕ). place_in d (ids_at i e 0)) a in
    omega arith

module _ (m : ℕ) (e : List ℕ) (d : Id) (k v : ℕ) (j : v ≡ k + place_in d (ids_at (m - k) e (0 + id_size * k))) where
  first_id : k < m → place_in d (ids_at (m - k) e (0 + id_size * k)) ≡ pick (same_id d (id_at e (id_size * k))) 0 (suc (place_in d (ids_at (m - (k + 1)) e (0 + id_size * (k + 1)))))
  unfolding place_in
  first_id h =
      let z : 0 + id_size * k ≡ id_size * k = omega arith in
      ap (place_in d) (ids_more e 0 k m h)
      ∙ ap (λ (p : ℕ). pick (same_id d (id_at e p)) 0 (suc (place_in d (ids_at (m - (k + 1)) e (0 + id_size * (k + 1)))))) z

  pub search_found : (r : Bool) → k < m → r ≡ same_id d (id_at e (id_size * k)) → r ≡ true → k ≡ v
  search_found r h f g =
      let z : 0 ≡ place_in d (ids_at (m - k) e (0 + id_size * k)) = pick_yes _ _ _ _ (sym f ∙ g) refl ∙ sym (first_id h) in
      omega arith

  pub search_again : (r : Bool) → k < m → r ≡ same_id d (id_at e (id_size * k)) → r ≡ false
      → v ≡ (k + 1) + place_in d (ids_at (m - (k + 1)) e (0 + id_size * (k + 1)))
  search_again r h f g =
      let z : suc (place_in d (ids_at (m - (k + 1)) e (0 + id_size * (k + 1)))) ≡ place_in d (ids_at (m - k) e (0 + id_size * k)) =
      pick_no _ _ _ _ (sym f ∙ g) refl ∙ sym (first_id h) in
      omega arith

  pub search_end : k ≤ m → m ≤ k → m ≡ v
  unfolding ids_at place_in
  search_end l h =
      let a : m - k ≡ 0 = omega arith in
      let z : place_in d (ids_at (m - k) e (0 + id_size * k)) ≡ 0 = ap (λ (i : ℕ). place_in d (ids_at i e (0 + id_size * k))) a in
      omega arith

-- ---- whether it stands there at all

pub hint_stands : (m : ℕ) (e : List ℕ) (k : ℕ) (d : Id) (r : Bool) → Sought m e → r ≡ (k <? m and same_id d (id_at e (id_size * k))) → r ≡ true
    → (k ≡ place_in d (sought_in m e)) × (k < m)
hint_stands m e k d r s f g = (hint_right m e k d r s f g, lt_holds k m (and_holds (k <? m) _ (sym f ∙ g)).0)

pub among_stands : (m : ℕ) (l e : List ℕ) (at : ℕ) (id : ActionId) (r : Option ℕ) → id ≡ id_in e at → Stands (the_id id) m l r → Stands (id_at e at) m l r
unfolding id_of id_at
among_stands m l e at id r h s = subst (λ (x : ActionId). Stands (the_id x) m l r) h s
