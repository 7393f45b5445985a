-- Tests on ids and lists of ids, as facts of counts.
use Prim.Native.Nat.{ℕ, zero, suc, ◌+◌, ◌≤◌, ◌<◌}
use mathlib.Core.Path.{◌≡◌, refl, sym, ap, ◌∙◌, subst}
use mathlib.Core.Bool.{true, false, not}
use mathlib.Core.List.{List, [], ◌∷◌, map, Memᴰ}
use native.Mathlib.Omega.{arith}
use lib.ListN.{get_or}
use Rattle.base.specs.Tests.{◌or◌}
use Rattle.base.proofs.TestLaws.{not_both, not_holds, or_fails, and_holds, both_yes, and_no, eq_yes, eq_no, eq_holds, Known, holds, fails, known}
use Rattle.base.specs.Lists.{above, Each}
use Rattle.base.proofs.ListLaws.{each_append, each_first, each_second, each_map, map_each, each_implied, above_between, above_each}
use Rattle.base.specs.Counts.{one, count}
use Rattle.base.proofs.CountLaws.{one_yes, one_no, counted_element}
use Rattle.format.specs.Types.{Id}
use Rattle.format.specs.Range.{same_id, has_id, ids_differ}
use Rattle.replication.specs.Machine.Install.{ids_up_to}
use Rattle.replication.specs.Machine.WellFormed.{same_ids}
use Rattle.replication.specs.Machine.WellFormedRanges.{id_count}

-- ---- one id beside another

pub same_id_yes : (d x : Id) → d.creator ≡ x.creator → d.index ≡ x.index → same_id d x ≡ true
unfolding same_id
same_id_yes d x p e = both_yes _ _ (eq_yes _ _ p) (eq_yes _ _ e)

pub same_id_no : (d x : Id) → (d.creator ≡ x.creator → ⊥) → same_id d x ≡ false
unfolding same_id
same_id_no d x n = sym (and_no _ _ (eq_no _ _ n))

pub same_id_holds : (d x : Id) → same_id d x ≡ true → d ≡ x
unfolding same_id
same_id_holds d x h =
    let b = and_holds _ _ h in
    let p : d.creator ≡ x.creator = eq_holds _ _ b.0 in
    let e : d.index ≡ x.index = eq_holds _ _ b.1 in
    λ i. record { creator = p i; index = e i }

pub data SameId (d x : Id) : Type 0 where
  same : d ≡ x → d.creator ≡ x.creator → d.index ≡ x.index → same_id d x ≡ true → one (same_id d x) ≡ 1 → SameId d x
  other : (d.creator ≡ x.creator → d.index ≡ x.index → ⊥) → same_id d x ≡ false → one (same_id d x) ≡ 0 → SameId d x

pub same-id? : (d x : Id) → SameId d x
same-id? d x = go (known (same_id d x))
  where
    go : Known (same_id d x) → SameId d x
    go (holds h) = let e = same_id_holds d x h in same e (ap (λ y. y.creator) e) (ap (λ y. y.index) e) h (one_yes _ h)
    go (fails h) = other (λ p e. not_both (sym h ∙ same_id_yes d x p e)) h (one_no _ h)

-- ---- an id in a list

pub not_had_counted : (d : Id) (xs : List Id) → has_id d xs ≡ false → id_count d xs ≡ 0
unfolding has_id count
not_had_counted d [] h = refl
not_had_counted d (x ∷ xs) h = let b = or_fails _ _ h in omega (arith, one_no _ b.0, not_had_counted d xs b.1)

pub has_counted : (d : Id) (xs : List Id) → has_id d xs ≡ true → 1 ≤ id_count d xs
unfolding has_id count ◌or◌
has_counted d [] h = not_both h
has_counted d (x ∷ xs) h = go (known (same_id d x)) (λ g. has_counted d xs g)
  where
    go : Known (same_id d x) → (has_id d xs ≡ true → 1 ≤ id_count d xs) → 1 ≤ one (same_id d x) + id_count d xs
    go (holds e) more = omega (arith, one_yes _ e)
    go (fails e) more = omega (arith, more (rw e at h))

pub counted_has : (d : Id) (xs : List Id) → 1 ≤ id_count d xs → has_id d xs ≡ true
counted_has d xs h = go (known (has_id d xs))
  where
    go : Known (has_id d xs) → has_id d xs ≡ true
    go (holds e) = e
    go (fails e) = absurd (omega (arith, not_had_counted d xs e))

pub has_member : (d : Id) (xs : List Id) → has_id d xs ≡ true → Memᴰ d xs
unfolding has_id ◌or◌
has_member d [] h = not_both h
has_member d (x ∷ xs) h = go (known (same_id d x)) (λ g. has_member d xs g)
  where
    go : Known (same_id d x) → (has_id d xs ≡ true → Memᴰ d xs) → Memᴰ d (x ∷ xs)
    go (holds e) more = Memᴰ.head (same_id_holds d x e)
    go (fails e) more = Memᴰ.tail (more (rw e at h))

pub each_counted : (xs : List Id) → Each (λ x. 1 ≤ id_count x xs) xs
unfolding count
each_counted [] = tt
each_counted (x ∷ xs) =
    (omega (arith, one_yes _ (same_id_yes x x refl refl)), each_implied (λ y. 1 ≤ id_count y xs) (λ y. 1 ≤ id_count y (x ∷ xs)) (λ y h. omega arith) xs (each_counted xs))

-- A fact of every id of a list, of one that stands in it.
pub counted_fact : (P : Id → Type 0) (d : Id) (xs : List Id) → Each P xs → 1 ≤ id_count d xs → P d
counted_fact P d xs h l =
    let x = counted_element (same_id d) P xs h l in
    subst P (sym (same_id_holds d x.0 x.1)) x.2

-- ---- ids that differ

pub differ_once : (xs : List Id) → ids_differ xs ≡ true → (d : Id) → id_count d xs ≤ 1
unfolding ids_differ count
differ_once [] h d = omega arith
differ_once (x ∷ xs) h d = go (same-id? d x) (differ_once xs (and_holds _ _ h).1 d)
  where
    none_else : id_count x xs ≡ 0
    none_else = not_had_counted x xs (not_holds _ (and_holds _ _ h).0)

    go : SameId d x → id_count d xs ≤ 1 → one (same_id d x) + id_count d xs ≤ 1
    go (same e p i t u) rest = omega (arith, none_else, ap (λ y. id_count y xs) e)
    go (other n t u) rest = omega arith

pub once_differ : (xs : List Id) → ((d : Id) → id_count d xs ≤ 1) → ids_differ xs ≡ true
unfolding ids_differ count
once_differ [] h = refl
once_differ (x ∷ xs) h = both_yes _ _ (go (known (has_id x xs))) (once_differ xs (λ d. omega (arith, h d)))
  where
    go : Known (has_id x xs) → not (has_id x xs) ≡ true
    go (holds e) = absurd (omega (arith, h x, one_yes _ (same_id_yes x x refl refl), has_counted x xs e))
    go (fails e) = rw e

-- ---- equal lists

pub same_ids_holds : (xs ys : List Id) → same_ids xs ys ≡ true → xs ≡ ys
unfolding same_ids
same_ids_holds [] [] h = refl
same_ids_holds [] (y ∷ ys) h = not_both h
same_ids_holds (x ∷ xs) [] h = not_both h
same_ids_holds (x ∷ xs) (y ∷ ys) h =
    let b = and_holds _ _ h in
    let e = same_id_holds x y b.0 in
    let more = same_ids_holds xs ys b.1 in
    λ i. e i ∷ more i

same_ids_self : (xs : List Id) → same_ids xs xs ≡ true
unfolding same_ids
same_ids_self [] = refl
same_ids_self (x ∷ xs) = both_yes _ _ (same_id_yes x x refl refl) (same_ids_self xs)

pub same_ids_yes : (xs ys : List Id) → xs ≡ ys → same_ids xs ys ≡ true
same_ids_yes xs ys h = rw (← h) (same_ids_self xs)

-- ---- the ids up to the cuts

pub up_to_each : (P : Id → Type 0) (k : ℕ) (cuts : List ℕ) → ((c i : ℕ) → 1 ≤ i → i ≤ get_or cuts c 0 → P (record { creator = k + c; index = i }))
    → Each P (ids_up_to k cuts)
unfolding ids_up_to
up_to_each P k [] f = tt
up_to_each P k (x ∷ cuts) f =
    each_append P (map (λ i. record { creator = k; index = i }) (above 0 x)) (ids_up_to (k + 1) cuts)
    (each_map P (λ i. record { creator = k; index = i }) (above 0 x)
    (each_implied (λ i. (0 < i) × (i ≤ x)) (λ i. P (record { creator = k; index = i })) here (above 0 x) (above_between 0 x)))
    (up_to_each P (k + 1) cuts (λ c i l m. let e : k + 1 + c ≡ k + suc c = omega arith in rw e (f (suc c) i l m)))
  where
    here : (i : ℕ) → (0 < i) × (i ≤ x) → P (record { creator = k; index = i })
    here i h = let e : k + 0 ≡ k = omega arith in rw e at (f 0 i h.0 h.1)

pub each_up_to : (P : Id → Type 0) (k : ℕ) (cuts : List ℕ) → Each P (ids_up_to k cuts)
    → (c i : ℕ) → 1 ≤ i → i ≤ get_or cuts c 0 → P (record { creator = k + c; index = i })
unfolding ids_up_to
each_up_to P k [] h c i l m = absurd (omega arith)
each_up_to P k (x ∷ cuts) h zero i l m =
    let e : k + 0 ≡ k = omega arith in
    rw e (above_each (λ j. P (record { creator = k; index = j })) 0 x
    (map_each P (λ j. record { creator = k; index = j }) (above 0 x) (each_first P (map (λ j. record { creator = k; index = j }) (above 0 x)) (ids_up_to (k + 1) cuts) h)) i l m)
each_up_to P k (x ∷ cuts) h (suc c) i l m =
    let e : k + 1 + c ≡ k + suc c = omega arith in
    rw e at (each_up_to P (k + 1) cuts (each_second P (map (λ j. record { creator = k; index = j }) (above 0 x)) (ids_up_to (k + 1) cuts) h) c i l m)
