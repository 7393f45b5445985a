-- How many actions of a creator a log holds: as many as its cut says. So how many of them are not white.
use Prim.Native.Nat.{ℕ, zero, suc, ◌+◌, ◌-◌, ◌≤◌, ◌<◌}
use mathlib.Core.Path.{◌≡◌, refl, sym, ap, subst, ◌∙◌}
use mathlib.Core.Bool.{Bool, true, false}
use mathlib.Core.List.Memᴰ
use mathlib.Core.List.{List, [], ◌∷◌, map, Memᴰ}
use native.Mathlib.Omega.{arith}
use lib.ListN.{length, take, drop, length-map}
use Rattle.base.specs.Tests.{◌=?◌, pick}
use Rattle.base.proofs.TestLaws.{not_both, and_holds, not_holds, eq_holds, eq_yes}
use Rattle.base.specs.Lists.{filter, after, Each}
use Rattle.base.proofs.Members.{filter_has, filter_from}
use Rattle.base.proofs.ListLaws.{each_implied, after_length}
use Rattle.base.proofs.Distinct.{Distinct, included_length, distinct_map, numbered_length}
use Rattle.format.specs.Types.{Id, Action}
use Rattle.format.specs.Range.{ids_differ}
use Rattle.replication.specs.Machine.Types.{Log}
use Rattle.replication.specs.Machine.Colours.{cut}
use Rattle.replication.specs.Machine.Colours.{of_creator, places_of, unwhite}
use Rattle.replication.specs.Machine.WellFormed.{ids_in, queue}
use Rattle.replication.specs.Machine.WellFormedRanges.{id_count}
use Rattle.replication.proofs.WellFormed.Clauses.{Whole}
use Rattle.replication.proofs.WellFormed.Ids.{counted_has, has_member, each_counted, once_differ}
use Rattle.replication.proofs.WellFormed.Creators.{of_append, of_split}
use Rattle.replication.proofs.Runs.LogActions.{each_in}

-- ---- ids that differ

pub differ_distinct : (xs : List Id) → ids_differ xs ≡ true → Distinct xs
unfolding ids_differ
differ_distinct [] h = tt
differ_distinct (x ∷ xs) h =
    let a = and_holds _ _ h in
    (λ m. not_both (sym (not_holds _ a.0) ∙ counted_has x xs (each_in (λ d. 1 ≤ id_count d xs) xs (each_counted xs) x m)), differ_distinct xs a.1)

filter_distinct : (t : Id → Bool) (xs : List Id) → Distinct xs → Distinct (filter t xs)
unfolding filter pick
filter_distinct t [] d = tt
filter_distinct t (x ∷ xs) d = go (t x) (filter_distinct t xs d.1)
  where
    go : (b : Bool) → Distinct (filter t xs) → Distinct (pick b (x ∷ filter t xs) (filter t xs))
    go true r = (λ m. d.0 (filter_from t x xs m).0, r)
    go false r = r

-- The ids of the creator c.
abbrev ids_of : ℕ → List Id → List Id
ids_of c xs = filter (λ d. d.creator =? c) xs

of_length : (c : ℕ) (l : List Action) → of_creator c l ≡ length (ids_of c (ids_in l))
unfolding of_creator ids_in filter pick
of_length c [] = refl
of_length c (a ∷ l) = go (a.id.creator =? c) (of_length c l)
  where
    go : (b : Bool) → of_creator c l ≡ length (ids_of c (ids_in l))
        → pick b (suc (of_creator c l)) (of_creator c l) ≡ length (pick b (a.id ∷ ids_of c (ids_in l)) (ids_of c (ids_in l)))
    go true h = ap suc h
    go false h = h

after_each : (k m : ℕ) → Each (λ j. (k < j) × (j ≤ k + m)) (after k m)
unfolding after
after_each k zero = tt
after_each k (suc m) =
    ((omega arith, omega arith), each_implied (λ j. (k + 1 < j) × (j ≤ k + 1 + m)) (λ j. (k < j) × (j ≤ k + suc m)) (λ j h. (omega (arith, h.0), omega (arith, h.1))) (after (k + 1) m) (after_each (k + 1) m))

after_distinct : (k m : ℕ) → Distinct (after k m)
unfolding after
after_distinct k zero = tt
after_distinct k (suc m) = (λ h. absurd (omega (arith, (each_in (λ j. (k + 1 < j) × (j ≤ k + 1 + m)) (after (k + 1) m) (after_each (k + 1) m) (k + 1) h).0)), after_distinct (k + 1) m)

-- ---- a creator's actions are as many as its cut

module _ (l : Log) (f : Whole l) (c : ℕ) where
  in_range : (d : Id) → Memᴰ d (ids_of c (ids_in (queue l))) → (d.creator ≡ c) × (1 ≤ d.index) × (d.index ≤ cut l c)
  in_range d m =
      let r = filter_from (λ x. x.creator =? c) d (ids_in (queue l)) m in
      let e : d.creator ≡ c = eq_holds d.creator c r.1 in
      let k = each_in (λ x. 1 ≤ id_count x (ids_in (queue l))) (ids_in (queue l)) (each_counted (ids_in (queue l))) d r.0 in
      let h = f.held_to_cuts.within d k in
      (e, f.least d k, omega (arith, h, ap (cut l) e))

  at_most : length (ids_of c (ids_in (queue l))) ≤ cut l c
  at_most =
      numbered_length (λ d. d.index - 1) (cut l c) (ids_of c (ids_in (queue l)))
      (λ a b h k e. let x = in_range a h in let y = in_range b k in
      let u : a.creator ≡ b.creator = x.0 ∙ sym y.0 in
      let v : a.index ≡ b.index = omega (arith, e, x.1, y.1) in
      λ i. record { creator = u i; index = v i })
      (λ a h. let x = in_range a h in omega (arith, x.1, x.2))
      (filter_distinct (λ d. d.creator =? c) (ids_in (queue l)) (differ_distinct (ids_in (queue l)) (once_differ (ids_in (queue l)) f.once)))

  at_least : cut l c ≤ length (ids_of c (ids_in (queue l)))
  at_least =
      omega (
        arith,
        length-map {B = Id} (after 0 (cut l c)) (λ i. record { creator = c; index = i }),
        after_length 0 (cut l c),
        included_length (map (λ i. record { creator = c; index = i }) (after 0 (cut l c))) (ids_of c (ids_in (queue l)))
            (distinct_map (λ i. record { creator = c; index = i }) (after 0 (cut l c)) (λ a b h k e. ap (λ d. d.index) e) (after_distinct 0 (cut l c)))
            (λ d m. let r = Memᴰ.of_map (λ i. record { creator = c; index = i }) (after 0 (cut l c)) m in
            let j = each_in (λ i. (0 < i) × (i ≤ 0 + cut l c)) (after 0 (cut l c)) (after_each 0 (cut l c)) r.0 r.1 in
            subst (λ x. Memᴰ x (ids_of c (ids_in (queue l)))) r.2
            (filter_has (λ x. x.creator =? c) (record { creator = c; index = r.0 }) (ids_in (queue l))
            (has_member _ (ids_in (queue l)) (counted_has _ (ids_in (queue l)) (f.held_to_cuts.entered (record { creator = c; index = r.0 }) (omega (arith, j.0)) (omega (arith, j.1)))))
            (eq_yes c c refl))),
      )

  -- COUNT.
  pub counted : of_creator c (queue l) ≡ cut l c
  counted = omega (arith, of_length c (queue l), at_most, at_least)

  pub unwhite_counted : (w : ℕ) → unwhite c w l + of_creator c (take w l.green) ≡ cut l c
  unfolding unwhite places_of queue
  unwhite_counted w =
      omega (arith, counted, of_append c l.green l.red, of_append c (drop w l.green) l.red, of_split c w l.green)
