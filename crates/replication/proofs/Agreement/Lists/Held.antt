-- The ids that a log holds: each creator's 1 to its cut, each once. What greening does to the ids of the green list.
use Prim.Native.Nat.{ℕ, ◌+◌, ◌≤◌}
use mathlib.Core.Path.{◌≡◌, refl, sym, ap, ◌∙◌}
use mathlib.Core.Bool.{Bool, true, false}
use mathlib.Core.List.{List, [], ◌∷◌, ◌++◌, map-append, Memᴰ}
use native.Mathlib.Omega.{arith}
use native.Mathlib.Decide.{dec_le}
use lib.ListN.{get_or}
use Rattle.base.specs.Tests.{◌and◌, ◌≤?◌, pick}
use Rattle.base.proofs.TestLaws.{not_both, and_holds, both_yes, le_yes, le_holds, Known, holds, fails, known}
use Rattle.base.specs.Lists.{filter}
use Rattle.base.proofs.CountLaws.{count_map, one_yes}
use Rattle.format.specs.Types.{Id, Action}
use Rattle.format.specs.Range.{same_id}
use Rattle.replication.specs.Machine.Types.{Log, Server}
use Rattle.replication.specs.Machine.Colours.{cut, promote, promote_found, green_id, green_ids, add_id}
use Rattle.replication.specs.Machine.WellFormed.{ids_in}
use Rattle.replication.specs.Machine.WellFormedRanges.{id_count}
use Rattle.replication.proofs.WellFormed.Clauses.{held_count, Invariant}
use Rattle.replication.specs.Laws.Folds.{add_ids}
use Rattle.replication.proofs.WellFormed.Ids.{same_id_yes, has_counted, counted_has, has_member}
use Rattle.replication.proofs.WellFormed.Held.{action_count, held_parts, Found, absent, found, found?, Greened, unmoved, moved, greened?}
use Rattle.replication.proofs.Agreement.Lists.Plus.{plus, member_has, add_there, add_new_lem}

-- The held ids are each creator's 1 to its cut, each once.
pub record HeldExactly (l : Log) : Type 0 where
  pub once : (d : Id) → held_count d l ≤ 1
  pub within : (d : Id) → 1 ≤ held_count d l → (1 ≤ d.index) × (d.index ≤ cut l d.creator)
  pub entered : (d : Id) → 1 ≤ d.index → d.index ≤ cut l d.creator → 1 ≤ held_count d l

pub held_exactly : (s : Server) → Invariant s → HeldExactly s.log
held_exactly s f = record { once = f.whole.once; within = λ d h. (f.whole.least d h, f.whole.held_to_cuts.within d h); entered = f.whole.held_to_cuts.entered }

-- By these cuts the id d is held.
unfoldable pub is_held : List ℕ → Id → Bool
is_held cuts d = 1 ≤? d.index and d.index ≤? get_or cuts d.creator 0

pub is_held_lem : (cuts : List ℕ) (d : Id) → 1 ≤ d.index → d.index ≤ get_or cuts d.creator 0 → is_held cuts d ≡ true
unfolding is_held
is_held_lem cuts d low high = both_yes _ _ (le_yes _ _ low) (le_yes _ _ high)

pub held_bounds : (cuts : List ℕ) (d : Id) → is_held cuts d ≡ true → (1 ≤ d.index) × (d.index ≤ get_or cuts d.creator 0)
unfolding is_held
held_bounds cuts d h = let b = and_holds _ _ h in (le_holds _ _ b.0, le_holds _ _ b.1)

-- ---- green ids among those held

pub green_count_lem : (d : Id) (l : Log) → held_count d l ≡ id_count d (ids_in l.green) + action_count d l.red
unfolding ids_in
green_count_lem d l = held_parts d l ∙ ap (λ k. k + action_count d l.red) (sym (count_map (same_id d) (λ a. a.id) l.green))

pub green_held : (d : Id) (l : Log) → Memᴰ d (ids_in l.green) → 1 ≤ held_count d l
green_held d l m = omega (arith, green_count_lem d l, has_counted d _ (member_has d _ m))

-- ---- greening an id

-- A held id joins the green list.
pub green_id_joins : (d : Id) (l : Log) → held_count d l ≤ 1 → 1 ≤ held_count d l → ids_in (green_id d l).green ≡ add_id d (ids_in l.green)
unfolding green_id promote_found promote ids_in
green_id_joins d l o h = go (found? d l.red)
  where
    go : Found d l.red → ids_in (green_id d l).green ≡ add_id d (ids_in l.green)
    go (absent e n) = rw e (sym (add_there d (ids_in l.green) (has_member d _ (counted_has d _ (omega (arith, green_count_lem d l))))))
    go (found x e p rest) =
        let here = one_yes _ (same_id_yes d x.id (ap (λ y. y.creator) p) (ap (λ y. y.index) p)) in
        rw e (map-append (λ (a : Action). a.id) l.green (x ∷ [])
        ∙ ap (λ y. ids_in l.green ++ (y ∷ [])) (sym p)
        ∙ sym (add_new_lem d (ids_in l.green) (λ m. omega (arith, green_count_lem d l, rest d, here, has_counted d _ (member_has d _ m)))))

-- One that is not held changes nothing.
pub green_id_passes : (d : Id) (l : Log) → held_count d l ≡ 0 → green_id d l ≡ l
unfolding green_id promote_found
green_id_passes d l h = go (found? d l.red)
  where
    go : Found d l.red → green_id d l ≡ l
    go (absent e n) = rw e
    go (found x e p rest) =
        absurd (omega (arith, green_count_lem d l, rest d, one_yes _ (same_id_yes d x.id (ap (λ y. y.creator) p) (ap (λ y. y.index) p))))

pub green_id_held : (d : Id) (l : Log) (e : Id) → held_count e (green_id d l) ≡ held_count e l
green_id_held d l e = go (greened? d l)
  where
    go : Greened d l → held_count e (green_id d l) ≡ held_count e l
    go (unmoved p) = ap (held_count e) p
    go (moved x f p kept) = ap (held_count e) p ∙ kept e

pub green_id_cuts : (d : Id) (l : Log) → (green_id d l).cuts ≡ l.cuts
unfolding promote
green_id_cuts d l = go (greened? d l)
  where
    go : Greened d l → (green_id d l).cuts ≡ l.cuts
    go (unmoved p) = ap (λ m. m.cuts) p
    go (moved x f p kept) = ap (λ m. m.cuts) p

-- ---- greening ids one after another

pub green_ids_held : (ds : List Id) (l : Log) (e : Id) → held_count e (green_ids ds l) ≡ held_count e l
unfolding green_ids
green_ids_held [] l e = refl
green_ids_held (d ∷ ds) l e = green_ids_held ds (green_id d l) e ∙ green_id_held d l e

pub green_ids_cuts : (ds : List Id) (l : Log) → (green_ids ds l).cuts ≡ l.cuts
unfolding green_ids
green_ids_cuts [] l = refl
green_ids_cuts (d ∷ ds) l = green_ids_cuts ds (green_id d l) ∙ green_id_cuts d l

-- The test t tells which ids are held.
pub record Tells (t : Id → Bool) (l : Log) : Type 0 where
  pub once : (d : Id) → held_count d l ≤ 1
  pub held : (d : Id) → t d ≡ true → 1 ≤ held_count d l
  pub not_held : (d : Id) → t d ≡ false → held_count d l ≡ 0

pub tells_kept : (t : Id → Bool) (ds : List Id) (l : Log) → Tells t l → Tells t (green_ids ds l)
tells_kept t ds l h = record {
  once = λ d. omega (arith, green_ids_held ds l d, h.once d);
  held = λ d e. omega (arith, green_ids_held ds l d, h.held d e);
  not_held = λ d e. omega (arith, green_ids_held ds l d, h.not_held d e);
}

pub cuts_tell : (l : Log) → HeldExactly l → Tells (is_held l.cuts) l
unfolding cut
cuts_tell l h = record {
  once = h.once;
  held = λ d e. let b = held_bounds l.cuts d e in h.entered d b.0 b.1;
  not_held = λ d e. none d e (dec_le 1 (held_count d l));
}
  where
    none : (d : Id) → is_held l.cuts d ≡ false → Dec (1 ≤ held_count d l) → held_count d l ≡ 0
    none d e (yes k) = let b = h.within d k in not_both (sym e ∙ is_held_lem l.cuts d b.0 b.1)
    none d e (no k) = omega arith

pub green_ids_plus : (t : Id → Bool) (ds : List Id) (l : Log) → Tells t l → ids_in (green_ids ds l).green ≡ plus (ids_in l.green) (filter t ds)
unfolding green_ids plus add_ids filter pick
green_ids_plus t [] l h = refl
green_ids_plus t (d ∷ ds) l h = go (known (t d)) (green_ids_plus t ds (green_id d l) (tells_kept t (d ∷ []) l h))
  where
    go : Known (t d) → ids_in (green_ids ds (green_id d l)).green ≡ plus (ids_in (green_id d l).green) (filter t ds)
        → ids_in (green_ids (d ∷ ds) l).green ≡ plus (ids_in l.green) (filter t (d ∷ ds))
    go (holds e) more = rw e (more ∙ ap (add_ids (filter t ds)) (green_id_joins d l (h.once d) (h.held d e)))
    go (fails e) more = rw e (more ∙ ap (λ m. add_ids (filter t ds) (ids_in m.green)) (green_id_passes d l (h.not_held d e)))
