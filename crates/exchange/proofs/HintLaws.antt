-- Hints: left by each id in range of the list that is sought, so that an id without one is none of them.
use Prim.Native.Nat.{ℕ, suc, ◌+◌, ◌*◌, ◌≤◌, ◌<◌}
use mathlib.Core.Path.{◌≡◌, refl, sym, ap, subst, ◌∙◌}
use mathlib.Core.Bool.{Bool, true, false}
use mathlib.Core.List.{List, [], ◌∷◌, ◌++◌, append-nil}
use native.Mathlib.Omega.{arith}
use lib.ListN.{length, get_or, set, replicate, length-set, length-replicate}
use Rattle.std.specs.Prelude.{Option, Some, None}
use mir.Syntax.{w64}
use mir.Val.{Fits}
use Rattle.base.specs.Lists.{filter}
use Rattle.base.specs.Tests.{pick, ◌or◌}
use Rattle.base.proofs.TestLaws.{not_both, pick_yes, pick_no, Known, known, holds, fails}
use Rattle.base.proofs.Branches.{or_no}
use Rattle.base.proofs.Filters.{filter_yes, filter_no, filter_append}
use Rattle.format.specs.Limits.{most_ids}
use Rattle.format.specs.Places.{id_size}
use Rattle.format.specs.Types.{Id, Context}
use Rattle.format.specs.Range.{same_id, has_id, id_ok}
use Rattle.format.specs.Read.{id_at, ids_at}
use Rattle.format.proofs.Ranges.{id_range}
use Rattle.record.specs.Values.{id_of, the_id, slot, table_place, Marked}
use Rattle.record.specs.declared.ActionId.{ActionId}
use Rattle.record.specs.Events.{id_in}
use Rattle.record.proofs.OnePass.{Small, slot_lt, unmarked_new, marked_set}
use Rattle.record.proofs.Turns.{placed_in, placed_out, ids_by_id, ids_last}
use Rattle.replication.proofs.WellFormed.Ids.{same_id_holds}
use Rattle.exchange.specs.Hints.{sought_in, hinted, Hinted}
use Rattle.exchange.specs.Table.{place_in}
use Rattle.exchange.proofs.PlaceLaws.{sought_count}

-- ---- left

next_id : (k : ℕ) (e : List ℕ) → ids_at (k + 1) e 0 ≡ ids_at k e 0 ++ (id_at e (id_size * k) ∷ [])
next_id k e =
    let z : 0 + id_size * k ≡ id_size * k = omega arith in
    sym (ids_by_id (k + 1) e 0) ∙ ids_last id_size k e 0 ∙ (λ i. ids_by_id k e 0 i ++ (id_at e (z i) ∷ []))

-- The first k of m ids have left theirs.
pub record Hints (c : Context) (m k : ℕ) (e h : List ℕ) : Type 0 where
  pub low : k ≤ m
  pub size : length h ≡ most_ids
  pub left : Marked h (filter (id_ok c) (ids_at k e 0))

pub hints_start : (c : Context) (m : ℕ) (e h : List ℕ) → h ≡ replicate {A = ℕ} most_ids 0 → Hints c m 0 e h
unfolding filter ids_at
hints_start c m e h f = record { low = omega arith; size = ap length f ∙ length-replicate {A = ℕ} most_ids 0; left = tt }

-- The table and the ids are others, but equal.
marked_by : {h₁ h₂ : List ℕ} {x y : List Id} → h₁ ≡ h₂ → x ≡ y → Marked h₂ y → Marked h₁ x
marked_by {h₁} {h₂} {x} {y} p q m = subst (λ (t : List ℕ). Marked t x) (sym p) (subst (Marked h₂) (sym q) m)

module _ (c : Context) (m k : ℕ) (e h h₁ : List ℕ) where
  -- The next one.
  abbrev d : Id
  d = id_at e (id_size * k)

  -- Those in range of the ids up to it.
  abbrev before : List Id
  before = filter (id_ok c) (ids_at k e 0)

  more : filter (id_ok c) (ids_at (k + 1) e 0) ≡ before ++ filter (id_ok c) (d ∷ [])
  more = ap (filter (id_ok c)) (next_id k e) ∙ filter_append (id_ok c) (ids_at k e 0) (d ∷ [])

  pub hints_again : Small c → Hints c m k e h → k < m → h₁ ≡ hinted c k d h → Hints c m (k + 1) e h₁
  unfolding hinted filter
  hints_again s x l f = go (known (id_ok c d))
    where
      go : Known (id_ok c d) → Hints c m (k + 1) e h₁
      go (holds y) =
          let here : h₁ ≡ set h (slot d) (k + 1) = f ∙ sym (pick_yes (id_ok c d) _ _ _ y refl) in
          let inside : slot d < length h = omega (arith, slot_lt c d s (id_range c d y), x.size) in
          let all : filter (id_ok c) (ids_at (k + 1) e 0) ≡ before ++ (d ∷ []) =
          more ∙ ap (λ (l : List Id). before ++ l) (filter_yes (id_ok c) d [] y) in
          record {
            low = omega arith;
            size = ap length here ∙ length-set h (slot d) (k + 1) ∙ x.size;
            left = marked_by here all (marked_set h (slot d) (k + 1) d before refl inside (omega arith) x.left);
          }
      go (fails y) =
          let same : h₁ ≡ h = f ∙ sym (pick_no (id_ok c d) _ _ _ y refl) in
          let all : filter (id_ok c) (ids_at (k + 1) e 0) ≡ before =
          more ∙ ap (λ (l : List Id). before ++ l) (filter_no (id_ok c) d [] y) ∙ append-nil before in
          record { low = omega arith; size = ap length same ∙ x.size; left = marked_by same all x.left }

pub hints_end : (c : Context) (m k : ℕ) (e h : List ℕ) → Hints c m k e h → m ≤ k → Hinted c (sought_in m e) h
unfolding Hinted sought_in
hints_end c m k e h x l =
    let z : k ≡ m = omega (arith, x.low) in
    subst (λ (i : ℕ). Marked h (filter (id_ok c) (ids_at i e 0))) z x.left

-- ---- an id without one

place_none : (d : Id) (l : List Id) → has_id d l ≡ false → place_in d l ≡ length l
unfolding place_in has_id pick ◌or◌
place_none d [] h = refl
place_none d (x ∷ l) h = go (known (same_id d x)) (place_none d l)
  where
    go : Known (same_id d x) → (has_id d l ≡ false → place_in d l ≡ length l) → pick (same_id d x) 0 (suc (place_in d l)) ≡ suc (length l)
    go (holds e) f = not_both (sym h ∙ rw e)
    go (fails e) f = rw e (ap suc (f (rw e at h)))

has_filtered : (c : Context) (d : Id) (l : List Id) → id_ok c d ≡ true → has_id d l ≡ has_id d (filter (id_ok c) l)
unfolding has_id filter
has_filtered c d [] h = refl
has_filtered c d (x ∷ l) h = go (known (same_id d x)) (known (id_ok c x)) (has_filtered c d l h)
  where
    go : Known (same_id d x) → Known (id_ok c x) → has_id d l ≡ has_id d (filter (id_ok c) l) → has_id d (x ∷ l) ≡ has_id d (filter (id_ok c) (x ∷ l))
    go s (holds y) i = ap (λ (u : Bool). same_id d x or u) i ∙ ap (has_id d) (sym (filter_yes (id_ok c) x l y))
    go (holds e) (fails y) i = not_both (sym (sym h ∙ ap (id_ok c) (same_id_holds d x e) ∙ y))
    go (fails e) (fails y) i = sym (or_no _ _ _ e refl) ∙ i ∙ ap (has_id d) (sym (filter_no (id_ok c) x l y))

-- ---- one id: x is what the code read of it, and o its place, if any

module _ (c : Context) (x : ActionId) (b : List ℕ) (at : ℕ) (r : x ≡ id_in b at) (o : Option ℕ) (f : o ≡ table_place c (the_id x)) where
  its_place : table_place c (id_at b at) ≡ o
  unfolding id_of id_at
  its_place = sym (f ∙ ap (λ (y : ActionId). table_place c (the_id y)) r)

  pub hint_inside : (p : ℕ) → o ≡ Some p → Small c → p < most_ids
  hint_inside p g s =
      let z = placed_in c (id_at b at) p (its_place ∙ g) in
      omega (arith, z.1, slot_lt c (id_at b at) s (id_range c (id_at b at) z.0))

  -- An entry of the table has two bytes.
  pub hint_offset : (p : ℕ) → o ≡ Some p → Small c → Fits w64 (p * 2)
  hint_offset p g s = record { fits = omega (arith, hint_inside p g s) }

  -- As the code leaves its hint.
  pub hint_none : (k : ℕ) (h : List ℕ) → o ≡ None → h ≡ hinted c k (id_at b at) h
  unfolding hinted
  hint_none k h g = pick_no _ _ _ _ (placed_out c (id_at b at) (its_place ∙ g)) refl

  pub hint_left : (k p : ℕ) (h : List ℕ) → o ≡ Some p → set h p (k + 1) ≡ hinted c k (id_at b at) h
  unfolding hinted
  hint_left k p h g =
      let z = placed_in c (id_at b at) p (its_place ∙ g) in
      pick_yes _ _ _ _ z.0 (ap (λ (i : ℕ). set h i (k + 1)) z.1)

  -- No hint stands at its place.
  pub hint_absent : (m p k : ℕ) (e h : List ℕ) → Hinted c (sought_in m e) h → o ≡ Some p → k ≡ get_or h p 0 → k < 1 → place_in (id_at b at) (sought_in m e) ≡ m
  unfolding Hinted
  hint_absent m p k e h y g j n =
      let d : Id = id_at b at in
      let z = placed_in c d p (its_place ∙ g) in
      let empty : get_or h (slot d) 0 ≡ 0 = omega (arith, j, n, ap (λ (i : ℕ). get_or h i 0) z.1) in
      let absent : has_id d (sought_in m e) ≡ false = has_filtered c d (sought_in m e) z.0 ∙ unmarked_new h d (filter (id_ok c) (sought_in m e)) y empty in
      place_none d (sought_in m e) absent ∙ sought_count m e
