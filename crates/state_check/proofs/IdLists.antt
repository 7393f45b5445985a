-- The ids of the queue and of the own list: the code's tests of them, and what they say of the cuts.
use Prim.Native.Nat.{ℕ, zero, suc, ◌+◌, ◌*◌, ◌≤◌, ◌<◌}
use mathlib.Core.Path.{◌≡◌, refl, ap, ◌∙◌}
use mathlib.Core.Bool.{true}
use mathlib.Core.List.{List, ◌∷◌, map}
use native.Mathlib.Omega.{arith}
use lib.ListN.{get_or}
use Rattle.base.specs.Tests.{◌and◌}
use Rattle.base.proofs.TestLaws.{and_holds, both_yes, le_yes, le_holds, lt_yes, eq_yes, eq_holds}
use Rattle.base.specs.Bytes.{number_at, numbers_at}
use Rattle.base.proofs.BytesLaws.{numbers_at_lem}
use Rattle.base.specs.Lists.{every_at, after, Each}
use Rattle.base.proofs.Entries.{every_implied, every_both}
use Rattle.format.specs.Limits.{most_number_limit}
use Rattle.format.specs.Types.{Id, Context}
use Rattle.format.specs.Range.{id_ok, ids_in_range}
use Rattle.format.specs.Read.{id_at}
use Rattle.format.proofs.Ranges.{id_range}
use Rattle.record.specs.Values.{ids_by}
use Rattle.image.specs.Layout.{slot_size}
use Rattle.state_check.specs.Slots.{slot_fits, within_cut_at, queue_slot_fits, queue_slots_fit, own_slot_fits, own_fits}

-- The id lies within the cuts.
abbrev pub WithinCuts : List ℕ → Id → Type 0
WithinCuts cuts d = d.index ≤ get_or cuts d.creator 0

-- ---- the queue

module _ (b : List ℕ) (cuts : ℕ) where
  pub queue_slots : (m at : ℕ) → queue_slots_fit cuts m b at ≡ true → every_at (slot_fits b) slot_size m at ≡ true
  unfolding queue_slots_fit queue_slot_fits
  queue_slots m at h =
      every_implied (λ i. within_cut_at b cuts i and slot_fits b i) (slot_fits b) (λ i t. (and_holds (within_cut_at b cuts i) (slot_fits b i) t).1) slot_size m at h

  queue_cuts_lem : (m at : ℕ) → queue_slots_fit cuts m b at ≡ true → every_at (within_cut_at b cuts) slot_size m at ≡ true
  unfolding queue_slots_fit queue_slot_fits
  queue_cuts_lem m at h =
      every_implied (λ i. within_cut_at b cuts i and slot_fits b i) (within_cut_at b cuts) (λ i t. (and_holds (within_cut_at b cuts i) (slot_fits b i) t).0) slot_size m at h

module _ (c : Context) (b : List ℕ) (cuts : ℕ) where
  ids_within : (m at : ℕ) → ids_in_range c (ids_by slot_size m b at) ≡ true → every_at (within_cut_at b cuts) slot_size m at ≡ true
      → Each (WithinCuts (numbers_at 2 c.servers b cuts)) (ids_by slot_size m b at)
  unfolding ids_in_range ids_by every_at within_cut_at id_at
  ids_within zero at i t = tt
  ids_within (suc m) at i t =
      let u = and_holds _ _ t in
      let j = and_holds _ _ i in
      let r = id_range c (id_at b at) j.0 in
      let here : get_or (numbers_at 2 c.servers b cuts) (number_at 1 b at) 0 ≡ number_at 2 b (cuts + 2 * number_at 1 b at) = numbers_at_lem 2 c.servers b cuts (number_at 1 b at) r.creator in
      (omega (arith, le_holds _ _ u.0), ids_within m (at + slot_size) j.1 u.1)

  pub queue_within : (m at : ℕ) → ids_in_range c (ids_by slot_size m b at) ≡ true → queue_slots_fit cuts m b at ≡ true
      → Each (WithinCuts (numbers_at 2 c.servers b cuts)) (ids_by slot_size m b at)
  queue_within m at i h = ids_within m at i (queue_cuts_lem b cuts m at h)

  within_ids : (m at : ℕ) → ids_in_range c (ids_by slot_size m b at) ≡ true → Each (WithinCuts (numbers_at 2 c.servers b cuts)) (ids_by slot_size m b at)
      → every_at (within_cut_at b cuts) slot_size m at ≡ true
  unfolding ids_in_range ids_by every_at within_cut_at id_at
  within_ids zero at i t = refl
  within_ids (suc m) at i t =
      let j = and_holds _ _ i in
      let r = id_range c (id_at b at) j.0 in
      let here : get_or (numbers_at 2 c.servers b cuts) (number_at 1 b at) 0 ≡ number_at 2 b (cuts + 2 * number_at 1 b at) = numbers_at_lem 2 c.servers b cuts (number_at 1 b at) r.creator in
      both_yes _ _ (le_yes _ _ (omega (arith, t.0))) (within_ids m (at + slot_size) j.1 t.1)

  pub queue_out : (m at : ℕ) → ids_in_range c (ids_by slot_size m b at) ≡ true → Each (WithinCuts (numbers_at 2 c.servers b cuts)) (ids_by slot_size m b at)
      → every_at (slot_fits b) slot_size m at ≡ true → queue_slots_fit cuts m b at ≡ true
  unfolding queue_slots_fit queue_slot_fits
  queue_out m at i w h = every_both (within_cut_at b cuts) (slot_fits b) slot_size m at (within_ids m at i w) h

-- ---- the own list

-- m ids of one creator, from the index k + 1 on.
abbrev pub run : (me k m : ℕ) → List Id
run me k m = map (λ i. record { creator = me; index = i }) (after k m)

module _ (c : Context) (b : List ℕ) where
  pub own_slots : (k m at : ℕ) → own_fits c k m b at ≡ true → every_at (slot_fits b) slot_size m at ≡ true
  unfolding own_fits own_slot_fits every_at
  own_slots k zero at h = refl
  own_slots k (suc m) at h =
      let t = and_holds _ _ h in
      both_yes _ _ (and_holds _ _ (and_holds _ _ t.0).1).1 (own_slots (k + 1) m (at + slot_size) t.1)

  pub own_run : (k m at : ℕ) → own_fits c k m b at ≡ true → ids_by slot_size m b at ≡ run c.self k m
  unfolding own_fits own_slot_fits ids_by id_at after
  own_run k zero at h = refl
  own_run k (suc m) at h =
      let t = and_holds _ _ h in
      let u = and_holds _ _ t.0 in
      let creator = eq_holds _ _ u.0 in
      let index = eq_holds _ _ (and_holds _ _ u.1).0 in
      let more = own_run (k + 1) m (at + slot_size) t.1 in
      λ i. record { creator = creator i; index = index i } ∷ more i

  run_in_range : (k m : ℕ) → c.self < c.servers → k + m ≤ most_number_limit → ids_in_range c (run c.self k m) ≡ true
  unfolding ids_in_range after id_ok
  run_in_range k zero o h = refl
  run_in_range k (suc m) o h =
      both_yes _ _ (both_yes _ _ (lt_yes _ _ o) (both_yes _ _ (le_yes 1 (k + 1) (omega arith)) (le_yes (k + 1) most_number_limit (omega arith))))
      (run_in_range (k + 1) m o (omega arith))

  pub own_in_range : (k m at : ℕ) → own_fits c k m b at ≡ true → c.self < c.servers → k + m ≤ most_number_limit → ids_in_range c (ids_by slot_size m b at) ≡ true
  own_in_range k m at h o l = ap (ids_in_range c) (own_run k m at h) ∙ run_in_range k m o l

  ids_same : (x y : Id) (xs ys : List Id) → x ∷ xs ≡ y ∷ ys → (x ≡ y) × (xs ≡ ys)
  ids_same x y xs ys h = (cc, cc)

  pub own_out : (k m at : ℕ) → ids_by slot_size m b at ≡ run c.self k m → every_at (slot_fits b) slot_size m at ≡ true → own_fits c k m b at ≡ true
  unfolding own_fits own_slot_fits every_at ids_by id_at after
  own_out k zero at e h = refl
  own_out k (suc m) at e h =
      let t = and_holds _ _ h in
      let p = ids_same _ _ _ _ e in
      both_yes _ _ (both_yes _ _ (eq_yes _ _ (ap (λ (d : Id). d.creator) p.0)) (both_yes _ _ (eq_yes _ _ (ap (λ (d : Id). d.index) p.0)) t.0))
      (own_out (k + 1) m (at + slot_size) p.1 t.1)
