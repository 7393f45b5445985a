-- From one place of a run to the next.
use Prim.Native.Nat.{ℕ, suc}
use mathlib.Core.Path.{◌≡◌, refl, sym, ap, ◌∙◌}
use mathlib.Core.List.{List, [], ◌∷◌, ◌++◌}
use mathlib.Core.Option.{none, some}
use native.Mathlib.Omega.{arith}
use lib.ListN.{take}
use Rattle.base.specs.Lists.{at}
use Rattle.base.proofs.AtLaws.{some_same, take_past, take_next}
use Rattle.replication.specs.Images.{arrive}
use Rattle.replication.specs.Runs.Run.{Entry, event, crash, store, Run, server_of, World, beginning, world_after, world_through, Place, nowhere, place_after, place_through, records_of, world_at, place_at, put_out_by, put_out, sent_by, sent_at}
use Rattle.replication.specs.Runs.Happenings.{Of}

world_through_one_more : (w : World) (l : Run) (x : Entry) → world_through w (l ++ (x ∷ [])) ≡ world_after (world_through w l) x
unfolding world_through
world_through_one_more w [] x = refl
world_through_one_more w (y ∷ l) x = world_through_one_more (world_after w y) l x

place_through_one_more : (n q i : ℕ) (c : Place) (l : Run) (x : Entry) → place_through n q i c (l ++ (x ∷ [])) ≡ place_after n q i (place_through n q i c l) x
unfolding place_through
place_through_one_more n q i c [] x = refl
place_through_one_more n q i c (y ∷ l) x = place_through_one_more n q i (place_after n q i c y) l x

module _ (n q : ℕ) (l : Run) where
  pub world_at_start : world_at n q l 0 ≡ beginning n q
  unfolding world_at world_through
  world_at_start = refl

  pub place_at_start : (i : ℕ) → place_at n q l i 0 ≡ nowhere
  unfolding place_at place_through
  place_at_start i = refl

  pub world_next : (p : ℕ) (x : Entry) → at l p ≡ some x → world_at n q l (suc p) ≡ world_after (world_at n q l p) x
  unfolding world_at
  world_next p x e = ap (world_through (beginning n q)) (take_next l p x e) ∙ world_through_one_more (beginning n q) (take p l) x

  pub world_past : (p : ℕ) → at l p ≡ none → world_at n q l (suc p) ≡ world_at n q l p
  unfolding world_at
  world_past p e = ap (world_through (beginning n q)) (take_past l p e)

  pub place_next : (i p : ℕ) (x : Entry) → at l p ≡ some x → place_at n q l i (suc p) ≡ place_after n q i (place_at n q l i p) x
  unfolding place_at
  place_next i p x e = ap (place_through n q i nowhere) (take_next l p x e) ∙ place_through_one_more n q i nowhere (take p l) x

  pub place_past : (i p : ℕ) → at l p ≡ none → place_at n q l i (suc p) ≡ place_at n q l i p
  unfolding place_at
  place_past i p e = ap (place_through n q i nowhere) (take_past l p e)

  -- What an event puts out and sends.
  pub put_out_at : (p i k : ℕ) (e : List ℕ) → at l p ≡ some (event i e k) → put_out n q l p ≡ records_of (arrive ((world_at n q l p).images i) e)
  unfolding put_out put_out_by
  put_out_at p i k e h = ap (put_out_by n q l p) h

  pub sent_at_lem : (p i k : ℕ) (e : List ℕ) → at l p ≡ some (event i e k) → sent_at n q l p ≡ take k (put_out n q l p)
  unfolding sent_at sent_by
  sent_at_lem p i k e h = ap (sent_by n q l p) h

  pub sent_past : (p : ℕ) → at l p ≡ none → sent_at n q l p ≡ []
  unfolding sent_at sent_by
  sent_past p h = ap (sent_by n q l p) h

  pub sent_by_crash : (p i : ℕ) → at l p ≡ some (crash i) → sent_at n q l p ≡ []
  unfolding sent_at sent_by
  sent_by_crash p i h = ap (sent_by n q l p) h

  pub sent_by_store : (p i : ℕ) → at l p ≡ some (store i) → sent_at n q l p ≡ []
  unfolding sent_at sent_by
  sent_by_store p i h = ap (sent_by n q l p) h

-- ---- whose a place is

pub event_entry : {i j : ℕ} {e f : List ℕ} {k m : ℕ} → event i e k ≡ event j f m → (i ≡ j) × (e ≡ f) × (k ≡ m)
event_entry h = (cc, cc, cc)

pub event_not_crash : {X : Type 0} {i j : ℕ} {e : List ℕ} {k : ℕ} → event i e k ≡ crash j → X
event_not_crash h = let z : ◌≡◌ {A = ℕ} 0 1 = cc in absurd (omega arith)

-- One place is of one server.
pub of_one : {l : Run} {p i j : ℕ} → Of l p i → Of l p j → i ≡ j
of_one x y = sym x.its ∙ ap server_of (some_same (sym x.here ∙ y.here)) ∙ y.its

pub of_event : {l : Run} {p i : ℕ} {e : List ℕ} {k : ℕ} → at l p ≡ some (event i e k) → Of l p i
unfolding server_of
of_event h = record { entry = _; here = h; its = refl }

pub of_store : {l : Run} {p i : ℕ} → at l p ≡ some (store i) → Of l p i
unfolding server_of
of_store h = record { entry = _; here = h; its = refl }

pub event_not_store : {X : Type 0} {i j : ℕ} {e : List ℕ} {k : ℕ} → event i e k ≡ store j → X
event_not_store h = let z : ◌≡◌ {A = ℕ} 0 1 = cc in absurd (omega arith)

pub crash_not_store : {X : Type 0} {i j : ℕ} → crash i ≡ store j → X
crash_not_store h = let z : ◌≡◌ {A = ℕ} 0 1 = cc in absurd (omega arith)

pub of_crash : {l : Run} {p i : ℕ} → at l p ≡ some (crash i) → Of l p i
unfolding server_of
of_crash h = record { entry = _; here = h; its = refl }
