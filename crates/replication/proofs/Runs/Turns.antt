-- What a place does to one server: to its images, its configuration, and whether it is down.
use Prim.Native.Nat.{ℕ, suc}
use mathlib.Core.Path.{◌≡◌, refl, sym, ap, subst, ◌∙◌}
use mathlib.Core.Bool.{Bool, true, false}
use mathlib.Core.List.{List}
use mathlib.Core.Option.{Option, none, some}
use Rattle.base.specs.Tests.{◌=?◌, pick}
use Rattle.base.proofs.TestLaws.{Known, holds, fails, known, eq_holds, eq_fails}
use Rattle.base.specs.Lists.{at, upd}
use Rattle.base.proofs.AtLaws.{none_some, upd_here, upd_elsewhere}
use Rattle.format.specs.Types.{Action}
use Rattle.replication.specs.Machine.Types.{Server, Outcome, taken}
use Rattle.replication.specs.Images.{arrive, left_by, saved_in}
use Rattle.replication.specs.Runs.Run.{Entry, event, crash, store, Run, down_after, world_after, nowhere, moved, place_after, world_at, place_at, heard_at}
use Rattle.replication.specs.Runs.Happenings.{Of, Crashes}
use Rattle.replication.proofs.Runs.Places.{world_next, world_past, place_next, place_past, of_one, of_event, of_crash, of_store}

module _ (n q : ℕ) (l : Run) where
  -- What the place p is to the server i: none of its; its crash; its store; an event that it refuses; an event that it takes.
  pub data Turn (p i : ℕ) : Type 0 where
    rests : (Of l p i → ⊥) → (world_at n q l (suc p)).images i ≡ (world_at n q l p).images i → place_at n q l i (suc p) ≡ place_at n q l i p
        → (world_at n q l (suc p)).down i ≡ (world_at n q l p).down i → Turn p i
    crashes : Crashes l p i → (world_at n q l (suc p)).images i ≡ (world_at n q l p).images i → place_at n q l i (suc p) ≡ nowhere
        → (world_at n q l (suc p)).down i ≡ true → Turn p i
    saves : at l p ≡ some (store i) → (world_at n q l (suc p)).images i ≡ saved_in ((world_at n q l p).images i) → place_at n q l i (suc p) ≡ place_at n q l i p
        → (world_at n q l (suc p)).down i ≡ (world_at n q l p).down i → Turn p i
    refuses : (e : List ℕ) (k number : ℕ) → at l p ≡ some (event i e k) → arrive ((world_at n q l p).images i) e ≡ Outcome.refused number
        → (world_at n q l (suc p)).images i ≡ (world_at n q l p).images i → place_at n q l i (suc p) ≡ moved (heard_at n q l p i e) (place_at n q l i p)
        → (world_at n q l (suc p)).down i ≡ (world_at n q l p).down i → Turn p i
    acts : (e : List ℕ) (k : ℕ) (t : Server) (r : List (List ℕ)) (b : Bool) (g : List Action) → at l p ≡ some (event i e k)
        → arrive ((world_at n q l p).images i) e ≡ taken t r b g
        → (world_at n q l (suc p)).images i ≡ record { memory = t; store = pick b t ((world_at n q l p).images i).store }
        → place_at n q l i (suc p) ≡ moved (heard_at n q l p i e) (place_at n q l i p)
        → (world_at n q l (suc p)).down i ≡ false → Turn p i

  module _ (p i : ℕ) where
    by_own_event : (e : List ℕ) (k : ℕ) → at l p ≡ some (event i e k) → world_at n q l (suc p) ≡ world_after (world_at n q l p) (event i e k)
        → place_at n q l i (suc p) ≡ moved (heard_at n q l p i e) (place_at n q l i p) → Turn p i
    unfolding world_after left_by down_after
    by_own_event e k h w c = go (arrive ((world_at n q l p).images i) e) refl
      where
        d : (o : Outcome (List ℕ)) → arrive ((world_at n q l p).images i) e ≡ o → (world_at n q l (suc p)).down i ≡ down_after o ((world_at n q l p).down i)
        d o x = ap (λ v. v.down i) w ∙ upd_here _ i _ ∙ ap (λ y. down_after y ((world_at n q l p).down i)) x

        m : (o : Outcome (List ℕ)) → arrive ((world_at n q l p).images i) e ≡ o → (world_at n q l (suc p)).images i ≡ left_by o ((world_at n q l p).images i)
        m o x = ap (λ v. v.images i) w ∙ upd_here _ i _ ∙ ap (λ y. left_by y ((world_at n q l p).images i)) x

        go : (o : Outcome (List ℕ)) → arrive ((world_at n q l p).images i) e ≡ o → Turn p i
        go (Outcome.refused z) x = refuses e k z h x (m _ x) c (d _ x)
        go (taken t r b g) x = acts e k t r b g h x (m _ x) c (d _ x)

    by_event : (j : ℕ) (e : List ℕ) (k : ℕ) → at l p ≡ some (event j e k) → world_at n q l (suc p) ≡ world_after (world_at n q l p) (event j e k)
        → place_at n q l i (suc p) ≡ pick (j =? i) (moved (heard_at n q l p i e) (place_at n q l i p)) (place_at n q l i p) → Known (j =? i) → Turn p i
    unfolding world_after pick
    by_event j e k h w c (holds x) =
        let y : j ≡ i = eq_holds j i x in
        by_own_event e k (rw y at h) (subst (λ z. world_at n q l (suc p) ≡ world_after (world_at n q l p) (event z e k)) y w) (c ∙ rw x)
    by_event j e k h w c (fails x) =
        let y : i ≡ j → ⊥ = λ z. eq_fails j i x (sym z) in
        rests (λ o. y (of_one o (of_event h))) (ap (λ v. v.images i) w ∙ upd_elsewhere _ j _ i y) (c ∙ rw x) (ap (λ v. v.down i) w ∙ upd_elsewhere _ j _ i y)

    by_crash : (j : ℕ) → at l p ≡ some (crash j) → world_at n q l (suc p) ≡ world_after (world_at n q l p) (crash j)
        → place_at n q l i (suc p) ≡ pick (j =? i) nowhere (place_at n q l i p) → Known (j =? i) → Turn p i
    unfolding world_after pick
    by_crash j h w c (holds x) =
        let y : i ≡ j = sym (eq_holds j i x) in
        crashes (rw y h) (ap (λ v. v.images i) w) (c ∙ rw x) (ap (λ v. v.down i) w ∙ ap (upd _ j true) y ∙ upd_here _ j true)
    by_crash j h w c (fails x) =
        let y : i ≡ j → ⊥ = λ z. eq_fails j i x (sym z) in
        rests (λ o. y (of_one o (of_crash h))) (ap (λ v. v.images i) w) (c ∙ rw x) (ap (λ v. v.down i) w ∙ upd_elsewhere _ j true i y)

    by_store : (j : ℕ) → at l p ≡ some (store j) → world_at n q l (suc p) ≡ world_after (world_at n q l p) (store j)
        → place_at n q l i (suc p) ≡ place_at n q l i p → Known (j =? i) → Turn p i
    unfolding world_after
    by_store j h w c (holds x) =
        let y : j ≡ i = eq_holds j i x in
        saves (rw y at h) (ap (λ v. v.images i) w ∙ ap (λ z. upd (world_at n q l p).images z (saved_in ((world_at n q l p).images z)) i) y ∙ upd_here _ i _) c (ap (λ v. v.down i) w)
    by_store j h w c (fails x) =
        let y : i ≡ j → ⊥ = λ z. eq_fails j i x (sym z) in
        rests (λ o. y (of_one o (of_store h))) (ap (λ v. v.images i) w ∙ upd_elsewhere _ j _ i y) c (ap (λ v. v.down i) w)

    by_entry : (x : Option Entry) → at l p ≡ x → Turn p i
    unfolding place_after heard_at
    by_entry none h =
        rests (λ o. none_some (sym h ∙ o.here)) (ap (λ v. v.images i) (world_past n q l p h)) (place_past n q l i p h)
        (ap (λ v. v.down i) (world_past n q l p h))
    by_entry (some (event j e k)) h = by_event j e k h (world_next n q l p _ h) (place_next n q l i p _ h) (known (j =? i))
    by_entry (some (crash j)) h = by_crash j h (world_next n q l p _ h) (place_next n q l i p _ h) (known (j =? i))
    by_entry (some (store j)) h = by_store j h (world_next n q l p _ h) (place_next n q l i p _ h) (known (j =? i))

    pub turn : Turn p i
    turn = by_entry (at l p) refl
