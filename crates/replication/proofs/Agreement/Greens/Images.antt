-- The images of a server after a place: as before it, the store after a fall, what is restored from it, or what an event left.
use Prim.Native.Nat.{ℕ, suc}
use mathlib.Core.Path.{◌≡◌, sym, ap, subst, ◌∙◌}
use mathlib.Core.Bool.{true, false}
use mathlib.Core.Option.{some}
use Rattle.base.specs.Tests.{pick}
use Rattle.base.proofs.TestLaws.{not_both, Known, holds, fails, known}
use Rattle.base.specs.Lists.{at}
use Rattle.base.proofs.AtLaws.{some_same}
use Rattle.replication.specs.Machine.Types.{Server, Configuration, with_white}
use Rattle.replication.specs.Machine.Requests.{recovered}
use Rattle.replication.specs.Images.{is_recovery, saved_in}
use Rattle.replication.specs.Runs.Run.{store, Run, world_at, heard_at}
use Rattle.replication.specs.Runs.Happenings.{Falls, by_crash, by_recovery}
use Rattle.replication.proofs.Runs.Roomy.{Roomy as Allowed}
use Rattle.replication.proofs.Runs.AllowedTurns.{memory_at, store_at, Acts, Refuses, Recovers, AllowedTurn, rests, crashes, saves, refuses, recovers, acts, allowed_turn}
use Rattle.replication.proofs.Runs.Coupling.{coupled}
use Rattle.replication.proofs.Runs.Places.{event_not_store, crash_not_store, event_entry, event_not_crash}
use Rattle.replication.proofs.Runs.Shifts.{falls_of}
use Rattle.replication.proofs.Agreement.Terms.{Image, in_memory, in_store, Within}

module _ (n q : ℕ) (l : Run) where
  pub data ImageStep (t s : ℕ) (u : Server) : Type 0 where
    kept : Image n q l t s u → (Falls n q l t s → ⊥) → ImageStep t s u
    fallen : Falls n q l t s → u ≡ store_at n q l t s → ImageStep t s u
    restored : Falls n q l t s → (w : ℕ) → u ≡ with_white w (recovered (store_at n q l t s)) → ImageStep t s u
    acted : (x : Acts n q l t s) → u ≡ with_white x.white x.after → ImageStep t s u

module _ {n q : ℕ} {l : Run} where
  refused_no_fall : {t s : ℕ} → Refuses n q l t s → Falls n q l t s → ⊥
  unfolding is_recovery
  refused_no_fall x (by_crash c) = event_not_crash (some_same (sym x.here ∙ c))
  refused_no_fall {t} {s} x (by_recovery c) =
      let f = (event_entry (some_same (sym x.here ∙ c.here))).1 in
      not_both (sym x.running ∙ ap is_recovery (ap (heard_at n q l t s) f ∙ c.heard))

  pub acts_no_fall : {t s : ℕ} → Acts n q l t s → Falls n q l t s → ⊥
  unfolding is_recovery
  acts_no_fall x (by_crash c) = event_not_crash (some_same (sym x.here ∙ c))
  acts_no_fall {t} {s} x (by_recovery c) =
      let f = (event_entry (some_same (sym x.here ∙ c.here))).1 in
      not_both (sym x.running ∙ ap is_recovery (sym x.heard ∙ ap (heard_at n q l t s) f ∙ c.heard))

  -- The same images, up or down as before.
  as_before : {t s : ℕ} {u : Server} → (world_at n q l (suc t)).images s ≡ (world_at n q l t).images s → (world_at n q l (suc t)).down s ≡ (world_at n q l t).down s
      → Image n q l (suc t) s u → Image n q l t s u
  as_before {t} {s} m d (in_memory h) =
      let f : Image n q l t s (memory_at n q l t s) = in_memory (sym d ∙ h) in
      subst (λ v. Image n q l t s v) (ap (λ x. x.memory) (sym m)) f
  as_before {t} {s} m d in_store =
      let f : Image n q l t s (store_at n q l t s) = in_store in
      subst (λ v. Image n q l t s v) (ap (λ x. x.store) (sym m)) f

  image_acted : {t s : ℕ} {u : Server} (x : Acts n q l t s) → Image n q l (suc t) s u → ImageStep n q l t s u
  unfolding pick
  image_acted x (in_memory h) = acted x x.memory_next
  image_acted {t} {s} x in_store = go (known x.stores)
    where
      go : Known x.stores → ImageStep n q l t s (store_at n q l (suc t) s)
      go (holds h) = acted x (x.store_next ∙ ap (λ b. pick b (with_white x.white x.after) (store_at n q l t s)) h)
      go (fails h) =
          let f : Image n q l t s (store_at n q l t s) = in_store in
          kept (subst (λ v. Image n q l t s v) (sym (x.store_next ∙ ap (λ b. pick b (with_white x.white x.after) (store_at n q l t s)) h)) f) (acts_no_fall x)

  image_crashed : {t s : ℕ} {u : Server} → Falls n q l t s → (world_at n q l (suc t)).images s ≡ (world_at n q l t).images s → (world_at n q l (suc t)).down s ≡ true
      → Image n q l (suc t) s u → ImageStep n q l t s u
  image_crashed f m d (in_memory h) = not_both (sym h ∙ d)
  image_crashed f m d in_store = fallen f (ap (λ x. x.store) m)

  -- A store stores what is in memory, of a server that is up.
  image_saved : {t s : ℕ} {u : Server} → (world_at n q l (suc t)).images s ≡ saved_in ((world_at n q l t).images s) → (world_at n q l t).down s ≡ false
      → Image n q l (suc t) s u → Image n q l t s u
  image_saved {t} {s} m d (in_memory h) =
      let f : Image n q l t s (memory_at n q l t s) = in_memory d in
      subst (λ v. Image n q l t s v) (ap (λ x. x.memory) (sym m)) f
  image_saved {t} {s} m d in_store =
      let f : Image n q l t s (memory_at n q l t s) = in_memory d in
      subst (λ v. Image n q l t s v) (ap (λ x. x.store) (sym m)) f

  store_no_fall : {t s : ℕ} → at l t ≡ some (store s) → Falls n q l t s → ⊥
  store_no_fall x (by_crash c) = crash_not_store (some_same (sym c ∙ x))
  store_no_fall x (by_recovery c) = event_not_store (some_same (sym c.here ∙ x))

  image_restored : {t s : ℕ} {u : Server} → Recovers n q l t s → Image n q l (suc t) s u → ImageStep n q l t s u
  image_restored x (in_memory h) = restored (by_recovery x.comes) x.white x.memory_next
  image_restored x in_store = restored (by_recovery x.comes) x.white x.store_next

module _ {n q : ℕ} {l : Run} (A : Allowed n q l) where
  pub image_step : {t s : ℕ} {u : Server} → Image n q l (suc t) s u → ImageStep n q l t s u
  image_step {t} {s} {u} y = go (allowed_turn A t s)
    where
      go : AllowedTurn n q l t s → ImageStep n q l t s u
      go (rests o m c d) = kept (as_before m d y) (λ f. o (falls_of f))
      go (crashes x m c d) = image_crashed (by_crash x) m d y
      go (saves x m c d v) = kept (image_saved m v y) (store_no_fall x)
      go (refuses x) = kept (as_before x.images_next (x.down_next ∙ sym x.up) y) (refused_no_fall x)
      go (recovers x) = image_restored x y
      go (acts x) = image_acted x y

  -- A running server is in the configuration that it has.
  pub configured_within : {t s : ℕ} {c : Configuration} → (world_at n q l t).down s ≡ false → (memory_at n q l t s).membership.configuration ≡ some c
      → Within n q l t s c
  configured_within {t} {s} u e = record { up = u; here = ap (λ z. z.regular) (sym (coupled A t s u)) ∙ e }
