-- At every place of an allowed run, with strays or none, the daemons' buffers keep what the servers have.
use Prim.Native.Nat.{ℕ, zero, suc, ◌≤◌, ◌<◌}
use mathlib.Core.Path.{◌≡◌, refl, sym, ap, subst, ◌∙◌}
use mathlib.Core.Bool.{true, false}
use mathlib.Core.List.{List}
use mathlib.Core.Option.{Option, none, some}
use lib.ListN.{length}
use Rattle.base.proofs.TestLaws.{not_both, Known, holds, fails, known}
use Rattle.base.specs.Lists.{at}
use Rattle.base.proofs.AtLaws.{some_same}
use Rattle.replication.specs.Runs.Run.{Entry, event, store, Run, World, beginning, world_after, heard, world_at, heard_at}
use Rattle.replication.specs.Runs.Strays.{AllowedWithStraysUp}
use Rattle.replication.proofs.Runs.Numbers.{numbers}
use Rattle.replication.proofs.Runs.Places.{world_at_start, world_next, world_past, event_entry, event_not_store, of_event}
use Rattle.replication.proofs.Runs.Strays.{kept, at_kept, world_kept}
use Rattle.image.specs.Layout.{out_length}
use Rattle.daemons.specs.Buffers.{is_recovery}
use Rattle.daemons.specs.Daemons.{Daemons, Lending, LongEnough, daemons_after, daemons_at}
use Rattle.daemons.proofs.RecoveryLaws.{recovery_bytes}
use Rattle.daemons.proofs.Keeping.{KeepsWhere, keeps_where, begun_keeps, begun_sized}
use Rattle.daemons.proofs.Entries.{Kept, Fits, entry_kept}

module _ {n q : ℕ} {l : Run} (S : AllowedWithStraysUp n q l) where
  -- ---- what the run says of its entries, strays included

  pub event_below : (p i k : ℕ) (e : List ℕ) → at l p ≡ some (event i e k) → i < n
  event_below p i k e h = go (known (S.allowed.stray p))
    where
      go : Known (S.allowed.stray p) → i < n
      go (holds s) =
          let x = S.allowed.refused p _ h s in
          subst (λ (j : ℕ). j < n) (sym (event_entry x.is).0) x.there
      go (fails s) = S.allowed.rest.servers (kept S.allowed.stray p) i (of_event (at_kept S.allowed.stray l p _ h s))

  -- A server that is down takes no event but a recovery.
  pub down_recovers : (p i k : ℕ) (e : List ℕ) → at l p ≡ some (event i e k) → (world_at n q l p).down i ≡ true → is_recovery e ≡ true
  unfolding heard_at heard
  down_recovers p i k e h d = go (known (S.allowed.stray p))
    where
      go : Known (S.allowed.stray p) → is_recovery e ≡ true
      go (holds s) = not_both (sym (S.up p i k e h s) ∙ d)
      go (fails s) =
          let there = at_kept S.allowed.stray l p _ h s in
          let x = S.allowed.rest.recovers (kept S.allowed.stray p) i k e there (ap (λ (w : World). w.down i) (sym (world_kept S.allowed p)) ∙ d) in
          subst (λ (b : List ℕ). is_recovery b ≡ true) (sym (event_entry (some_same (sym there ∙ x.here))).1)
          (recovery_bytes _ x.bytes x.heard)

  pub store_up : (p i : ℕ) → at l p ≡ some (store i) → (world_at n q l p).down i ≡ false
  store_up p i h = go (known (S.allowed.stray p))
    where
      go : Known (S.allowed.stray p) → (world_at n q l p).down i ≡ false
      go (holds s) = event_not_store (sym (S.allowed.refused p _ h s).is)
      go (fails s) =
          ap (λ (w : World). w.down i) (world_kept S.allowed p) ∙ S.allowed.rest.stores_up (kept S.allowed.stray p) i (at_kept S.allowed.stray l p _ h s)

  module _ (x : Lending) (long : LongEnough n q l x) where
    pub out_room_lem : (p i : ℕ) → out_length ((world_at n q l p).images i).memory.servers ((world_at n q l p).images i).memory.quota ≤ length (x.out p)
    out_room_lem p i =
        let z = (numbers n q i l p).memory in
        subst (λ (m : ℕ). m ≤ length (x.out p)) (λ j. out_length (sym z.servers j) (sym z.quota j)) (long.out p)

    -- ---- the places

    fits : (p i : ℕ) (y : Entry) → at l p ≡ some y → Fits (length (x.first i).state) (world_at n q l p) (x.out p) (x.crashed p) i y
    fits p i y h = record {
      recovers = λ e k f d. down_recovers p i k e (h ∙ ap some f) d;
      room = out_room_lem p i;
      crashed = λ f. long.crashed p i (h ∙ ap some f);
      up = λ f. store_up p i (h ∙ ap some f);
    }

    pub kept_at : (p i : ℕ) → i < n → Kept (length (x.first i).state) (world_at n q l p) (daemons_at n q l x p) i
    unfolding daemons_at daemons_after beginning
    kept_at zero i b =
        subst (λ (w : World). Kept (length (x.first i).state) w (daemons_at n q l x 0) i) (sym (world_at_start n q l))
        (record {
          down = refl;
          keeps = keeps_where (λ h. tt) (begun_keeps n q i S.allowed.rest.sizes b (x.first i) (long.first i b));
          sized = begun_sized n q i S.allowed.rest.sizes b (x.first i) (long.first i b);
        })
    kept_at (suc p) i b = go (at l p) refl (kept_at p i b)
      where
        daemons_next : (y : Option Entry) → at l p ≡ y → daemons_at n q l x (suc p) ≡ daemons_after (daemons_at n q l x p) (x.out p) (x.crashed p) y
        daemons_next y h = ap (daemons_after (daemons_at n q l x p) (x.out p) (x.crashed p)) h

        go : (y : Option Entry) → at l p ≡ y → Kept (length (x.first i).state) (world_at n q l p) (daemons_at n q l x p) i
            → Kept (length (x.first i).state) (world_at n q l (suc p)) (daemons_at n q l x (suc p)) i
        go none h k =
            subst (λ (w : World). Kept (length (x.first i).state) w (daemons_at n q l x (suc p)) i) (sym (world_past n q l p h))
            (subst (λ (d : Daemons). Kept (length (x.first i).state) (world_at n q l p) d i) (sym (daemons_next none h)) k)
        go (some y) h k =
            subst (λ (w : World). Kept (length (x.first i).state) w (daemons_at n q l x (suc p)) i) (sym (world_next n q l p y h))
            (subst (λ (d : Daemons). Kept (length (x.first i).state) (world_after (world_at n q l p) y) d i) (sym (daemons_next (some y) h))
            (entry_kept (length (x.first i).state) (world_at n q l p) (daemons_at n q l x p) (x.out p) (x.crashed p) i k y (fits p i y h)))

    -- What an event's place asks of the buffers.
    pub event_keeps : (p i k : ℕ) (e : List ℕ) → at l p ≡ some (event i e k)
        → KeepsWhere (is_recovery e ≡ false) ((world_at n q l p).images i) ((daemons_at n q l x p).buffers i)
    event_keeps p i k e h = keeps_where (λ r. up r (known ((world_at n q l p).down i))) (kept_at p i (event_below p i k e h)).keeps
      where
        up : is_recovery e ≡ false → Known ((world_at n q l p).down i) → (world_at n q l p).down i ≡ false
        up r (holds d) = not_both (sym r ∙ down_recovers p i k e h d)
        up r (fails d) = d
