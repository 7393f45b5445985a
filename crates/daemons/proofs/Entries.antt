-- One entry of a run over the daemons' buffers: what they kept of the world before it they keep of the world after it.
use Prim.Native.Nat.{ℕ, ◌≤◌}
use mathlib.Core.Path.{◌≡◌, refl, sym, ap, subst, ◌∙◌}
use mathlib.Core.Bool.{Bool, true, false}
use mathlib.Core.List.{List}
use mathlib.Core.Option.{some}
use native.Mathlib.Omega.{arith}
use native.Mathlib.Decide.{ℕ_discrete}
use lib.ListN.{length}
use Rattle.base.specs.Tests.{◌=?◌, pick}
use Rattle.base.proofs.TestLaws.{pick_eq, pick_ne, not_both}
use Rattle.base.proofs.AtLaws.{upd_here, upd_elsewhere}
use Rattle.replication.specs.Machine.Types.{Outcome, refused, taken}
use Rattle.replication.specs.Images.{Images, source_of, arrive, left_by, saved_in}
use Rattle.replication.specs.Replay.{returned}
use Rattle.replication.specs.Runs.Run.{Entry, event, crash, store, World, down_after, world_after}
use Rattle.replication.proofs.Step.Table.{refused_some}
use Rattle.image.specs.Layout.{out_length}
use Rattle.daemons.specs.Buffers.{Buffers, is_recovery, step_in, kept_after, saved}
use Rattle.daemons.specs.Daemons.{Daemons, daemons_after}
use Rattle.daemons.proofs.BufferLaws.{event_buffers, event_down, crash_buffers, crash_down, store_buffers}
use Rattle.daemons.proofs.Keeping.{KeepsWhere, Sized, keeps_where, saved_keeps, saved_sized}
use Rattle.daemons.proofs.Arriving.{Arrives, arrives}

-- A server's daemon: whether it is down by the world and by the daemon, what it has and what is kept of it, in buffers of the length z.
pub record KeptAs (z : ℕ) (u : Bool) (i : Images) (v : Bool) (b : Buffers) : Type 0 where
  pub down : v ≡ u
  pub keeps : KeepsWhere (u ≡ false) i b
  pub sized : Sized z b

abbrev pub Kept : ℕ → World → Daemons → ℕ → Type 0
Kept z w d i = KeptAs z (w.down i) (w.images i) (d.down i) (d.buffers i)

kept_as : {z : ℕ} {u u' v v' : Bool} {i i' : Images} {b b' : Buffers} → u ≡ u' → i ≡ i' → v ≡ v' → b ≡ b' → KeptAs z u i v b → KeptAs z u' i' v' b'
kept_as {z} {u} {u'} {v} {v'} {i} {i'} {b} {b'} e f g h k =
    subst (KeptAs z u' i' v') h
    (subst (λ (x : Bool). KeptAs z u' i' x b) g (subst (λ (x : Images). KeptAs z u' x v b) f (subst (λ (x : Bool). KeptAs z x i v b) e k)))

-- ---- at the entry's own server

-- The number 0 says that the event is taken.
down_by : (o : Outcome (List ℕ)) (u v : Bool) (m : ℕ) → v ≡ u → m ≡ returned o → ((k : ℕ) → o ≡ refused k → 1 ≤ k)
    → pick (m =? 0) false v ≡ down_after o u
unfolding returned down_after
down_by (refused k) u v m h g s = sym (pick_ne m 0 u false v (λ q. absurd (omega (arith, s k refl))) (sym h))
down_by (taken t rs w a) u v m h g s = sym (pick_eq m 0 false false v g refl)

down_number : (u v : Bool) (i : Images) (e : List ℕ) (m : ℕ) → v ≡ u → m ≡ returned (arrive i e) → pick (m =? 0) false v ≡ down_after (arrive i e) u
unfolding arrive
down_number u v i e m h g = down_by (arrive i e) u v m h g (λ k f. refused_some (source_of i e) e k f)

module _ (z : ℕ) (u : Bool) (i : Images) (v : Bool) (b : Buffers) (k : KeptAs z u i v b) where
  event_kept : (e o : List ℕ) → (u ≡ true → is_recovery e ≡ true) → out_length i.memory.servers i.memory.quota ≤ length o
      → KeptAs z (down_after (arrive i e) u) (left_by (arrive i e) i) (pick ((step_in b e o).number =? 0) false v) (kept_after b (step_in b e o))
  event_kept e o recovers room = record {
    down = down_number u v i e (step_in b e o).number k.down a.number;
    keeps = keeps_where (λ h. tt) a.kept;
    sized = a.lengths z k.sized;
  }
    where
      up : (u : Bool) → (u ≡ true → is_recovery e ≡ true) → is_recovery e ≡ false → u ≡ false
      up true f h = not_both (sym h ∙ f refl)
      up false f h = refl

      a : Arrives i (arrive i e) b (step_in b e o)
      a = arrives i b e (keeps_where (λ h. up u recovers h) k.keeps) o room

  crash_kept : (c : List ℕ) → length c ≡ z → KeptAs z true i true (record { state = c; store = b.store })
  crash_kept c h = record {
    down = refl;
    keeps = record {
      formed = k.keeps.formed;
      formed_store = k.keeps.formed_store;
      memory = λ f. not_both (sym f);
      store = k.keeps.store;
      same = k.keeps.same;
    };
    sized = record { state = h; store = k.sized.store };
  }

  store_kept : u ≡ false → KeptAs z u (saved_in i) v (saved b)
  store_kept up = record {
    down = k.down;
    keeps = keeps_where (λ h. tt) (saved_keeps i b (keeps_where (λ h. up) k.keeps));
    sized = saved_sized z b k.sized;
  }

-- ---- at every server

-- What is asked of an entry.
pub record Fits (z : ℕ) (w : World) (o c : List ℕ) (i : ℕ) (x : Entry) : Type 0 where
  pub recovers : (e : List ℕ) (k : ℕ) → x ≡ event i e k → w.down i ≡ true → is_recovery e ≡ true
  pub room : out_length (w.images i).memory.servers (w.images i).memory.quota ≤ length o
  pub crashed : x ≡ crash i → length c ≡ z
  pub up : x ≡ store i → w.down i ≡ false

module _ (z : ℕ) (w : World) (d : Daemons) (o c : List ℕ) (i : ℕ) (k : Kept z w d i) where
  by_event : (j : ℕ) (e : List ℕ) (m : ℕ) → Dec (i ≡ j) → Fits z w o c i (event j e m)
      → Kept z (world_after w (event j e m)) (daemons_after d o c (some (event j e m))) i
  unfolding world_after daemons_after
  by_event j e m (no h) f =
      kept_as (sym (upd_elsewhere w.down j _ i h)) (sym (upd_elsewhere w.images j _ i h)) (sym (upd_elsewhere d.down j _ i h))
      (sym (upd_elsewhere d.buffers j _ i h)) k
  by_event j e m (yes h) f =
      subst (λ (y : ℕ). Kept z (world_after w (event y e m)) (daemons_after d o c (some (event y e m))) i) h
      (kept_as (sym (upd_here w.down i _)) (sym (upd_here w.images i _)) (sym (event_down d o c i e m)) (sym (event_buffers d o c i e m))
      (event_kept z _ _ _ _ k e o (f.recovers e m (ap (λ (y : ℕ). event y e m) (sym h))) f.room))

  by_crash : (j : ℕ) → Dec (i ≡ j) → Fits z w o c i (crash j) → Kept z (world_after w (crash j)) (daemons_after d o c (some (crash j))) i
  unfolding world_after daemons_after
  by_crash j (no h) f =
      kept_as (sym (upd_elsewhere w.down j _ i h)) refl (sym (upd_elsewhere d.down j _ i h)) (sym (upd_elsewhere d.buffers j _ i h)) k
  by_crash j (yes h) f =
      subst (λ (y : ℕ). Kept z (world_after w (crash y)) (daemons_after d o c (some (crash y))) i) h
      (kept_as (sym (upd_here w.down i _)) refl (sym (crash_down d o c i)) (sym (crash_buffers d o c i))
      (crash_kept z _ _ _ _ k c (f.crashed (ap crash (sym h)))))

  by_store : (j : ℕ) → Dec (i ≡ j) → Fits z w o c i (store j) → Kept z (world_after w (store j)) (daemons_after d o c (some (store j))) i
  unfolding world_after daemons_after
  by_store j (no h) f = kept_as refl (sym (upd_elsewhere w.images j _ i h)) refl (sym (upd_elsewhere d.buffers j _ i h)) k
  by_store j (yes h) f =
      subst (λ (y : ℕ). Kept z (world_after w (store y)) (daemons_after d o c (some (store y))) i) h
      (kept_as refl (sym (upd_here w.images i _)) refl (sym (store_buffers d o c i)) (store_kept z _ _ _ _ k (f.up (ap store (sym h)))))

  pub entry_kept : (x : Entry) → Fits z w o c i x → Kept z (world_after w x) (daemons_after d o c (some x)) i
  entry_kept (event j e m) f = by_event j e m (ℕ_discrete i j) f
  entry_kept (crash j) f = by_crash j (ℕ_discrete i j) f
  entry_kept (store j) f = by_store j (ℕ_discrete i j) f
