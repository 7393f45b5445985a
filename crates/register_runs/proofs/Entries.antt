-- One entry of a run over the depots: the states' buffers stay those of daemons without registers, and the registers' buffers hold the folds.
use Prim.Native.Nat.{ℕ, ◌≤◌}
use mathlib.Core.Path.{◌≡◌, refl, sym, ap, subst, ◌∙◌}
use mathlib.Core.Bool.{Bool, true, false}
use mathlib.Core.List.{List}
use mathlib.Core.Option.{some}
use native.Mathlib.Decide.{ℕ_discrete}
use lib.ListN.{length}
use Rattle.base.specs.Tests.{◌=?◌, pick}
use Rattle.base.proofs.TestLaws.{not_both}
use Rattle.base.proofs.AtLaws.{upd_here, upd_elsewhere}
use Rattle.replication.specs.Images.{Images, source_of, arrive, left_by, saved_in}
use Rattle.replication.specs.Runs.Run.{Entry, event, crash, store, World, down_after, world_after}
use Rattle.image.specs.Layout.{out_length}
use Rattle.image.specs.Outcome.{image_after}
use Rattle.daemons.specs.Buffers.{Buffers, is_recovery, source_in, step_in, kept_after, saved}
use Rattle.daemons.specs.Daemons.{Daemons, daemons_after}
use Rattle.daemons.proofs.BufferLaws.{event_buffers, event_down, crash_buffers, crash_down, store_buffers}
use Rattle.daemons.proofs.Keeping.{KeepsWhere}
use Rattle.register_runs.specs.Joint.{step_part, joint_of}
use Rattle.register_runs.specs.Depots.{Depot, saved_all, joint_in, depot_after, Depots, depots_after}
use Rattle.register_runs.proofs.DepotLaws as depots
use Rattle.register_runs.proofs.DepotLaws.{saved_states, saved_register, stored_register, event_depot, crash_depot, store_depot}
use Rattle.register_runs.proofs.Holding.{HoldsFold}
use Rattle.register_runs.proofs.Joining.{FoldsWhere, joint_part, joint_is, states_after, registers_after_lem}

-- A server's depot d: whether the server is down by the world, by a daemon without registers and by the depot; what it has; the daemon's buffers.
pub record FollowsAs (u : Bool) (i : Images) (v : Bool) (b : Buffers) (w : Bool) (d : Depot) : Type 0 where
  pub down : w ≡ v
  pub states : d.states ≡ b
  pub folds : FoldsWhere (u ≡ false) i d.registers

abbrev pub Follows : World → Daemons → Depots → ℕ → Type 0
Follows w b d i = FollowsAs (w.down i) (w.images i) (b.down i) (b.buffers i) (d.down i) (d.depot i)

follows_as : {u u' v v' w w' : Bool} {i i' : Images} {b b' : Buffers} {d d' : Depot} → u ≡ u' → i ≡ i' → v ≡ v' → b ≡ b' → w ≡ w' → d ≡ d'
    → FollowsAs u i v b w d → FollowsAs u' i' v' b' w' d'
follows_as eu ei ev eb ew ed f = coe 0 1 (j. FollowsAs (eu j) (ei j) (ev j) (eb j) (ew j) (ed j)) f

folds_where : {U W : Type 0} {i : Images} {r : Buffers} → (W → U) → FoldsWhere U i r → FoldsWhere W i r
folds_where g f = record { memory = λ v. f.memory (g v); store = f.store }

-- ---- at the entry's own server

module _ (u : Bool) (i : Images) (v : Bool) (b : Buffers) (w : Bool) (d : Depot) (f : FollowsAs u i v b w d) where
  module _ (e o : List ℕ) (recovers : u ≡ true → is_recovery e ≡ true) (keeps : KeepsWhere (is_recovery e ≡ false) i b)
      (room : out_length i.memory.servers i.memory.quota ≤ length o)
    where
      up : (u : Bool) → (u ≡ true → is_recovery e ≡ true) → is_recovery e ≡ false → u ≡ false
      up true h r = not_both (sym r ∙ h refl)
      up false h r = refl

      k : KeepsWhere (is_recovery e ≡ false) i d.states
      k = subst (KeepsWhere (is_recovery e ≡ false) i) (sym f.states) keeps

      g : FoldsWhere (is_recovery e ≡ false) i d.registers
      g = folds_where (λ r. up u recovers r) f.folds

      pub event_part : step_part (joint_in d e o) ≡ step_in b e o
      event_part = joint_part i d e o k g room ∙ ap (λ (x : Buffers). step_in x e o) f.states

      pub event_outcome : joint_in d e o ≡ joint_of (image_after (source_of i e) e) (arrive i e) (source_in d.states e) (source_in d.registers e) o
      event_outcome = joint_is i d e o k g room

      event_follows : FollowsAs (down_after (arrive i e) u) (left_by (arrive i e) i) (pick ((step_in b e o).number =? 0) false v)
          (kept_after b (step_in b e o)) (pick ((joint_in d e o).number =? 0) false w) (depot_after d (joint_in d e o))
      event_follows = record {
        down = λ j. pick ((event_part j).number =? 0) false (f.down j);
        states = states_after i d e o k g room ∙ ap (λ (x : Buffers). kept_after x (step_in x e o)) f.states;
        folds = folds_where (λ h. tt) (registers_after_lem i d e o k g room);
      }

  crash_follows : (c r : List ℕ)
      → FollowsAs true i true (record { state = c; store = b.store }) true
      (record { states = record { state = c; store = d.states.store }; registers = record { state = r; store = d.registers.store } })
  crash_follows c r = record {
    down = refl;
    states = ap (λ (x : Buffers). record { state = c; store = x.store }) f.states;
    folds = record { memory = λ h. not_both (sym h); store = f.folds.store };
  }

  store_follows : u ≡ false → FollowsAs u (saved_in i) v (saved b) w (saved_all d)
  store_follows up = record {
    down = f.down;
    states = saved_states d ∙ ap saved f.states;
    folds = record {
      memory = λ h. subst (HoldsFold i.memory.log.green) (saved_register d) (f.folds.memory up);
      store = subst (HoldsFold i.memory.log.green) (stored_register d) (f.folds.memory up);
    };
  }

-- ---- at every server

-- What is asked of an entry.
pub record Fits (w : World) (b : Daemons) (o : List ℕ) (i : ℕ) (x : Entry) : Type 0 where
  pub recovers : (e : List ℕ) (k : ℕ) → x ≡ event i e k → w.down i ≡ true → is_recovery e ≡ true
  pub keeps : (e : List ℕ) (k : ℕ) → x ≡ event i e k → KeepsWhere (is_recovery e ≡ false) (w.images i) (b.buffers i)
  pub room : out_length (w.images i).memory.servers (w.images i).memory.quota ≤ length o
  pub up : x ≡ store i → w.down i ≡ false

module _ (w : World) (b : Daemons) (d : Depots) (o c r : List ℕ) (i : ℕ) (f : Follows w b d i) where
  by_event : (j : ℕ) (e : List ℕ) (m : ℕ) → Dec (i ≡ j) → Fits w b o i (event j e m)
      → Follows (world_after w (event j e m)) (daemons_after b o c (some (event j e m))) (depots_after d o c r (some (event j e m))) i
  unfolding world_after daemons_after depots_after
  by_event j e m (no h) g =
      follows_as (sym (upd_elsewhere w.down j _ i h)) (sym (upd_elsewhere w.images j _ i h)) (sym (upd_elsewhere b.down j _ i h))
      (sym (upd_elsewhere b.buffers j _ i h)) (sym (upd_elsewhere d.down j _ i h)) (sym (upd_elsewhere d.depot j _ i h)) f
  by_event j e m (yes h) g =
      let its : event j e m ≡ event i e m = ap (λ (y : ℕ). event y e m) (sym h) in
      subst (λ (x : Entry). Follows (world_after w x) (daemons_after b o c (some x)) (depots_after d o c r (some x)) i) (sym its)
      (follows_as (sym (upd_here w.down i _)) (sym (upd_here w.images i _)) (sym (event_down b o c i e m)) (sym (event_buffers b o c i e m))
      (sym (depots.event_down d o c r i e m)) (sym (event_depot d o c r i e m))
      (event_follows _ _ _ _ _ _ f e o (g.recovers e m its) (g.keeps e m its) g.room))

  by_crash : (j : ℕ) → Dec (i ≡ j) → Follows (world_after w (crash j)) (daemons_after b o c (some (crash j))) (depots_after d o c r (some (crash j))) i
  unfolding world_after daemons_after depots_after
  by_crash j (no h) =
      follows_as (sym (upd_elsewhere w.down j _ i h)) refl (sym (upd_elsewhere b.down j _ i h)) (sym (upd_elsewhere b.buffers j _ i h))
      (sym (upd_elsewhere d.down j _ i h)) (sym (upd_elsewhere d.depot j _ i h)) f
  by_crash j (yes h) =
      subst (λ (y : ℕ). Follows (world_after w (crash y)) (daemons_after b o c (some (crash y))) (depots_after d o c r (some (crash y))) i) h
      (follows_as (sym (upd_here w.down i _)) refl (sym (crash_down b o c i)) (sym (crash_buffers b o c i)) (sym (depots.crash_down d o c r i))
      (sym (crash_depot d o c r i)) (crash_follows _ _ _ _ _ _ f c r))

  by_store : (j : ℕ) → Dec (i ≡ j) → Fits w b o i (store j)
      → Follows (world_after w (store j)) (daemons_after b o c (some (store j))) (depots_after d o c r (some (store j))) i
  unfolding world_after daemons_after depots_after
  by_store j (no h) g =
      follows_as refl (sym (upd_elsewhere w.images j _ i h)) refl (sym (upd_elsewhere b.buffers j _ i h)) refl
      (sym (upd_elsewhere d.depot j _ i h)) f
  by_store j (yes h) g =
      subst (λ (y : ℕ). Follows (world_after w (store y)) (daemons_after b o c (some (store y))) (depots_after d o c r (some (store y))) i) h
      (follows_as refl (sym (upd_here w.images i _)) refl (sym (store_buffers b o c i)) refl (sym (store_depot d o c r i))
      (store_follows _ _ _ _ _ _ f (g.up (ap store (sym h)))))

  pub entry_follows : (x : Entry) → Fits w b o i x → Follows (world_after w x) (daemons_after b o c (some x)) (depots_after d o c r (some x)) i
  entry_follows (event j e m) g = by_event j e m (ℕ_discrete i j) g
  entry_follows (crash j) g = by_crash j (ℕ_discrete i j)
  entry_follows (store j) g = by_store j (ℕ_discrete i j) g
