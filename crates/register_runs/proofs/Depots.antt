-- At every place of an allowed run, strays included: the depots' states are those of daemons without registers, each register's buffer reads as the
-- fold of its server's whole green list, and the registers agree.
use Prim.Native.Nat.{ℕ, zero, suc, ◌<◌}
use mathlib.Core.Path.{◌≡◌, refl, sym, ap, subst, ◌∙◌}
use mathlib.Core.Bool.{Bool, true, false}
use mathlib.Core.List.{List, []}
use mathlib.Core.Option.{Option, none, some}
use native.Mathlib.Omega.{arith}
use lib.ListN.{length, drop}
use Rattle.base.specs.Tests.{pick}
use Rattle.base.proofs.TestLaws.{not_both}
use Rattle.base.specs.Lists.{at}
use Rattle.replication.specs.Machine.Types.{start}
use Rattle.replication.specs.Images.{started, source_of, arrive}
use Rattle.replication.specs.Runs.Run.{Entry, event, Run, World, beginning, world_after, world_at}
use Rattle.replication.specs.Runs.Strays.{AllowedWithStraysUp}
use Rattle.replication.specs.Runs.Claim.{stored_green, memory_green, green_at}
use Rattle.replication.proofs.Runs.Places.{world_at_start, world_next, world_past}
use Rattle.image.specs.Decode.{greens_in}
use Rattle.image.specs.Outcome.{image_after}
use Rattle.daemons.specs.Buffers.{Buffers, source_in, step_in}
use Rattle.daemons.specs.Daemons.{Daemons, daemons_after, daemons_at}
use Rattle.daemons.specs.Claim.{HistoryIn, shown, BuffersAgree, BuffersDemand}
use Rattle.daemons.proofs.BufferLaws.{saved_state, saved_store}
use Rattle.daemons.proofs.Entries.{Kept}
use Rattle.daemons.proofs.Runs.{event_below, down_recovers, store_up, out_room_lem, kept_at, event_keeps}
use Rattle.daemons.proofs.Agreement.{buffers_demand}
use Rattle.pegs.specs.Operations.{Peg}
use Rattle.pegs.specs.Register.{advance}
use Rattle.pegs.specs.Image.{register_bytes, pegs_in}
use Rattle.pegs.specs.Outcome.{empty_on}
use Rattle.register_runs.specs.Joint.{step_part, payloads, joint_of}
use Rattle.register_runs.specs.Depots.{begun_all, joint_in, Depots, Lent, LongEnoughAll, depots_after, depots_at}
use Rattle.register_runs.specs.Claim.{shown_register, shown_green, FoldIn, DepotsFollow, DepotsAgree}
use Rattle.register_runs.proofs.Agreement.{same_folds, further_fold}
use Rattle.register_runs.proofs.Holding.{HoldsFold, fold_read, fold_used, fold_empty}
use Rattle.register_runs.proofs.Joining.{FoldsWhere}
use Rattle.register_runs.proofs.Entries.{Follows, Fits, event_part, event_outcome, entry_follows}

module _ {n q : ℕ} {l : Run} (S : AllowedWithStraysUp n q l) (x : Lent) (long : LongEnoughAll n q l x) where
  abbrev world : ℕ → World
  world p = world_at n q l p

  abbrev daemons : ℕ → Daemons
  daemons p = daemons_at n q l x.states p

  abbrev depots : ℕ → Depots
  depots p = depots_at n q l x p

  -- ---- the places

  fits : (p i : ℕ) (y : Entry) → at l p ≡ some y → Fits (world p) (daemons p) (x.states.out p) i y
  fits p i y h = record {
    recovers = λ e k f d. down_recovers S p i k e (h ∙ ap some f) d;
    keeps = λ e k f. event_keeps S x.states long.states p i k e (h ∙ ap some f);
    room = out_room_lem S x.states long.states p i;
    up = λ f. store_up S p i (h ∙ ap some f);
  }

  begun_folds : (i : ℕ) → i < n → FoldsWhere (Unit {0}) (started (start n q i)) ((depots 0).depot i).registers
  unfolding depots_at begun_all started start
  begun_folds i b =
      let made : Buffers = record { state = (empty_on (x.registers i).state).register; store = (x.registers i).store } in
      record {
        memory = λ u. subst (HoldsFold []) (saved_state made) (fold_empty (x.registers i).state (long.registers i b));
        store = subst (HoldsFold []) (saved_store made) (fold_empty (x.registers i).state (long.registers i b));
      }

  follows_at : (p i : ℕ) → i < n → Follows (world p) (daemons p) (depots p) i
  unfolding daemons_at daemons_after depots_at depots_after begun_all beginning
  follows_at zero i b =
      subst (λ (w : World). Follows w (daemons 0) (depots 0) i) (sym (world_at_start n q l))
      (let f = begun_folds i b in record { down = refl; states = refl; folds = record { memory = λ h. f.memory tt; store = f.store } })
  follows_at (suc p) i b = go (at l p) refl (follows_at p i b)
    where
      next : (y : Option Entry) (w : World) → at l p ≡ y → world (suc p) ≡ w
          → Follows w (daemons_after (daemons p) (x.states.out p) (x.states.crashed p) y)
          (depots_after (depots p) (x.states.out p) (x.states.crashed p) (x.crashed p) y) i
          → Follows (world (suc p)) (daemons (suc p)) (depots (suc p)) i
      next y w h e f =
          coe 1 0
          (j. Follows (e j) (daemons_after (daemons p) (x.states.out p) (x.states.crashed p) (h j))
          (depots_after (depots p) (x.states.out p) (x.states.crashed p) (x.crashed p) (h j)) i) f

      go : (y : Option Entry) → at l p ≡ y → Follows (world p) (daemons p) (depots p) i → Follows (world (suc p)) (daemons (suc p)) (depots (suc p)) i
      go none h f = next none (world p) h (world_past n q l p h) f
      go (some y) h f =
          next (some y) (world_after (world p) y) h (world_next n q l p y h)
          (entry_follows (world p) (daemons p) (depots p) (x.states.out p) (x.states.crashed p) (x.crashed p) i f y (fits p i y h))

  -- ---- what they follow

  kept : (p i : ℕ) → i < n → Kept (length (x.states.first i).state) (world p) (daemons p) i
  kept p i b = kept_at S x.states long.states p i b

  memory_fold : (p i : ℕ) → i < n → (depots p).down i ≡ false → HoldsFold (memory_green n q l p i) ((depots p).depot i).registers.state
  unfolding memory_green
  memory_fold p i b d = let f = follows_at p i b in f.folds.memory (sym (kept p i b).down ∙ sym f.down ∙ d)

  store_fold : (p i : ℕ) → i < n → HoldsFold (stored_green n q l p i) ((depots p).depot i).registers.store
  unfolding stored_green
  store_fold p i b = (follows_at p i b).folds.store

  -- ---- beside the states

  agree : BuffersAgree n q l x.states
  unfolding BuffersDemand
  agree = (buffers_demand n q l S x.states long.states).1

  memory_in : (p i : ℕ) → i < n → (depots p).down i ≡ false
      → FoldIn ((depots p).depot i).states.state ((depots p).depot i).registers.state (memory_green n q l p i)
  memory_in p i b d =
      let f = follows_at p i b in
      record {
        history =
            subst (λ (y : Buffers). HistoryIn y.state (memory_green n q l p i)) (sym f.states)
            (agree.running_history p i b (sym f.down ∙ d));
        register = fold_read _ _ (memory_fold p i b d);
      }

  store_in : (p i : ℕ) → i < n → FoldIn ((depots p).depot i).states.store ((depots p).depot i).registers.store (stored_green n q l p i)
  store_in p i b = record {
    history = subst (λ (y : Buffers). HistoryIn y.store (stored_green n q l p i)) (sym (follows_at p i b).states) (agree.stored_history p i b);
    register = fold_read _ _ (store_fold p i b);
  }

  -- ---- what is answered

  module _ (p i k : ℕ) (e : List ℕ) (h : at l p ≡ some (event i e k)) where
    here : Follows (world p) (daemons p) (depots p) i
    here = follows_at p i (event_below S p i k e h)

    its : Fits (world p) (daemons p) (x.states.out p) i (event i e k)
    its = fits p i (event i e k) h

    answer_is : step_part (joint_in ((depots p).depot i) e (x.states.out p)) ≡ step_in ((daemons p).buffers i) e (x.states.out p)
    answer_is = event_part _ _ _ _ _ _ here e (x.states.out p) (its.recovers e k refl) (its.keeps e k refl) its.room

    outcome_is : joint_in ((depots p).depot i) e (x.states.out p)
        ≡ joint_of (image_after (source_of ((world p).images i) e) e) (arrive ((world p).images i) e) (source_in ((depots p).depot i).states e) (source_in ((depots p).depot i).registers e) (x.states.out p)
    outcome_is = event_outcome _ _ _ _ _ _ here e (x.states.out p) (its.recovers e k refl) (its.keeps e k refl) its.room

  pub depots_follow : DepotsFollow n q l x
  depots_follow = record {
    states = λ p i b. (follows_at p i b).states;
    down = λ p i b. (follows_at p i b).down;
    memory = memory_in;
    store = store_in;
    answer = answer_is;
    outcome = outcome_is;
  }

  -- ---- agreement

  shown_fold : (p i : ℕ) → i < n → HoldsFold (green_at n q l p i) (shown_register (depots p) i)
  unfolding green_at shown_register pick
  shown_fold p i b = go ((world p).down i) ((depots p).down i) refl ((follows_at p i b).down ∙ (kept p i b).down)
    where
      go : (u v : Bool) → (depots p).down i ≡ v → v ≡ u
          → HoldsFold (pick u (stored_green n q l p i) (memory_green n q l p i)) (pick v ((depots p).depot i).registers.store ((depots p).depot i).registers.state)
      go true true d h = store_fold p i b
      go false false d h = memory_fold p i b d
      go true false d h = not_both h
      go false true d h = not_both (sym h)

  -- The green length that the bytes say.
  shown_length : (p i : ℕ) → i < n → length (shown_green (depots p) i) ≡ length (green_at n q l p i)
  unfolding shown_green shown
  shown_length p i b =
      let f = follows_at p i b in
      (λ j. length (greens_in (pick (f.down j) (f.states j).store (f.states j).state))) ∙ sym (agree.history p i b).size

  pub depots_agree : DepotsAgree n q l x
  depots_agree = record {
    equal = λ p i j h k e.
        fold_used _ _ (shown_fold p i h)
        ∙ ap register_bytes (same_folds _ _ (agree.green p i j h k) (sym (shown_length p i h) ∙ e ∙ shown_length p j k))
        ∙ sym (fold_used _ _ (shown_fold p j k));
    further = λ p i j h k e.
        (shown_fold p j k).pegs
        ∙ further_fold _ _ (agree.green p i j h k) (omega (arith, e, shown_length p i h, shown_length p j k))
        ∙ ap (λ (r : List Peg). advance r (payloads (drop (length (green_at n q l p i)) (green_at n q l p j)))) (sym (shown_fold p i h).pegs)
        ∙ ap (λ (m : ℕ). advance (pegs_in (shown_register (depots p) i)) (payloads (drop m (green_at n q l p j)))) (sym (shown_length p i h));
  }
