-- What the definitions of a daemon's buffers say, one way at a time.
use Prim.Native.Nat.{ℕ, ◌≤◌, ◌<◌}
use mathlib.Core.Path.{◌≡◌, refl, sym, ap}
use mathlib.Core.Bool.{true, false}
use mathlib.Core.List.{List}
use mathlib.Core.Option.{some}
use lib.ListN.{length}
use Rattle.base.specs.Tests.{◌=?◌, pick}
use Rattle.base.proofs.TestLaws.{pick_yes, pick_no, pick_lt, pick_ge, choices}
use Rattle.base.proofs.AtLaws.{upd_here}
use Rattle.format.specs.Range.{sizes_ok}
use Rattle.replication.specs.Machine.Types.{start}
use Rattle.replication.specs.Runs.Run.{event, crash, store}
use Rattle.image.specs.Layout.{state_length}
use Rattle.image.specs.Image.{image}
use Rattle.image.specs.Outcome as outcome
use Rattle.image.specs.Outcome.{Result, start_on}
use Rattle.daemons.specs.Buffers.{Buffers, is_recovery, source_in, step_in, kept_after, saved}
use Rattle.daemons.specs.Daemons.{Daemons, daemons_after}

module _ (b : Buffers) (e : List ℕ) where
  pub source_stored : is_recovery e ≡ true → b.store ≡ source_in b e
  unfolding source_in
  source_stored h = search pick_yes

  pub source_running : is_recovery e ≡ false → b.state ≡ source_in b e
  unfolding source_in
  source_running h = search pick_no

module _ (b : Buffers) (r : Result) where
  pub kept_state : r.state ≡ (kept_after b r).state
  unfolding kept_after
  kept_state = refl

  pub kept_stored : r.store ≡ 1 → r.state ≡ (kept_after b r).store
  unfolding kept_after
  kept_stored h = search choices

  pub kept_unstored : (r.store ≡ 1 → ⊥) → b.store ≡ (kept_after b r).store
  unfolding kept_after
  kept_unstored h = search choices

-- The start's image, over any bytes.
pub start_left : (n q i : ℕ) (b : List ℕ) → sizes_ok n q ≡ true → state_length n q ≤ length b → i < n → (start_on n q i b).state ≡ image (start n q i) b
unfolding start_on outcome.started
start_left n q i b sizes long own =
    ap (λ (x : outcome.Started). x.state)
    (sym
    (pick_yes (sizes_ok n q) (outcome.started 0 (image (start n q i) b)) _ _ sizes
    (pick_ge (length b) (state_length n q) _ _ _ long (pick_lt i n _ _ _ own refl))))

pub saved_state : (b : Buffers) → b.state ≡ (saved b).state
unfolding saved
saved_state b = search choices

pub saved_store : (b : Buffers) → b.state ≡ (saved b).store
unfolding saved
saved_store b = search choices

-- ---- an entry, at its own server

module _ (d : Daemons) (o c : List ℕ) (i : ℕ) where
  pub event_buffers : (e : List ℕ) (k : ℕ) → (daemons_after d o c (some (event i e k))).buffers i ≡ kept_after (d.buffers i) (step_in (d.buffers i) e o)
  unfolding daemons_after
  event_buffers e k = search upd_here

  pub event_down : (e : List ℕ) (k : ℕ)
      → (daemons_after d o c (some (event i e k))).down i ≡ pick ((step_in (d.buffers i) e o).number =? 0) false (d.down i)
  unfolding daemons_after
  event_down e k = search upd_here

  pub crash_buffers : (daemons_after d o c (some (crash i))).buffers i ≡ record { state = c; store = (d.buffers i).store }
  unfolding daemons_after
  crash_buffers = search upd_here

  pub crash_down : (daemons_after d o c (some (crash i))).down i ≡ true
  unfolding daemons_after
  crash_down = search upd_here

  pub store_buffers : (daemons_after d o c (some (store i))).buffers i ≡ saved (d.buffers i)
  unfolding daemons_after
  store_buffers = search upd_here
