-- What the definitions of a depot's buffers say, one way at a time.
use Prim.Native.Nat.{ℕ}
use mathlib.Core.Path.{◌≡◌, refl, sym, subst, ◌∙◌}
use mathlib.Core.Bool.{Bool, true, false}
use mathlib.Core.List.{List}
use mathlib.Core.Option.{some}
use native.Mathlib.Omega.{arith}
use Rattle.base.specs.Tests.{◌=?◌, pick}
use Rattle.base.proofs.TestLaws.{choices, Known, holds, fails, known}
use Rattle.base.proofs.AtLaws.{upd_here}
use Rattle.replication.specs.Runs.Run.{event, crash, store}
use Rattle.image.specs.Outcome.{word}
use Rattle.daemons.specs.Buffers.{is_recovery, source_in, kept_after, saved}
use Rattle.daemons.proofs.BufferLaws.{source_stored, source_running}
use Rattle.register_runs.specs.Joint.{Joint, step_part, joint_on}
use Rattle.register_runs.specs.Depots.{Depot, saved_all, joint_in, depot_after, Depots, depots_after}

-- ---- a store

module _ (d : Depot) where
  pub saved_states : (saved_all d).states ≡ saved d.states
  unfolding saved_all
  saved_states = refl

  pub saved_register : d.registers.state ≡ (saved_all d).registers.state
  unfolding saved_all saved
  saved_register = refl

  pub stored_register : d.registers.state ≡ (saved_all d).registers.store
  unfolding saved_all saved
  stored_register = refl

-- ---- an event

module _ (d : Depot) (e o : List ℕ) where
  -- A recovery starts from both stored images.
  joint_stored : is_recovery e ≡ true → joint_on d.states.store d.registers.store e o ≡ joint_in d e o
  unfolding joint_in source_in pick
  joint_stored h = rw h refl

  joint_running : is_recovery e ≡ false → joint_on d.states.state d.registers.state e o ≡ joint_in d e o
  unfolding joint_in source_in pick
  joint_running h = rw h refl

  pub joint_source : joint_on (source_in d.states e) (source_in d.registers e) e o ≡ joint_in d e o
  joint_source = go (known (is_recovery e))
    where
      go : Known (is_recovery e) → joint_on (source_in d.states e) (source_in d.registers e) e o ≡ joint_in d e o
      go (holds h) =
          sym (λ j. joint_on (source_stored d.states e h j) (source_stored d.registers e h j) e o) ∙ joint_stored h
      go (fails h) =
          sym (λ j. joint_on (source_running d.states e h j) (source_running d.registers e h j) e o) ∙ joint_running h

module _ (d : Depot) (x : Joint) where
  pub left_states : (depot_after d x).states ≡ kept_after d.states (step_part x)
  unfolding depot_after kept_after
  left_states = refl

  pub left_register : x.register ≡ (depot_after d x).registers.state
  unfolding depot_after
  left_register = refl

  left_stored : x.store ≡ 1 → x.register ≡ (depot_after d x).registers.store
  unfolding depot_after
  left_stored h = search choices

  left_unstored : (x.store ≡ 1 → ⊥) → d.registers.store ≡ (depot_after d x).registers.store
  unfolding depot_after
  left_unstored h = search choices

  -- The register that an event of this store word leaves stored.
  pub left_word : (P : List ℕ → Type 0) (w : Bool) → x.store ≡ word w → (w ≡ true → P x.register) → (w ≡ false → P d.registers.store)
      → P (depot_after d x).registers.store
  unfolding word
  left_word P true e h k = subst P (left_stored e) (h refl)
  left_word P false e h k = subst P (left_unstored (λ z. absurd (omega arith))) (k refl)

-- ---- an entry, at its own server

module _ (d : Depots) (o c r : List ℕ) (i : ℕ) where
  pub event_depot : (e : List ℕ) (k : ℕ) → (depots_after d o c r (some (event i e k))).depot i ≡ depot_after (d.depot i) (joint_in (d.depot i) e o)
  unfolding depots_after
  event_depot e k = search upd_here

  pub event_down : (e : List ℕ) (k : ℕ)
      → (depots_after d o c r (some (event i e k))).down i ≡ pick ((joint_in (d.depot i) e o).number =? 0) false (d.down i)
  unfolding depots_after
  event_down e k = search upd_here

  pub crash_depot : (depots_after d o c r (some (crash i))).depot i
      ≡ record {
        states = record { state = c; store = (d.depot i).states.store };
        registers = record { state = r; store = (d.depot i).registers.store };
      }
  unfolding depots_after
  crash_depot = search upd_here

  pub crash_down : (depots_after d o c r (some (crash i))).down i ≡ true
  unfolding depots_after
  crash_down = search upd_here

  pub store_depot : (depots_after d o c r (some (store i))).depot i ≡ saved_all (d.depot i)
  unfolding depots_after
  store_depot = search upd_here
