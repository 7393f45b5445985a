-- Buffers whose number is 0 keep it through a step, so the state is checked once; a refused event leaves any buffers, and a step that puts out nothing the
-- outgoing one.
use Prim.Native.Nat.{ℕ}
use mathlib.Core.Path.{◌≡◌, refl, sym, ap, subst}
use mathlib.Core.Bool.{true}
use mathlib.Core.List.{List, [], ◌∷◌}
use native.Mathlib.Omega.{arith}
use lib.ListN.{length}
use Rattle.base.specs.Tests.{◌=?◌}
use Rattle.base.proofs.TestLaws.{pick_either}
use Rattle.base.specs.Bytes.{joined, over}
use Rattle.replication.specs.Machine.Types.{Server, Outcome, refused, taken}
use Rattle.replication.specs.Machine.Step.{step}
use Rattle.image.specs.Decode.{decoded, reads}
use Rattle.image.specs.Outcome.{Result, refusal, image_after, result_of, step_on, state_number}
use Rattle.image.specs.Holding.{blanked}
use Rattle.image.proofs.ImageLaws.{image_reads}
use Rattle.image.proofs.Refusals.{Ready, number_read, zero_read, zero_ready, step_read, step_by_number}
use Rattle.image.proofs.Taken.{taken_ready}
use Rattle.daemons.proofs.Keeping.{holds_long}

-- What an outcome of the event e makes of the buffers.
abbrev answer : (b e o : List ℕ) → Outcome (List ℕ) → Result
answer b e o x = result_of (image_after (decoded b) e) x b o

ready_zero : (s : Server) (b o : List ℕ) → Ready s b o → state_number b o ≡ 0
ready_zero s b o r =
    let h = r.image in
    number_read b o (holds_long s b h o r.room)
    (subst (λ (x : List ℕ). reads x ≡ true) h.written (image_reads s b h.formed h.long))

module _ (b e o : List ℕ) (z : state_number b o ≡ 0) where
  machine_step : step_on b e o ≡ answer b e o (step (decoded b) e)
  machine_step = step_read b e o (decoded b) (zero_read b o z).0 (zero_ready b o z).read

  by_outcome : (P : Result → Type 0) → ((x : Outcome (List ℕ)) → step (decoded b) e ≡ x → P (answer b e o x)) → P (step_on b e o)
  by_outcome P h = subst P (sym machine_step) (h (step (decoded b) e) refl)

  -- The next step need not check them.
  pub step_kept : state_number (step_on b e o).state (step_on b e o).out ≡ 0
  unfolding result_of refusal
  step_kept = by_outcome (λ (r : Result). state_number r.state r.out ≡ 0) go
    where
      go : (x : Outcome (List ℕ)) → step (decoded b) e ≡ x → state_number (answer b e o x).state (answer b e o x).out ≡ 0
      go (refused k) h = z
      go (taken t rs w g) h =
          ready_zero (blanked t) (image_after (decoded b) e t b) (over (joined rs) o) (taken_ready (decoded b) e t rs w g h b o (zero_ready b o z))

-- ---- over any buffers

pub over_none : (y o : List ℕ) → length y ≡ 0 → over y o ≡ o
unfolding over
over_none [] o h = refl
over_none (b ∷ y) o h = absurd (omega arith)

module _ (b e o : List ℕ) where
  by_number : (P : Result → Type 0) → ((x : Outcome (List ℕ)) → P (answer b e o x)) → ((k : ℕ) → P (refusal k b o)) → P (step_on b e o)
  by_number P f g = subst P (sym (step_by_number b e o)) (pick_either P (state_number b o =? 0) _ _ (f (step (decoded b) e)) (g (state_number b o)))

  -- All as before.
  pub step_left : ((step_on b e o).number ≡ 0 → ⊥) → step_on b e o ≡ refusal (step_on b e o).number b o
  unfolding result_of refusal
  step_left = by_number (λ (r : Result). (r.number ≡ 0 → ⊥) → r ≡ refusal r.number b o) go (λ k n. refl)
    where
      go : (x : Outcome (List ℕ)) → ((answer b e o x).number ≡ 0 → ⊥) → answer b e o x ≡ refusal (answer b e o x).number b o
      go (refused k) n = refl
      go (taken t rs w g) n = absurd (n refl)

  pub refused_left : ((step_on b e o).number ≡ 0 → ⊥) → ((step_on b e o).state ≡ b) × ((step_on b e o).out ≡ o)
  unfolding refusal
  refused_left n = let h = step_left n in (ap (λ (r : Result). r.state) h, ap (λ (r : Result). r.out) h)

  -- A step that puts out nothing leaves the outgoing buffer.
  pub step_unsent : (step_on b e o).sent ≡ 0 → (step_on b e o).out ≡ o
  unfolding result_of refusal
  step_unsent = by_number (λ (r : Result). r.sent ≡ 0 → r.out ≡ o) go (λ k n. refl)
    where
      go : (x : Outcome (List ℕ)) → (answer b e o x).sent ≡ 0 → (answer b e o x).out ≡ o
      go (refused k) n = refl
      go (taken t rs w g) n = over_none (joined rs) o n
