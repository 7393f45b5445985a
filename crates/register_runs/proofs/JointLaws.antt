-- The joint step beside the step: over a register that reads it is the step, and its register is carried on by what turned green.
use Prim.Native.Nat.{ℕ}
use mathlib.Core.Path.{◌≡◌, refl, sym, ap, ◌∙◌}
use mathlib.Core.Bool.{Bool, true, false}
use mathlib.Core.List.{List}
use native.Mathlib.Omega.{arith}
use Rattle.base.specs.Tests.{◌or◌, ◌and◌, ◌=?◌, pick}
use Rattle.base.proofs.TestLaws.{pick_eq, choices}
use Rattle.replication.specs.Machine.Types.{Server, Outcome, refused, taken}
use Rattle.replication.specs.Machine.Step.{step}
use Rattle.replication.specs.Machine.WellFormed.{well_formed}
use Rattle.image.specs.Decode.{decoded, reads}
use Rattle.image.specs.Outcome.{refusal, too_short, image_after, result_of, step_on, state_number}
use Rattle.image.specs.Holding.{blanked}
use Rattle.image.proofs.Refusals.{step_by_number}
use Rattle.daemons.proofs.Blanked.{refused_alike, taken_alike}
use Rattle.pegs.specs.Image.{register_reads}
use Rattle.pegs.specs.Outcome.{register_short, register_number}
use Rattle.register_runs.specs.Joint.{step_part, unjoined, joint_of, joint_number, joint_on}

-- ---- the number of all three buffers

both_zero : (t s u v : Bool) → ◌≡◌ {A = ℕ} (pick (t or s) 7 (pick (u and v) 0 8)) 0
    → (◌≡◌ {A = ℕ} (pick t 7 (pick u 0 8)) 0) × (◌≡◌ {A = ℕ} (pick s 7 (pick v 0 8)) 0)
unfolding pick ◌or◌ ◌and◌
both_zero true s u v h = absurd (omega arith)
both_zero false true u v h = absurd (omega arith)
both_zero false false true true h = (refl, refl)
both_zero false false true false h = absurd (omega arith)
both_zero false false false v h = absurd (omega arith)

one_zero : (t s u v : Bool) → ◌≡◌ {A = ℕ} (pick s 7 (pick v 0 8)) 0
    → ◌≡◌ {A = ℕ} (pick (t or s) 7 (pick (u and v) 0 8)) (pick t 7 (pick u 0 8))
unfolding pick ◌or◌ ◌and◌
one_zero t true u v h = absurd (omega arith)
one_zero t false u false h = absurd (omega arith)
one_zero true false u true h = refl
one_zero false false true true h = refl
one_zero false false false true h = refl

module _ (b r o : List ℕ) where
  -- 0 exactly where both are 0.
  pub joint_zero : joint_number b r o ≡ 0 → (state_number b o ≡ 0) × (register_number r ≡ 0)
  unfolding joint_number state_number register_number
  joint_zero z = both_zero (too_short b o) (register_short r) (reads b) (register_reads r) z

  -- Over a register that reads the state's number decides.
  pub joint_number_lem : register_number r ≡ 0 → joint_number b r o ≡ state_number b o
  unfolding joint_number state_number register_number
  joint_number_lem z = one_zero (too_short b o) (register_short r) (reads b) (register_reads r) z

  pub zero_joint : state_number b o ≡ 0 → register_number r ≡ 0 → joint_number b r o ≡ 0
  zero_joint s z = joint_number_lem z ∙ s

-- ---- the answer

part_of_lem : (f : Server → List ℕ → List ℕ) (x : Outcome (List ℕ)) (b r o : List ℕ) → step_part (joint_of f x b r o) ≡ result_of f x b o
unfolding joint_of result_of unjoined refusal
part_of_lem f (refused k) b r o = search choices
part_of_lem f (taken t rs w g) b r o = search choices

part_picked : (c : Bool) (k : ℕ) (f : Server → List ℕ → List ℕ) (x : Outcome (List ℕ)) (b r o : List ℕ)
    → step_part (pick c (joint_of f x b r o) (unjoined k b r o)) ≡ pick c (result_of f x b o) (refusal k b o)
unfolding pick unjoined refusal
part_picked true k f x b r o = part_of_lem f x b r o
part_picked false k f x b r o = refl

module _ (b r e o : List ℕ) where
  -- Number, store word, bytes of records and both of the step's buffers are the step's.
  pub joint_step : register_number r ≡ 0 → step_part (joint_on b r e o) ≡ step_on b e o
  unfolding joint_on
  joint_step z =
      part_picked (joint_number b r o =? 0) (joint_number b r o) (image_after (decoded b) e) (step (decoded b) e) b r o
      ∙ ap (λ (k : ℕ). pick (k =? 0) (result_of (image_after (decoded b) e) (step (decoded b) e) b o) (refusal k b o)) (joint_number_lem b r o z)
      ∙ sym (step_by_number b e o)

  -- The machine's step of the state that the buffers hold.
  pub joint_read : joint_number b r o ≡ 0 → joint_on b r e o ≡ joint_of (image_after (decoded b) e) (step (decoded b) e) b r o
  unfolding joint_on
  joint_read z = sym (pick_eq (joint_number b r o) 0 (joint_of (image_after (decoded b) e) (step (decoded b) e) b r o) _ _ z refl)

-- The answer from a server's state is that from the state in its buffer, whose white actions are blank.
pub joint_alike : (s : Server) → well_formed s ≡ true → (e b r o : List ℕ)
    → joint_of (image_after (blanked s) e) (step (blanked s) e) b r o ≡ joint_of (image_after s e) (step s e) b r o
unfolding joint_of
joint_alike s ok e b r o = go (step s e) refl
  where
    go : (x : Outcome (List ℕ)) → step s e ≡ x → joint_of (image_after (blanked s) e) (step (blanked s) e) b r o ≡ joint_of (image_after s e) x b r o
    go (refused k) h = ap (λ (y : Outcome (List ℕ)). joint_of (image_after (blanked s) e) y b r o) (refused_alike s ok e k h)
    go (taken t rs w g) h =
        let a = taken_alike s ok e t rs w g h in
        ap (λ (y : Outcome (List ℕ)). joint_of (image_after (blanked s) e) y b r o) a.answer
        ∙ ap (λ (c : List ℕ). joint_of (λ u d. c) (taken t rs w g) b r o) (a.images b)
