-- The joint step beside the engine's own: the same answer, and the register carried on by what turned green.
use Prim.Native.Nat.{ℕ, ◌+◌, ◌≤◌, ◌<◌}
use mathlib.Core.Path.{◌≡◌, refl, sym, ap, subst, ◌∙◌}
use mathlib.Core.Bool.{Bool, true, false}
use mathlib.Core.List.{List}
use lib.ListN.{length, length-append}
use Rattle.base.specs.Tests.{◌and◌, ◌or◌, ◌<?◌, pick}
use Rattle.base.proofs.TestLaws.{Known, known, holds, fails, pick_yes, pick_no, and_yes, and_no, lt_yes, lt_no}
use Rattle.base.proofs.Branches.{or_yes, or_no}
use Rattle.format.specs.Types.{Action}
use Rattle.replication.specs.Machine.Types.{Server, Outcome, refused, taken}
use Rattle.replication.specs.Machine.Step.{step}
use Rattle.replication.specs.Machine.WellFormed.{well_formed}
use Rattle.replication.proofs.Step.Growth.{green_gained}
use Rattle.replication.proofs.WellFormed.Facts.{well_formed_facts}
use Rattle.replication.proofs.WellFormed.Steps.{step_well_formed}
use Rattle.image.specs.Decode.{decoded, reads, greens_in}
use Rattle.image.specs.Holding.{Holds, blanked}
use Rattle.image.specs.Outcome.{Result, refusal, too_short, image_after, result_of, step_on, state_number}
use Rattle.image.proofs.InPlace.{holds_decoded}
use Rattle.image.proofs.Blanks.{blanked_length}
use Rattle.image.proofs.Refusals.{zero_ready, zero_read, number_short, number_unread, number_read, step_read}
use Rattle.image.proofs.Taken.{taken_holds}
use Rattle.burst.proofs.KeptLaws.{step_kept}
use Rattle.pegs.specs.Image.{register_length, register_reads}
use Rattle.pegs.specs.Outcome.{register_short, register_number}
use Rattle.pegs.proofs.Advance.{applied_all_lem}
use Rattle.refusals.specs.declared.Refusal.{Refusal}
use Rattle.refusals.specs.Numbers.{refusal_number}
use Rattle.register_check.proofs.Found.{refusal_some}
use Rattle.register_runs.specs.Joint.{Joint, step_part, unjoined, payloads, carried, joint_of, joint_number, joint_on}
use Rattle.register_runs.proofs.JointLaws.{joint_zero, zero_joint, joint_step, joint_read}
use Rattle.register_runs.proofs.Holding.{gained_bytes}
use Rattle.register_step.proofs.Gains.{Gains, gains_none}

-- ---- the buffers' number, as the code finds it

module _ (b r o : List ℕ) where
  pub joint_brief : length r < register_length → ◌≡◌ {A = ℕ} 7 (joint_number b r o)
  unfolding joint_number register_short
  joint_brief h = go (known (too_short b o))
    where
      go : Known (too_short b o) → ◌≡◌ {A = ℕ} 7 (pick (too_short b o or length r <? register_length) 7 (pick (reads b and register_reads r) 0 8))
      go (holds t) = pick_yes _ 7 _ _ (sym (or_yes (too_short b o) (length r <? register_length) t)) refl
      go (fails t) = pick_yes _ 7 _ _ (sym (or_no true (too_short b o) (length r <? register_length) t (sym (lt_yes (length r) register_length h)))) refl

  module _ (long : register_length ≤ length r) (k : ℕ) (is-k : k ≡ state_number b o) where
    long_either : (too_short b o or register_short r) ≡ too_short b o
    unfolding register_short
    long_either = go (known (too_short b o))
      where
        go : Known (too_short b o) → (too_short b o or length r <? register_length) ≡ too_short b o
        go (holds t) = sym (or_yes (too_short b o) (length r <? register_length) t) ∙ sym t
        go (fails t) = sym (or_no false (too_short b o) (length r <? register_length) t (sym (lt_no (length r) register_length long))) ∙ sym t

    by_register : joint_number b r o ≡ pick (too_short b o) 7 (pick (reads b and register_reads r) 0 8)
    unfolding joint_number
    by_register = ap (λ (t : Bool). pick t 7 (pick (reads b and register_reads r) 0 8)) long_either

    joint_state : (k ≡ 0 → ⊥) → k ≡ joint_number b r o
    joint_state n = is-k ∙ go (known (too_short b o)) (known (reads b))
      where
        go : Known (too_short b o) → Known (reads b) → state_number b o ≡ joint_number b r o
        go (holds t) u = number_short b o t ∙ sym (by_register ∙ sym (pick_yes (too_short b o) 7 _ _ t refl))
        go (fails t) (holds u) = absurd (n (is-k ∙ number_read b o t u))
        go (fails t) (fails u) =
            number_unread b o t u
            ∙ sym (by_register ∙ sym (pick_no (too_short b o) 8 _ _ t (pick_no (reads b and register_reads r) 8 _ _ (sym (and_no (reads b) (register_reads r) u)) refl)))

    module _ (z : k ≡ 0) (t : Bool) (is-t : t ≡ register_reads r) where
      by_reads : joint_number b r o ≡ pick t 0 8
      by_reads =
          let y = zero_read b o (sym is-k ∙ z) in
          by_register ∙ sym (pick_no (too_short b o) (pick t 0 8) _ _ y.0 (ap (λ (u : Bool). pick u 0 8) (and_yes t (reads b) (register_reads r) y.1 is-t)))

      pub joint_reads : t ≡ true → ◌≡◌ {A = ℕ} 0 (joint_number b r o)
      joint_reads e = sym (by_reads ∙ sym (pick_yes t 0 _ _ e refl))

      pub joint_unread : t ≡ false → ◌≡◌ {A = ℕ} 8 (joint_number b r o)
      joint_unread e = sym (by_reads ∙ sym (pick_no t 8 _ _ e refl))

  pub joint_state_refused : register_length ≤ length r → (f : Refusal) → refusal_number f ≡ state_number b o → refusal_number f ≡ joint_number b r o
  joint_state_refused long f e = joint_state long (refusal_number f) e (refusal_some f)

-- ---- one event

module _ (b r e o : List ℕ) (z : joint_number b r o ≡ 0) where
  abbrev x : Result
  x = step_on b e o

  abbrev y : Joint
  y = joint_on b r e o

  state_zero : state_number b o ≡ 0
  state_zero = (joint_zero b r o z).0

  register_zero : register_number r ≡ 0
  register_zero = (joint_zero b r o z).1

  machine : x ≡ result_of (image_after (decoded b) e) (step (decoded b) e) b o
  machine = step_read b e o (decoded b) (zero_read b o state_zero).0 (zero_ready b o state_zero).read

  abbrev left : Server → List ℕ → List ℕ
  left = image_after (decoded b) e

  by_outcome : (P : Result → Joint → Type 0)
      → ((w : Outcome (List ℕ)) → step (decoded b) e ≡ w → P (result_of left w b o) (joint_of left w b r o)) → P x y
  by_outcome P h =
      subst (λ (v : Result). P v y) (sym machine)
      (subst (P (result_of left (step (decoded b) e) b o)) (sym (joint_read b r e o z)) (h (step (decoded b) e) refl))

  -- The green history of the state that a taken event leaves is longer by what turned green.
  taken_grown : (t : Server) (rs : List (List ℕ)) (w : Bool) (g : List Action) → step (decoded b) e ≡ taken t rs w g
      → length (greens_in (left t b)) ≡ length (greens_in b) + length g
  unfolding greens_in
  taken_grown t rs w g h =
      let held : Holds (decoded b) b = (zero_ready b o state_zero).image in
      let ok : well_formed t ≡ true = step_well_formed (decoded b) e t rs w g held.formed h in
      ap (λ (s : Server). length s.log.green) (holds_decoded (blanked t) (left t b) (taken_holds (decoded b) e t rs w g h b held))
      ∙ blanked_length t (well_formed_facts t ok).white
      ∙ ap length (green_gained (decoded b) e t rs w g h)
      ∙ length-append (decoded b).log.green g

  pub joint_gains : Gains b r x.state y.register y.greened y.refused
  unfolding result_of joint_of refusal unjoined
  joint_gains = by_outcome (λ v w. Gains b r v.state w.register w.greened w.refused) go
    where
      go : (w : Outcome (List ℕ)) → step (decoded b) e ≡ w
          → Gains b r (result_of left w b o).state (joint_of left w b r o).register (joint_of left w b r o).greened (joint_of left w b r o).refused
      go (refused k) h = gains_none b r
      go (taken t rs w g) h = record {
        gained = g;
        grown = taken_grown t rs w g h;
        bytes = gained_bytes (decoded b) e t rs w g h (zero_ready b o state_zero).image.formed;
        greened = refl;
        refused = refl;
        register = refl;
      }

  state_kept : state_number x.state x.out ≡ 0
  state_kept = step_kept b e o state_zero

  -- The next event need not check them.
  pub joint_kept : joint_number x.state y.register x.out ≡ 0
  unfolding carried
  joint_kept =
      let g = joint_gains in
      zero_joint x.state y.register x.out state_kept
      (ap register_number g.register ∙ (applied_all_lem (payloads g.gained) r register_zero g.bytes).number)

  -- "no refusal changes anything lent"
  pub refused_joint : (x.number ≡ 0 → ⊥) → y ≡ unjoined x.number b r o
  unfolding result_of joint_of refusal
  refused_joint = by_outcome (λ v w. (v.number ≡ 0 → ⊥) → w ≡ unjoined v.number b r o) go
    where
      go : (w : Outcome (List ℕ)) → step (decoded b) e ≡ w → ((result_of left w b o).number ≡ 0 → ⊥) → joint_of left w b r o ≡ unjoined (result_of left w b o).number b r o
      go (refused k) h n = refl
      go (taken t rs w g) h n = absurd (n refl)

  pub step_same : x ≡ step_part y
  step_same = sym (joint_step b r e o register_zero)
