-- One event by the joint step, as a burst needs it: the next event finds buffers whose number is 0 again.
use Prim.Native.Nat.{ℕ, suc, ◌+◌, ◌≤◌}
use mathlib.Core.Path.{◌≡◌, refl, sym, ap, ◌∙◌}
use mathlib.Core.List.{List, [], ◌∷◌}
use native.Mathlib.Omega.{arith}
use lib.ListN.{length, length-map}
use Rattle.base.specs.Tests.{◌=?◌}
use Rattle.base.proofs.TestLaws.{Known, known, holds, fails, pick_yes, pick_no}
use Rattle.format.specs.Limits.{most_length_limit}
use Rattle.format.specs.Types.{Action}
use Rattle.image.specs.Decode.{decoded, greens_in}
use Rattle.image.specs.Outcome.{Result, step_on}
use Rattle.image.proofs.Refusals.{zero_ready}
use Rattle.pegs.specs.Operations.{Peg}
use Rattle.pegs.specs.Register.{payload_number, after_payload, refusals}
use Rattle.pegs.specs.Image.{pegs_in}
use Rattle.register_runs.specs.Joint.{Joint, unjoined, payloads, joint_number, joint_on}
use Rattle.register_runs.proofs.JointLaws.{joint_zero}
use Rattle.register_step.proofs.Gains.{Gains}
use Rattle.register_step.proofs.MetCarry.{held_few}
use Rattle.register_step.proofs.JointLaws.{joint_gains, joint_kept, refused_joint, step_same}

-- No more than there are.
pub refusals_below : (l : List Peg) (ps : List (List ℕ)) → refusals l ps ≤ length ps
unfolding refusals
refusals_below l [] = omega arith
refusals_below l (p ∷ ps) = go (known (payload_number p l =? 0)) (refusals_below (after_payload p l) ps)
  where
    go : Known (payload_number p l =? 0) → refusals (after_payload p l) ps ≤ length ps → refusals l (p ∷ ps) ≤ suc (length ps)
    go (holds t) h = omega (arith, h, pick_yes {A = ℕ} (payload_number p l =? 0) 0 0 1 t refl)
    go (fails t) h = omega (arith, h, pick_no {A = ℕ} (payload_number p l =? 0) 1 0 1 t refl)

pub payloads_count : (l : List Action) → length (payloads l) ≡ length l
unfolding payloads
payloads_count l = length-map l (λ a. a.payload)

-- What an event at the state b with the answer w leaves: buffers whose number is 0, and a green history that is longer by what w says.
pub record Goes (b : List ℕ) (w : Joint) : Type 0 where
  pub ready : joint_number w.state w.register w.out ≡ 0
  pub grown : length (greens_in w.state) ≡ length (greens_in b) + w.greened
  pub fewer : w.refused ≤ w.greened

module _ (b r o : List ℕ) (z : joint_number b r o ≡ 0) where
  -- Few enough for 32 bits.
  pub few_greens : length (greens_in b) ≤ most_length_limit
  few_greens = held_few (decoded b) b (zero_ready b o (joint_zero b r o z).0).image

  module _ (e : List ℕ) where
    abbrev x : Result
    x = step_on b e o

    abbrev y : Joint
    y = joint_on b r e o

    pub joint_goes : Goes b y
    joint_goes =
        let g : Gains b r x.state y.register y.greened y.refused = joint_gains b r e o z in
        let same = step_same b r e o z in
        record {
          ready = (λ i. joint_number (sym same i).state y.register (sym same i).out) ∙ joint_kept b r e o z;
          grown =
              (λ i. length (greens_in (sym same i).state))
              ∙ g.grown
              ∙ ap (λ (k : ℕ). length (greens_in b) + k) (sym g.greened);
          fewer = omega (arith, g.refused, g.greened, refusals_below (pegs_in r) (payloads g.gained), payloads_count g.gained);
        }

    pub refused_whole : (y.number ≡ 0 → ⊥) → y ≡ unjoined y.number b r o
    refused_whole n =
        let number : x.number ≡ y.number = ap (λ (v : Result). v.number) (step_same b r e o z) in
        refused_joint b r e o z (λ q. n (sym number ∙ q)) ∙ ap (λ (k : ℕ). unjoined k b r o) number
