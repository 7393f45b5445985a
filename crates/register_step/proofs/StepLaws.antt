-- The joint step, as the code makes it.
use Prim.Native.Nat.{ℕ, ◌+◌, ◌^◌, ◌≤◌, ◌<◌}
use mathlib.Core.Path.{◌≡◌, refl, sym, ap, subst, ◌∙◌}
use mathlib.Core.Bool.{Bool}
use mathlib.Core.List.{List, [], ◌++◌, map-append}
use native.Mathlib.Omega.{arith}
use lib.ListN.{length, drop, length-append, length-drop}
use lib.Seq.{drop-length}
use Rattle.base.specs.Tests.{pick}
use Rattle.base.proofs.TestLaws.{pick_ne}
use Rattle.format.specs.Types.{Action}
use Rattle.replication.specs.Machine.Types.{Server, Outcome, refused, taken}
use Rattle.replication.specs.Machine.Step.{greened, step}
use Rattle.image.specs.Image.{image}
use Rattle.image.specs.Decode.{decoded, greens_in}
use Rattle.image.specs.Holding.{Holds, HoldsSome}
use Rattle.image.specs.Outcome.{Result, refusal, image_after, result_of, state_number}
use Rattle.image.proofs.InPlace.{holds_decoded, holds_some}
use Rattle.image.proofs.Refusals.{zero_read, zero_ready, step_read}
use Rattle.queue.specs.Queue.{QueueIn}
use Rattle.queue.proofs.ReadLaws.{holds_queue}
use Rattle.queue.proofs.GreenHistory.{greens_in_count}
use Rattle.updates.specs.White.{whitened}
use Rattle.pegs.specs.Operations.{Peg}
use Rattle.pegs.specs.Register.{advance, refusals}
use Rattle.pegs.specs.Image.{pegs_in}
use Rattle.pegs.specs.Outcome.{register_number, applied_all}
use Rattle.pegs.proofs.Advance.{refusals_append, applied_all_append}
use Rattle.step.specs.declared.Answer.{Answer}
use Rattle.step.specs.Answers.{answered, refused_with as refused_as}
use Rattle.refusals.specs.declared.Refusal.{Refusal}
use Rattle.refusals.specs.Numbers.{refusal_number}
use Rattle.register_check.proofs.Found.{refusal_some}
use Rattle.step.specs.Stages.{unraised_step, raises}
use Rattle.step.specs.Meeting.{met}
use Rattle.step.proofs.RaiseLaws.{raise_ready, step_raised}
use Rattle.register_runs.specs.Joint.{Joint, step_part, unjoined, payloads, carried, joint_of, joint_number, joint_on}
use Rattle.register_runs.proofs.JointLaws.{joint_zero, joint_step, joint_read}
use Rattle.register_step.specs.declared.carrying.Carried.{Carried}
use Rattle.register_step.specs.declared.RegisterAnswer.{RegisterAnswer}
use Rattle.register_step.specs.Carrying.{CarriedOn, CarryReady, CarriesOn, CarriedMet, carry_on, carried_by}
use Rattle.register_step.specs.Answers.{joined, refused_with}
use Rattle.register_step.proofs.MetCarry.{held_greens, held_few}
use Rattle.register_step.proofs.EventStages.{greens_of, Shows, there, there_number, first_shows, first_refuses, same_step, greens_split, refused_unmet}
use Rattle.register_step.proofs.EventLaws.{refusals_below, payloads_count}

-- ---- buffers whose number is not 0

pub answer_refused : (b r e o : List ℕ) (f : Refusal) → refusal_number f ≡ joint_number b r o → joined (refused_with (refusal_number f)) b r o ≡ joint_on b r e o
unfolding joint_on joined unjoined
answer_refused b r e o f q =
    pick_ne (joint_number b r o) 0 (unjoined (refusal_number f) b r o) _ _ (λ z. refusal_some f (q ∙ z)) (ap (λ (j : ℕ). unjoined j b r o) q)

-- Nothing carried on.
carried_none : (r : List ℕ) → carried [] r ≡ r
unfolding carried payloads applied_all
carried_none r = refl

-- ---- what the answer counts

-- By the actions that the outcome names as newly green.
joint_counted : (f : Server → List ℕ → List ℕ) (x : Outcome (List ℕ)) (b r o : List ℕ)
    → ((joint_of f x b r o).greened ≡ length (greens_of x))
    × ((joint_of f x b r o).refused ≡ refusals (pegs_in r) (payloads (greens_of x)))
    × ((joint_of f x b r o).register ≡ carried (greens_of x) r)
unfolding joint_of unjoined greens_of payloads carried applied_all refusals
joint_counted f (refused k) b r o = (refl, refl, refl)
joint_counted f (taken t rs w g) b r o = (refl, refl, refl)

module _ (c : Carried) (g : List Action) (r r₁ : List ℕ) (e : carried_by c r₁ ≡ carry_on g r) where
  counted : (c.greened ≡ length g) × (c.refused ≡ refusals (pegs_in r) (payloads g)) × (r₁ ≡ carried g r)
  unfolding carried_by carry_on
  counted = (ap (λ (x : CarriedOn). x.greened) e, ap (λ (x : CarriedOn). x.refused) e, ap (λ (x : CarriedOn). x.register) e)

  counted_few : c.refused ≤ c.greened
  counted_few = omega (arith, counted.0, counted.1, refusals_below (pegs_in r) (payloads g), payloads_count g)

-- Carried on by g, then by h.
module _ (c d : Carried) (g h : List Action) (r r₁ r₂ : List ℕ) (e : carried_by c r₁ ≡ carry_on g r) (n : CarriesOn g r r₁)
    (f : carried_by d r₂ ≡ carry_on h r₁) where
  both : payloads (g ++ h) ≡ payloads g ++ payloads h
  unfolding payloads
  both = map-append (λ a. a.payload) g h

  pub both_greened : c.greened + d.greened ≡ length (g ++ h)
  both_greened = omega (arith, (counted c g r r₁ e).0, (counted d h r₁ r₂ f).0, length-append g h)

  pub both_refused : c.refused + d.refused ≡ refusals (pegs_in r) (payloads (g ++ h))
  both_refused =
      let second : d.refused ≡ refusals (advance (pegs_in r) (payloads g)) (payloads h)
      = (counted d h r₁ r₂ f).1 ∙ ap (λ (l : List Peg). refusals l (payloads h)) n.pegs in
      omega (arith, (counted c g r r₁ e).1, second, ap (refusals (pegs_in r)) both, refusals_append (pegs_in r) (payloads g) (payloads h))

  pub both_register : r₂ ≡ carried (g ++ h) r
  unfolding carried
  both_register =
      (counted d h r₁ r₂ f).2
      ∙ ap (applied_all (payloads h)) (counted c g r r₁ e).2
      ∙ sym (applied_all_append (payloads g) (payloads h) r)
      ∙ ap (λ (ps : List (List ℕ)). applied_all ps r) (sym both)

-- ---- buffers whose number is 0

module _ (b r o : List ℕ) (ready : joint_number b r o ≡ 0) where
  state_zero : state_number b o ≡ 0
  state_zero = (joint_zero b r o ready).0

  held : Holds (decoded b) b
  held = (zero_ready b o state_zero).image

  pub ready_some : HoldsSome b
  ready_some = holds_some (decoded b) b held

  pub ready_register : register_number r ≡ 0
  ready_register = (joint_zero b r o ready).1

  module _ (e : List ℕ) (first : Carried) (b₁ r₁ : List ℕ) (cm : (s : Server) → Holds s b → CarriedMet first b b₁ r r₁ e s) where
    abbrev s : Server
    s = decoded b

    abbrev m : Server
    m = met s e

    here : CarriedMet first b b₁ r r₁ e s
    here = cm s held

    held_met : Holds m b₁
    held_met = there s e b held b₁ here.state

    pub event_queue : QueueIn b₁
    event_queue = holds_queue m b₁ held_met

    pub event_number : state_number b₁ o ≡ 0
    event_number = there_number s e b held b₁ here.state o (zero_ready b o state_zero).room

    module _ (a : Answer) (g : Bool) (b₂ o₂ : List ℕ)
        (y : (t : Server) → Holds t b₁ → (answered a b₂ o₂ ≡ unraised_step t e b₁ o) × (g ≡ raises t e)) where
      acted : answered a b₂ o₂ ≡ unraised_step m e b₁ o
      acted = (y m held_met).0

      pub event_raises : HoldsSome b₂
      event_raises = raise_ready b₁ e o event_number a g b₂ o₂ y

      -- The event is refused.
      pub event_refused : (f : Refusal) → a ≡ refused_as (refusal_number f) → joined (refused_with (refusal_number f)) b₂ r₁ o₂ ≡ joint_on b r e o
      unfolding joined answered refusal greened joint_of unjoined
      event_refused f is-a =
          let n : a.number ≡ 0 → ⊥ = λ q. refusal_some f (sym (ap (λ (v : Answer). v.number) is-a) ∙ q) in
          let h : refused_with (refusal_number f) ≡ refused_with a.number = ap (λ (v : Answer). refused_with v.number) (sym is-a) in
          let number : a.number ≡ (unraised_step m e b₁ o).number = ap (λ (v : Result). v.number) acted in
          let w = first_refuses s e b held b₁ here.state o (λ q. n (number ∙ q)) in
          let j : ℕ = w.0 in
          let told : answered a b₂ o₂ ≡ refusal j b₁ o = acted ∙ w.1 in
          let unmet = refused_unmet s e b held j w.2 in
          let back : b₁ ≡ b = here.state ∙ ap (λ (t : Server). image t b) unmet.0 ∙ held.written in
          let none : greened s m ≡ [] = ap (greened s) unmet.0 ∙ drop-length s.log.green in
          let kept : r₁ ≡ r = (counted first (greened s m) r r₁ here.carried).2 ∙ ap (λ (l : List Action). carried l r) none ∙ carried_none r in
          (λ i. joined (h i) b₂ (kept i) o₂)
          ∙ (λ i. unjoined (told i).number (told i).state r (told i).out)
          ∙ ap (λ (d : List ℕ). unjoined j d r o) back
          ∙ ap (λ (x : Outcome (List ℕ)). joint_of (image_after s e) x b r o) (sym unmet.1)
          ∙ sym (joint_read b r e o ready)

      -- ---- the event is taken

      module _ (from : ℕ) (is : from ≡ length (greens_in b₁)) where
        abbrev g₁ : List Action
        g₁ = greened s m

        abbrev g₂ : List Action
        g₂ = greens_of (step m e)

        is_met : from ≡ length m.log.green
        is_met = is ∙ ap length (held_greens m b₁ held_met)

        shows : Shows b₂ from g₂
        unfolding answered
        shows =
            subst (λ (k : ℕ). Shows b₂ k g₂) (sym is_met)
            (subst (λ (v : Result). Shows v.state (length m.log.green) g₂) (sym acted) (first_shows s e b held b₁ here.state o))

        pub event_ready : CarryReady b₂ from r₁
        event_ready =
            let h = shows in
            record { queue = h.queue; low = h.low; inside = omega (arith, h.inside, greens_in_count b₂ h.queue); number = here.onward.number }

        module _ (rest : Carried) (r₂ : List ℕ)
            (cr : (carried_by rest r₂ ≡ carry_on (drop from (greens_in b₂)) r₁) × CarriesOn (drop from (greens_in b₂)) r₁ r₂) where
          second : carried_by rest r₂ ≡ carry_on g₂ r₁
          second = cr.0 ∙ ap (λ (l : List Action). carry_on l r₁) shows.gained

          pub greened_few : first.greened + rest.greened < 2 ^ 32
          unfolding greened
          greened_few =
              let one = held_few m b₁ held_met in
              let two = held_few event_raises.state b₂ event_raises.holds in
              omega (
                arith,
                one,
                two,
                ap length (held_greens m b₁ held_met),
                (counted first g₁ r r₁ here.carried).0,
                (counted rest (drop from (greens_in b₂)) r₁ r₂ cr.0).0,
                length-drop (length s.log.green) m.log.green,
                length-drop from (greens_in b₂),
              )

          pub refused_few : first.refused + rest.refused < 2 ^ 32
          refused_few =
              omega (arith, greened_few, counted_few first g₁ r r₁ here.carried, counted_few rest (drop from (greens_in b₂)) r₁ r₂ cr.0)

          pub event_done : (b₃ : List ℕ) (word : ℕ) → word ≡ a.store → a.number ≡ 0 → ((t : Server) → Holds t b₂ → b₃ ≡ image (pick g (whitened t) t) b₂)
              → joined (record {
                number = 0;
                store = word;
                sent = a.sent;
                greened = first.greened + rest.greened;
                refused = first.refused + rest.refused;
              }) b₃ r₂ o₂ ≡ joint_on b r e o
          unfolding joined answered
          event_done b₃ word is-word zero l =
              let x : Joint = joint_on b r e o in
              let stepped : answered a b₃ o₂ ≡ step_part x
              = step_raised b₁ e o event_number a g b₂ o₂ y b₃ l
              ∙ step_read b₁ e o (decoded b₁) (zero_read b₁ o event_number).0 (zero_ready b₁ o event_number).read
              ∙ ap (λ (t : Server). result_of (image_after t e) (step t e) b₁ o) (holds_decoded m b₁ held_met)
              ∙ same_step s e b held b₁ here.state o
              ∙ sym (step_read b e o s (zero_read b o state_zero).0 (zero_ready b o state_zero).read)
              ∙ sym (joint_step b r e o (joint_zero b r o ready).1) in
              let whole : joint_of (image_after s e) (step s e) b r o ≡ x = sym (joint_read b r e o ready) in
              let split : g₁ ++ g₂ ≡ greens_of (step s e) = sym (greens_split s e b held) in
              let c = joint_counted (image_after s e) (step s e) b r o in
              let greens : first.greened + rest.greened ≡ x.greened
              = both_greened first rest g₁ g₂ r r₁ r₂ here.carried here.onward second
              ∙ ap length split ∙ sym c.0 ∙ ap (λ (v : Joint). v.greened) whole in
              let refusals_are : first.refused + rest.refused ≡ x.refused
              = both_refused first rest g₁ g₂ r r₁ r₂ here.carried here.onward second
              ∙ ap (λ (l : List Action). refusals (pegs_in r) (payloads l)) split ∙ sym c.1 ∙ ap (λ (v : Joint). v.refused) whole in
              let register : r₂ ≡ x.register
              = both_register first rest g₁ g₂ r r₁ r₂ here.carried here.onward second
              ∙ ap (λ (l : List Action). carried l r) split ∙ sym c.2 ∙ ap (λ (v : Joint). v.register) whole in
              λ i. record {
                number = (sym zero ∙ ap (λ (v : Result). v.number) stepped) i;
                store = (is-word ∙ ap (λ (v : Result). v.store) stepped) i;
                sent = (stepped i).sent;
                greened = greens i;
                refused = refusals_are i;
                state = (stepped i).state;
                register = register i;
                out = (stepped i).out;
              }
