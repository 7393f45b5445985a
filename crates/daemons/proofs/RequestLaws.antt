-- What a request's answer says, on the buffers.
use Prim.Native.Nat.{ℕ}
use mathlib.Core.Path.{◌≡◌, refl, sym, ap, subst, ◌∙◌}
use mathlib.Core.Bool.{Bool}
use mathlib.Core.List.{List, Memᴰ}
use native.Mathlib.Omega.{arith}
use Rattle.base.specs.Tests.{◌=?◌, pick}
use Rattle.base.proofs.TestLaws.{eq_holds, eq_fails, Known, holds, fails, known}
use Rattle.format.specs.Types.{Action, request, says}
use Rattle.format.specs.Read.{read}
use Rattle.replication.specs.Machine.Types.{Server, Outcome, refused, taken, context_of}
use Rattle.replication.specs.Machine.Requests.{made_of}
use Rattle.replication.specs.Machine.Step.{step}
use Rattle.replication.specs.Images.{started, is_recovery, source_of, arrive}
use Rattle.replication.specs.Runs.Requests.{TakesRequest}
use Rattle.replication.proofs.Step.Table.{refused_some, never_four}
use Rattle.replication.proofs.Runs.RequestsHeld.{answers}
use Rattle.image.specs.Decode.{decoded, reads}
use Rattle.image.specs.Outcome.{Result, refusal, word, too_short, image_after, result_of, step_on, state_number}
use Rattle.image.specs.Holding.{blanked}
use Rattle.image.proofs.Refusals.{Ready, zero_ready, step_refused}
use Rattle.image.proofs.InPlace.{holds_decoded}
use Rattle.image.proofs.Taken.{taken_holds}
use Rattle.daemons.proofs.Keeping.{holds_step}
use Rattle.daemons.specs.Requests.{NeverFour, RequestStored, RequestAnswers}

-- The buffers' own number is 0, 7 or 8.
own_number : (b o : List ℕ) → state_number b o ≡ 4 → ⊥
unfolding state_number pick
own_number b o z = go (known (too_short b o)) (known (reads b))
  where
    go : Known (too_short b o) → Known (reads b) → ⊥
    go (holds h) k = omega (arith, rw h at z)
    go (fails h) (holds k) = omega (arith, rw (h, k) at z)
    go (fails h) (fails k) = omega (arith, rw (h, k) at z)

four_refused : (s : Server) (b e o : List ℕ) (x : Outcome (List ℕ)) → step s e ≡ x → (result_of (image_after s e) x b o).number ≡ 4 → ⊥
unfolding result_of refusal
four_refused s b e o (refused k) h z = never_four s e (h ∙ ap (λ j. refused j) z)
four_refused s b e o (taken t rs w g) h z = omega arith

pub no_four : NeverFour
unfolding NeverFour refusal
no_four b e o z = go (known (state_number b o =? 0))
  where
    go : Known (state_number b o =? 0) → ⊥
    go (holds h) =
        let ready : Ready (decoded b) b o = zero_ready b o (eq_holds (state_number b o) 0 h) in
        four_refused (decoded b) b e o (step (decoded b) e) refl
        (sym (ap (λ (x : Result). x.number) (holds_step (decoded b) b ready.image e o ready.room)) ∙ z)
    go (fails h) =
        own_number b o (sym (ap (λ (x : Result). x.number) (step_refused b e o (eq_fails (state_number b o) 0 h))) ∙ z)

-- ---- answered 0

module _ (b e o p : List ℕ) (reads_as : read (context_of (decoded b)) e ≡ says (request p)) (ready : Ready (decoded b) b o) where
  takes : (t : Server) (rs : List (List ℕ)) (w : Bool) (g : List Action) → step (decoded b) e ≡ taken t rs w g
      → TakesRequest (started (decoded b)) e p t rs w g
  unfolding started arrive source_of is_recovery pick
  takes t rs w g h = record { reads = reads_as; takes = rw reads_as h }

  answered : (x : Outcome (List ℕ)) → step (decoded b) e ≡ x → (result_of (image_after (decoded b) e) x b o).number ≡ 0
      → ((result_of (image_after (decoded b) e) x b o).store ≡ 1)
      × Memᴰ (made_of p (decoded b)) (decoded (result_of (image_after (decoded b) e) x b o).state).log.own
  unfolding result_of refusal word started blanked
  answered (refused k) h z = absurd (omega (arith, refused_some (decoded b) e k h))
  answered (taken t rs w g) h z =
      let a = answers (takes t rs w g h) in
      let left : List ℕ = image_after (decoded b) e t b in (
        ap word a.stores,
        subst (λ (s : Server). Memᴰ (made_of p (decoded b)) s.log.own)
            (sym (holds_decoded (blanked t) left (taken_holds (decoded b) e t rs w g h b ready.image))) a.own.listed,
      )

pub request_stored : RequestStored
unfolding RequestStored refusal
request_stored b e o p reads_as z = go (known (state_number b o =? 0))
  where
    go : Known (state_number b o =? 0) → ((step_on b e o).store ≡ 1) × Memᴰ (made_of p (decoded b)) (decoded (step_on b e o).state).log.own
    go (holds h) =
        let ready : Ready (decoded b) b o = zero_ready b o (eq_holds (state_number b o) 0 h) in
        subst (λ (x : Result). x.number ≡ 0 → (x.store ≡ 1) × Memᴰ (made_of p (decoded b)) (decoded x.state).log.own)
        (sym (holds_step (decoded b) b ready.image e o ready.room)) (answered b e o p reads_as ready (step (decoded b) e) refl) z
    go (fails h) =
        let some : state_number b o ≡ 0 → ⊥ = eq_fails (state_number b o) 0 h in
        absurd (some (sym (ap (λ (x : Result). x.number) (step_refused b e o some)) ∙ z))

pub request_answers : RequestAnswers
request_answers = record { never_four = no_four; stored = request_stored }
