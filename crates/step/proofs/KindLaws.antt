-- The answers to an event that was read, kind by kind: the first stage of its record.
use Prim.Native.Nat.{ℕ}
use mathlib.Core.Path.{◌≡◌, refl, sym, ap, subst, ◌∙◌}
use mathlib.Core.Bool.{true}
use mathlib.Core.List.{List, map}
use lib.ListN.{length}
use mathlib.Core.Option.{Option, none, some, some-injective, none-ne-some}
use Rattle.base.specs.Bytes.{part_at, joined, over}
use Rattle.base.specs.Tests.{◌or◌, pick}
use Rattle.base.proofs.TestLaws.{pick_either}
use Rattle.format.specs.Types.{State as FormatState, Record, action, retransmission, state, cpc, regular, transitional, request, recovery}
use Rattle.format.specs.Range.{fields_ok}
use Rattle.format.specs.Write.{write}
use Rattle.record.specs.declared.State.{State as Numbers}
use Rattle.record.specs.declared.events.ActionAt.{ActionAt}
use Rattle.record.specs.declared.events.StateAt.{StateAt}
use Rattle.record.specs.declared.events.Event.{Event}
use Rattle.record.specs.declared.events.Event.TheVariants.{Action, Retransmission, State, Cpc, Regular, Transitional, Request, Recovery}
use Rattle.record.specs.Values.{state_of}
use Rattle.record.specs.Events.{action_from, state_from, record_of}
use Rattle.replication.specs.Machine.Types.{Mode, Non_prim, Reg_prim, Trans_prim, Exchange_states, Exchange_actions, Construct, No, Un, Configuration, Server, Outcome, refused, taken, context_of, with_log, with_white}
use Rattle.replication.specs.Machine.Rules.{Rule, ignoring, collecting_state, collecting_cpc, collecting_late_cpc, joining, joining_unmarked, joining_yellow, leaving, requesting, on_state, on_cpc, on_regular, on_transitional, rule_for, possible, from_member, is_ignored, within_quota}
use Rattle.replication.specs.Machine.Step.{apply, in_bytes}
use Rattle.replication.specs.Machine.White.{entrant, met_log, is_recovering, taken_from, took_white, full, sieved}
use Rattle.image.specs.Image.{image}
use Rattle.image.specs.Holding.{Holds}
use Rattle.image.specs.Outcome.{result_of, word}
use Rattle.image.proofs.Raising.{white_kept}
use Rattle.outgoing.specs.Lent.{LentSuch}
use Rattle.outgoing.proofs.LentFacts.{lent_fact}
use Rattle.step.specs.declared.Answer.{Answer}
use Rattle.step.specs.Answers.{answered, outcome_on, by_rows, ruled}
use Rattle.step.specs.Events.{ReadInForce}
use Rattle.step.specs.Stages.{sieving, unraised, core_images, images_before, unraised_on}

-- ---- records that carry no action: nothing is taken, and nothing sieved

record Bare (k : Rule) (s : Server) : Type 0 where
  sieves : sieved (full k s) k ≡ k
  took : took_white k s ≡ s.white
  met : met_log k s ≡ s.log

module _ (s : Server) (b o : List ℕ) (held : Holds s b) where
  bare_image : (k : Rule) → Bare k s → (t : Server) → t.white ≡ s.white → core_images k s t b ≡ image t b
  unfolding core_images
  bare_image k f t e =
      (λ i. image (with_white (f.took i) t) (image (with_white (f.took i) (with_log (f.met i) s)) (image (with_log (f.met i) s) b)))
      ∙ (λ i. image (with_white (sym e i) t) (image s (held.written i)))
      ∙ ap (image t) held.written

  module _ (r : Record) (k : Rule) (f : Bare k s) where
    abbrev Same : Outcome Record → Type 0
    Same x = result_of (core_images k s) (in_bytes x) b o ≡ outcome_on x b o

    same_rule : (x : Outcome Record) → apply k s ≡ x → Same x
    unfolding outcome_on result_of in_bytes
    same_rule (refused j) e = refl
    same_rule (taken t rs z g) e =
        ap (λ (c : List ℕ). record { number = 0; store = word z; sent = length (joined (map write rs)); state = c; out = over (joined (map write rs)) o })
        (bare_image k f t (rw e at (white_kept k s)))

    same_refused : (j : ℕ) → Same (refused j)
    unfolding outcome_on result_of in_bytes
    same_refused j = refl

    same_rows : Same (by_rows apply (some k) s r)
    unfolding by_rows
    same_rows =
        pick_either Same (possible s r) _ _
        (pick_either Same (is_ignored k or from_member s.membership r) _ _
        (pick_either Same (within_quota s r) _ _ (same_rule (apply k s) refl) (same_refused 3)) (same_refused 6)) (same_refused 5)

    sieved_rows : by_rows sieving (some k) s r ≡ by_rows apply (some k) s r
    unfolding by_rows sieving
    sieved_rows =
        ap
        (λ (j : Rule).
        pick (possible s r) (pick (is_ignored k or from_member s.membership r) (pick (within_quota s r) (apply j s) (refused 3)) (refused 6)) (refused 5))
        f.sieves

  -- The first stage is the rule alone.
  bare_on : (r : Record) → ((k : Rule) → rule_for s.membership.mode r ≡ some k → Bare k s) → unraised_on s r b o ≡ outcome_on (ruled s r) b o
  unfolding unraised_on unraised ruled by_rows outcome_on result_of in_bytes images_before
  bare_on r f = go (rule_for s.membership.mode r) refl
    where
      go : (x : Option Rule) → rule_for s.membership.mode r ≡ x
          → result_of (images_before x s) (in_bytes (by_rows sieving x s r)) b o ≡ outcome_on (by_rows apply x s r) b o
      go none e = refl
      go (some k) e =
          ap (λ (y : Outcome Record). result_of (core_images k s) (in_bytes y) b o) (sieved_rows r k (f k e)) ∙ same_rows r k (f k e)

-- ---- their rules

bare_at : (s : Server) (j k : Rule) → Bare j s → some j ≡ some k → Bare k s
bare_at s j k f e = subst (λ (i : Rule). Bare i s) (some-injective j k e) f

module _ (s : Server) where
  bare_ignoring : Bare ignoring s
  unfolding sieved full entrant met_log took_white is_recovering taken_from pick
  bare_ignoring = record { sieves = refl; took = refl; met = refl }

  bare_state : (m : Mode) (x : FormatState) (k : Rule) → on_state m x ≡ some k → Bare k s
  unfolding on_state sieved full entrant met_log took_white is_recovering taken_from pick
  bare_state Non_prim x k e = bare_at s ignoring k bare_ignoring e
  bare_state Reg_prim x k e = absurd (none-ne-some k e)
  bare_state Trans_prim x k e = absurd (none-ne-some k e)
  bare_state Exchange_states x k e = bare_at s (collecting_state x) k (record { sieves = refl; took = refl; met = refl }) e
  bare_state Exchange_actions x k e = absurd (none-ne-some k e)
  bare_state Construct x k e = absurd (none-ne-some k e)
  bare_state No x k e = absurd (none-ne-some k e)
  bare_state Un x k e = absurd (none-ne-some k e)

  bare_cpc : (m : Mode) (x : ℕ) (k : Rule) → on_cpc m x ≡ some k → Bare k s
  unfolding on_cpc sieved full entrant met_log took_white is_recovering taken_from pick
  bare_cpc Non_prim x k e = bare_at s ignoring k bare_ignoring e
  bare_cpc Reg_prim x k e = absurd (none-ne-some k e)
  bare_cpc Trans_prim x k e = absurd (none-ne-some k e)
  bare_cpc Exchange_states x k e = absurd (none-ne-some k e)
  bare_cpc Exchange_actions x k e = absurd (none-ne-some k e)
  bare_cpc Construct x k e = bare_at s (collecting_cpc x) k (record { sieves = refl; took = refl; met = refl }) e
  bare_cpc No x k e = bare_at s (collecting_late_cpc x) k (record { sieves = refl; took = refl; met = refl }) e
  bare_cpc Un x k e = absurd (none-ne-some k e)

  bare_regular : (m : Mode) (x : Configuration) (k : Rule) → on_regular m x ≡ some k → Bare k s
  unfolding on_regular sieved full entrant met_log took_white is_recovering taken_from pick
  bare_regular Non_prim x k e = bare_at s (joining x) k (record { sieves = refl; took = refl; met = refl }) e
  bare_regular Reg_prim x k e = absurd (none-ne-some k e)
  bare_regular Trans_prim x k e = bare_at s (joining_yellow x) k (record { sieves = refl; took = refl; met = refl }) e
  bare_regular Exchange_states x k e = absurd (none-ne-some k e)
  bare_regular Exchange_actions x k e = absurd (none-ne-some k e)
  bare_regular Construct x k e = absurd (none-ne-some k e)
  bare_regular No x k e = bare_at s (joining_unmarked x) k (record { sieves = refl; took = refl; met = refl }) e
  bare_regular Un x k e = bare_at s (joining x) k (record { sieves = refl; took = refl; met = refl }) e

  bare_leaving : (m : Mode) (x : ℕ) → Bare (leaving m x) s
  unfolding sieved full entrant met_log took_white is_recovering taken_from pick
  bare_leaving m x = record { sieves = refl; took = refl; met = refl }

  bare_transitional : (m : Mode) (x : ℕ) (k : Rule) → on_transitional m x ≡ some k → Bare k s
  unfolding on_transitional
  bare_transitional Non_prim x k e = bare_at s (leaving Non_prim x) k (bare_leaving Non_prim x) e
  bare_transitional Reg_prim x k e = bare_at s (leaving Trans_prim x) k (bare_leaving Trans_prim x) e
  bare_transitional Trans_prim x k e = absurd (none-ne-some k e)
  bare_transitional Exchange_states x k e = bare_at s (leaving Non_prim x) k (bare_leaving Non_prim x) e
  bare_transitional Exchange_actions x k e = bare_at s (leaving Non_prim x) k (bare_leaving Non_prim x) e
  bare_transitional Construct x k e = bare_at s (leaving No x) k (bare_leaving No x) e
  bare_transitional No x k e = absurd (none-ne-some k e)
  bare_transitional Un x k e = absurd (none-ne-some k e)

  bare_requesting : (p : List ℕ) (k : Rule) → some (requesting p) ≡ some k → Bare k s
  unfolding sieved full entrant met_log took_white is_recovering taken_from pick
  bare_requesting p k e = bare_at s (requesting p) k (record { sieves = refl; took = refl; met = refl }) e

-- ---- the answers

module _ (v : Event) (e b o c z : List ℕ) (r : Answer) where
  done_as : (w : Event) → v ≡ w → ((s : Server) → Holds s b → answered r c z ≡ unraised_on s (record_of w e) b o)
      → (s : Server) → Holds s b → answered r c z ≡ unraised_on s (record_of v e) b o
  done_as w q y s i = y s i ∙ ap (λ (u : Event). unraised_on s (record_of u e) b o) (sym q)

  pub retransmission_done : (k i : ℕ) (a : ActionAt) → v ≡ Retransmission k i a
      → ((s : Server) → Holds s b → answered r c z ≡ unraised_on s (retransmission k i (action_from a e)) b o)
      → (s : Server) → Holds s b → answered r c z ≡ unraised_on s (record_of v e) b o
  unfolding record_of
  retransmission_done k i a q y = done_as (Retransmission k i a) q y

  pub state_done : (x : StateAt) → v ≡ State x
      → ((s : Server) (y : FormatState) → Holds s b → fields_ok (context_of s) (state y) ≡ true → write (state y) ≡ e → y.sender ≡ x.head.sender
      → y.configuration ≡ x.head.configuration
      → answered r c z ≡ outcome_on (ruled s (state y)) b o)
      → (h : Numbers) → LentSuch (ReadInForce h v e) b o → (s : Server) → Holds s b → answered r c z ≡ unraised_on s (record_of v e) b o
  unfolding record_of state_from state_of rule_for
  state_done x q y h f =
      let written : write (state (state_from x e)) ≡ e = subst (λ (u : Event). write (record_of u e) ≡ e) q f.fact.written in
      let range : (s : Server) → Holds s b → fields_ok (context_of s) (state (state_from x e)) ≡ true
      = λ s i. subst (λ (u : Event). fields_ok (context_of s) (record_of u e) ≡ true) q (lent_fact (ReadInForce h v e) b o s f i).force.range
      in
      done_as (State x) q
      (λ s i. y s (state_from x e) i (range s i) written refl refl ∙ sym (bare_on s b o i (state (state_from x e)) (bare_state s s.membership.mode (state_from x e))))

  pub cpc_done : (k i : ℕ) → v ≡ Cpc k i → ((s : Server) → Holds s b → answered r c z ≡ outcome_on (ruled s (cpc k i)) b o)
      → (s : Server) → Holds s b → answered r c z ≡ unraised_on s (record_of v e) b o
  unfolding record_of rule_for
  cpc_done k i q y = done_as (Cpc k i) q (λ s h. y s h ∙ sym (bare_on s b o h (cpc k i) (bare_cpc s s.membership.mode k)))

  pub regular_done : (i k : ℕ) → v ≡ Regular i k → ((s : Server) → Holds s b → answered r c z ≡ outcome_on (ruled s (regular i k)) b o)
      → (s : Server) → Holds s b → answered r c z ≡ unraised_on s (record_of v e) b o
  unfolding record_of rule_for
  regular_done i k q y =
      done_as (Regular i k) q
      (λ s h. y s h ∙ sym (bare_on s b o h (regular i k) (bare_regular s s.membership.mode (record { id = i; set = k }))))

  pub request_done : (at m : ℕ) → v ≡ Request at m → ((s : Server) → Holds s b → answered r c z ≡ outcome_on (ruled s (request (part_at m e at))) b o)
      → (s : Server) → Holds s b → answered r c z ≡ unraised_on s (record_of v e) b o
  unfolding record_of rule_for
  request_done at m q y =
      done_as (Request at m) q (λ s h. y s h ∙ sym (bare_on s b o h (request (part_at m e at)) (bare_requesting s (part_at m e at))))

-- Those that leave the outgoing buffer as it is.
module _ (v : Event) (e b o c : List ℕ) (r : Answer) where
  pub action_done : (a : ActionAt) → v ≡ Action a
      → ((s : Server) (z : List ℕ) → Holds s b → answered r c z ≡ unraised_on s (action (action_from a e)) b z)
      → (s : Server) → Holds s b → answered r c o ≡ unraised_on s (record_of v e) b o
  unfolding record_of
  action_done a q y = done_as v e b o c o r (Action a) q (λ s i. y s o i)

  pub transitional_done : (k : ℕ) → v ≡ Transitional k
      → ((s : Server) (z : List ℕ) → Holds s b → answered r c z ≡ outcome_on (ruled s (transitional k)) b z)
      → (s : Server) → Holds s b → answered r c o ≡ unraised_on s (record_of v e) b o
  unfolding record_of rule_for
  transitional_done k q y =
      done_as v e b o c o r (Transitional k) q
      (λ s i. y s o i ∙ sym (bare_on s b o i (transitional k) (bare_transitional s s.membership.mode k)))

  pub recovered_done : v ≡ Recovery → ((s : Server) (z : List ℕ) → Holds s b → answered r c z ≡ unraised_on s recovery b z)
      → (s : Server) → Holds s b → answered r c o ≡ unraised_on s (record_of v e) b o
  unfolding record_of
  recovered_done q y = done_as v e b o c o r Recovery q (λ s i. y s o i)
