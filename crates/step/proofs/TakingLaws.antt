-- An event that was read, kind by kind.
use Prim.Native.Nat.{ℕ, ◌+◌, ◌-◌, max, min}
use mathlib.Core.Path.{◌≡◌, refl, sym, ap, subst, ◌∙◌}
use mathlib.Core.List.{List}
use native.Mathlib.Omega.{arith}
use lib.ListN.{length, take, drop}
use Rattle.base.specs.Bytes.{part_at}
use Rattle.base.specs.Tests.{◌or◌, pick}
use Rattle.format.specs.Types.{Record, action, retransmission, state, cpc, regular, transitional, request, recovery}
use Rattle.format.specs.Write.{write}
use Rattle.record.specs.declared.State.{State as Numbers}
use Rattle.record.specs.declared.events.ActionAt.{ActionAt}
use Rattle.record.specs.declared.events.StateAt.{StateAt}
use Rattle.record.specs.declared.events.Event.{Event}
use Rattle.record.specs.declared.events.Event.TheVariants.{Action, Retransmission, State, Cpc, Regular, Transitional, Request, Recovery}
use Rattle.record.specs.Context.{reading_context}
use Rattle.record.specs.Values.{action_of, state_of}
use Rattle.record.specs.Events.{action_from, state_from, record_of}
use Rattle.reader.proofs.Callers.{action_placed, retransmission_placed, request_placed}
use Rattle.replication.specs.Machine.Types.{Server, with_white}
use Rattle.replication.specs.Machine.Requests.{recovered}
use Rattle.replication.specs.Machine.Rules.{recovering, rule_for, possible, from_member, is_ignored, within_quota}
use Rattle.replication.specs.Machine.White.{highest_white, met_log, is_recovering, took_white, sieved}
use Rattle.replication.specs.Machine.Step.{apply}
use Rattle.image.specs.Image.{image}
use Rattle.image.specs.Holding.{Holds, HoldsSuch, HoldsSome, Computes, blanked}
use Rattle.image.proofs.InPlace.{holds_some}
use Rattle.image.proofs.Raising.{recovering_at}
use Rattle.step.specs.declared.Answer.{Answer}
use Rattle.outgoing.specs.Lent.{LentSuch}
use Rattle.step.specs.Answers.{answered, outcome_on, ruled, InForce, StateInForce, stored_first}
use Rattle.step.specs.Events.{PartInForce, ReadInForce}
use Rattle.step.specs.Stages.{unraised_on}
use Rattle.step.proofs.AnswerLaws.{Passes, stored_as}
use Rattle.step.proofs.SieveLaws.{took_holds}
use Rattle.step.proofs.StageLaws.{core_done}

-- ---- a part of the bytes, as the code lends it

abbrev pub payload_lent : ActionAt → List ℕ → List ℕ
payload_lent a e = take (a.payload_at + a.payload_length - a.payload_at) (drop a.payload_at e)

sliced : (at m : ℕ) (e : List ℕ) → part_at m e at ≡ take (at + m - at) (drop at e)
unfolding part_at
sliced at m e = let n : m ≡ at + m - at = omega arith in ap (λ (k : ℕ). take k (drop at e)) n

-- The record f p of which p is that part.
module _ (f : List ℕ → Record) (h : Numbers) (at m : ℕ) (e b : List ℕ) where
  lent_part : (o : List ℕ) → LentSuch (PartInForce h (f (part_at m e at)) at m e) b o → LentSuch (InForce h (f (take (at + m - at) (drop at e)))) b o
  lent_part o l =
      subst (λ (p : List ℕ). LentSuch (InForce h (f p)) b o) (sliced at m e)
      (record { state = l.state; holds = l.holds; fact = l.fact.force; room = l.room })

  held_part : HoldsSuch (PartInForce h (f (part_at m e at)) at m e) b → HoldsSuch (InForce h (f (take (at + m - at) (drop at e)))) b
  held_part l =
      subst (λ (p : List ℕ). HoldsSuch (InForce h (f p)) b) (sliced at m e) (record { state = l.state; holds = l.holds; fact = l.fact.force })

acted_part : (f : List ℕ → Record) (at m : ℕ) (e : List ℕ) (v : Answer) (b o c z : List ℕ) (s : Server)
    → answered v c z ≡ unraised_on s (f (take (at + m - at) (drop at e))) b o → answered v c z ≡ unraised_on s (f (part_at m e at)) b o
acted_part f at m e v b o c z s y = y ∙ ap (λ (p : List ℕ). unraised_on s (f p) b o) (sym (sliced at m e))

module _ (h : Numbers) (a : ActionAt) (e b : List ℕ) where
  abbrev at : ℕ
  at = a.payload_at

  abbrev m : ℕ
  m = a.payload_length

  pub act_ready : HoldsSuch (PartInForce h (action (action_from a e)) a.payload_at a.payload_length e) b
      → HoldsSuch (InForce h (action (action_of a.head (payload_lent a e)))) b
  unfolding action_from
  act_ready l = held_part (λ p. action (action_of a.head p)) h at m e b l

  pub resent_ready : (k i : ℕ) (o : List ℕ)
      → LentSuch (PartInForce h (retransmission k i (action_from a e)) a.payload_at a.payload_length e) b o
      → LentSuch (InForce h (retransmission k i (action_of a.head (payload_lent a e)))) b o
  unfolding action_from
  resent_ready k i o l = lent_part (λ p. retransmission k i (action_of a.head p)) h at m e b o l

module _ (a : ActionAt) (e b c : List ℕ) (v : Answer) where
  pub act_done : ((s : Server) (o : List ℕ) → Holds s b
      → answered v c o ≡ unraised_on s (action (action_of a.head (payload_lent a e))) b o)
      → (s : Server) (o : List ℕ) → Holds s b → answered v c o ≡ unraised_on s (action (action_from a e)) b o
  unfolding action_from
  act_done y s o i = acted_part (λ p. action (action_of a.head p)) a.payload_at a.payload_length e v b o c o s (y s o i)

  pub resent_done : (k i : ℕ) (o z : List ℕ) → ((s : Server) → Holds s b
      → answered v c z ≡ unraised_on s (retransmission k i (action_of a.head (payload_lent a e))) b o)
      → (s : Server) → Holds s b → answered v c z ≡ unraised_on s (retransmission k i (action_from a e)) b o
  unfolding action_from
  resent_done k i o z y s l =
      acted_part (λ p. retransmission k i (action_of a.head p)) a.payload_at a.payload_length e v b o c z s (y s l)

pub requested_ready : (h : Numbers) (at m : ℕ) (e b o : List ℕ) → LentSuch (PartInForce h (request (part_at m e at)) at m e) b o
    → LentSuch (InForce h (request (take (at + m - at) (drop at e)))) b o
requested_ready h at m e b o l = lent_part (λ p. request p) h at m e b o l

pub requested_done : (at m : ℕ) (e b o c z : List ℕ) (v : Answer)
    → ((s : Server) → Holds s b → answered v c z ≡ outcome_on (ruled s (request (take (at + m - at) (drop at e)))) b o)
    → (s : Server) → Holds s b → answered v c z ≡ outcome_on (ruled s (request (part_at m e at))) b o
requested_done at m e b o c z v y s l = y s l ∙ ap (λ (p : List ℕ). outcome_on (ruled s (request p)) b o) (sym (sliced at m e))

-- ---- recovery

module _ (b c : List ℕ) (to : ℕ) (e : Computes (λ s. highest_white s.log.own) b to)
    (f : (s : Server) → Holds s b → c ≡ image (with_white (max s.white (min (length s.log.green) to)) s) b) where
  took : (s : Server) → Holds s b → c ≡ image (with_white (took_white recovering s) s) b
  unfolding took_white is_recovering pick
  took s i = f s i ∙ ap (λ (k : ℕ). image (with_white (max s.white (min (length s.log.green) k)) s) b) (e s i)

  pub recovery_ready : (P : Server → Type 0) → HoldsSuch P b → HoldsSome c
  unfolding met_log
  recovery_ready P h =
      holds_some (blanked (with_white (took_white recovering h.state) h.state)) c
      (took_holds recovering h.state b c h.holds refl (took h.state h.holds))

  pub recovery_done : (d : List ℕ) (v : Answer) → ((s : Server) → Holds s c → d ≡ image (recovered s) c) → v ≡ stored_first 0
      → (s : Server) (o : List ℕ) → Holds s b → answered v d o ≡ unraised_on s recovery b o
  unfolding rule_for possible from_member is_ignored within_quota ◌or◌ apply sieved met_log
  recovery_done d v y q s o i =
      let p : Passes s recovery recovering = record { rule = refl; possible = refl; member = refl; quota = refl } in
      let t : Server = blanked (with_white (took_white recovering s) s) in
      core_done s recovery recovering p b o i refl (λ w x. recovering_at w s) c (took s i) v d o
      (stored_as t (recovered t) (apply recovering t) v c d o q refl (y t (took_holds recovering s b c i refl (took s i))))

-- ---- kind by kind

module _ (h : Numbers) (v : Event) (e b o : List ℕ) (f : LentSuch (ReadInForce h v e) b o) where
  force_as : (w : Event) → v ≡ w → InForce h (record_of w e) f.state
  force_as w q = subst (λ (u : Event). InForce h (record_of u e) f.state) q f.fact.force

  lent_as : (w : Event) → v ≡ w → LentSuch (InForce h (record_of w e)) b o
  lent_as w q = record { state = f.state; holds = f.holds; fact = force_as w q; room = f.room }

  pub arm_action : (a : ActionAt) → v ≡ Action a → HoldsSuch (PartInForce h (action (action_from a e)) a.payload_at a.payload_length e) b
  unfolding record_of
  arm_action a q =
      record {
        state = f.state;
        holds = f.holds;
        fact = record {
          force = force_as (Action a) q;
          inside = (action_placed (reading_context h) v e a
              f.fact.placed q).inside;
        };
      }

  pub arm_retransmission : (k i : ℕ) (a : ActionAt) → v ≡ Retransmission k i a
      → LentSuch (PartInForce h (retransmission k i (action_from a e)) a.payload_at a.payload_length e) b o
  unfolding record_of
  arm_retransmission k i a q =
      let inside = (retransmission_placed (reading_context h) v e k i a f.fact.placed q).action.inside in
      record { state = f.state; holds = f.holds; fact = record { force = force_as (Retransmission k i a) q; inside = inside }; room = f.room }

  pub arm_state : (x : StateAt) → v ≡ State x → LentSuch (StateInForce h x.head.sender x.head.configuration e) b o
  unfolding record_of state_from state_of
  arm_state x q =
      let written : write (state (state_from x e)) ≡ e = subst (λ (u : Event). write (record_of u e) ≡ e) q f.fact.written in
      record {
        state = f.state;
        holds = f.holds;
        fact = record { sent = state_from x e; written = written; sender = refl; configuration = refl; force = force_as (State x) q };
        room = f.room;
      }

  pub arm_cpc : (k i : ℕ) → v ≡ Cpc k i → LentSuch (InForce h (cpc k i)) b o
  unfolding record_of
  arm_cpc k i q = lent_as (Cpc k i) q

  pub arm_regular : (i k : ℕ) → v ≡ Regular i k → LentSuch (InForce h (regular i k)) b o
  unfolding record_of
  arm_regular i k q = lent_as (Regular i k) q

  pub arm_transitional : (k : ℕ) → v ≡ Transitional k → HoldsSuch (InForce h (transitional k)) b
  unfolding record_of
  arm_transitional k q = record { state = f.state; holds = f.holds; fact = force_as (Transitional k) q }

  pub arm_request : (at m : ℕ) → v ≡ Request at m → LentSuch (PartInForce h (request (part_at m e at)) at m e) b o
  unfolding record_of
  arm_request at m q =
      record {
        state = f.state;
        holds = f.holds;
        fact = record {
          force = force_as (Request at m) q;
          inside = (request_placed
              (reading_context h) v e at m f.fact.placed q).inside;
        };
        room = f.room;
      }

  pub arm_recovery : v ≡ Recovery → HoldsSuch (InForce h recovery) b
  unfolding record_of
  arm_recovery q = record { state = f.state; holds = f.holds; fact = force_as Recovery q }
