-- What the code of an event may rely on: the record that was read, and the state that takes it.
use Rattle.std.specs.Prelude.{ℕ, ◌+◌, ◌≤◌, ◌≡◌, List, length, Bool, true, false}
use Rattle.std.proofs.Math.Option.{some}
use Rattle.format.specs.Types.{Action, Record, State, state}
use Rattle.format.specs.Write.{write}
use Rattle.record.specs.declared.State.{State as Numbers}
use Rattle.record.specs.declared.events.Event.{Event}
use Rattle.record.specs.Context.{reading_context}
use Rattle.record.specs.Events.{record_of, action_from}
use Rattle.reader.specs.Reading.{PlacedEvent}
use Rattle.replication.specs.Machine.Types.{Non_prim, Trans_prim, Exchange_actions, Un, Server}
use Rattle.replication.specs.Machine.Types.{with_log, in_mode, context_of}
use Rattle.replication.specs.Machine.Rules.{Rule, late_installing, on_action, from_member}
use Rattle.replication.specs.Machine.White.{full, sifted}
use Rattle.replication.specs.Laws.RuleFits.{Delivered}
use Rattle.queue.specs.Queue.{Placed}
use Rattle.base.specs.Lent.{Lent}
use Rattle.step.specs.Answers.{InForce, answered, outcome_on, ruled}
use Rattle.step.specs.Stages.{core_images}
use Rattle.replication.specs.Machine.WellFormedRanges.{PayloadFits}
use Rattle.replication.specs.Machine.Requests.{quota_left}
use Rattle.image.specs.Header.{header_of, mode_number}
use Rattle.replication.specs.Machine.Colours.{is_next, yellow}
use Rattle.replication.specs.Machine.Install.{install}
use Rattle.replication.specs.Machine.Step.{placed, exchanged, all_come_of, one_more, collected, here_set, apply, collect_state, planned_now}
use Rattle.replication.specs.Machine.Step.{after_states}
use Rattle.replication.specs.Machine.Exchange.{quorum}
use Rattle.replication.specs.Machine.WellFormedFacts.{Configured}
use Rattle.record.specs.declared.events.ActionAt.{ActionAt}
use Rattle.step.specs.declared.Answer.{Answer}
use Rattle.image.specs.Holding.{Holds}
use Rattle.format.specs.Range.{fields_ok}
use Rattle.base.specs.Tests.{◌and◌, ◌=?◌, ◌≤?◌}

-- The server s, in the state of this number, which is not Un, takes the action a, and has a place for it if it is its creator's next.
pub record Takes (mode : ℕ) (a : Action) (s : Server) : Type 0 where
  pub number : mode ≡ mode_number s.membership.mode
  pub rule : Rule
  pub taken : on_action s.membership.mode a ≡ some rule
  pub early : s.membership.mode ≡ Un → ⊥
  pub placed : Placed s a

-- ---- records in the bytes e of an event

-- The record r is in force, and m bytes of it lie from `at` on.
pub record PartInForce (h : Numbers) (r : Record) (at m : ℕ) (e : List ℕ) (s : Server) : Type 0 where
  pub force : InForce h r s
  pub inside : at + m ≤ length e

-- The event v was read from the bytes e, which are its record's.
pub record ReadInForce (h : Numbers) (v : Event) (e : List ℕ) (s : Server) : Type 0 where
  pub force : InForce h (record_of v e) s
  pub placed : PlacedEvent (reading_context h) v e
  pub written : write (record_of v e) ≡ e

-- ---- what is known of the state s before a change

-- A request that row 3 lets pass.
abbrev pub Asked : List ℕ → Numbers → Server → Type 0
Asked p h s = PayloadFits p × (quota_left s ≡ true) × (h ≡ header_of s)

-- The action a is its creator's next one, and has a place.
abbrev pub Next : Action → Server → Type 0
Next a s = Placed s a × (is_next s.log a ≡ true)

-- It comes for the position p; "one at a lower nonzero position is ignored" and needs no place.
pub record PlacedAt (p : ℕ) (a : Action) (s : Server) : Type 0 where
  pub delivered : Delivered s a
  pub room : (1 ≤? p and p ≤? length s.log.green) ≡ false → Placed s a

-- It is retransmitted ..
abbrev pub Retransmitted : (p : ℕ) → Action → Server → Type 0
Retransmitted p a s = PlacedAt p a s × (s.membership.mode ≡ Exchange_actions)

-- .. and not the last.
abbrev pub NotLast : (p : ℕ) → Action → Server → Type 0
NotLast p a s = PlacedAt p a s × (s.membership.mode ≡ Exchange_actions) × (all_come_of (one_more s) ≡ false)

-- The exchange ends, with a quorum or without.
abbrev pub Ends : Bool → Server → Type 0
Ends q t = Configured t × (t.membership.mode ≡ Non_prim) × (quorum (collected t) (here_set t) ≡ q)

-- An action in the bytes e of an event, of which f makes a record.
abbrev pub ActionInForce : (Action → Record) → Numbers → ActionAt → (e : List ℕ) → Server → Type 0
ActionInForce f h a e = PartInForce h (f (action_from a e)) a.payload_at a.payload_length e

-- ---- what the contracts say

-- The rule for the action a.
abbrev pub Colours : Action → Answer → (state : Lent) → Type 0
Colours a r b =
    (s : Server) (o : List ℕ) (k : Rule) → Holds s b.entry.now → on_action s.membership.mode a ≡ some k
    → answered r b.exit.now o ≡ outcome_on (apply k s) b.entry.now o

-- Whether a State of server k in the configuration `id` is from a member.
abbrev pub FromMember : (k id : ℕ) → Numbers → Bool → Type 0
FromMember k id h r =
    (s : Server) (x : State) → h ≡ header_of s → x.sender ≡ k → x.configuration ≡ id → r ≡ from_member s.membership (state x)

-- The answer to a State of server k in the configuration `id` whose bytes are e.
abbrev pub AnswersState : (k id : ℕ) → (e : List ℕ) → Answer → (state out : Lent) → Type 0
AnswersState k id e r b o =
    (s : Server) (x : State) → Holds s b.entry.now → fields_ok (context_of s) (state x) ≡ true → write (state x) ≡ e → x.sender ≡ k
    → x.configuration ≡ id → answered r b.exit.now o.exit.now ≡ outcome_on (ruled s (state x)) b.entry.now o.entry.now

-- What its collection makes.
abbrev pub AnswersCollected : (e : List ℕ) → Answer → (state out : Lent) → Type 0
AnswersCollected e r b o =
    (s : Server) (x : State) → Holds s b.entry.now → fields_ok (context_of s) (state x) ≡ true → write (state x) ≡ e
    → answered r b.exit.now o.exit.now ≡ outcome_on (collect_state x s) b.entry.now o.entry.now

-- All States are in, and retransmissions are planned.
abbrev pub AnswersPlanned : Answer → (state out : Lent) → Type 0
AnswersPlanned r b o =
    (s t : Server) → Holds t b.entry.now → (planned_now t =? 0) ≡ false
    → answered r b.exit.now o.exit.now ≡ outcome_on (after_states s t) b.entry.now o.entry.now

-- ---- changes of a state

-- The action a retransmitted at this position.
abbrev pub with_placed : (position : ℕ) → Action → Server → Server
with_placed p a s = with_log (placed p a s.log) s

-- The last one.
abbrev pub exchanged_last : (position : ℕ) → Action → Server → Server
exchanged_last p a s = in_mode Non_prim (exchanged p a s)

-- "Un: .. an action .. Install, yellow, Trans_prim"
abbrev pub installed_late : Action → Server → Server
installed_late a s = in_mode Trans_prim (yellow a (install s))

-- In Un before the raise: Install's part of the log, the action's white length taken, then the rest.
abbrev pub BecomesInstalled : Action → (b b' : List ℕ) → Type 0
BecomesInstalled a b b' =
    (s : Server) → Holds s b
    → b' ≡ core_images (late_installing a) s (installed_late (sifted (full (late_installing a) s) a) s) b
