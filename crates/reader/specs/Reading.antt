-- The reader's answer: what it stands for, and what a caller knows of it.
use Rattle.std.specs.Prelude.{ℕ, ◌+◌, ◌*◌, ◌≤◌, ◌<◌, ◌≡◌, Bool, true, List, length, Result, Ok, Err}
use Rattle.base.specs.Tests.{◌and◌, ◌≤?◌, ◌<?◌}
use Rattle.base.specs.Bytes.{Bytes}
use Rattle.format.specs.Limits.{most_payload_limit, most_number_limit, most_length_limit}
use Rattle.format.specs.Places.{cut_size, id_size}
use Rattle.format.specs.Types.{Context as FormatContext, Action as FormatAction, State as FormatState, Record, Reading as FormatReading, says}
use Rattle.format.specs.Types.{refused}
use Rattle.format.specs.Range.{fields_ok, length_ok, index_ok, primary_ok, mark_ok, status_ok, cuts_ok, ids_ok}
use Rattle.record.specs.Context.{context_of, ContextIn}
use Rattle.record.specs.Events.{record_of, action_from, PayloadInside, Inside}
use Rattle.record.specs.declared.Context.{Context}
use Rattle.record.specs.declared.events.ActionAt.{ActionAt}
use Rattle.record.specs.declared.events.StateAt.{StateAt}
use Rattle.record.specs.declared.events.Event.{Event}
use Rattle.record.specs.declared.events.Event.TheVariants.{Action, Retransmission, State, Cpc, Regular, Transitional, Request, Recovery}
use Rattle.refusals.specs.Numbers.{refusal_number}
use Rattle.refusals.specs.declared.Refusal.{Refusal}

-- An event whose ranges can be looked at.
pub record Readable (c : Context) (v : Event) (e : List ℕ) : Type 0 where
  pub context : ContextIn c
  pub inside : Inside c.servers v e
  pub bytes : Bytes e

-- What is told of an action is what the test says of it, in whatever bytes its payload lies.
abbrev pub JudgesAction : ActionAt → Bool → (FormatAction → Bool) → Type 0
JudgesAction a r test = (e : List ℕ) → Bytes e → PayloadInside a e → r ≡ test (action_from a e)

-- A State's ranges: those of its numbers, and those of its lists.

unfoldable pub numbers_ok : FormatContext → FormatState → Bool
numbers_ok c s =
    s.sender <? c.servers
    and length_ok s.green_length
    and index_ok s.attempt
    and primary_ok c s.last
    and mark_ok c s.mark
    and status_ok s.yellow.status

unfoldable pub lists_ok : FormatContext → FormatState → Bool
lists_ok c s = cuts_ok most_number_limit s.cuts and length s.yellow.ids ≤? c.servers * c.quota and ids_ok c s.yellow.ids

-- "Where an answer is an enum, a definition gives this paper's number and values for each of its cases": e is the event's bytes.
unfoldable pub meaning : Result Event Refusal → List ℕ → FormatReading Record
meaning (Ok v) e = says (record_of v e)
meaning (Err r) e = refused (refusal_number r)

-- Where the parts of an event lie, and how large its numbers are.

pub record PlacedAction (c : Context) (a : ActionAt) (e : List ℕ) : Type 0 where
  pub creator : a.head.creator < c.servers
  pub least : 1 ≤ a.head.index
  pub most : a.head.index ≤ most_number_limit
  pub green : a.head.green_length ≤ most_length_limit
  pub white : a.head.white_length ≤ most_length_limit
  pub short : a.payload_length ≤ most_payload_limit
  pub inside : a.payload_at + a.payload_length ≤ length e

pub record PlacedRetransmission (c : Context) (s p : ℕ) (a : ActionAt) (e : List ℕ) : Type 0 where
  pub sender : s < c.servers
  pub position : p ≤ most_length_limit
  pub action : PlacedAction c a e

pub record PlacedState (c : Context) (s : StateAt) (e : List ℕ) : Type 0 where
  pub sender : s.head.sender < c.servers
  pub servers : s.head.servers ≡ c.servers
  pub green : s.head.green_length ≤ most_length_limit
  pub cuts : s.cuts_at + cut_size * s.head.servers ≤ length e
  pub ids : s.yellow_at + id_size * s.head.yellow_count ≤ length e
  pub count : s.head.yellow_count ≤ c.servers * c.quota

pub record PlacedPayload (at m : ℕ) (e : List ℕ) : Type 0 where
  pub short : m ≤ most_payload_limit
  pub inside : at + m ≤ length e

unfoldable pub Placed : Context → Event → List ℕ → Type 0
Placed c (Action a) e = PlacedAction c a e
Placed c (Retransmission s p a) e = PlacedRetransmission c s p a e
Placed c (State s) e = PlacedState c s e
Placed c (Cpc s i) e = s < c.servers
Placed c (Regular i s) e = Unit {0}
Placed c (Transitional s) e = Unit {0}
Placed c (Request at m) e = PlacedPayload at m e
Placed c Recovery e = Unit {0}

-- What a caller knows of a good reading.
pub record PlacedEvent (c : Context) (v : Event) (e : List ℕ) : Type 0 where
  pub context : ContextIn c
  pub ranges : fields_ok (context_of c) (record_of v e) ≡ true
  pub parts : Placed c v e
  pub bytes : Bytes e

-- A record is refused for its frame or for a range.
pub record RecordRefused (k : ℕ) : Type 0 where
  pub least : 1 ≤ k
  pub most : k ≤ 2

unfoldable pub placed : Context → Result Event Refusal → List ℕ → Type 0
placed c (Ok v) e = PlacedEvent c v e
placed c (Err r) e = RecordRefused (refusal_number r)
