-- What an event that was read stands for, together with its bytes.
use Rattle.std.specs.Prelude.{ℕ, ◌+◌, ◌*◌, ◌-◌, ◌≤◌, ◌≡◌, List, length}
use Rattle.base.specs.Bytes.{number_at, part_at}
use Rattle.format.specs.Places.{id_index_at, id_size, action_green_at, action_white_at, action_payload_at, action_head_size}
use Rattle.format.specs.Places.{mark_index_at, mark_attempt_at, mark_set_at, mark_bits_at, sender_at, configuration_id_at}
use Rattle.format.specs.Places.{cut_size, state_cuts_at, state_attempt_at, state_last_at, state_mark_at, state_yellow_at, state_count_at}
use Rattle.format.specs.Types.{Action as FormatAction, State as FormatState, Record, action, retransmission, state, cpc, regular, transitional}
use Rattle.format.specs.Types.{request, recovery}
use Rattle.format.specs.Read.{primary_at}
use Rattle.record.specs.Values.{last_of, action_of, state_of}
use Rattle.record.specs.declared.LastPrimary.{LastPrimary}
use Rattle.record.specs.declared.Mark.{Mark}
use Rattle.record.specs.declared.ActionId.{ActionId}
use Rattle.record.specs.declared.events.StateHead.{StateHead}
use Rattle.record.specs.declared.events.ActionAt.{ActionAt}
use Rattle.record.specs.declared.events.StateAt.{StateAt}
use Rattle.record.specs.declared.events.Event.{Event}
use Rattle.record.specs.declared.events.Event.TheVariants.{Action, Retransmission, State, Cpc, Regular, Transitional, Request, Recovery}

unfoldable pub action_from : ActionAt → List ℕ → FormatAction
action_from a e = action_of a.head (part_at a.payload_length e a.payload_at)

unfoldable pub state_from : StateAt → List ℕ → FormatState
state_from s e = state_of s.head e s.cuts_at e s.yellow_at

unfoldable pub record_of : Event → List ℕ → Record
record_of (Action a) e = action (action_from a e)
record_of (Retransmission s p a) e = retransmission s p (action_from a e)
record_of (State s) e = state (state_from s e)
record_of (Cpc s i) e = cpc s i
record_of (Regular i s) e = regular i s
record_of (Transitional s) e = transitional s
record_of (Request at m) e = request (part_at m e at)
record_of Recovery e = recovery

-- The lists of an event lie inside its bytes. n is the number of servers, and so of a State's cuts.

unfoldable pub PayloadInside : ActionAt → List ℕ → Type 0
PayloadInside a e = a.payload_at + a.payload_length ≤ length e

pub record ListsInside (n : ℕ) (s : StateAt) (e : List ℕ) : Type 0 where
  pub servers : s.head.servers ≡ n
  pub cuts : s.cuts_at + cut_size * s.head.servers ≤ length e
  pub ids : s.yellow_at + id_size * s.head.yellow_count ≤ length e

unfoldable pub Inside : ℕ → Event → List ℕ → Type 0
Inside n (Action a) e = PayloadInside a e
Inside n (Retransmission s p a) e = PayloadInside a e
Inside n (State s) e = ListsInside n s e
Inside n (Cpc s i) e = Unit {0}
Inside n (Regular i s) e = Unit {0}
Inside n (Transitional s) e = Unit {0}
Inside n (Request at m) e = at + m ≤ length e
Inside n Recovery e = Unit {0}

-- What the code makes of the bytes from `at` on: an id, an action, a primary component, a mark, and the numbers of a State.

abbrev pub id_in : List ℕ → ℕ → ActionId
id_in e at = record { creator = number_at 1 e at; index = number_at 2 e (at + id_index_at) }

unfoldable pub action_in : List ℕ → ℕ → ActionAt
action_in e at = record {
  head = record {
    creator = number_at 1 e at;
    index = number_at 2 e (at + id_index_at);
    green_length = number_at 4 e (at + action_green_at);
    white_length = number_at 4 e (at + action_white_at);
  };
  payload_at = at + action_head_size;
  payload_length = number_at 1 e (at + action_payload_at);
}

unfoldable pub last_in : List ℕ → ℕ → LastPrimary
last_in e at = last_of (primary_at e at)

unfoldable pub mark_in : List ℕ → ℕ → Mark
mark_in e at = record {
  status = number_at 1 e at;
  index = record { 0 = number_at 4 e (at + mark_index_at) };
  attempt = record { 0 = number_at 4 e (at + mark_attempt_at) };
  set = number_at 1 e (at + mark_set_at);
  bits = number_at 1 e (at + mark_bits_at);
}

-- Those behind the cuts begin at `at`.
unfoldable pub head_in : (servers : ℕ) → List ℕ → ℕ → StateHead
head_in n e at = record {
  sender = number_at 1 e sender_at;
  configuration = number_at 4 e configuration_id_at;
  servers = n;
  green_length = number_at 4 e at;
  attempt = record { 0 = number_at 4 e (at + (state_attempt_at - state_cuts_at)) };
  last = last_in e (at + (state_last_at - state_cuts_at));
  mark = mark_in e (at + (state_mark_at - state_cuts_at));
  yellow_status = number_at 1 e (at + (state_yellow_at - state_cuts_at));
  yellow_count = number_at 2 e (at + (state_count_at - state_cuts_at));
}
