-- Document 01, 'Records' and 'Returned numbers': what an event's bytes say, or its refusal number, 1 before 2.
-- Places are those of the whole event.
use Rattle.std.specs.Prelude.{ℕ, zero, suc, ◌+◌, ◌*◌, Bool, List, [], ◌∷◌, length}
use Rattle.std.proofs.Math.Option.{Option, none, some}
use Rattle.base.specs.Tests.{◌and◌, ◌=?◌, pick}
use Rattle.base.specs.Bytes.{number_at, numbers_at, part_at}
use Rattle.base.specs.Refusals.{bad_record, out_of_range_of}
use Rattle.format.specs.Limits.{version}
use Rattle.format.specs.Places.{length_size, at_version, at_kind, at_body, id_index_at, id_size, action_green_at, action_white_at, action_payload_at}
use Rattle.format.specs.Places.{action_size, primary_attempt_at, primary_set_at, mark_index_at, mark_attempt_at, mark_set_at, mark_bits_at, yellow_count_at}
use Rattle.format.specs.Places.{yellow_head_size, sender_at, position_at, resent_at, retransmission_size, configuration_id_at, cpc_size, state_cuts_at}
use Rattle.format.specs.Places.{state_green_at, state_attempt_at, state_last_at, state_mark_at, state_yellow_at, state_count_at, cut_size, state_head_size}
use Rattle.format.specs.Places.{regular_set_at, regular_size, transitional_size, request_size, recovery_size}
use Rattle.format.specs.Types.{Id, Action, Primary, Mark, Yellow, State, Context, Reading, says, refused}
use Rattle.format.specs.Types.{Record, action, retransmission, state, cpc, regular, transitional, request, recovery, Kind, kind_number}
use Rattle.format.specs.Types.{of_action, of_retransmission, of_state, of_cpc, of_regular, of_transitional, of_request, of_recovery}
use Rattle.format.specs.Range.{record_ok}

unfoldable pub payload_at : List ℕ → ℕ → List ℕ
payload_at e at = part_at (number_at 1 e at) e (at + 1)

unfoldable pub id_at : List ℕ → ℕ → Id
id_at e at = record { creator = number_at 1 e at; index = number_at 2 e (at + id_index_at) }

unfoldable pub action_at : List ℕ → ℕ → Action
action_at e at = record {
  id = id_at e at;
  green_length = number_at 4 e (at + action_green_at);
  white_length = number_at 4 e (at + action_white_at);
  payload = payload_at e (at + action_payload_at);
}

unfoldable pub primary_at : List ℕ → ℕ → Primary
primary_at e at = record { index = number_at 4 e at; attempt = number_at 4 e (at + primary_attempt_at); set = number_at 1 e (at + primary_set_at) }

unfoldable pub mark_at : List ℕ → ℕ → Mark
mark_at e at = record {
  status = number_at 1 e at;
  index = number_at 4 e (at + mark_index_at);
  attempt = number_at 4 e (at + mark_attempt_at);
  set = number_at 1 e (at + mark_set_at);
  bits = number_at 1 e (at + mark_bits_at);
}

-- m ids from `at` on
unfoldable pub ids_at : ℕ → List ℕ → ℕ → List Id
ids_at zero e at = []
ids_at (suc m) e at = id_at e at ∷ ids_at m e (at + id_size)

unfoldable pub yellow_at_of : List ℕ → ℕ → Yellow
yellow_at_of e at = record { status = number_at 1 e at; ids = ids_at (number_at 2 e (at + yellow_count_at)) e (at + yellow_head_size) }

-- A State with n cuts, of two bytes each.
unfoldable pub state_at : ℕ → List ℕ → State
state_at n e = record {
  sender = number_at 1 e sender_at;
  configuration = number_at 4 e configuration_id_at;
  cuts = numbers_at cut_size n e state_cuts_at;
  green_length = number_at 4 e (state_green_at + cut_size * n);
  attempt = number_at 4 e (state_attempt_at + cut_size * n);
  last = primary_at e (state_last_at + cut_size * n);
  mark = mark_at e (state_mark_at + cut_size * n);
  yellow = yellow_at_of e (state_yellow_at + cut_size * n);
}

-- The kind that a kind byte names, if any.
unfoldable pub kind_named : ℕ → Option Kind
kind_named k =
    pick (k =? kind_number of_action) (some of_action)
    (pick (k =? kind_number of_retransmission) (some of_retransmission)
    (pick (k =? kind_number of_state) (some of_state)
    (pick (k =? kind_number of_cpc) (some of_cpc)
    (pick (k =? kind_number of_regular) (some of_regular)
    (pick (k =? kind_number of_transitional) (some of_transitional)
    (pick (k =? kind_number of_request) (some of_request)
    (pick (k =? kind_number of_recovery) (some of_recovery) none)))))))

-- How long an event of this kind is, by the lengths and counts in it; "Nothing may follow."
unfoldable pub length_for : Kind → ℕ → List ℕ → ℕ
length_for of_action n e = action_size + number_at 1 e (at_body + action_payload_at)
length_for of_retransmission n e = retransmission_size + number_at 1 e (resent_at + action_payload_at)
length_for of_state n e = state_head_size + cut_size * n + id_size * number_at 2 e (state_count_at + cut_size * n)
length_for of_cpc n e = cpc_size
length_for of_regular n e = regular_size
length_for of_transitional n e = transitional_size
length_for of_request n e = request_size + number_at 1 e at_body
length_for of_recovery n e = recovery_size

-- "bad length, version or kind" does not apply.
unfoldable pub frame_ok : Kind → ℕ → List ℕ → Bool
frame_ok k n e = number_at 2 e 0 + length_size =? length e and number_at 1 e at_version =? version and length_for k n e =? length e

-- What an event with a good frame says.
unfoldable pub record_in : Kind → ℕ → List ℕ → Record
record_in of_action n e = action (action_at e at_body)
record_in of_retransmission n e = retransmission (number_at 1 e sender_at) (number_at 4 e position_at) (action_at e resent_at)
record_in of_state n e = state (state_at n e)
record_in of_cpc n e = cpc (number_at 1 e sender_at) (number_at 4 e configuration_id_at)
record_in of_regular n e = regular (number_at 4 e at_body) (number_at 1 e regular_set_at)
record_in of_transitional n e = transitional (number_at 1 e at_body)
record_in of_request n e = request (payload_at e at_body)
record_in of_recovery n e = recovery

-- "Checked in this order": 1, then 2.
unfoldable pub read_as : Option Kind → Context → List ℕ → Reading Record
read_as none c e = refused bad_record
read_as (some k) c e =
    pick (frame_ok k c.servers e)
    (pick (record_ok c (record_in k c.servers e)) (says (record_in k c.servers e)) (refused out_of_range_of))
    (refused bad_record)

unfoldable pub read : Context → List ℕ → Reading Record
read c e = read_as (kind_named (number_at 1 e at_kind)) c e
