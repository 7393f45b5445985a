-- Document 01, 'Records': where the parts of a record lie and how many bytes they take, each named once.
use Rattle.std.specs.Prelude.{ℕ, ◌+◌, ◌-◌}
use Rattle.format.specs.Limits.{most_payload_limit}

-- "Two length bytes (counting what follows them), version byte 1, kind byte, body"
abbrev pub length_size : ℕ
length_size = 2

abbrev pub at_version : ℕ
at_version = length_size

abbrev pub at_kind : ℕ
at_kind = at_version + 1

abbrev pub at_body : ℕ
at_body = at_kind + 1

-- ---- parts of bodies, each from its own beginning on

-- An id: "creator (1 byte), index (2)".
abbrev pub id_index_at : ℕ
id_index_at = 1

abbrev pub id_size : ℕ
id_size = id_index_at + 2

-- An action: id, "creator's green length (4)", white length (4), "payload length (1), payload".
abbrev pub action_green_at : ℕ
action_green_at = id_size

abbrev pub action_white_at : ℕ
action_white_at = action_green_at + 4

abbrev pub action_payload_at : ℕ
action_payload_at = action_white_at + 4

-- All but the payload.
abbrev pub action_head_size : ℕ
action_head_size = action_payload_at + 1

-- A primary component: "index (4), attempt (4), set (1)".
abbrev pub primary_attempt_at : ℕ
primary_attempt_at = 4

abbrev pub primary_set_at : ℕ
primary_set_at = primary_attempt_at + 4

abbrev pub primary_size : ℕ
primary_size = primary_set_at + 1

-- A mark: "status (1), index (4), attempt (4), set (1), bits (1)".
abbrev pub mark_index_at : ℕ
mark_index_at = 1

abbrev pub mark_attempt_at : ℕ
mark_attempt_at = mark_index_at + 4

abbrev pub mark_set_at : ℕ
mark_set_at = mark_attempt_at + 4

abbrev pub mark_bits_at : ℕ
mark_bits_at = mark_set_at + 1

abbrev pub mark_size : ℕ
mark_size = mark_bits_at + 1

-- A yellow list: "status (1), count (2), ids".
abbrev pub yellow_count_at : ℕ
yellow_count_at = 1

-- All but the ids.
abbrev pub yellow_head_size : ℕ
yellow_head_size = yellow_count_at + 2

-- ---- bodies, from the record's beginning on

abbrev pub sender_at : ℕ
sender_at = at_body

-- An action's record but its payload, and with the longest one.
abbrev pub action_size : ℕ
action_size = at_body + action_head_size

-- A retransmission: "sender (1), green position (4; 0 = red), then body 1".
abbrev pub position_at : ℕ
position_at = sender_at + 1

abbrev pub resent_at : ℕ
resent_at = position_at + 4

-- Without its payload, and with the longest one.
abbrev pub retransmission_size : ℕ
retransmission_size = resent_at + action_head_size

abbrev pub most_retransmission : ℕ
most_retransmission = retransmission_size + most_payload_limit

-- A State and a CPC: "sender (1), configuration id (4)".
abbrev pub configuration_id_at : ℕ
configuration_id_at = sender_at + 1

abbrev pub cpc_size : ℕ
cpc_size = configuration_id_at + 4

-- A State's cuts: "n red cuts (2 each)".
abbrev pub cut_size : ℕ
cut_size = 2

-- A State: cuts, then green length, attempt, last primary, mark and yellow list. The places behind the cuts are those of a State with no cuts.
abbrev pub state_cuts_at : ℕ
state_cuts_at = configuration_id_at + 4

abbrev pub state_green_at : ℕ
state_green_at = state_cuts_at

abbrev pub state_attempt_at : ℕ
state_attempt_at = state_green_at + 4

abbrev pub state_last_at : ℕ
state_last_at = state_attempt_at + 4

abbrev pub state_mark_at : ℕ
state_mark_at = state_last_at + primary_size

abbrev pub state_yellow_at : ℕ
state_yellow_at = state_mark_at + mark_size

abbrev pub state_count_at : ℕ
state_count_at = state_yellow_at + yellow_count_at

-- Without its cuts and ids.
abbrev pub state_head_size : ℕ
state_head_size = state_yellow_at + yellow_head_size

-- What stands behind the cuts, but the ids.
abbrev pub standing_size : ℕ
standing_size = state_head_size - state_cuts_at

-- A regular configuration: "id (4), set (1)".
abbrev pub regular_set_at : ℕ
regular_set_at = at_body + 4

abbrev pub regular_size : ℕ
regular_size = regular_set_at + 1

-- A transitional configuration: "set (1)".
abbrev pub transitional_size : ℕ
transitional_size = at_body + 1

-- A request but its payload: "payload length (1)".
abbrev pub request_size : ℕ
request_size = at_body + 1

-- A recovery: "empty".
abbrev pub recovery_size : ℕ
recovery_size = at_body

-- A set-up record: "n 1 byte, q 2 bytes".
abbrev pub setup_quota_at : ℕ
setup_quota_at = at_body + 1

abbrev pub setup_size : ℕ
setup_size = setup_quota_at + 2
