-- Where the state lies in its buffer: fixed-size fields first, then sections whose sizes depend on n and q only (docs/LAYOUT.md).
use Rattle.std.specs.Prelude.{ℕ, ◌+◌, ◌*◌, ◌≤◌, List, [], ◌∷◌, length, take, get_or}
use Rattle.base.specs.Lists.{sum}
use Rattle.format.specs.Places.{primary_size, mark_size, cut_size, id_size, action_head_size, state_head_size, most_retransmission}
use Rattle.format.specs.Limits.{fewest_servers_limit, most_servers_limit, least_quota_limit, most_quota_limit, most_payload_limit, most_ids}

-- The fixed-size fields: where each begins, behind the one before it. A field that may be absent begins with its status.
abbrev pub at_layout : ℕ
at_layout = 0

abbrev pub at_servers : ℕ
at_servers = at_layout + 1

abbrev pub at_quota : ℕ
at_quota = at_servers + 1

abbrev pub at_me : ℕ
at_me = at_quota + 2

abbrev pub at_mode : ℕ
at_mode = at_me + 1

abbrev pub at_configuration : ℕ
at_configuration = at_mode + 1

abbrev pub at_configuration_id : ℕ
at_configuration_id = at_configuration + 1

abbrev pub at_configuration_set : ℕ
at_configuration_set = at_configuration_id + 4

abbrev pub at_transitional : ℕ
at_transitional = at_configuration_set + 1

abbrev pub at_transitional_set : ℕ
at_transitional_set = at_transitional + 1

abbrev pub at_states : ℕ
at_states = at_transitional_set + 1

abbrev pub at_cpcs : ℕ
at_cpcs = at_states + 1

abbrev pub at_come : ℕ
at_come = at_cpcs + 1

abbrev pub at_queue_length : ℕ
at_queue_length = at_come + 4

abbrev pub at_green_count : ℕ
at_green_count = at_queue_length + 4

abbrev pub at_numbered : ℕ
at_numbered = at_green_count + 4

abbrev pub at_own_count : ℕ
at_own_count = at_numbered + 2

abbrev pub at_sent : ℕ
at_sent = at_own_count + 2

abbrev pub at_attempt : ℕ
at_attempt = at_sent + 2

abbrev pub at_last : ℕ
at_last = at_attempt + 4

abbrev pub at_mark : ℕ
at_mark = at_last + primary_size

abbrev pub at_yellow : ℕ
at_yellow = at_mark + mark_size

abbrev pub at_yellow_count : ℕ
at_yellow_count = at_yellow + 1

abbrev pub header_size : ℕ
header_size = at_yellow_count + 2

-- A noted green length.
abbrev pub noted_size : ℕ
noted_size = 4

-- An action: creator, index, green length, white length, payload length and payload, filled up with zeros.
abbrev pub slot_size : ℕ
slot_size = action_head_size + most_payload_limit

-- A collected State: its record, as it came; what lies behind it is unused.
unfoldable pub state_size : (n q : ℕ) → ℕ
state_size n q = state_head_size + cut_size * n + id_size * (n * q)

-- The sections in their order, and their numbers.
abbrev pub the_header : ℕ
the_header = 0

abbrev pub the_cuts : ℕ
the_cuts = 1

abbrev pub the_noted : ℕ
the_noted = 2

abbrev pub the_states : ℕ
the_states = 3

abbrev pub the_yellow : ℕ
the_yellow = 4

abbrev pub the_own : ℕ
the_own = 5

abbrev pub the_queue : ℕ
the_queue = 6

abbrev pub section_count : ℕ
section_count = the_queue + 1

unfoldable pub sections : (n q : ℕ) → List ℕ
sections n q =
    header_size
    ∷ (cut_size * n)
    ∷ (noted_size * n)
    ∷ (n * state_size n q)
    ∷ (id_size * (n * q))
    ∷ (slot_size * q)
    ∷ (slot_size * (n * q))
    ∷ []

unfoldable pub section_size : (n q k : ℕ) → ℕ
section_size n q k = get_or (sections n q) k 0

-- For the most servers and the highest quota: where the States, the yellow ids and the own list begin, and a State's slot.
abbrev pub most_states_at : ℕ
most_states_at = header_size + (cut_size + noted_size) * most_servers_limit

abbrev pub most_state_size : ℕ
most_state_size = state_head_size + cut_size * most_servers_limit + id_size * most_ids

abbrev pub most_yellow_at : ℕ
most_yellow_at = most_states_at + most_servers_limit * most_state_size

abbrev pub most_own_at : ℕ
most_own_at = most_yellow_at + id_size * most_ids

-- Where the section k begins.
unfoldable pub offset : (n q k : ℕ) → ℕ
offset n q k = sum (take k (sections n q))

-- Servers and quota that do not exceed their limits.
pub record SizesIn (n q : ℕ) : Type 0 where
  pub servers : n ≤ most_servers_limit
  pub quota : q ≤ most_quota_limit

-- The required length of the state's buffer.
unfoldable pub state_length : (n q : ℕ) → ℕ
state_length n q = sum (sections n q)

-- Room for a start.
pub record StartRoom (n q : ℕ) (b : List ℕ) : Type 0 where
  pub sizes : SizesIn n q
  pub long : state_length n q ≤ length b

-- The required length of the outgoing buffer: an event puts out at most n × q retransmissions by position and n × q as red, none longer than the
-- longest; whatever else an event puts out is shorter.
unfoldable pub out_length : (n q : ℕ) → ℕ
out_length n q = 2 * most_retransmission * (n * q)

-- "with n or q in the state out of range, shorter than the formula for n 2 and q 1"
unfoldable pub least_state_length : ℕ
least_state_length = state_length fewest_servers_limit least_quota_limit

unfoldable pub least_out_length : ℕ
least_out_length = out_length fewest_servers_limit least_quota_limit
