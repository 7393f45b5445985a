-- Document 01, 'The engine and its edges' and 'Records': the limits, each named once.
use Rattle.std.specs.Prelude.{ℕ, ◌+◌, ◌*◌}

-- "Servers: 2 to 8, numbered from 0"
abbrev pub fewest_servers_limit : ℕ
fewest_servers_limit = 2

abbrev pub most_servers_limit : ℕ
most_servers_limit = 8

-- "Quota q: 1 to 256 actions created per server."
abbrev pub least_quota_limit : ℕ
least_quota_limit = 1

abbrev pub most_quota_limit : ℕ
most_quota_limit = 256

-- "Payload: 0 to 48 bytes."
abbrev pub most_payload_limit : ℕ
most_payload_limit = 48

-- "Primary and attempt indexes run 0 to 4,000,000,000."
abbrev pub most_index_limit : ℕ
most_index_limit = 4_000_000_000

-- K6: "version byte 2 on all records, and version 1 gets number 1"
abbrev pub version : ℕ
version = 2

-- The number of the layout of a state's image, which begins with it, so that none of another layout is misread. The first layout had no number and
-- began with the number of servers: no layout takes a number of servers (docs/LAYOUT.md). This is the fourth: white actions have no slot.
abbrev pub layout_number : ℕ
layout_number = most_servers_limit + 3

-- K6: "indexes and cuts run to 65,535"
abbrev pub most_number_limit : ℕ
most_number_limit = 65_535

-- K6: "and positions and lengths to 524,280"
abbrev pub most_length_limit : ℕ
most_length_limit = most_servers_limit * most_number_limit

-- How many retransmissions can be planned among n servers.
abbrev pub most_planned : ℕ → ℕ
most_planned n = most_length_limit + n * most_number_limit

-- How many ids a yellow list can have.
abbrev pub most_ids : ℕ
most_ids = most_servers_limit * most_quota_limit
