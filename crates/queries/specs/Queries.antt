-- What a state's buffer says, for C: its numbers, and its green entries.
use Rattle.std.specs.Prelude.{ℕ, ◌+◌, ◌-◌, Bool, List, [], ◌∷◌, map, length, drop, Result, Ok, Err}
use Rattle.base.specs.Tests.{◌or◌, ◌≤?◌, ◌<?◌, ◌=?◌, pick}
use Rattle.base.specs.Bytes.{joined, over}
use Rattle.base.specs.Sets.{size}
use Rattle.base.specs.Refusals.{out_of_range_of, short_buffer, bad_state}
use Rattle.format.specs.Limits.{most_payload_limit}
use Rattle.format.specs.Places.{id_size}
use Rattle.format.specs.Types.{Action}
use Rattle.format.specs.Write.{id_bytes, payload_bytes}
use Rattle.replication.specs.Machine.Types.{Mode, Exchange_states, Exchange_actions, Construct, No, Un, Server}
use Rattle.replication.specs.Machine.Requests.{waiting}
use Rattle.replication.specs.Machine.Step.{collected, planned_now}
use Rattle.image.specs.Header.{status_of, id_of, set_of, transitional_of, mode_number}
use Rattle.image.specs.Decode.{decoded, reads, greens_in, white_in}
use Rattle.image.specs.Outcome.{state_short, image_number}
use Rattle.refusals.specs.declared.Refusal.{Refusal}
use Rattle.refusals.specs.Numbers.{refusal_number}
use Rattle.queries.specs.declared.Summary.{Summary}
use Rattle.queries.specs.declared.GreenEntries.{GreenEntries}

-- ---- how far a meeting is: document 02, K13, "m States, the planned retransmissions and m CPCs have been delivered". Each count is 0 in the
-- states in which it means nothing: the server may still hold what an earlier meeting left.

unfoldable pub is_in : Mode → Server → Bool
is_in m s = mode_number s.membership.mode =? mode_number m

-- K13, "m States": those in. They come in Exchange_states; Exchange_actions has every member's.
unfoldable pub states_in_of : Server → ℕ
states_in_of s = pick (is_in Exchange_states s or is_in Exchange_actions s) (length (collected s)) 0

-- K13, "the planned retransmissions": those that have come, and all of them. Exchange_actions begins with the plan, and with none come.
unfoldable pub resent_in_of : Server → ℕ
resent_in_of s = pick (is_in Exchange_actions s) s.membership.come 0

unfoldable pub resent_planned_of : Server → ℕ
resent_planned_of s = pick (is_in Exchange_actions s) (planned_now s) 0

-- K13, "m CPCs": those in. They come in Construct and, behind a transitional configuration, in No; Un is reached with every member's.
unfoldable pub cpcs_in_of : Server → ℕ
cpcs_in_of s = pick (is_in Construct s or is_in No s or is_in Un s) (size s.membership.cpcs) 0

-- ---- the summary

unfoldable pub summary_of : Server → Summary
summary_of s = record {
  number = 0;
  servers = s.servers;
  quota = s.quota;
  me = s.me;
  state = mode_number s.membership.mode;
  configured = status_of s.membership.configuration;
  configuration_id = id_of s.membership.configuration;
  configuration_set = set_of s.membership.configuration;
  transitional = status_of s.membership.transitional;
  transitional_set = transitional_of s.membership.transitional;
  green = length s.log.green;
  white = s.white;
  red = length s.log.red;
  numbered = s.log.numbered;
  on_own_list = length s.log.own;
  unsent = length (waiting s.log);
  primary_index = s.votes.last.index;
  primary_attempt = s.votes.last.attempt;
  primary_set = s.votes.last.set;
  attempt = s.votes.attempt;
  marked = s.votes.mark.status;
  states_in = states_in_of s;
  resent_in = resent_in_of s;
  resent_planned = resent_planned_of s;
  cpcs_in = cpcs_in_of s;
}

-- Refused: the number, and zeros.
unfoldable pub no_summary : (number : ℕ) → Summary
no_summary k = record {
  number = k;
  servers = 0;
  quota = 0;
  me = 0;
  state = 0;
  configured = 0;
  configuration_id = 0;
  configuration_set = 0;
  transitional = 0;
  transitional_set = 0;
  green = 0;
  white = 0;
  red = 0;
  numbered = 0;
  on_own_list = 0;
  unsent = 0;
  primary_index = 0;
  primary_attempt = 0;
  primary_set = 0;
  attempt = 0;
  marked = 0;
  states_in = 0;
  resent_in = 0;
  resent_planned = 0;
  cpcs_in = 0;
}

-- Of the state that the buffer holds; refused with 7 or 8 where it holds none.
unfoldable pub summary_on : List ℕ → Summary
summary_on b = pick (image_number b =? 0) (summary_of (decoded b)) (no_summary (image_number b))

-- ---- green entries

-- An entry: creator, index, payload length, payload.
unfoldable pub entry_bytes : Action → List ℕ
entry_bytes a = joined (id_bytes a.id ∷ payload_bytes a.payload ∷ [])

-- One behind another.
unfoldable pub entries_bytes : List Action → List ℕ
entries_bytes l = joined (map entry_bytes l)

-- All but the payload, and with the longest one.
abbrev pub entry_head_size : ℕ
entry_head_size = id_size + 1

abbrev pub most_entry : ℕ
most_entry = entry_head_size + most_payload_limit

-- The longest beginning of the list whose entries fit whole, one behind another.
unfoldable pub fitting : (room : ℕ) → List Action → List Action
fitting r [] = []
fitting r (a ∷ l) = pick (length (entry_bytes a) ≤? r) (a ∷ fitting (r - length (entry_bytes a)) l) []

-- The number returned; how many entries are green in all, and how many of these are white; how many were put, in how many bytes; and the lent
-- buffer afterwards.
pub record Listing : Type 0 where
  pub number : ℕ
  pub green : ℕ
  pub white : ℕ
  pub entries : ℕ
  pub bytes : ℕ
  pub out : List ℕ

-- All as before, and zeros.
unfoldable pub unlisted : (number : ℕ) → (out : List ℕ) → Listing
unlisted k o = record { number = k; green = 0; white = 0; entries = 0; bytes = 0; out = o }

-- These of the green list l, whose first w are white, are put at the front of o.
unfoldable pub putting : (w : ℕ) → (l chosen : List Action) → (out : List ℕ) → Listing
putting w l x o = record {
  number = 0;
  green = length l;
  white = w;
  entries = length x;
  bytes = length (entries_bytes x);
  out = over (entries_bytes x) o;
}

-- As many as fit of those behind the first `from`. 2 where there are not so many, and where the next one is white: the state keeps none of them, and
-- later ones must not be taken for them.
unfoldable pub listing : (w : ℕ) → (l : List Action) → (from : ℕ) → (out : List ℕ) → Listing
listing w l f o = pick (f <? w or length l <? f) (unlisted out_of_range_of o) (putting w l (fitting (length o) (drop f l)) o)

-- 7 where a buffer is too short, then 8 where the state's does not read, then 2, then the entries.
unfoldable pub entries_on : (state : List ℕ) → (from : ℕ) → (out : List ℕ) → Listing
entries_on b f o =
    pick (state_short b or length o <? most_entry) (unlisted short_buffer o)
    (pick (reads b) (listing (white_in b) (greens_in b) f o) (unlisted bad_state o))

-- What the code leaves: its answer, and the lent buffer afterwards.
unfoldable pub listed : GreenEntries → List ℕ → Listing
listed r o = record { number = r.number; green = r.green; white = r.white; entries = r.entries; bytes = r.bytes; out = o }

-- The code's answer where it refuses, and where it has put entries.
abbrev pub refused_entries : (number : ℕ) → GreenEntries
refused_entries k = record { number = k; green = 0; white = 0; entries = 0; bytes = 0 }

-- Where it may refuse.
abbrev pub entries_of : Result GreenEntries Refusal → GreenEntries
entries_of (Ok r) = r
entries_of (Err k) = refused_entries (refusal_number k)

abbrev pub put_entries : (green white entries bytes : ℕ) → GreenEntries
put_entries g w n m = record { number = 0; green = g; white = w; entries = n; bytes = m }
