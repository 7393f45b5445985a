-- Document 01, 'Records', second paragraph: which numbers, sets and lists are in range (refusal number 2 else).
use Rattle.std.specs.Prelude.{ℕ, ◌*◌, ◌^◌, Bool, true, false, not, List, [], ◌∷◌, length}
use Rattle.std.proofs.Math.Option.{Option, none, some}
use Rattle.base.specs.Tests.{◌and◌, ◌or◌, ◌≤?◌, ◌<?◌, ◌=?◌}
use Rattle.base.specs.Bytes.{are_bytes}
use Rattle.base.specs.Sets.{in_set, inside}
use Rattle.format.specs.Limits.{fewest_servers_limit, most_servers_limit, least_quota_limit, most_quota_limit, most_payload_limit, most_index_limit, most_number_limit, most_length_limit}
use Rattle.format.specs.Types.{Id, Action, Primary, Mark, Yellow, State, Record, action, retransmission, state, cpc, regular, transitional}
use Rattle.format.specs.Types.{request, recovery, Context}

-- "Servers: 2 to 8 .. Quota q: 1 to 256"
unfoldable pub sizes_ok : ℕ → ℕ → Bool
sizes_ok n q = fewest_servers_limit ≤? n and n ≤? most_servers_limit and least_quota_limit ≤? q and q ≤? most_quota_limit

-- The server's own number too: what a start is tested for. Nothing is in range in any other context.
unfoldable pub context_ok : Context → Bool
context_ok c = sizes_ok c.servers c.quota and c.self <? c.servers

-- K6: "indexes and cuts run to 65,535"
unfoldable pub id_ok : Context → Id → Bool
id_ok c d = d.creator <? c.servers and 1 ≤? d.index and d.index ≤? most_number_limit

-- K6: "positions and lengths to 524,280"
unfoldable pub length_ok : ℕ → Bool
length_ok l = l ≤? most_length_limit

-- "Payload: 0 to 48 bytes."
unfoldable pub payload_ok : List ℕ → Bool
payload_ok p = length p ≤? most_payload_limit and are_bytes p

unfoldable pub action_ok : Context → Action → Bool
action_ok c a = id_ok c a.id and length_ok a.green_length and length_ok a.white_length and payload_ok a.payload

-- Cuts up to this number.
unfoldable pub cuts_ok : ℕ → List ℕ → Bool
cuts_ok q [] = true
cuts_ok q (x ∷ xs) = x ≤? q and cuts_ok q xs

-- "Primary and attempt indexes run 0 to 4,000,000,000."
unfoldable pub index_ok : ℕ → Bool
index_ok i = i ≤? most_index_limit

-- Bits of servers that there are not are out of range.
unfoldable pub set_ok : Context → ℕ → Bool
set_ok c s = s <? 2 ^ c.servers

-- "A status is 0 or 1."
unfoldable pub status_ok : ℕ → Bool
status_ok s = s ≤? 1

unfoldable pub primary_ok : Context → Primary → Bool
primary_ok c p = index_ok p.index and index_ok p.attempt and set_ok c p.set

unfoldable pub mark_ok : Context → Mark → Bool
mark_ok c m = status_ok m.status and index_ok m.index and index_ok m.attempt and set_ok c m.set and set_ok c m.bits

unfoldable pub same_id : Id → Id → Bool
same_id x y = x.creator =? y.creator and x.index =? y.index

unfoldable pub has_id : Id → List Id → Bool
has_id x [] = false
has_id x (y ∷ ys) = same_id x y or has_id x ys

-- "Ids in a yellow list differ."
unfoldable pub ids_differ : List Id → Bool
ids_differ [] = true
ids_differ (x ∷ xs) = not (has_id x xs) and ids_differ xs

unfoldable pub ids_in_range : Context → List Id → Bool
ids_in_range c [] = true
ids_in_range c (x ∷ xs) = id_ok c x and ids_in_range c xs

unfoldable pub ids_ok : Context → List Id → Bool
ids_ok c xs = ids_in_range c xs and ids_differ xs

-- K6: "A yellow list has at most n × q ids"
unfoldable pub yellow_ok : Context → Yellow → Bool
yellow_ok c y = status_ok y.status and length y.ids ≤? c.servers * c.quota and ids_ok c y.ids

-- A configuration id is any number of four bytes.
unfoldable pub configuration_ok : ℕ → Bool
configuration_ok i = i <? 2 ^ 32

unfoldable pub state_ok : Context → State → Bool
state_ok c s =
    s.sender <? c.servers
    and configuration_ok s.configuration
    and length s.cuts =? c.servers
    and cuts_ok most_number_limit s.cuts
    and length_ok s.green_length
    and index_ok s.attempt
    and primary_ok c s.last
    and mark_ok c s.mark
    and yellow_ok c s.yellow

-- "A regular set holds the server itself"
unfoldable pub own_set_ok : Context → ℕ → Bool
own_set_ok c s = set_ok c s and in_set c.self s

-- "a transitional set does too and lies inside the last regular one, if any."
unfoldable pub inside_last : Option ℕ → ℕ → Bool
inside_last none s = true
inside_last (some l) s = inside s l

unfoldable pub fields_ok : Context → Record → Bool
fields_ok c (action a) = action_ok c a
fields_ok c (retransmission s p a) = s <? c.servers and length_ok p and action_ok c a
fields_ok c (state s) = state_ok c s
fields_ok c (cpc s i) = s <? c.servers and configuration_ok i
fields_ok c (regular i s) = configuration_ok i and own_set_ok c s
fields_ok c (transitional s) = own_set_ok c s and inside_last c.last s
fields_ok c (request p) = payload_ok p
fields_ok c recovery = true

-- A record that a server with this context may read.
unfoldable pub record_ok : Context → Record → Bool
record_ok c r = context_ok c and fields_ok c r
