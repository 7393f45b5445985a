-- Document 01, 'Records': the bytes of a record.
use Rattle.std.specs.Prelude.{ℕ, ◌+◌, ◌*◌, ◌-◌, List, [], ◌∷◌, map, length}
use Rattle.base.specs.Bytes.{bytes_of, joined}
use Rattle.format.specs.Limits.{version}
use Rattle.format.specs.Places.{length_size, at_body, id_size, action_size, retransmission_size, state_head_size}
use Rattle.format.specs.Places.{cut_size, cpc_size, regular_size, transitional_size, request_size, recovery_size}
use Rattle.format.specs.Types.{Id, Action, Primary, Mark, Yellow, State, kind_number, kind_of}
use Rattle.format.specs.Types.{Record, action, retransmission, state, cpc, regular, transitional, request, recovery}

-- "Two length bytes (counting what follows them), version byte 1, kind byte, body; all big-endian."
unfoldable pub framed : ℕ → List ℕ → List ℕ
framed kind body = joined (bytes_of length_size (at_body - length_size + length body) ∷ bytes_of 1 version ∷ bytes_of 1 kind ∷ body ∷ [])

-- "payload length (1), payload"
unfoldable pub payload_bytes : List ℕ → List ℕ
payload_bytes p = joined (bytes_of 1 (length p) ∷ p ∷ [])

unfoldable pub id_bytes : Id → List ℕ
id_bytes d = joined (bytes_of 1 d.creator ∷ bytes_of 2 d.index ∷ [])

-- "creator (1 byte), index (2), creator's green length (4)", white length (4), "payload length (1), payload"
unfoldable pub action_bytes : Action → List ℕ
action_bytes a = joined (id_bytes a.id ∷ bytes_of 4 a.green_length ∷ bytes_of 4 a.white_length ∷ payload_bytes a.payload ∷ [])

unfoldable pub cuts_bytes : List ℕ → List ℕ
cuts_bytes [] = []
cuts_bytes (x ∷ xs) = joined (bytes_of 2 x ∷ cuts_bytes xs ∷ [])

unfoldable pub primary_bytes : Primary → List ℕ
primary_bytes p = joined (bytes_of 4 p.index ∷ bytes_of 4 p.attempt ∷ bytes_of 1 p.set ∷ [])

unfoldable pub mark_bytes : Mark → List ℕ
mark_bytes m = joined (bytes_of 1 m.status ∷ bytes_of 4 m.index ∷ bytes_of 4 m.attempt ∷ bytes_of 1 m.set ∷ bytes_of 1 m.bits ∷ [])

unfoldable pub ids_bytes : List Id → List ℕ
ids_bytes [] = []
ids_bytes (x ∷ xs) = joined (id_bytes x ∷ ids_bytes xs ∷ [])

unfoldable pub yellow_bytes : Yellow → List ℕ
yellow_bytes y = joined (bytes_of 1 y.status ∷ bytes_of 2 (length y.ids) ∷ ids_bytes y.ids ∷ [])

unfoldable pub state_bytes : State → List ℕ
state_bytes s =
    joined
    (bytes_of 1 s.sender
    ∷ bytes_of 4 s.configuration
    ∷ cuts_bytes s.cuts
    ∷ bytes_of 4 s.green_length
    ∷ bytes_of 4 s.attempt
    ∷ primary_bytes s.last
    ∷ mark_bytes s.mark
    ∷ yellow_bytes s.yellow
    ∷ [])

unfoldable pub body_of : Record → List ℕ
body_of (action a) = action_bytes a
body_of (retransmission s p a) = joined (bytes_of 1 s ∷ bytes_of 4 p ∷ action_bytes a ∷ [])
body_of (state s) = state_bytes s
body_of (cpc s i) = joined (bytes_of 1 s ∷ bytes_of 4 i ∷ [])
body_of (regular i s) = joined (bytes_of 4 i ∷ bytes_of 1 s ∷ [])
body_of (transitional s) = bytes_of 1 s
body_of (request p) = payload_bytes p
body_of recovery = []

unfoldable pub write : Record → List ℕ
write r = framed (kind_number (kind_of r)) (body_of r)

-- Records one after another, as bytes.
unfoldable pub record_bytes : List Record → List ℕ
record_bytes rs = joined (map write rs)

-- How long the bytes of a record are, the two length bytes among them.
unfoldable pub length_of : Record → ℕ
length_of (action a) = action_size + length a.payload
length_of (retransmission s p a) = retransmission_size + length a.payload
length_of (state s) = state_head_size + cut_size * length s.cuts + id_size * length s.yellow.ids
length_of (cpc s i) = cpc_size
length_of (regular i s) = regular_size
length_of (transitional s) = transitional_size
length_of (request p) = request_size + length p
length_of recovery = recovery_size
