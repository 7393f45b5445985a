-- Parts of records as bytes.
use Rattle.std.specs.Prelude.{ℕ, ◌+◌, ◌*◌, ◌≤◌, List, [], ◌∷◌, length}
use Rattle.base.specs.Bytes.{bytes_of, joined}
use Rattle.format.specs.Limits.{version}
use Rattle.format.specs.Places.{length_size, cut_size, id_size, state_head_size}
use Rattle.format.specs.Write.{id_bytes, primary_bytes, mark_bytes}
use Rattle.record.specs.declared.ActionHead.{ActionHead}
use Rattle.record.specs.declared.events.StateHead.{StateHead}
use Rattle.record.specs.Values.{id_of, primary_of, mark_of}

-- "Two length bytes (counting what follows them)", version byte, "kind byte"
unfoldable pub frame_bytes : (follows kind : ℕ) → List ℕ
frame_bytes follows kind = joined (bytes_of length_size follows ∷ bytes_of 1 version ∷ bytes_of 1 kind ∷ [])

-- These, a sender and a number: all of a CPC, and what a State and a retransmission begin with.
unfoldable pub opening_bytes : (follows kind sender number : ℕ) → List ℕ
opening_bytes follows kind sender number = joined (frame_bytes follows kind ∷ bytes_of 1 sender ∷ bytes_of 4 number ∷ [])

-- "creator (1 byte), index (2), creator's green length (4)", white length (4)
unfoldable pub head_bytes : ActionHead → List ℕ
head_bytes h = joined (id_bytes (id_of h.creator h.index) ∷ bytes_of 4 h.green_length ∷ bytes_of 4 h.white_length ∷ [])

-- "yellow status (1), count (2)"
unfoldable pub yellow_head_bytes : (status count : ℕ) → List ℕ
yellow_head_bytes status count = joined (bytes_of 1 status ∷ bytes_of 2 count ∷ [])

-- A State from behind its cuts up to its ids.
unfoldable pub standing_bytes : StateHead → List ℕ
standing_bytes h =
    joined
    (bytes_of 4 h.green_length
    ∷ bytes_of 4 h.attempt.0
    ∷ primary_bytes (primary_of h.last)
    ∷ mark_bytes (mark_of h.mark)
    ∷ yellow_head_bytes h.yellow_status h.yellow_count
    ∷ [])

-- How many bytes the cuts and ids of a State have.
abbrev pub lists_size : StateHead → ℕ
lists_size h = cut_size * h.servers + id_size * h.yellow_count

-- The bytes given hold all cuts and ids of a State, and the rest has room for it.
pub record StateRoom (h : StateHead) (cuts ids rest : List ℕ) : Type 0 where
  pub enough_cuts : cut_size * h.servers ≤ length cuts
  pub enough_ids : id_size * h.yellow_count ≤ length ids
  pub room : state_head_size + lists_size h ≤ length rest
