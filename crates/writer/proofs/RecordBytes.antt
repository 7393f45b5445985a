-- A record's bytes are its frame and the parts of its body, one after another.
use Prim.Native.Nat.{ℕ, ◌+◌, ◌-◌, ◌/◌, ◌%◌}
use mathlib.Core.Path.{◌≡◌, refl, ◌∙◌}
use mathlib.Core.List.{List, [], ◌∷◌, ◌++◌, append_assoc, append-nil}
use native.Mathlib.Omega.{arith}
use lib.ListN.{length, length-append}
use Rattle.base.specs.Bytes.{bytes_of, joined, numbers_at}
use Rattle.base.proofs.BytesLaws.{bytes_length, bytes2}
use Rattle.format.specs.Places.{length_size, at_body, cpc_size, action_size, retransmission_size, state_head_size, standing_size}
use Rattle.format.specs.Types.{action, retransmission, state, cpc, kind_number, kind_of, of_action, of_retransmission, of_state, of_cpc}
use Rattle.format.specs.Read.{ids_at}
use Rattle.format.specs.Write.{framed, action_bytes, cuts_bytes, primary_bytes, mark_bytes, ids_bytes, yellow_bytes, state_bytes, body_of, write}
use Rattle.format.proofs.Lengths.{action_length, primary_length, mark_length}
use Rattle.record.specs.declared.ActionHead.{ActionHead}
use Rattle.record.specs.declared.events.StateHead.{StateHead}
use Rattle.record.specs.Values.{primary_of, mark_of, action_of, state_of}
use Rattle.writer.specs.Blocks.{frame_bytes, opening_bytes, yellow_head_bytes, standing_bytes}

-- ---- what every record begins with

frame_flat : (kind : ℕ) (body : List ℕ) → framed kind body ≡ frame_bytes (at_body - length_size + length body) kind ++ body
unfolding framed frame_bytes joined
frame_flat kind body = simp (append-nil, append_assoc)

opening_flat : (kind sender number : ℕ) (r : List (List ℕ))
    → framed kind (joined (bytes_of 1 sender ∷ bytes_of 4 number ∷ r)) ≡ opening_bytes (cpc_size - length_size + length (joined r)) kind sender number ++ joined r
unfolding opening_bytes joined
opening_flat kind sender number r =
    let n : at_body - length_size + length (bytes_of 1 sender ++ (bytes_of 4 number ++ joined r)) ≡ cpc_size - length_size + length (joined r) =
    simp (length-append, bytes_length) (omega arith) in
    frame_flat kind _ ∙ rw n (simp (append-nil, append_assoc))

pub frame_length : (follows kind : ℕ) → length (frame_bytes follows kind) ≡ at_body
unfolding frame_bytes joined bytes_of
frame_length follows kind = refl

pub opening_length : (follows kind sender number : ℕ) → length (opening_bytes follows kind sender number) ≡ cpc_size
unfolding opening_bytes frame_bytes joined bytes_of
opening_length follows kind sender number = refl

pub standing_length : (h : StateHead) → length (standing_bytes h) ≡ standing_size
unfolding standing_bytes yellow_head_bytes joined
standing_length h = simp (append-nil, length-append, bytes_length, primary_length, mark_length) (omega arith)

-- Two length bytes tell of a payload's length as much as they can: the rest is left out.
low_two : (n x : ℕ) → bytes_of 2 (n + x % 65536) ≡ bytes_of 2 (n + x)
low_two n x =
    let a : (n + x % 65536) / 256 % 256 ≡ (n + x) / 256 % 256 = omega arith in
    let b : (n + x % 65536) % 256 ≡ (n + x) % 256 = omega arith in
    rw (bytes2 (n + x % 65536), bytes2 (n + x), a, b)

frame_low : (n x kind : ℕ) → frame_bytes (n + x % 65536) kind ≡ frame_bytes (n + x) kind
unfolding frame_bytes
frame_low n x kind = rw (low_two n x)

opening_low : (n x kind sender number : ℕ) → opening_bytes (n + x % 65536) kind sender number ≡ opening_bytes (n + x) kind sender number
unfolding opening_bytes
opening_low n x kind sender number = rw (frame_low n x kind)

-- ---- whole records

pub cpc_bytes : (s i : ℕ) → opening_bytes (cpc_size - length_size) (kind_number of_cpc) s i ≡ write (cpc s i)
unfolding write body_of kind_of kind_number framed opening_bytes frame_bytes joined bytes_of
cpc_bytes s i = refl

module _ (h : ActionHead) (p : List ℕ) where
  body_length : length (action_bytes (action_of h p)) ≡ action_size - at_body + length p
  unfolding action_of
  body_length = omega (arith, action_length (action_of h p))

  pub action_bytes_lem : frame_bytes (action_size - length_size + length p % 65536) (kind_number of_action) ++ action_bytes (action_of h p) ≡ write (action (action_of h p))
  unfolding write body_of kind_of
  action_bytes_lem =
      let n : at_body - length_size + length (action_bytes (action_of h p)) ≡ action_size - length_size + length p = omega (arith, body_length) in
      rw (frame_low (action_size - length_size) (length p) (kind_number of_action), frame_flat, n)

  pub retransmission_bytes : (s i : ℕ)
      → opening_bytes (retransmission_size - length_size + length p % 65536) (kind_number of_retransmission) s i ++ action_bytes (action_of h p)
      ≡ write (retransmission s i (action_of h p))
  unfolding write body_of kind_of joined
  retransmission_bytes s i =
      let n : cpc_size - length_size + length (action_bytes (action_of h p)) ≡ retransmission_size - length_size + length p = omega (arith, body_length) in
      rw (opening_low (retransmission_size - length_size) (length p) (kind_number of_retransmission) s i, opening_flat, append-nil, n)

-- A State: the bytes of its cuts are x, and those of its ids y.
module _ (h : StateHead) (x y : List ℕ) where
  abbrev behind : List (List ℕ)
  behind =
      x
      ∷ bytes_of 4 h.green_length
      ∷ bytes_of 4 h.attempt.0
      ∷ primary_bytes (primary_of h.last)
      ∷ mark_bytes (mark_of h.mark)
      ∷ joined (bytes_of 1 h.yellow_status ∷ bytes_of 2 h.yellow_count ∷ y ∷ [])
      ∷ []

  behind_flat : joined behind ≡ x ++ (standing_bytes h ++ y)
  unfolding standing_bytes yellow_head_bytes joined
  behind_flat = simp (append-nil, append_assoc)

  behind_length : cpc_size - length_size + length (joined behind) ≡ state_head_size - length_size + (length x + length y)
  behind_length =
      rw behind_flat
      (let n : length (x ++ (standing_bytes h ++ y)) ≡ length x + (standing_size + length y) = simp (length-append, standing_length) in omega arith)

  pub state_bytes_lem : (cuts ids : List ℕ) → cuts_bytes (numbers_at 2 h.servers cuts 0) ≡ x → ids_bytes (ids_at h.yellow_count ids 0) ≡ y
      → length (ids_at h.yellow_count ids 0) ≡ h.yellow_count
      → write (state (state_of h cuts 0 ids 0))
      ≡ ((opening_bytes (state_head_size - length_size + (length x + length y)) (kind_number of_state) h.sender h.configuration ++ x) ++ standing_bytes h) ++ y
  unfolding write body_of kind_of state_bytes state_of yellow_bytes
  state_bytes_lem cuts ids e f g =
      rw (e, f, g) (opening_flat (kind_number of_state) h.sender h.configuration behind ∙ rw (behind_length, behind_flat) (simp append_assoc))
