-- The image of a state over the bytes that its buffer held.
use Rattle.std.specs.Prelude.{ℕ, List, [], ◌∷◌, ◌++◌, map, take, drop}
use Rattle.std.proofs.Math.Option.{Option, none, some}
use Rattle.base.specs.Bytes.{bytes_of, part_at, joined, over, slot}
use Rattle.format.specs.Types.{Action, State, state}
use Rattle.format.specs.Write.{write, action_bytes, cuts_bytes, ids_bytes}
use Rattle.replication.specs.Machine.Types.{Server}
use Rattle.replication.specs.Machine.WellFormed.{queue}
use Rattle.image.specs.Header.{shown_log, header_of, header_written}
use Rattle.image.specs.Layout.{slot_size, state_size, the_cuts, the_noted, the_states, the_yellow, the_own}
use Rattle.image.specs.Layout.{the_queue, section_size, offset, state_length}

-- ---- the parts as bytes

-- The fixed-size fields.
unfoldable pub header_bytes : Server → List ℕ
header_bytes s = header_written (header_of s)

unfoldable pub noted_bytes : List ℕ → List ℕ
noted_bytes [] = []
noted_bytes (x ∷ xs) = bytes_of 4 x ++ noted_bytes xs

-- A State's slot: its record over what the slot held; a slot with no State keeps what it held.
unfoldable pub state_over : Option State → List ℕ → List ℕ
state_over none old = old
state_over (some x) old = over (write (state x)) old

unfoldable pub states_over : ℕ → List (Option State) → List ℕ → List ℕ
states_over size [] old = old
states_over size (x ∷ xs) old = state_over x (take size old) ++ states_over size xs (drop size old)

unfoldable pub action_slots : List Action → List ℕ
action_slots l = joined (map (λ a. slot slot_size (action_bytes a)) l)

-- ---- the image

-- The section k of the bytes b.
unfoldable pub section : (n q k : ℕ) → List ℕ → List ℕ
section n q k b = part_at (section_size n q k) b (offset n q k)

-- Each section: its used part, and behind it what was there.
unfoldable pub parts : (n q : ℕ) → Server → List ℕ → List (List ℕ)
parts n q s old =
    header_bytes s
    ∷ over (cuts_bytes s.log.cuts) (section n q the_cuts old)
    ∷ over (noted_bytes s.noted) (section n q the_noted old)
    ∷ states_over (state_size n q) s.membership.states (section n q the_states old)
    ∷ over (ids_bytes s.votes.yellow.ids) (section n q the_yellow old)
    ∷ over (action_slots s.log.own) (section n q the_own old)
    ∷ over (action_slots (queue (shown_log s))) (section n q the_queue old)
    ∷ []

-- The state s over the old bytes; "bytes past either unchanged".
unfoldable pub image : Server → List ℕ → List ℕ
image s old = joined (parts s.servers s.quota s old) ++ drop (state_length s.servers s.quota) old
