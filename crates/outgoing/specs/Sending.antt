-- Records that are made of the bytes of a state's buffer.
use Rattle.std.specs.Prelude.{ℕ, ◌+◌, ◌*◌, ◌-◌, ◌≤◌, ◌<◌, List, [], ◌∷◌, length, ◌≡◌}
use Rattle.std.proofs.Math.Option.{Option, none, some}
use Rattle.base.specs.Bytes.{number_at, over}
use Rattle.base.specs.Lists.{at}
use Rattle.format.specs.Limits.{most_payload_limit}
use Rattle.format.specs.Types.{Action, Record, action, state}
use Rattle.record.specs.declared.State.{State as Numbers}
use Rattle.record.specs.declared.events.StateHead.{StateHead}
use Rattle.replication.specs.Machine.Types.{Server}
use Rattle.replication.specs.Machine.Step.{own_state}
use Rattle.image.specs.Layout.{slot_size, the_own}
use Rattle.image.specs.Decode.{actions_at}
use Rattle.updates.specs.Lists.{configuration_of}
use Rattle.image.specs.Counts.{CountsIn, own_count_of, place}
use Rattle.format.specs.Places.{action_payload_at}
use Rattle.format.specs.Write.{record_bytes}
use Rattle.image.specs.Holding.{Holds}

-- The numbers of the State that a server with the numbers h and a green history of this length sends in the configuration of this id.
unfoldable pub own_head : Numbers → (green id : ℕ) → StateHead
own_head h green id = record {
  sender = h.me;
  configuration = id;
  servers = h.servers;
  green_length = green;
  attempt = h.attempt;
  last = h.last;
  mark = h.mark;
  yellow_status = h.yellow_status;
  yellow_count = h.yellow_count;
}

-- What it sends then.
unfoldable pub own_record : (id set : ℕ) → Server → List Record
own_record id set s = state (own_state (configuration_of id set) s) ∷ []

-- It is put at the front of the outgoing buffer, r bytes, whatever the configuration's set is.
abbrev pub PutsOwn : (id r : ℕ) → (b o o' : List ℕ) → Type 0
PutsOwn id r b o o' =
    (s : Server) (set : ℕ) → Holds s b
    → (r ≡ length (record_bytes (own_record id set s))) × (o' ≡ over (record_bytes (own_record id set s)) o)

-- ---- what waits on the own list of the buffer b

unfoldable pub own_in : List ℕ → List Action
own_in b = actions_at (own_count_of b) b (place the_own b)

unfoldable pub as_action : Option Action → Option Record
as_action none = none
as_action (some a) = some (action a)

-- The p-th of them as a record.
unfoldable pub own_at : List ℕ → ℕ → Option Record
own_at b p = as_action (at (own_in b) (p - 1))

-- The numbers of the buffer are in range, and so is each payload of its own list.
pub record OwnIn (b : List ℕ) : Type 0 where
  pub counts : CountsIn b
  pub payloads : (k : ℕ) → k < own_count_of b → number_at 1 b (place the_own b + slot_size * k + action_payload_at) ≤ most_payload_limit
