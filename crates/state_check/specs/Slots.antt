-- What the code tests of the slots of a state's buffer b.
use Rattle.std.specs.Prelude.{ℕ, zero, suc, ◌+◌, ◌*◌, ◌-◌, ◌≤◌, ◌<◌, ◌≡◌, Bool, true, List, length, get_or}
use Rattle.base.specs.Tests.{◌and◌, ◌≤?◌, ◌=?◌}
use Rattle.base.specs.Bytes.{number_at, zero_at}
use Rattle.base.specs.Lists.{every_at}
use Rattle.format.specs.Limits.{most_quota_limit, most_payload_limit, most_number_limit}
use Rattle.format.specs.Places.{cut_size, id_index_at, action_green_at, action_white_at, action_payload_at, action_head_size}
use Rattle.format.specs.Types.{Id, Context}
use Rattle.format.specs.Range.{length_ok, ids_ok}
use Rattle.format.specs.Read.{id_at}
use Rattle.record.specs.declared.Context as declared
use Rattle.record.specs.Context.{ContextIn}
use Rattle.record.specs.Values.{ids_by, Met}
use Rattle.image.specs.Layout.{noted_size, slot_size}

-- How much of an action's slot its payload has, with its length.
abbrev pub payload_room : ℕ
payload_room = slot_size - action_payload_at

-- The same without the length.
abbrev pub payload_space : ℕ
payload_space = slot_size - action_head_size

-- A payload of at most 48 bytes, and zeros behind it in its room: its length stands at `at`.
unfoldable pub payload_fits : List ℕ → ℕ → Bool
payload_fits b at =
    number_at 1 b at ≤? most_payload_limit and every_at (zero_at b) 1 (payload_room - (1 + number_at 1 b at)) (at + (1 + number_at 1 b at))

-- What the masks of payloads are: a test may gather all bytes of a payload's room under those from most_payload_limit - m on.
pub record Masks (t : List ℕ) : Type 0 where
  pub payload : (j : ℕ) → j < most_payload_limit → get_or t j 0 ≡ 0
  pub behind : (j : ℕ) → most_payload_limit ≤ j → j < most_payload_limit + payload_space → get_or t j 0 ≡ 255

-- An action's green length, white length and payload.
unfoldable pub slot_fits : List ℕ → ℕ → Bool
slot_fits b at =
    length_ok (number_at 4 b (at + action_green_at)) and length_ok (number_at 4 b (at + action_white_at)) and payload_fits b (at + action_payload_at)

-- An action of the queue, its index at most its creator's cut; the cuts begin at `cuts`.
unfoldable pub within_cut_at : List ℕ → (cuts at : ℕ) → Bool
within_cut_at b cuts at = number_at 2 b (at + id_index_at) ≤? number_at cut_size b (cuts + cut_size * number_at 1 b at)

-- The cut of the creator of the action at `at` lies in the bytes b.
abbrev pub CutInside : (cuts at : ℕ) → List ℕ → Type 0
CutInside cuts at b = cuts + (cut_size * number_at 1 b at + cut_size) ≤ length b

unfoldable pub queue_slot_fits : List ℕ → (cuts at : ℕ) → Bool
queue_slot_fits b cuts at = within_cut_at b cuts at and slot_fits b at

unfoldable pub queue_slots_fit : (cuts m : ℕ) → List ℕ → ℕ → Bool
queue_slots_fit cuts m b at = every_at (queue_slot_fits b cuts) slot_size m at

-- The queue's m actions: their ids in range, none twice, and all else.
unfoldable pub queue_fits : Context → (cuts m : ℕ) → List ℕ → ℕ → Bool
queue_fits c cuts m b at = ids_ok c (ids_by slot_size m b at) and queue_slots_fit cuts m b at

-- The answer r to whether the id d, behind the ids xs, is in range and none of them, and its slot fits else. The table t became u.
pub record NextFits (c : Context) (xs : List Id) (d : Id) (fits r : Bool) (t u : List ℕ) : Type 0 where
  pub new : Bool
  pub met : Met c xs d new t u
  pub answer : r ≡ (new and fits)

-- The same of the slot at `here`, behind k others from `at` on.
abbrev pub NextSlotFits : Context → (cuts k : ℕ) → List ℕ → (at here : ℕ) → Bool → (t u : List ℕ) → Type 0
NextSlotFits c cuts k b at here r t u = NextFits c (ids_by slot_size k b at) (id_at b here) (queue_slot_fits b cuts here) r t u

-- The m slots from `at` on and the servers' cuts lie in the bytes b.
pub record QueueRoom (c : declared.Context) (cuts at m : ℕ) (b : List ℕ) : Type 0 where
  pub context : ContextIn c
  pub cuts_end : cuts + cut_size * c.servers ≤ length b
  pub slots_end : at + slot_size * m ≤ length b

-- The own cut is any number of two bytes: so high an index may be asked of the own list.
abbrev pub own_reach : ℕ
own_reach = most_number_limit + most_quota_limit

-- m own actions, of the indexes from k + 1 on.
unfoldable pub own_slot_fits : Context → ℕ → List ℕ → ℕ → Bool
own_slot_fits c k b at = number_at 1 b at =? c.self and number_at 2 b (at + id_index_at) =? k + 1 and slot_fits b at

unfoldable pub own_fits : Context → (k m : ℕ) → List ℕ → ℕ → Bool
own_fits c k zero b at = true
own_fits c k (suc m) b at = own_slot_fits c k b at and own_fits c (k + 1) m b (at + slot_size)

-- n noted lengths.
unfoldable pub noted_at : List ℕ → ℕ → Bool
noted_at b at = length_ok (number_at noted_size b at)

unfoldable pub noted_fit : Context → List ℕ → ℕ → Bool
noted_fit c b at = every_at (noted_at b) noted_size c.servers at
