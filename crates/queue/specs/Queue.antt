-- Actions in a state's buffer: the numbers that say where they are, and what changes in place do to the bytes.
use Rattle.std.specs.Prelude.{ℕ, suc, ◌+◌, ◌*◌, ◌-◌, ◌≤◌, ◌<◌, ◌≡◌, Option, Some, None, List, [], ◌∷◌, ◌++◌, length, take, drop, true}
use Rattle.base.specs.Tests.{◌<?◌, pick}
use Rattle.base.specs.Bytes.{bytes_of, number_at, part_at, slot}
use Rattle.base.specs.Lists.{sum}
use Rattle.base.specs.Patched.{patched}
use Rattle.format.specs.Limits.{most_payload_limit}
use Rattle.format.specs.Places.{cut_size, action_payload_at}
use Rattle.format.specs.Types.{Id, Action}
use Rattle.format.specs.Range.{same_id}
use Rattle.format.specs.Write.{action_bytes}
use Rattle.image.specs.Layout.{header_size, slot_size, the_queue, at_queue_length, at_green_count, at_own_count}
use Rattle.image.specs.Image.{image}
use Rattle.image.specs.Holding.{Holds, BecomesWhere}
use Rattle.replication.specs.Machine.Types.{Server, with_log}
use Rattle.replication.specs.Machine.Colours.{is_next, enter, red, green, unwhite}
use Rattle.replication.specs.Laws.RuleFits.{Delivered}
use Rattle.image.specs.Decode.{actions_at, servers_in, decoded, white_in}
use Rattle.image.specs.Counts.{queue_count, green_count, place, most_actions, CountsIn}

-- How many actions stand before the first with the id d: all where there is none.
unfoldable pub position : Id → List Action → ℕ
position d [] = 0
position d (a ∷ l) = pick (same_id d a.id) 0 (suc (position d l))

-- The place of the first with the id d.
unfoldable pub first_with : Id → List Action → Option ℕ
first_with d xs = pick (position d xs <? length xs) (Some (position d xs)) None

-- The red actions: those behind the green ones.
unfoldable pub reds_in : List ℕ → List Action
reds_in b = actions_at (queue_count b - green_count b) b (place the_queue b + slot_size * green_count b)

-- Where the slot k of the queue begins.
unfoldable pub slot_place : List ℕ → ℕ → ℕ
slot_place b k = place the_queue b + slot_size * k

-- The slot of the green action that stands behind k others in the green history: the white ones, which come first, have none.
unfoldable pub green_slot : List ℕ → ℕ → ℕ
green_slot b k = k - white_in b

-- The numbers of the buffer are in range, as many were entered as have slots, and each payload of its queue is in range.
pub record QueueIn (b : List ℕ) : Type 0 where
  pub counts : CountsIn b
  pub entered : queue_count b ≤ sum (decoded b).log.cuts
  pub payloads : (k : ℕ) → k < queue_count b → number_at 1 b (slot_place b k + action_payload_at) ≤ most_payload_limit

-- Room for one action more, of the creator c and with m bytes of payload.
pub record RoomFor (c m : ℕ) (b : List ℕ) : Type 0 where
  pub counts : CountsIn b
  pub creator : c < servers_in b
  pub short : m ≤ most_payload_limit
  pub room : queue_count b < most_actions b

-- The same, as far as the action's index i is the next of its creator.
pub record RoomIfNext (c i m : ℕ) (b : List ℕ) : Type 0 where
  pub counts : CountsIn b
  pub creator : c < servers_in b
  pub short : m ≤ most_payload_limit
  pub room : number_at cut_size b (header_size + cut_size * c) + 1 ≡ i → queue_count b < most_actions b

-- The slot k from `at` on lies inside the buffer.
pub record SlotIn (at k : ℕ) (b : List ℕ) : Type 0 where
  pub header : header_size ≤ length b
  pub inside : at + (slot_size * k + slot_size) ≤ length b

-- ---- changes of a state in place, from the bytes b to the bytes b'

-- The action a was delivered, and K6: if it is its creator's next, that one has fewer than "q unwhite ones entered here".
pub record Placed (s : Server) (a : Action) : Type 0 where
  pub delivered : Delivered s a
  pub room : is_next s.log a ≡ true → unwhite a.id.creator s.white s.log < s.quota

-- The action a entered.
abbrev pub with_entered : Action → Server → Server
with_entered a s = with_log (enter a s.log) s

-- "An action is entered only if its index is its creator's cut plus one".
abbrev pub BecomesEntered : Action → (b b' : List ℕ) → Type 0
BecomesEntered a b b' = (s : Server) → Holds s b → Placed s a → is_next s.log a ≡ true → b' ≡ image (with_entered a s) b

abbrev pub BecomesRed : Action → (b b' : List ℕ) → Type 0
BecomesRed a b b' = BecomesWhere (λ s. Placed s a) (λ s. with_log (red a s.log) s) b b'

abbrev pub BecomesGreen : Action → (b b' : List ℕ) → Type 0
BecomesGreen a b b' = BecomesWhere (λ s. Placed s a) (λ s. with_log (green a s.log) s) b b'

-- ---- changes of the bytes b

-- The action a in a slot from `at` on.
abbrev pub slot_put : (at : ℕ) → Action → List ℕ → List ℕ
slot_put at a b = patched at (slot slot_size (action_bytes a)) b

-- The last slot goes to the front; the others move up one place.
abbrev pub last_to_front : List ℕ → List ℕ
last_to_front b = drop (length b - slot_size) b ++ take (length b - slot_size) b

-- The action a behind the last one of the queue.
unfoldable pub appended : Action → List ℕ → List ℕ
appended a b = patched at_queue_length (bytes_of 4 (queue_count b + 1)) (slot_put (place the_queue b + slot_size * queue_count b) a b)

-- The same, and its creator's cut.
unfoldable pub queued : Action → List ℕ → List ℕ
queued a b = patched (header_size + cut_size * a.id.creator) (bytes_of cut_size a.id.index) (appended a b)

-- The first of the m own actions from `at` on is left out.
unfoldable pub popped : (at m : ℕ) → List ℕ → List ℕ
popped at m b = patched at_own_count (bytes_of 2 (m - 1)) (patched at (drop slot_size (part_at (slot_size * m) b at)) b)

-- The first k of the m slots from `at` on leave the queue.
unfoldable pub shifted : (at m k : ℕ) → List ℕ → List ℕ
shifted at m k b = patched at_queue_length (bytes_of 4 (m - k)) (patched at (drop (slot_size * k) (part_at (slot_size * m) b at)) b)

-- The slot k from `at` on goes to the front of those before it, and g are green.
unfoldable pub promoted : (at k g : ℕ) → List ℕ → List ℕ
promoted at k g b = patched at_green_count (bytes_of 4 g) (patched at (part_at slot_size b (at + slot_size * k) ++ part_at (slot_size * k) b at) b)
