-- What the code tests of the collected States in their slots, and what it computes of them.
use Rattle.std.specs.Prelude.{ℕ, zero, suc, ◌+◌, ◌*◌, ◌≤◌, Bool, true, false, not, List, length}
use Rattle.base.specs.Tests.{◌and◌, ◌or◌, ◌=?◌}
use Rattle.base.specs.Lists.{present}
use Rattle.base.specs.Bytes.{Bytes, number_at, part_at}
use Rattle.base.specs.Sets.{in_set}
use Rattle.format.specs.Types.{Context, Reading, says, refused}
use Rattle.format.specs.Types.{Record, action, retransmission, state, cpc, regular, transitional, request, recovery}
use Rattle.format.specs.Read.{read}
use Rattle.record.specs.Context.{ContextIn}
use Rattle.record.specs.declared.Context.{Context as CodeContext}
use Rattle.replication.specs.Machine.Plan.{planned}
use Rattle.image.specs.Layout.{state_size}
use Rattle.image.specs.Decode.{states_at}
use Rattle.format.specs.Places.{cut_size, id_size, state_head_size, state_count_at}
use Rattle.state_check.specs.Numbers.{yellow_count_ok}

-- ---- a slot

-- A State of this sender in this configuration.
unfoldable pub is_state : (sender configuration : ℕ) → Record → Bool
is_state k i (action a) = false
is_state k i (retransmission s p a) = false
is_state k i (state x) = x.sender =? k and x.configuration =? i
is_state k i (cpc s j) = false
is_state k i (regular j s) = false
is_state k i (transitional s) = false
is_state k i (request p) = false
is_state k i recovery = false

unfoldable pub says_state : (sender configuration : ℕ) → Reading Record → Bool
says_state k i (says r) = is_state k i r
says_state k i (refused m) = false

-- How many yellow ids the record in the slot at `at` has.
unfoldable pub ids_in_slot : ℕ → List ℕ → ℕ → ℕ
ids_in_slot n b at = number_at 2 b (at + (state_count_at + cut_size * n))

-- The record in the slot at `at`.
unfoldable pub slot_record : ℕ → List ℕ → ℕ → List ℕ
slot_record n b at = part_at (state_head_size + cut_size * n + id_size * ids_in_slot n b at) b at

-- The slot at `at` holds the record of a State of this sender in this configuration.
unfoldable pub holds_state : Context → (sender configuration : ℕ) → List ℕ → ℕ → Bool
holds_state c k i b at =
    yellow_count_ok c (ids_in_slot c.servers b at) and says_state k i (read c (slot_record c.servers b at))

-- m slots from `at` on, of the senders from the number k on; `here` is the set of those whose State is in.
unfoldable pub collected_ok : Context → (here configuration m k : ℕ) → List ℕ → ℕ → Bool
collected_ok c here i zero k b at = true
collected_ok c here i (suc m) k b at =
    (not (in_set k here) or holds_state c k i b at) and collected_ok c here i m (k + 1) b (at + state_size c.servers c.quota)

-- ---- how many retransmissions are planned

-- By the States of n servers with the quota q in the slots from `at` on; `here` is the set of their senders.
unfoldable pub planned_in : (n q here : ℕ) → List ℕ → ℕ → ℕ
planned_in n q here b at = planned n (present (states_at n q here n 0 b at))

-- The slots for States from `at` on lie inside the bytes b.
pub record StatesInside (c : CodeContext) (b : List ℕ) (at : ℕ) : Type 0 where
  pub context : ContextIn c
  pub bytes : Bytes b
  pub inside : at + c.servers * state_size c.servers c.quota ≤ length b
