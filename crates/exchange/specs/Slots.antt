-- The collected States in their slots, and some of them by a set of their senders.
use Rattle.std.specs.Prelude.{ℕ, zero, suc, ◌+◌, ◌*◌, ◌-◌, ◌≤◌, ◌<◌, ◌≡◌, true, List, [], ◌∷◌, length, drop}
use Rattle.base.specs.Tests.{pick}
use Rattle.base.specs.Sets.{in_set}
use Rattle.format.specs.Limits.{most_servers_limit}
use Rattle.format.specs.Types.{State}
use Rattle.format.specs.Read.{state_at}
use Rattle.record.specs.Events.{head_in}
use Rattle.record.specs.declared.events.StateHead.{StateHead}
use Rattle.replication.specs.Machine.Types.{Server}
use Rattle.image.specs.Layout.{state_size, the_states, offset}
use Rattle.image.specs.Header.{senders}
use Rattle.exchange.specs.declared.slots.Slots.{Slots}
use Rattle.format.specs.Places.{cut_size, state_head_size, state_cuts_at}

-- The slots of a state with n servers and the quota q; `here` is the set of the senders whose State is in.
unfoldable pub slots_of : (n q here : ℕ) → Slots
slots_of n q here = record { servers = n; size = state_size n q; at = offset n q the_states; here = here }

-- The slots of a buffer that holds s.
unfoldable pub slots_in : Server → Slots
slots_in s = slots_of s.servers s.quota (senders 0 s.membership.states)

-- The same slots, by another set.
unfoldable pub with_here : ℕ → Slots → Slots
with_here here v = record { servers = v.servers; size = v.size; at = v.at; here = here }

-- Where the slot k begins.
unfoldable pub slot_at : Slots → ℕ → ℕ
slot_at v k = v.at + k * v.size

-- The State in the slot k.
unfoldable pub state_in : Slots → List ℕ → ℕ → State
state_in v b k = state_at v.servers (drop (slot_at v k) b)

-- Its numbers, as the code reads them.
unfoldable pub head_of : Slots → List ℕ → ℕ → StateHead
head_of v b k = head_in v.servers (drop (slot_at v k) b) (state_cuts_at + cut_size * v.servers)

-- The States of the m slots from k on, of the senders that are meant.
unfoldable pub states_from : Slots → List ℕ → (m k : ℕ) → List State
states_from v b zero k = []
states_from v b (suc m) k = pick (in_set k v.here) (state_in v b k ∷ states_from v b m (k + 1)) (states_from v b m (k + 1))

unfoldable pub states_of : Slots → List ℕ → List State
states_of v b = states_from v b v.servers 0

-- Those of the slots from k on.
abbrev pub states_left : Slots → List ℕ → ℕ → List State
states_left v b k = states_from v b (v.servers - k) k

-- The slot k is meant: x, or else y.
abbrev pub if_meant : {A : Type 0} → Slots → ℕ → (x y : A) → A
if_meant v k x y = pick (in_set k v.here) x y

-- The slots lie in the buffer, and a State's fixed parts fit in one.
pub record Space (v : Slots) (b : List ℕ) : Type 0 where
  pub servers : v.servers ≤ most_servers_limit
  pub long : state_head_size + cut_size * v.servers ≤ v.size
  pub inside : v.at + v.servers * v.size ≤ length b

-- And each State that is meant is its server's.
pub record Room (v : Slots) (b : List ℕ) : Type 0 where
  pub space : Space v b
  pub senders : (k : ℕ) → k < v.servers → in_set k v.here ≡ true → (state_in v b k).sender ≡ k
