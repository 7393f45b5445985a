-- What a daemon keeps for one server, and what it makes of it: by a store, at the start, by an event.
use Rattle.std.specs.Prelude.{ℕ, ◌-◌, ◌≤◌, ◌≡◌, Bool, List, length, get_or}
use Rattle.base.specs.Tests.{◌and◌, ◌=?◌, pick}
use Rattle.format.specs.Limits.{version}
use Rattle.format.specs.Places.{length_size, at_version, at_kind, at_body}
use Rattle.format.specs.Types.{of_recovery, kind_number}
use Rattle.image.specs.Layout.{state_length}
use Rattle.image.specs.Outcome.{Result, step_on, start_on}

-- The state's buffer, and the stored image.
pub record Buffers : Type 0 where
  pub state : List ℕ
  pub store : List ℕ

-- Any bytes, as long as they must be: both of one length, at least the formula's.
pub record Lent (n q : ℕ) (b : Buffers) : Type 0 where
  pub long : state_length n q ≤ length b.state
  pub alike : length b.store ≡ length b.state

-- What is in the state's buffer is stored.
unfoldable pub saved : Buffers → Buffers
saved b = record { state = b.state; store = b.state }

-- The start is made in the state's buffer, and stored: "a store never written holds the start."
unfoldable pub begun : (n q me : ℕ) → Buffers → Buffers
begun n q i b = saved (record { state = (start_on n q i b.state).state; store = b.store })

-- The recovery's record: no other bytes read as one.
unfoldable pub is_recovery : List ℕ → Bool
is_recovery e =
    length e =? at_body and get_or e 0 0 =? 0 and get_or e 1 0 =? at_body - length_size
    and get_or e at_version 0 =? version and get_or e at_kind 0 =? kind_number of_recovery

-- What the state's buffer holds when the event comes: "Recovery starts from that server's last stored image."
unfoldable pub source_in : Buffers → List ℕ → List ℕ
source_in b e = pick (is_recovery e) b.store b.state

-- The step's answer to an event, with this outgoing buffer.
unfoldable pub step_in : Buffers → (event out : List ℕ) → Result
step_in b e o = step_on (source_in b e) e o

-- What a step leaves: the state's buffer, stored where the store word is 1.
unfoldable pub kept_after : Buffers → Result → Buffers
kept_after b r = record { state = r.state; store = pick (r.store =? 1) r.state b.store }
