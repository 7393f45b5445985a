-- Document 01, 'Records' and 'What each event does': what is said of the records that a server puts out.
use Prim.Native.Nat.{ℕ, ◌*◌, ◌^◌, ◌≤◌, ◌<◌}
use mathlib.Core.Path.{◌≡◌}
use mathlib.Core.List.{List, map}
use mathlib.Core.Option.{Option, none, some}
use lib.ListN.{length}
use Rattle.base.specs.Bytes.{joined}
use Rattle.base.specs.Lists.{Each}
use Rattle.format.specs.Limits.{most_length_limit}
use Rattle.format.specs.Places.{most_retransmission}
use Rattle.format.specs.Types.{Record, action, retransmission, state, cpc, regular, transitional, request, recovery}
use Rattle.format.specs.Write.{write}
use Rattle.replication.specs.Machine.WellFormedRanges.{ActionFits, StateFits}

-- The sender that a record names; of an action "The sender is the creator." Kinds 5 to 8 are no server's records.
unfoldable pub sender_of : Record → Option ℕ
sender_of (action a) = some a.id.creator
sender_of (retransmission k p a) = some k
sender_of (state x) = some x.sender
sender_of (cpc k i) = some k
sender_of (regular i t) = none
sender_of (transitional t) = none
sender_of (request p) = none
sender_of recovery = none

-- In range for every server with the same n and q.
abbrev pub RecordFits : ℕ → ℕ → Record → Type 0
RecordFits n q (action a) = ActionFits n q a
RecordFits n q (retransmission k p a) = (k < n) × (p ≤ most_length_limit) × ActionFits n q a
RecordFits n q (state x) = StateFits n q x
RecordFits n q (cpc k i) = (k < n) × (i < 2 ^ 32)
RecordFits n q (regular i t) = ⊥
RecordFits n q (transitional t) = ⊥
RecordFits n q (request p) = ⊥
RecordFits n q recovery = ⊥

-- The records that the server `me` puts out in one event: each is in range and names it as sender; how many there are, and how many bytes in all.
pub record PutOut (n q me : ℕ) (rs : List Record) : Type 0 where
  pub fit : Each (RecordFits n q) rs
  pub own : Each (λ r. sender_of r ≡ some me) rs
  pub count : length rs ≤ 2 * (n * q)
  pub bytes : length (joined (map write rs)) ≤ 2 * most_retransmission * (n * q)
