-- One's part of the retransmission plan, over the buffers.
use Rattle.std.specs.Prelude.{ℕ, ◌+◌, ◌*◌, ◌≤◌, ◌<◌, ◌≡◌, List, [], ◌++◌, length, Option as Maybe, MatchOption}
use Rattle.std.proofs.Math.Option.{Option}
use Rattle.base.specs.Bytes.{number_at, over}
use Rattle.base.specs.Lists.{at, at_front, gather, gather_all, above, below}
use Rattle.format.specs.Limits.{most_servers_limit, most_number_limit, most_payload_limit}
use Rattle.format.specs.Types.{Action, Record}
use Rattle.record.specs.Values.{id_of}
use Rattle.replication.specs.Machine.Colours.{find}
use Rattle.replication.specs.Machine.Plan.{resent, held_at, resend_green, resend_red, own_part}
use Rattle.replication.specs.Machine.Step.{collected}
use Rattle.image.specs.Layout.{the_queue, at_me}
use Rattle.image.specs.Decode.{actions_at, decoded, servers_in, white_in, greens_in}
use Rattle.image.specs.Holding.{Holds}
use Rattle.queue.specs.Queue.{QueueIn}
use Rattle.install.specs.Table.{IndexedFrom}
use Rattle.base.specs.Lent.{Lent}
use Rattle.format.specs.Places.{most_retransmission}
use Rattle.format.specs.Write.{record_bytes}
use Rattle.image.specs.Counts.{queue_count, place}
use Rattle.outgoing.specs.declared.resending.Red.{Red}
use Rattle.record.specs.declared.events.ActionAt.{ActionAt}
use Rattle.replication.specs.Machine.Types.{Server}

-- ---- the queue of the buffer b

unfoldable pub queue_in : List ℕ → List Action
queue_in b = actions_at (queue_count b) b (place the_queue b)

-- The table of the whole queue of the buffer b.
abbrev pub TableOf : (t b : List ℕ) → Type 0
TableOf t b = IndexedFrom 0 t b

-- ---- what is sent

-- The action at the place k.
unfoldable pub from_place : (me position : ℕ) → List Action → ℕ → Option Record
from_place me p l k = resent me p (at l k)

-- "resends positions ..": a white action is not held.
unfoldable pub at_position : (me : ℕ) → List ℕ → ℕ → Option Record
at_position me b p = resent me p (held_at (white_in b) (decoded b).log p)

-- ".. as red"
unfoldable pub as_red : ℕ → List Action → ℕ → ℕ → Option Record
as_red me l c i = resent me 0 (find (id_of c i) l)

-- The actions at the positions above `low` up to `high` that are held.
abbrev pub greens_of : (me low high : ℕ) → List ℕ → List Record
greens_of me low high b = gather (at_position me b) (above low high)

-- Those of the creator c's actions with the indexes above `low` up to `high` that are held.
abbrev pub reds_of : (me c low high : ℕ) → List ℕ → List Record
reds_of me c low high b = gather (as_red me (queue_in b) c) (above low high)

-- The records rs at the front of a buffer, r bytes, none longer than the longest retransmission, for each of m that were asked for.
pub record Sends (m : ℕ) (rs : List Record) (old new : List ℕ) (r : ℕ) : Type 0 where
  pub count : r ≡ length (record_bytes rs)
  pub most : r ≤ most_retransmission * m
  pub inside : r ≤ length old
  pub size : length new ≡ length old
  pub bytes : new ≡ over (record_bytes rs) old

-- The same of the lent buffer itself.
abbrev pub SendsTo : (m : ℕ) → List Record → (out : Lent) → (r : ℕ) → Type 0
SendsTo m rs out r = Sends m rs out.entry.now out.exit.now r

-- Room for m retransmissions.
abbrev pub Room : (m : ℕ) → (o : List ℕ) → Type 0
Room m o = most_retransmission * m ≤ length o

-- Each of the records rs is asked for.
abbrev pub SendsAll : List Record → (out : Lent) → (r : ℕ) → Type 0
SendsAll rs out r = SendsTo (length rs) rs out r

abbrev pub RoomFor : List Record → (o : List ℕ) → Type 0
RoomFor rs o = Room (length rs) o

-- The payload of an action that lies in the bytes b.
pub record PayloadInside (a : ActionAt) (b : List ℕ) : Type 0 where
  pub short : a.payload_length ≤ most_payload_limit
  pub inside : a.payload_at + a.payload_length ≤ length b

-- The queue is in range, and t is its table.
pub record Tabled (t b : List ℕ) : Type 0 where
  pub queue : QueueIn b
  pub table : TableOf t b

-- The same, for the creator c's indexes up to `high`.
pub record IndexesIn (t : List ℕ) (c high : ℕ) (b : List ℕ) : Type 0 where
  pub tabled : Tabled t b
  pub creator : c < most_servers_limit
  pub most : high ≤ most_number_limit

-- The queue is in range, and the positions above `low` up to `high` have slots: none is white or past the green list.
pub record PositionsIn (low high : ℕ) (b : List ℕ) : Type 0 where
  pub queue : QueueIn b
  pub unwhite : white_in b ≤ low
  pub green : high ≤ length (greens_in b)

-- The server's own number.
abbrev pub OwnNumber : (me : ℕ) → List ℕ → Type 0
OwnNumber me b = me ≡ number_at 1 b at_me

-- One record or none.
unfoldable pub one_of : Option Record → List Record
one_of x = at_front x []

-- Where the creator c's next action over the index i stands, whose index is not over `high`.
pub record IsNextRed (c i high : ℕ) (b : List ℕ) (x : Red) : Type 0 where
  pub there : x.place < queue_count b
  pub over : i < x.index
  pub most : x.index ≤ high
  pub alone : (me : ℕ) → reds_of me c i x.index b ≡ one_of (from_place me 0 (queue_in b) x.place)

-- None is held there, or that one is.
abbrev pub NextRed : (c i high : ℕ) → List ℕ → Maybe Red → Type 0
NextRed c i high b r = MatchOption r ((me : ℕ) → reds_of me c i high b ≡ []) (IsNextRed c i high b)

-- ---- the plan's parts, of the state that the buffer b holds

-- It holds what its bytes say.
pub record Stated (b : List ℕ) : Type 0 where
  pub holds : Holds (decoded b) b
  pub queue : QueueIn b

-- The table t of its queue, and its server's number.
pub record Resends (t : List ℕ) (me : ℕ) (b : List ℕ) : Type 0 where
  pub stated : Stated b
  pub table : TableOf t b
  pub mine : OwnNumber me b

unfoldable pub green_part : List ℕ → List Record
green_part b = resend_green (decoded b).me (white_in b) (decoded b).log (collected (decoded b))

unfoldable pub red_part : List ℕ → ℕ → List Record
red_part b c = resend_red (decoded b).me (white_in b) (decoded b).log (collected (decoded b)) c

-- Of the first n creators.
unfoldable pub red_parts : List ℕ → ℕ → List Record
red_parts b n = gather_all (red_part b) (below n)

abbrev pub all_reds : List ℕ → List Record
all_reds b = red_parts b (servers_in b)

unfoldable pub whole_part : List ℕ → List Record
whole_part b = green_part b ++ all_reds b

-- The part of the state s.
abbrev pub part_in : Server → List Record
part_in s = own_part s.servers s.me s.white s.log (collected s)
