-- The lists of a state in its buffer: what the code that changes them in place goes by.
use Rattle.std.specs.Prelude.{ℕ, ◌+◌, ◌*◌, ◌≤◌, ◌<◌, List, ◌≡◌, ◌⊎◌, length, true}
use Rattle.base.specs.Bytes.{bytes_of}
use Rattle.base.specs.Lists.{Begins}
use Rattle.format.specs.Limits.{most_payload_limit}
use Rattle.format.specs.Places.{id_size}
use Rattle.record.specs.declared.ActionHead.{ActionHead}
use Rattle.replication.specs.Machine.Types.{Log, Votes, Configuration, Membership, Server, no_states, Mode, with_votes}
use Rattle.replication.specs.Machine.WellFormed.{queue}
use Rattle.image.specs.Layout.{header_size, state_size, the_states, at_own_count, at_numbered, at_queue_length, at_yellow_count}
use Rattle.image.specs.Decode.{servers_in, quota_in}
use Rattle.image.specs.Counts.{place, most_actions, CountsIn}
use Rattle.record.specs.declared.State.{State}
use Rattle.image.specs.Header.{header_of, header_in, shown_log, mode_number}
use Rattle.image.specs.Image.{image}
use Rattle.image.specs.Holding.{Holds, HoldsSuch, Becomes}
use Rattle.replication.specs.Machine.Colours.{join_yellow, shown}
use Rattle.replication.specs.Machine.Requests.{quota_left}
use Rattle.replication.specs.Machine.Step.{with_state}
use Rattle.format.specs.Types.{Id, State as Sent, state}
use Rattle.format.specs.Write.{write, id_bytes}
use Rattle.base.specs.Patched.{patched}

unfoldable pub configuration_of : (id set : ℕ) → Configuration
configuration_of id set = record { id = id; set = set }

-- The next own action but its payload: the server's number, the next index, the lengths of the green history and of its white part.
unfoldable pub next_head : Server → ActionHead
next_head s = record {
  creator = s.me;
  index = s.log.numbered + 1;
  green_length = length s.log.green;
  white_length = s.white;
}

-- Room for a yellow list of these bytes.
pub record YellowRoom (e b : List ℕ) : Type 0 where
  pub counts : CountsIn b
  pub short : length e ≤ id_size * most_actions b

-- A server's number.
pub record NumberIn (k : ℕ) (b : List ℕ) : Type 0 where
  pub counts : CountsIn b
  pub below : k < servers_in b

-- How long the slot of a collected State is.
abbrev pub state_slot : List ℕ → ℕ
state_slot b = state_size (servers_in b) (quota_in b)

-- Where the slot of server k begins.
unfoldable pub state_place : (k : ℕ) → List ℕ → ℕ
state_place k b = place the_states b + k * state_slot b

-- The record e has room in the slot of server k.
pub record CollectRoom (k : ℕ) (e b : List ℕ) : Type 0 where
  pub number : NumberIn k b
  pub short : length e ≤ state_slot b

abbrev pub MayNumber : Server → Type 0
MayNumber s = quota_left s ≡ true

-- A request with the payload p may be numbered.
pub record PayloadRoom (p b : List ℕ) : Type 0 where
  pub holds : HoldsSuch MayNumber b
  pub short : length p ≤ most_payload_limit

-- Room for a slot of this size with the payload p from `at` on.
pub record SlotRoom (size at : ℕ) (p b : List ℕ) : Type 0 where
  pub short : length p ≤ most_payload_limit
  pub room : at + size ≤ length b
  pub header : header_size ≤ length b

-- ---- other numbers and shorter lists

-- The state s with another log, other votes and another membership.
abbrev pub changed_to : Server → Log → Votes → Membership → Server
changed_to s l v m = record {
  servers = s.servers;
  quota = s.quota;
  me = s.me;
  log = l;
  votes = v;
  membership = m;
  noted = s.noted;
  white = s.white;
}

-- Its lists are those of s or beginnings of them, and its States are those of s or dropped: only numbers change in the buffer.
pub record Shortened (s : Server) (l : Log) (v : Votes) (m : Membership) : Type 0 where
  pub cuts : l.cuts ≡ s.log.cuts
  pub queued : queue (shown s.white l) ≡ queue (shown_log s)
  pub own : Begins l.own s.log.own
  pub yellow : Begins v.yellow.ids s.votes.yellow.ids
  pub states : (m.states ≡ s.membership.states) ⊎ (m.states ≡ no_states s.servers)

-- ---- what the contracts say

-- The numbers r are those of the state f s, where h are those of s.
abbrev pub NumbersOf : (Server → Server) → (h r : State) → Type 0
NumbersOf f h r = (s : Server) → h ≡ header_of s → r ≡ header_of (f s)

-- The numbers h of a changed state that is written by its numbers alone, from the bytes b to the bytes b'.
abbrev pub BecomesNumbered : (h : State) → (b b' : List ℕ) → Type 0
BecomesNumbered h b b' =
    (s : Server) (l : Log) (v : Votes) (m : Membership)
    → Holds s b → Shortened s l v m → h ≡ header_of (changed_to s l v m) → b' ≡ image (changed_to s l v m) b

-- The numbers that P says of those in b are written.
abbrev pub ChangedBy : (P : State → State → Type 0) → (b b' : List ℕ) → Type 0
ChangedBy P b b' = (h : State) × P (header_in b) h × BecomesNumbered h b b'

-- A change to the state of the number k.
abbrev pub BecomesIn : (k : ℕ) → (Mode → Server → Server) → (b b' : List ℕ) → Type 0
BecomesIn k f b b' = (s : Server) (m : Mode) → Holds s b → k ≡ mode_number m → b' ≡ image (f m s) b

-- The State of server k is in, whose bytes are e.
abbrev pub BecomesCollected : (k : ℕ) → (e b b' : List ℕ) → Type 0
BecomesCollected k e b b' = (s : Server) (x : Sent) → Holds s b → write (state x) ≡ e → x.sender ≡ k → b' ≡ image (with_state x s) b

-- The id d joins the yellow list, unless that is full.
abbrev pub BecomesYellow : Id → (b b' : List ℕ) → Type 0
BecomesYellow d b b' = Becomes (λ s. with_votes (join_yellow (s.servers * s.quota) d s.votes) s) b b'

-- ---- changes of the bytes b

-- The numbers of actions numbered, and on the own list.
abbrev pub own_counts : (numbered own : ℕ) → List ℕ → List ℕ
own_counts x y b = patched at_own_count (bytes_of 2 y) (patched at_numbered (bytes_of 2 x) b)

-- The number of actions in the queue, and none on the own list.
abbrev pub queue_counts : (count : ℕ) → List ℕ → List ℕ
queue_counts x b = patched at_own_count (bytes_of 2 0) (patched at_queue_length (bytes_of 4 x) b)

-- The id d from `at` on, and the number of yellow ids.
abbrev pub id_added : (at m : ℕ) → Id → List ℕ → List ℕ
id_added at m d b = patched at_yellow_count (bytes_of 2 m) (patched at (id_bytes d) b)
