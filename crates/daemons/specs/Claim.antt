-- Demand 3 on the buffers of daemons: what is claimed of them in every allowed run, refused events included.
use Rattle.std.specs.Prelude.{ℕ, suc, ◌≤◌, ◌<◌, ◌≡◌, false, List, length, take, drop}
use Rattle.std.proofs.Math.Option.{some}
use Rattle.base.specs.Tests.{pick}
use Rattle.base.specs.Bytes.{joined}
use Rattle.base.specs.Lists.{at, Begins}
use Rattle.format.specs.Types.{Action, Primary}
use Rattle.replication.specs.Images.{source_of, arrive}
use Rattle.replication.specs.Runs.Run.{event, Run, world_at, put_out, sent_at}
use Rattle.replication.specs.Runs.Strays.{AllowedWithStraysUp}
use Rattle.replication.specs.Runs.Claim.{ListsAgree, PrimariesAgree, stored_green, memory_green, green_at, IsPrimary, StaysUp}
use Rattle.image.specs.Decode.{decoded, read_image, greens_in, white_in}
use Rattle.image.specs.Holding.{blanked}
use Rattle.image.specs.Outcome.{Result, image_after, result_of}
use Rattle.daemons.specs.Buffers.{source_in, step_in}
use Rattle.daemons.specs.Sending.{cut_records}
use Rattle.daemons.specs.Daemons.{Daemons, Lending, LongEnough, daemons_at}

unfoldable pub primary_in : List ℕ → Primary
primary_in b = (decoded b).votes.last

-- Document 02, K6: "Green lists in the agreement are the whole history, white part included". The history g is that of the state in the buffer b:
-- it is as long as the green list that b says, and behind the white actions it is that list.
pub record HistoryIn (b : List ℕ) (g : List Action) : Type 0 where
  pub size : length g ≡ length (greens_in b)
  pub behind : drop (white_in b) g ≡ drop (white_in b) (greens_in b)

-- The buffer that a server's green list is read from: the stored image while it is down, else the state's buffer.
unfoldable pub shown : Daemons → ℕ → List ℕ
shown d i = pick (d.down i) (d.buffers i).store (d.buffers i).state

-- The buffers of the server i that hold a state: the state's while it is up, the stored image always.
pub data HeldBy (d : Daemons) (i : ℕ) : List ℕ → Type 0 where
  running : d.down i ≡ false → HeldBy d i (d.buffers i).state
  stored : HeldBy d i (d.buffers i).store

module _ (n q : ℕ) (l : Run) (x : Lending) where
  abbrev daemons : ℕ → Daemons
  daemons p = daemons_at n q l x p

  -- What the bytes say: how many of a server's green actions are white, and its green list, their places blank.
  abbrev whites : ℕ → ℕ → ℕ
  whites p i = white_in (shown (daemons p) i)

  abbrev greens : ℕ → ℕ → List Action
  greens p i = greens_in (shown (daemons p) i)

  -- The daemons do what the machine does; a buffer keeps the machine's state but for its white actions, which are blank there.
  pub record BuffersFollow : Type 0 where
    pub down : (p i : ℕ) → i < n → (daemons p).down i ≡ (world_at n q l p).down i
    pub state : (p i : ℕ) → i < n → (daemons p).down i ≡ false
        → read_image ((daemons p).buffers i).state ≡ some (blanked ((world_at n q l p).images i).memory)
    pub store : (p i : ℕ) → i < n → read_image ((daemons p).buffers i).store ≡ some (blanked ((world_at n q l p).images i).store)
    -- Number, store word and buffers are the machine's answer; no event gets 7 or 8.
    pub answer : (p i k : ℕ) (e : List ℕ) → at l p ≡ some (event i e k)
        → step_in ((daemons p).buffers i) e (x.out p)
        ≡ result_of (image_after (source_of ((world_at n q l p).images i) e) e) (arrive ((world_at n q l p).images i) e)
        (source_in ((daemons p).buffers i) e) (x.out p)
    -- The outgoing buffer begins with the records that the event puts out, one behind the other; cut by their length bytes they are these records,
    -- and the first k of them are those that the run says were sent.
    pub bytes : (p i k : ℕ) (e : List ℕ) (r : Result) → at l p ≡ some (event i e k) → step_in ((daemons p).buffers i) e (x.out p) ≡ r
        → take r.sent r.out ≡ joined (put_out n q l p)
    pub records : (p i k : ℕ) (e : List ℕ) (r : Result) → at l p ≡ some (event i e k) → step_in ((daemons p).buffers i) e (x.out p) ≡ r
        → cut_records (take r.sent r.out) ≡ put_out n q l p
    pub sent : (p i k : ℕ) (e : List ℕ) (r : Result) → at l p ≡ some (event i e k) → step_in ((daemons p).buffers i) e (x.out p) ≡ r
        → take k (cut_records (take r.sent r.out)) ≡ sent_at n q l p
    -- No buffer's length changes: each copy fits.
    pub state_length_lem : (p i : ℕ) → i < n → length ((daemons p).buffers i).state ≡ length (x.first i).state
    pub store_length : (p i : ℕ) → i < n → length ((daemons p).buffers i).store ≡ length (x.first i).store

  -- Green lists are the servers' whole histories, by the run alone, and each is that of its server's buffer, in which as many are white as in the
  -- machine's state, by `BuffersFollow`.
  pub record BuffersAgree : Type 0 where
    pub history : (p i : ℕ) → i < n → HistoryIn (shown (daemons p) i) (green_at n q l p i)
    pub stored_history : (p i : ℕ) → i < n → HistoryIn ((daemons p).buffers i).store (stored_green n q l p i)
    pub running_history : (p i : ℕ) → i < n → (daemons p).down i ≡ false → HistoryIn ((daemons p).buffers i).state (memory_green n q l p i)
    -- "equal exactly when equally long, else the shorter begins the longer"
    pub green : (p i j : ℕ) → i < n → j < n → ListsAgree (green_at n q l p i) (green_at n q l p j)
    -- So the bytes agree, from any place on that is white in neither.
    pub shown_green_lem : (p i j w : ℕ) → i < n → j < n → whites p i ≤ w → whites p j ≤ w
        → w ≤ length (greens p i) → w ≤ length (greens p j)
        → ListsAgree (drop w (greens p i)) (drop w (greens p j))
    -- The stored green list begins the one in memory.
    pub stored_first : (p i : ℕ) → Begins (stored_green n q l p i) (memory_green n q l p i)
    -- Document 02, K6: what an entry of the run turns white was green in every stored image before it, and in the server's own buffer: a daemon that
    -- reads after each event what is green behind the length before it is never refused, and what it read is the whole history.
    pub white_stored : (p i j : ℕ) → i < n → j < n → (daemons (suc p)).down i ≡ false
        → white_in ((daemons (suc p)).buffers i).state ≤ length (greens_in ((daemons p).buffers j).store)
    pub white_read : (p i : ℕ) → i < n → (daemons p).down i ≡ false → (daemons (suc p)).down i ≡ false
        → white_in ((daemons (suc p)).buffers i).state ≤ length (greens_in ((daemons p).buffers i).state)
    -- "two primary components are equal, members and all, exactly when their indexes are"
    pub primary : (p r i j : ℕ) (b c : List ℕ) → i < n → j < n → HeldBy (daemons p) i b → HeldBy (daemons r) j c
        → PrimariesAgree (primary_in b) (primary_in c)
    -- Each of them is one of the run's primary components: "the start's and each Install's".
    pub known : (p i : ℕ) (b : List ℕ) → i < n → HeldBy (daemons p) i b → IsPrimary n q l (primary_in b)
    -- "Stored green lists agree likewise at different moments"
    pub stored : (p r i j : ℕ) → i < n → j < n → ListsAgree (stored_green n q l p i) (stored_green n q l r j)
    -- What is green in a stored image keeps its place: later it agrees with the buffer of any server that is up, and no stored image loses it.
    pub later : (p r i j : ℕ) → p ≤ r → i < n → j < n → (daemons r).down j ≡ false
        → ListsAgree (stored_green n q l p i) (memory_green n q l r j)
    pub kept : (p r i : ℕ) → p ≤ r → i < n → Begins (stored_green n q l p i) (stored_green n q l r i)
    -- What is green in the buffer of a server, stored or not, keeps its place while that server stays up: at every server that then has as many.
    pub while_up : (p r i j k : ℕ) (a : Action) → p ≤ r → i < n → j < n → StaysUp n q l p r i
        → at (memory_green n q l p i) k ≡ some a → k < length (greens r j) → at (green_at n q l r j) k ≡ some a

-- Demand 3 on buffers: for any bytes in the lent buffers, if they are long enough. A crash loses the state's buffer, so stray events come to servers
-- that are up.
unfoldable pub BuffersDemand : Type 0
BuffersDemand =
    (n q : ℕ) (l : Run) → AllowedWithStraysUp n q l → (x : Lending) → LongEnough n q l x → BuffersFollow n q l x × BuffersAgree n q l x
