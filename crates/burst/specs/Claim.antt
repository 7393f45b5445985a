-- Daemons that take events by bursts keep what daemons keep that take each event of the same run by the step: so what is proved of these holds of
-- them.
use Rattle.std.specs.Prelude.{ℕ, suc, ◌+◌, ◌≤◌, ◌<◌, ◌≡◌, false, List, [], length, take, drop}
use Rattle.std.proofs.Math.Option.{some}
use Rattle.base.specs.Lists.{at, Begins}
use Rattle.format.specs.Types.{Action}
use Rattle.replication.specs.Runs.Run.{event, put_out, sent_at}
use Rattle.replication.specs.Runs.Strays.{AllowedWithStraysUp}
use Rattle.replication.specs.Runs.Claim.{ListsAgree, PrimariesAgree, stored_green, memory_green, green_at, IsPrimary}
use Rattle.image.specs.Decode.{greens_in, white_in}
use Rattle.image.specs.Outcome.{Result, refusal}
use Rattle.daemons.specs.Buffers.{step_in}
use Rattle.daemons.specs.Sending.{cut_records}
use Rattle.daemons.specs.Daemons.{Daemons, Lending, LongEnough}
use Rattle.daemons.specs.Claim.{primary_in, HistoryIn, shown, HeldBy}
use Rattle.burst.specs.Burst.{Burst}
use Rattle.burst.specs.Calls.{Call, together, IsStep, kept_at, place_of, ran_by, call_of}
use Rattle.burst.specs.Daemons.{burst_in, came_in, LongEnoughFor, system, by_places, stepwise}

-- The step's answer r to the event at m of the burst y: before the last one taken it has stored and put out nothing, the last one's is the burst's,
-- and the one that is refused gets the burst's number.
abbrev pub AnswersAs : Burst → (m : ℕ) → Result → Type 0
AnswersAs y m r =
    IsStep y.number y.events m ((r.number ≡ 0) × (r.store ≡ 0) × (r.sent ≡ 0))
    (r ≡ record { number = 0; store = y.store; sent = y.sent; state = y.state; out = y.out }) (r ≡ refusal y.number y.state y.out)

module _ (n q : ℕ) (cs : List Call) (x : Lending) where
  -- Before the call j, and the place of the run at which it begins.
  abbrev daemons : ℕ → Daemons
  daemons j = kept_at (system n q cs x) j

  abbrev place : ℕ → ℕ
  place j = place_of (system n q cs x) j

  -- Of all calls, whether their run is allowed or not.
  pub record CallsFollow : Type 0 where
    pub kept : (j : ℕ) → daemons j ≡ stepwise n q cs x (place j)
    -- The places of a call are those from its own up to the next one's.
    pub call : (j p : ℕ) → place j ≤ p → p < place (suc j) → call_of (system n q cs x) p ≡ j
    -- As many events came by a burst as it says that it took ..
    pub taken : (j i k m : ℕ) (e : List ℕ) (y : Burst) → at cs j ≡ some (together i e k) → burst_in ((daemons j).buffers i) e (x.out j) ≡ y
        → m < y.events → (v : List ℕ) × (at (came_in y e) m ≡ some v)
    -- .. and all that came stand at its places, and their steps answer as the burst does.
    pub steps : (j i k m : ℕ) (e v : List ℕ) (y : Burst) → at cs j ≡ some (together i e k)
        → burst_in ((daemons j).buffers i) e (x.out j) ≡ y
        → at (came_in y e) m ≡ some v
        → (at (ran_by (system n q cs x)) (place j + m) ≡ some (event i v k))
        × AnswersAs y m (step_in ((stepwise n q cs x (place j + m)).buffers i) v (x.out j))
    pub long : LongEnoughFor n q cs x → LongEnough n q (ran_by (system n q cs x)) (by_places n q cs x)

  -- What the bytes say: how many of a server's green actions are white, and its green list, their places blank.
  abbrev whites : ℕ → ℕ → ℕ
  whites j i = white_in (shown (daemons j) i)

  abbrev greens : ℕ → ℕ → List Action
  greens j i = greens_in (shown (daemons j) i)

  -- Whole green histories before the call j, by the run that the calls make.
  abbrev green_before : ℕ → ℕ → List Action
  green_before j i = green_at n q (ran_by (system n q cs x)) (place j) i

  abbrev stored_before : ℕ → ℕ → List Action
  stored_before j i = stored_green n q (ran_by (system n q cs x)) (place j) i

  abbrev memory_before : ℕ → ℕ → List Action
  memory_before j i = memory_green n q (ran_by (system n q cs x)) (place j) i

  -- What is read from the buffers before the calls agrees, and what is sent is what the run says. Green lists are the servers' whole histories, by
  -- the run alone, and each is that of its server's buffer, in which as many are white as in the machine's state, by `CallsFollow` and
  -- `BuffersFollow`.
  pub record CallsAgree : Type 0 where
    pub history : (j i : ℕ) → i < n → HistoryIn (shown (daemons j) i) (green_before j i)
    pub stored_history : (j i : ℕ) → i < n → HistoryIn ((daemons j).buffers i).store (stored_before j i)
    pub running_history : (j i : ℕ) → i < n → (daemons j).down i ≡ false → HistoryIn ((daemons j).buffers i).state (memory_before j i)
    -- "equal exactly when equally long, else the shorter begins the longer"
    pub green : (j i k : ℕ) → i < n → k < n → ListsAgree (green_before j i) (green_before j k)
    -- So the bytes agree, from any place on that is white in neither.
    pub shown_green_lem : (j i k w : ℕ) → i < n → k < n → whites j i ≤ w → whites j k ≤ w
        → w ≤ length (greens j i) → w ≤ length (greens j k)
        → ListsAgree (drop w (greens j i)) (drop w (greens j k))
    -- "two primary components are equal, members and all, exactly when their indexes are"
    pub primary : (j r i k : ℕ) (b c : List ℕ) → i < n → k < n → HeldBy (daemons j) i b → HeldBy (daemons r) k c
        → PrimariesAgree (primary_in b) (primary_in c)
    -- Each of them is one of the run's primary components.
    pub known : (j i : ℕ) (b : List ℕ) → i < n → HeldBy (daemons j) i b → IsPrimary n q (ran_by (system n q cs x)) (primary_in b)
    -- "Stored green lists agree likewise at different moments"
    pub stored : (j r i k : ℕ) → i < n → k < n → ListsAgree (stored_before j i) (stored_before r k)
    -- What is green in a stored image keeps its place: later it agrees with the buffer of any server that is up, and no stored image loses it.
    pub later : (j r i k : ℕ) → j ≤ r → i < n → k < n → (daemons r).down k ≡ false
        → ListsAgree (stored_before j i) (memory_before r k)
    pub kept : (j r i : ℕ) → j ≤ r → i < n → Begins (stored_before j i) (stored_before r i)
    -- Document 02, K6: what a burst turns white was green in its server's stored image before it, and in its buffer: a daemon that reads after each
    -- burst what is green behind the length before it is never refused.
    pub white_stored : (j i k m : ℕ) (e : List ℕ) (y : Burst) → i < n → at cs j ≡ some (together i e k)
        → burst_in ((daemons j).buffers i) e (x.out j) ≡ y
        → suc m ≡ y.events → white_in y.state ≤ length (greens_in ((daemons j).buffers i).store)
    pub white_read : (j i k m : ℕ) (e : List ℕ) (y : Burst) → i < n → (daemons j).down i ≡ false → at cs j ≡ some (together i e k)
        → burst_in ((daemons j).buffers i) e (x.out j) ≡ y
        → suc m ≡ y.events → white_in y.state ≤ length (greens_in ((daemons j).buffers i).state)
    -- The first k records that a burst leaves in the outgoing buffer are those that the run says were sent, by the last event taken ..
    pub sent : (j i k m : ℕ) (e : List ℕ) (y : Burst) → at cs j ≡ some (together i e k) → burst_in ((daemons j).buffers i) e (x.out j) ≡ y
        → suc m ≡ y.events → take k (cut_records (take y.sent y.out)) ≡ sent_at n q (ran_by (system n q cs x)) (place j + m)
    -- .. and its other events put out nothing.
    pub unsent : (j i k m : ℕ) (e v : List ℕ) (y : Burst) → at cs j ≡ some (together i e k)
        → burst_in ((daemons j).buffers i) e (x.out j) ≡ y
        → at (came_in y e) m ≡ some v → (suc m ≡ y.events → ⊥) → put_out n q (ran_by (system n q cs x)) (place j + m) ≡ []

unfoldable pub BurstsFollow : Type 0
BurstsFollow = (n q : ℕ) (cs : List Call) (x : Lending) → CallsFollow n q cs x

-- Demand 3 on the buffers of daemons that take events by bursts: for any bytes in the lent buffers, if they are long enough.
unfoldable pub BurstsAgree : Type 0
BurstsAgree =
    (n q : ℕ) (cs : List Call) (x : Lending) → AllowedWithStraysUp n q (ran_by (system n q cs x)) → LongEnoughFor n q cs x
    → CallsAgree n q cs x
