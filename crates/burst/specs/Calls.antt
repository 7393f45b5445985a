-- Calls of daemons where one call may take several events: the run that they make, and what is kept before each of them.
use Rattle.std.specs.Prelude.{ℕ, zero, suc, ◌<◌, ◌≡◌, Bool, List, [], ◌∷◌, ◌++◌, map, length, take, drop}
use Rattle.std.proofs.Math.Option.{Option-elim}
use Rattle.base.specs.Tests.{◌≤?◌, ◌=?◌, pick}
use Rattle.base.specs.Lists.{at}
use Rattle.replication.specs.Runs.Run.{Entry, event, Run}
use Rattle.daemons.specs.Sending.{cut_records}
use Rattle.burst.specs.Burst.{next_of, by_next}

-- One entry of the run by itself (an event by the step, a crash, a store); or events of one server, one behind another in one slice, by one burst,
-- with how many records of the last one taken are sent.
pub data Call : Type 0 where
  alone : Entry → Call
  together : (server : ℕ) (events : List ℕ) (sent : ℕ) → Call

-- ---- the events of a burst

-- The event that comes next, if any; whether it would stand first.
unfoldable pub next_event : (first : Bool) → List ℕ → List (List ℕ)
next_event f e = by_next (next_of f e) (λ k. []) (λ m. take m e ∷ [])

-- Those that came by a burst of the slice e with this number, which took so many events and bytes: the events that it took, cut by their length
-- bytes, and behind them the one that it refused. One that is cut short has not come. (7 and 8 refuse the buffers before any event; where these are
-- long enough and the run is allowed neither occurs.)
unfoldable pub came_by : (number events bytes : ℕ) → (slice : List ℕ) → List (List ℕ)
came_by k n m e = cut_records (take m e) ++ pick (k =? 0) [] (next_event (n =? 0) (drop m e))

-- As entries of the run. All but the last one taken put out nothing, so that the number of records sent counts for that one alone.
unfoldable pub events_at : (server sent : ℕ) → List (List ℕ) → Run
events_at i k l = map (λ v. event i v k) l

-- Which of a burst's events stands at m, with what is said of its step in each case: a taken one with another taken behind it, the last one taken,
-- or the one that is refused.
pub data IsStep (number events m : ℕ) (Before Last Refused : Type 0) : Type 0 where
  before : suc m < events → Before → IsStep number events m Before Last Refused
  last : suc m ≡ events → Last → IsStep number events m Before Last Refused
  refused : m ≡ events → (number ≡ 0 → ⊥) → Refused → IsStep number events m Before Last Refused

-- ---- calls one after another

-- What is kept before the first call; what a call makes of it, and its entries of the run, by the number of the call and what is kept before it; and
-- the calls.
pub record System (K : Type 0) : Type 0 where
  pub first : K
  pub after : ℕ → K → Call → K
  pub entries : ℕ → K → Call → Run
  pub calls : List Call

module _ {K : Type 0} (s : System K) where
  -- Before the call j.
  unfoldable pub kept_at : ℕ → K
  kept_at zero = s.first
  kept_at (suc j) = Option-elim (at s.calls j) (kept_at j) (λ c. s.after j (kept_at j) c)

  -- The entries of the calls before the call j.
  unfoldable pub ran_to : ℕ → Run
  ran_to zero = []
  ran_to (suc j) = ran_to j ++ Option-elim (at s.calls j) [] (λ c. s.entries j (kept_at j) c)

  -- The place of the run at which the call j begins.
  unfoldable pub place_of : ℕ → ℕ
  place_of j = length (ran_to j)

  unfoldable pub ran_by : Run
  ran_by = ran_to (length s.calls)

  -- The last call up to j that begins at the place p or before it.
  unfoldable pub call_to : (p j : ℕ) → ℕ
  call_to p zero = zero
  call_to p (suc j) = pick (place_of (suc j) ≤? p) (suc j) (call_to p j)

  -- The call that the place p belongs to.
  unfoldable pub call_of : ℕ → ℕ
  call_of p = call_to p (length s.calls)
