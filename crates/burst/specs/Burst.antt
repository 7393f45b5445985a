-- Events that stand one behind another in one slice, taken in order: what comes next in it, and what a burst answers.
use Rattle.std.specs.Prelude.{ℕ, zero, suc, ◌+◌, ◌≤◌, Bool, true, false, List, length, take, drop}
use Rattle.base.specs.Tests.{◌and◌, ◌<?◌, ◌=?◌, pick}
use Rattle.base.specs.Refusals.{bad_record}
use Rattle.format.specs.Places.{length_size}
use Rattle.image.specs.Outcome.{Result, step_on, state_number}
use Rattle.daemons.specs.Buffers.{is_recovery}
use Rattle.daemons.specs.Sending.{first_size}
use Rattle.burst.specs.declared.BurstAnswer.{BurstAnswer}
use Rattle.burst.specs.Next.{Next}
use Rattle.burst.specs.Next.{Event, Stop}

-- ---- what comes next

-- "one cut short by the slice's end is not taken: number 1 where it stands first, 0 behind a taken one"
unfoldable pub cut_short : (first : Bool) → Next
cut_short f = pick f (Stop bad_record) (Stop 0)

-- An event of so many bytes, or the number with which the burst stops; whether it would stand first. "An event ends where its two length bytes say";
-- "a recovery is taken only where it stands first; behind another event the burst stops before it with 0".
unfoldable pub next_of : (first : Bool) → List ℕ → Next
next_of f e =
    pick (length e <? 1) (Stop 0)
    (pick (length e <? length_size) (cut_short f)
    (pick (length e <? first_size e) (cut_short f)
    (pick f (Event (first_size e)) (pick (is_recovery (take (first_size e) e)) (Stop 0) (Event (first_size e))))))

-- An event that comes next has its length bytes, and ends within the slice.
unfoldable pub EndsIn : Next → List ℕ → Type 0
EndsIn (Event m) e = (length_size ≤ m) × (m ≤ length e)
EndsIn (Stop k) e = Unit {0}

-- ---- the burst

-- The number of the event that it stopped at (0: none was refused), how many events and bytes were taken, store word and length of records of the
-- last of them, and both buffers afterwards.
pub record Burst : Type 0 where
  pub number : ℕ
  pub events : ℕ
  pub bytes : ℕ
  pub store : ℕ
  pub sent : ℕ
  pub state : List ℕ
  pub out : List ℕ

-- Nothing is taken.
unfoldable pub stopped : (number : ℕ) → (state out : List ℕ) → Burst
stopped k b o = record { number = k; events = 0; bytes = 0; store = 0; sent = 0; state = b; out = o }

-- The event of m bytes with the result r is taken, and is the last.
unfoldable pub ended : (m : ℕ) → Result → Burst
ended m r = record { number = 0; events = 1; bytes = m; store = r.store; sent = r.sent; state = r.state; out = r.out }

-- x, behind n events of m bytes together that have stored and put out nothing.
unfoldable pub behind : (n m : ℕ) → Burst → Burst
behind n m x = record {
  number = x.number;
  events = n + x.events;
  bytes = m + x.bytes;
  store = x.store;
  sent = x.sent;
  state = x.state;
  out = x.out;
}

-- A step that has stored and put out nothing.
unfoldable pub silent : Result → Bool
silent r = r.store =? 0 and r.sent =? 0

-- An event of m bytes with the result r, over the buffers b and o, and `rest` behind it: "events are taken in order until one stores or puts out
-- records (that one is the last taken), the next one is refused, or the slice ends".
unfoldable pub after_step : (b o : List ℕ) → (m : ℕ) → Result → (rest : Burst) → Burst
after_step b o m r rest = pick (r.number =? 0) (pick (silent r) (behind 1 m rest) (ended m r)) (stopped r.number b o)

-- By what comes next.
unfoldable pub by_next : {A : Type 0} → Next → (stop event : ℕ → A) → A
by_next (Stop k) s t = s k
by_next (Event m) s t = t m

-- The steps of the events in e, by `step_on`; the first argument bounds how many.
unfoldable pub burst_from : ℕ → (first : Bool) → (state events out : List ℕ) → Burst
burst_from zero f b e o = stopped 0 b o
burst_from (suc d) f b e o =
    by_next (next_of f e) (λ k. stopped k b o)
    (λ m. after_step b o m (step_on b (take m e) o)
    (burst_from d false (step_on b (take m e) o).state (drop m e) (step_on b (take m e) o).out))

-- Each event takes a byte at least.
unfoldable pub burst_all : (state events out : List ℕ) → Burst
burst_all b e o = burst_from (suc (length e)) true b e o

-- The burst over the buffers: "7, then 8, are tested first".
unfoldable pub burst_on : (state events out : List ℕ) → Burst
burst_on b e o = pick (state_number b o =? 0) (burst_all b e o) (stopped (state_number b o) b o)

-- The code's answer where it stops with this number behind so many events and bytes.
abbrev pub stopped_behind : (number events bytes : ℕ) → BurstAnswer
stopped_behind k n m = record { number = k; store = 0; sent = 0; events = n; bytes = m }

-- What the code leaves: its answer, and both buffers afterwards.
unfoldable pub left : BurstAnswer → List ℕ → List ℕ → Burst
left a b o =
    record { number = a.number; events = a.events; bytes = a.bytes; store = a.store; sent = a.sent; state = b; out = o }
