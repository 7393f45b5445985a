-- A burst is its single steps one after another.
use Rattle.std.specs.Prelude.{ℕ, ◌≤◌, ◌<◌, ◌≡◌, Bool, true, false, List, [], ◌∷◌, length, take, drop}
use Rattle.base.specs.Tests.{◌and◌, ◌=?◌, pick}
use Rattle.base.specs.Bytes.{joined}
use Rattle.base.specs.Lists.{Each}
use Rattle.image.specs.Outcome.{Result, refusal, step_on, state_number}
use Rattle.daemons.specs.Buffers.{is_recovery}
use Rattle.daemons.specs.Sending.{first_size}
use Rattle.burst.specs.Next.{Event, Stop}
use Rattle.burst.specs.Burst.{next_of, Burst, silent, burst_on}

-- Both buffers with nothing done yet.
abbrev pub untouched : (state out : List ℕ) → Result
untouched b o = refusal 0 b o

-- The step's answer to the last of these events, each given the buffers that the one before it left.
unfoldable pub steps_after : Result → List (List ℕ) → Result
steps_after r [] = r
steps_after r (e ∷ es) = steps_after (step_on r.state e r.out) es

-- Why a burst stops behind what it has taken: `rest` is what is left of the slice, and `first` says that nothing is taken.
pub data Stops (first : Bool) (rest : List ℕ) (x : Burst) : Type 0 where
  -- The buffers are refused, before any event.
  unready : first ≡ true → state_number x.state x.out ≡ x.number → (x.number ≡ 0 → ⊥) → Stops first rest x
  -- The last event has stored or put out records.
  spoke : x.number ≡ 0 → (x.store =? 0 and x.sent =? 0) ≡ false → Stops first rest x
  -- No event that may be taken comes next: the slice ends, the event is cut short, or it is a recovery behind another event.
  halted : next_of first rest ≡ Stop x.number → Stops first rest x
  -- The step refuses the next event with this number.
  refused : (m : ℕ) → next_of first rest ≡ Event m → (step_on x.state (take m rest) x.out).number ≡ x.number
      → (x.number ≡ 0 → ⊥) → Stops first rest x

-- The burst x of the slice e, from the buffers b and o; whether its first event stands first.
pub record IsSteps (first : Bool) (b e o : List ℕ) (x : Burst) : Type 0 where
  -- The events taken: so many, so many bytes of the slice's front, each as long as its length bytes say, no recovery behind another event.
  pub taken : List (List ℕ)
  pub count : length taken ≡ x.events
  pub inside : x.bytes ≤ length e
  pub cut : joined taken ≡ take x.bytes e
  pub sizes : Each (λ v. first_size v ≡ length v) taken
  pub running : Each (λ v. is_recovery v ≡ false) (pick first (drop 1 taken) taken)
  -- Given one after another to the step, the last gets number 0 with this store word and length, and leaves these buffers ..
  pub steps : steps_after (untouched b o) taken ≡ record { number = 0; store = x.store; sent = x.sent; state = x.state; out = x.out }
  -- .. and each one before it gets number 0, and neither stores nor puts out anything.
  pub before : (k : ℕ) → k < length taken
      → ((steps_after (untouched b o) (take k taken)).number ≡ 0) × (silent (steps_after (untouched b o) (take k taken)) ≡ true)
  pub stops : Stops (first and x.events =? 0) (drop x.bytes e) x

unfoldable pub BurstIsSteps : Type 0
BurstIsSteps = (b e o : List ℕ) → IsSteps true b e o (burst_on b e o)
