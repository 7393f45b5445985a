-- What comes next in a slice of events.
use Rattle.std.specs.Prelude.{ℕ, Option, Some, None, Result, Ok, Err}
use Rattle.refusals.specs.declared.Refusal.{Refusal}
use Rattle.refusals.specs.Numbers.{refusal_number}

-- An event of so many bytes, or the number with which the burst stops.
pub data Next : Type 0 where
  Event : (size : ℕ) → Next
  Stop : (number : ℕ) → Next

-- As the code answers it: the burst stops with 0 where no event comes next that may be taken.
abbrev pub next_as : Result (Option ℕ) Refusal → Next
next_as (Ok (Some m)) = Event m
next_as (Ok None) = Stop 0
next_as (Err r) = Stop (refusal_number r)
