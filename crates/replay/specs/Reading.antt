-- What the program keeps of its input.
use Rattle.std.specs.Prelude.{ℕ, ◌+◌, ◌≤◌, ◌<◌, ◌≡◌, ⊤, Option, MatchOption, List, ◌++◌, length, take}
use Rattle.base.specs.Tests.{◌=?◌}
use Rattle.replay_lines.specs.Input.{event_room}
use Rattle.replay.specs.declared.input.Input.{Input}

-- The most bytes of the input, and of lines, that are kept.
abbrev pub input_room : ℕ
input_room = 131072

abbrev pub lines_room : ℕ
lines_room = 16384

-- Where more is asked for, the bytes taken are there, and what is left is less than a whole event.
abbrev pub Fed : Option ℕ → (input : List ℕ) → Type 0
Fed r input = MatchOption r ⊤ (λ taken. (taken ≤ length input) × (length input < taken + event_room))

-- What was read stands behind the old bytes; the input has ended where nothing was read.
pub record Refilled (old : List ℕ) (r : Input) : Type 0 where
  pub read : List ℕ
  pub bytes : take r.count r.bytes ≡ old ++ read
  pub ended : r.ended ≡ (length read =? 0)
