-- Lines behind a text.
use Rattle.std.specs.Prelude.{ℕ, ◌+◌, ◌≤◌, ◌≡◌, List, [], ◌∷◌, ◌++◌, length}
use Rattle.base.specs.Text.{ascii, decimal}
use Rattle.replication.specs.Replay.{mode_name, line}
use Rattle.image.specs.Decode.{mode_named}
use Rattle.replay_lines.specs.declared.line.Shown.{Shown}

-- The text o is followed by w, of at most so many bytes.
pub record Put (w : List ℕ) (size : ℕ) (o o' : List ℕ) : Type 0 where
  pub text : o' ≡ o ++ w
  pub most : length o' ≤ length o + size

-- The most bytes that a line takes.
abbrev pub line_room : ℕ
line_room = 164

-- A word and a space; a word and the line's end.
unfoldable pub spaced : List ℕ → List ℕ
spaced w = w ++ ascii " "

unfoldable pub ended : List ℕ → List ℕ
ended w = w ++ ascii "\n"

abbrev pub pair_text : (v w : ℕ) → List ℕ
pair_text v w = spaced (decimal v) ++ spaced (decimal w)

-- An event's line.
unfoldable pub shown_line : Shown → List ℕ
shown_line s =
    line
    (decimal s.number
    ∷ decimal s.server
    ∷ decimal s.returned
    ∷ mode_name (mode_named s.mode)
    ∷ decimal s.red
    ∷ decimal s.green
    ∷ decimal s.prim
    ∷ decimal s.sent
    ∷ [])
