-- A run as rows: events in hexadecimal, with the lines that they print, and crashes.
use Prim.Native.Nat.{ℕ, ◌+◌, ◌-◌, ◌*◌}
use Prim.Native.String.{String}
use mathlib.Core.List.{List, [], ◌∷◌, ◌++◌}
use Rattle.base.specs.Tests.{◌<?◌, pick}
use Rattle.base.specs.Text.{ascii}
use Rattle.format.specs.Setup.{Setup, write_setup}
use Rattle.replication.specs.Runs.Run.{event, crash, Run}

-- The value of a digit 0 to 9 or a to f, by its code.
unfoldable pub digit : ℕ → ℕ
digit c = pick (c <? 58) (c - 48) (c - 87)

unfoldable pub pairs_of : List ℕ → List ℕ
pairs_of [] = []
pairs_of (a ∷ []) = []
pairs_of (a ∷ b ∷ cs) = (digit a * 16 + digit b) ∷ pairs_of cs

-- The bytes that a text of two digits to a byte says.
unfoldable pub hex : String → List ℕ
hex t = pairs_of (ascii t)

-- An event all of whose records are sent, one whose first few are, and a crash, which `replay` does not hear of.
pub data Row : Type 0 where
  row : (server : ℕ) (event line : String) → Row
  cut : (server sent : ℕ) (event line : String) → Row
  down : (server : ℕ) → Row

-- The input after the set-up record, and the lines after the header.
unfoldable pub events_in : List Row → List ℕ
events_in [] = []
events_in (row k e t ∷ rows) = k ∷ (hex e ++ events_in rows)
events_in (cut k m e t ∷ rows) = k ∷ (hex e ++ events_in rows)
events_in (down k ∷ rows) = events_in rows

unfoldable pub lines_in : List Row → List ℕ
lines_in [] = []
lines_in (row k e t ∷ rows) = ascii t ++ (ascii "\n" ++ lines_in rows)
lines_in (cut k m e t ∷ rows) = ascii t ++ (ascii "\n" ++ lines_in rows)
lines_in (down k ∷ rows) = lines_in rows

unfoldable pub input_of : Setup → List Row → List ℕ
input_of s rows = write_setup s ++ events_in rows

unfoldable pub output_of : List Row → List ℕ
output_of rows = ascii "event server returned state red green prim sent\n" ++ lines_in rows

-- More records than one event of these runs sends.
abbrev every_record : ℕ
every_record = 256

unfoldable pub run_of : List Row → Run
run_of [] = []
run_of (row k e t ∷ rows) = event k (hex e) every_record ∷ run_of rows
run_of (cut k m e t ∷ rows) = event k (hex e) m ∷ run_of rows
run_of (down k ∷ rows) = crash k ∷ run_of rows
