-- What the code tests of the slots of a register's buffer b, each slot once.
use Rattle.std.specs.Prelude.{ℕ, ◌+◌, ◌*◌, ◌-◌, ◌/◌, ◌≤◌, ◌≡◌, Bool, true, List, length}
use Rattle.base.specs.Tests.{◌and◌, ◌≤?◌, ◌=?◌, pick}
use Rattle.base.specs.Bytes.{Bytes, number_at, zero_at}
use Rattle.base.specs.Lists.{every_at}
use Rattle.pegs.specs.Names.{before}
use Rattle.pegs.specs.Operations.{most_name, name_fits}
use Rattle.pegs.specs.Register.{most_pegs}
use Rattle.pegs.specs.Image.{count_size, at_slot_name, peg_size, peg_at, peg_count}

-- Where the slot i begins.
abbrev pub slot_at : ℕ → ℕ
slot_at i = count_size + peg_size * i

-- Names are compared by words of four bytes; so many are a name with its filling.
abbrev pub word_size : ℕ
word_size = 4

abbrev pub name_words : ℕ
name_words = most_name / word_size

-- Fillings are tested by two words at once.
abbrev pub long_size : ℕ
long_size = 2 * word_size

-- Zeros stand behind a name of k bytes, in the slot at `at`.
unfoldable pub filled_at : List ℕ → (k at : ℕ) → Bool
filled_at b k at = every_at (zero_at b) 1 (most_name - k) (at + at_slot_name + k)

-- The slot at `at`: a name of 1 to 24 bytes, and its filling.
unfoldable pub slot_reads : List ℕ → ℕ → Bool
slot_reads b at = name_fits (number_at 1 b at) and filled_at b (number_at 1 b at) at

-- The slot behind the one at `at`, and the name at `at` stands before its name.
unfoldable pub next_reads : List ℕ → ℕ → Bool
next_reads b at = slot_reads b (at + peg_size) and before (peg_at b at).name (peg_at b (at + peg_size)).name

-- The slots of m pegs from `at` on.
unfoldable pub slots_read : List ℕ → (m at : ℕ) → Bool
slots_read b m at = pick (m =? 0) true (slot_reads b at and every_at (next_reads b) peg_size (m - 1) at)

unfoldable pub checks : List ℕ → Bool
checks b = peg_count b ≤? most_pegs and slots_read b (peg_count b) count_size

-- ---- what the code rests on

-- The slot at `at` is whole, and was tested.
pub record Tested (b : List ℕ) (at : ℕ) : Type 0 where
  pub bytes : Bytes b
  pub room : at + peg_size ≤ length b
  pub reads : slot_reads b at ≡ true
