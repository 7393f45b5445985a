-- The records that stand one behind the other at the front of the outgoing buffer.
use Rattle.std.specs.Prelude.{ℕ, zero, suc, ◌+◌, List, [], ◌∷◌, length, take, drop}
use Rattle.base.specs.Tests.{◌<?◌, pick}
use Rattle.base.specs.Bytes.{number_at}
use Rattle.format.specs.Places.{length_size}

-- The first record's size, by its length bytes.
abbrev pub first_size : List ℕ → ℕ
first_size b = number_at length_size b 0 + length_size

-- Bytes cut into records by their length bytes; the first argument bounds how many.
unfoldable pub cut_from : ℕ → List ℕ → List (List ℕ)
cut_from zero b = []
cut_from (suc d) b = pick (length b <? length_size) [] (take (first_size b) b ∷ cut_from d (drop (first_size b) b))

unfoldable pub cut_records : List ℕ → List (List ℕ)
cut_records b = cut_from (length b) b
