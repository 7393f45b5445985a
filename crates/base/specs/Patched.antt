-- A list with a part of it replaced by another of the same length.
use Rattle.std.specs.Prelude.{ℕ, ◌+◌, List, ◌++◌, length, take, drop}

-- s with b for its elements from `at` on
unfoldable pub patched : {A : Type 0} → ℕ → List A → List A → List A
patched at b s = take at s ++ (b ++ drop (at + length b) s)
