-- Text as bytes: names, and numbers in decimal.
use Rattle.std.specs.Prelude.{ℕ, zero, suc, ◌+◌, ◌/◌, ◌%◌, List, [], ◌∷◌}
use Prim.Native.Char.{code}
use Prim.Native.String.{String}

-- The characters' codes; of ASCII, its bytes.
unfoldable pub ascii : String → List ℕ
ascii String.[] = []
ascii (String.◌∷◌ c s) = code c ∷ ascii s

-- The digits of v, in front of `rest`; the first argument bounds their number.
unfoldable pub digits : ℕ → ℕ → List ℕ → List ℕ
digits zero v rest = rest
digits (suc d) v rest = elim (v / 10) [ zero ↦ (48 + v % 10) ∷ rest | suc w ↦ digits d (v / 10) ((48 + v % 10) ∷ rest) ]

-- The number in decimal: it has no more digits than itself plus one.
unfoldable pub decimal : ℕ → List ℕ
decimal v = digits (v + 1) v []
