-- Bytes, and numbers in them, big-endian.
use Rattle.std.specs.Prelude.{ℕ, zero, suc, ◌+◌, ◌*◌, ◌-◌, ◌/◌, ◌%◌, ◌<◌, Bool, true, List, [], ◌∷◌, ◌++◌, length, get_or, take, drop, replicate}
use Rattle.base.specs.Tests.{◌and◌, ◌<?◌, ◌=?◌}

-- Every element is a byte.
abbrev pub Bytes : List ℕ → Type 0
Bytes e = (i : ℕ) → get_or e i 0 < 256

-- The same, as a test.
unfoldable pub are_bytes : List ℕ → Bool
are_bytes [] = true
are_bytes (b ∷ e) = b <? 256 and are_bytes e

-- The w bytes of v.
unfoldable pub bytes_of : ℕ → ℕ → List ℕ
bytes_of zero v = []
bytes_of (suc w) v = bytes_of w (v / 256) ++ (v % 256 ∷ [])

-- The number in the w bytes from `at` on.
unfoldable pub number_at : ℕ → List ℕ → ℕ → ℕ
number_at zero e at = 0
number_at (suc w) e at = number_at w e at * 256 + get_or e (at + w) 0

-- The m numbers of w bytes each from `at` on.
unfoldable pub numbers_at : ℕ → ℕ → List ℕ → ℕ → List ℕ
numbers_at w zero e at = []
numbers_at w (suc m) e at = number_at w e at ∷ numbers_at w m e (at + w)

-- The m bytes from `at` on.
unfoldable pub part_at : ℕ → List ℕ → ℕ → List ℕ
part_at m e at = take m (drop at e)

-- The parts one after another.
unfoldable pub joined : {A : Type 0} → List (List A) → List A
joined [] = []
joined (x ∷ xs) = x ++ joined xs

-- y in front of what l holds behind it.
unfoldable pub over : List ℕ → List ℕ → List ℕ
over y l = y ++ drop (length y) l

unfoldable pub zeros : ℕ → List ℕ
zeros m = replicate {A = ℕ} m 0

-- y filled up with zeros to the size of a slot.
unfoldable pub slot : ℕ → List ℕ → List ℕ
slot size y = y ++ zeros (size - length y)

-- The byte at `at` is zero.
unfoldable pub zero_at : List ℕ → ℕ → Bool
zero_at b at = get_or b at 0 =? 0
