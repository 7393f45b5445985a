-- What changes in place do to the bytes b of a register: by the place i of a peg and the number n of pegs.
use Rattle.std.specs.Prelude.{ℕ, ◌+◌, ◌*◌, ◌-◌, ◌≤◌, ◌<◌, List, [], ◌∷◌, ◌++◌, length}
use Rattle.base.specs.Bytes.{bytes_of, part_at, joined, slot}
use Rattle.base.specs.Patched.{patched}
use Rattle.pegs.specs.Operations.{Place, Operation, most_name, coordinate_size}
use Rattle.base.specs.Tests.{◌=?◌, pick}
use Rattle.pegs.specs.Register.{most_pegs, number_of, after}
use Rattle.pegs.specs.Image.{count_size, at_place, peg_size, register_length, register_image, pegs_in}
use Rattle.pegs.specs.Outcome.{Changed, changed}
use Rattle.register_check.specs.Slots.{slot_at}

-- Room for one peg more, in the slot i.
pub record RoomFor (i n : ℕ) (b : List ℕ) : Type 0 where
  pub place : i ≤ n
  pub room : n < most_pegs
  pub long : register_length ≤ length b

-- The slot i of n.
pub record SlotsIn (i n : ℕ) (b : List ℕ) : Type 0 where
  pub place : i < n
  pub most : n ≤ most_pegs
  pub long : register_length ≤ length b

-- ---- a slot

unfoldable pub named_bytes : (name : List ℕ) → List ℕ
named_bytes m = joined (bytes_of 1 (length m) ∷ slot most_name m ∷ [])

abbrev pub place_bytes : Place → List ℕ
place_bytes p = bytes_of coordinate_size p.easting ++ bytes_of coordinate_size p.northing

-- A peg by its name and the bytes of its place.
unfoldable pub slot_bytes : (name place : List ℕ) → List ℕ
slot_bytes m p = joined (named_bytes m ∷ p ∷ [])

-- ---- changes

-- The slots from i on move up by one, and the count rises.
unfoldable pub widened : (i n : ℕ) → List ℕ → List ℕ
widened i n b =
    patched 0 (bytes_of count_size (n + 1)) (patched (slot_at i + peg_size) (part_at (peg_size * (n - i)) b (slot_at i)) b)

-- A peg more, in the slot i.
unfoldable pub inserted : (i n : ℕ) → (name place : List ℕ) → List ℕ → List ℕ
inserted i n m p b = patched (slot_at i) (slot_bytes m p) (widened i n b)

-- The slots behind i move down by one, and the count falls.
unfoldable pub removed : (i n : ℕ) → List ℕ → List ℕ
removed i n b =
    patched 0 (bytes_of count_size (n - 1)) (patched (slot_at i) (part_at (peg_size * (n - (i + 1))) b (slot_at i + peg_size)) b)

-- The peg in the slot i at another place.
unfoldable pub replaced : (i : ℕ) → (place : List ℕ) → List ℕ → List ℕ
replaced i p b = patched (slot_at i + at_place) p b

-- ---- one operation

-- On the register that the bytes hold; a refused one leaves them.
unfoldable pub operated : Operation → List ℕ → Changed
operated o b =
    pick (number_of o (pegs_in b) =? 0) (changed 0 (register_image (after o (pegs_in b)) b)) (changed (number_of o (pegs_in b)) b)
