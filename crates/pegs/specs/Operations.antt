-- A payload as an operation on a peg. Document 02, K2.
use Rattle.std.specs.Prelude.{ℕ, ◌+◌, ◌*◌, Bool, List, ℤ, length}
use Rattle.std.proofs.Math.Option.{Option, none, some}
use Rattle.std.specs.Int.{w32}
use Rattle.std.proofs.Common.{to_z}
use Rattle.base.specs.Tests.{◌and◌, ◌≤?◌, ◌=?◌, pick}
use Rattle.base.specs.Bytes.{number_at, part_at}

-- "easting and northing in millimetres, signed 32-bit", each by its bits.
pub record Place : Type 0 where
  pub easting : ℕ
  pub northing : ℕ

-- The millimetres that 32 bits are: two's complement.
unfoldable pub coordinate : ℕ → ℤ
coordinate v = to_z w32 v

pub record Peg : Type 0 where
  pub name : List ℕ
  pub place : Place

pub data Operation : Type 0 where
  set move : (name : List ℕ) → Place → Operation
  retire : (name : List ℕ) → Operation

-- ---- the payload: "an operation byte (1 set, 2 move, 3 retire), a name length 1 to 24, the name, and for 1 and 2 easting and northing"

abbrev pub set_byte : ℕ
set_byte = 1

abbrev pub move_byte : ℕ
move_byte = 2

abbrev pub retire_byte : ℕ
retire_byte = 3

abbrev pub most_name : ℕ
most_name = 24

-- Where the name's length and the name lie.
abbrev pub at_name_length : ℕ
at_name_length = 1

abbrev pub at_name : ℕ
at_name = at_name_length + 1

abbrev pub coordinate_size : ℕ
coordinate_size = 4

abbrev pub place_size : ℕ
place_size = 2 * coordinate_size

unfoldable pub place_at : List ℕ → ℕ → Place
place_at b at = record { easting = number_at coordinate_size b at; northing = number_at coordinate_size b (at + coordinate_size) }

-- A name has 1 to 24 bytes.
unfoldable pub name_fits : (size : ℕ) → Bool
name_fits k = 1 ≤? k and k ≤? most_name

-- The payload p as an operation with this byte on a name of k bytes, if it is one; nothing may follow.
unfoldable pub operation_as : (operation k : ℕ) → List ℕ → Option Operation
operation_as o k p =
    pick (o =? set_byte and length p =? at_name + k + place_size) (some (set (part_at k p at_name) (place_at p (at_name + k))))
    (pick (o =? move_byte and length p =? at_name + k + place_size) (some (move (part_at k p at_name) (place_at p (at_name + k))))
    (pick (o =? retire_byte and length p =? at_name + k) (some (retire (part_at k p at_name))) none))

-- "11 the payload is no such operation": none.
unfoldable pub operation_of : List ℕ → Option Operation
operation_of p =
    pick (at_name ≤? length p and name_fits (number_at 1 p at_name_length))
    (operation_as (number_at 1 p 0) (number_at 1 p at_name_length) p) none
