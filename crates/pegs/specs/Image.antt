-- The register in a lent buffer: how many pegs there are, then a slot for each, in their order (docs/LAYOUT.md).
use Rattle.std.specs.Prelude.{ℕ, zero, suc, ◌+◌, ◌*◌, ◌^◌, Bool, true, List, [], ◌∷◌, map, length, take}
use Rattle.std.proofs.Math.Option.{Option, none, some}
use Rattle.base.specs.Tests.{◌and◌, ◌≤?◌, ◌<?◌, pick}
use Rattle.base.specs.Bytes.{bytes_of, number_at, part_at, joined, over, slot}
use Rattle.base.specs.Lists.{all, same}
use Rattle.pegs.specs.Names.{before}
use Rattle.pegs.specs.Operations.{Peg, most_name, coordinate_size, place_size, place_at, name_fits}
use Rattle.pegs.specs.Register.{most_pegs}

-- ---- sizes

abbrev pub count_size : ℕ
count_size = 2

-- A slot: the name's length, the name filled up with zeros, easting, northing.
abbrev pub at_slot_name : ℕ
at_slot_name = 1

abbrev pub at_place : ℕ
at_place = at_slot_name + most_name

abbrev pub peg_size : ℕ
peg_size = at_place + place_size

-- The required length of a register's buffer.
abbrev pub register_length : ℕ
register_length = count_size + peg_size * most_pegs

-- ---- writing

unfoldable pub peg_bytes : Peg → List ℕ
peg_bytes g =
    joined
    (bytes_of 1 (length g.name)
    ∷ slot most_name g.name
    ∷ bytes_of coordinate_size g.place.easting
    ∷ bytes_of coordinate_size g.place.northing
    ∷ [])

-- What is used of the buffer.
unfoldable pub register_bytes : List Peg → List ℕ
register_bytes l = joined (bytes_of count_size (length l) ∷ map peg_bytes l)

-- The register over the bytes that its buffer held: what is behind it stays.
unfoldable pub register_image : List Peg → List ℕ → List ℕ
register_image l old = over (register_bytes l) old

-- ---- reading

unfoldable pub peg_at : List ℕ → ℕ → Peg
peg_at b at = record { name = part_at (number_at 1 b at) b (at + at_slot_name); place = place_at b (at + at_place) }

-- m pegs, a slot each, from `at` on
unfoldable pub pegs_at : ℕ → List ℕ → ℕ → List Peg
pegs_at zero b at = []
pegs_at (suc m) b at = peg_at b at ∷ pegs_at m b (at + peg_size)

abbrev pub peg_count : List ℕ → ℕ
peg_count b = number_at count_size b 0

unfoldable pub pegs_in : List ℕ → List Peg
pegs_in b = pegs_at (peg_count b) b count_size

-- m stands before the first name of the list.
unfoldable pub leads : (name : List ℕ) → List Peg → Bool
leads m [] = true
leads m (g ∷ l) = before m g.name

-- Each name stands before the next one.
unfoldable pub rising : List Peg → Bool
rising [] = true
rising (g ∷ l) = leads g.name l and rising l

-- A name of 1 to 24 bytes, and coordinates of 32 bits.
unfoldable pub peg_fits : Peg → Bool
peg_fits g =
    name_fits (length g.name) and g.place.easting <? 256 ^ coordinate_size and g.place.northing <? 256 ^ coordinate_size

-- "8 a register or table out of range or order or with a name twice": one that is none of it.
unfoldable pub formed : List Peg → Bool
formed l = length l ≤? most_pegs and all peg_fits l and rising l

-- The bytes hold the image of such a register: writing what they say leaves them as they are.
unfoldable pub register_reads : List ℕ → Bool
register_reads b = formed (pegs_in b) and same (register_image (pegs_in b) b) b

unfoldable pub read_register : List ℕ → Option (List Peg)
read_register b = pick (register_reads b) (some (pegs_in b)) none

-- What is used of the bytes.
unfoldable pub used_in : List ℕ → List ℕ
used_in b = take (count_size + peg_size * peg_count b) b
