-- Closed instances of the rules for pegs in the plane, one table, one theorem. Document 02, K5.
use Rattle.std.specs.Prelude.{ℕ, ◌-◌, ◌*◌, ◌≡◌, true, false, List, [], ◌∷◌, ℤ, pos, negsuc}
use Rattle.std.proofs.Math.Option.{none, some}
use Rattle.base.specs.Bytes.{zeros}
use Rattle.plane.specs.declared.Point.{Point}
use Rattle.plane.specs.declared.Rectangle.{Rectangle}
use Rattle.plane.specs.declared.Region.TheVariants.{Inside}
use Rattle.plane.specs.Plane.{in_rectangle, sides_rise, squared_distance, within_radius}
use Rattle.pegs.specs.Pairs.{peg, short, longer}
use Rattle.pegs.specs.Register.{most_pegs}
use Rattle.pegs.specs.Image.{peg_size, register_length, register_image}
use Rattle.pegs.specs.Outcome.{changed}
use Rattle.pegs.specs.Regions.{nearest}
use Rattle.pegs.specs.Queries.{region_on}

-- ---- points and rectangles of the table

abbrev pub point : (easting northing : ℤ) → Point
point e n = record { easting = e; northing = n }

abbrev pub sides : (west south east north : ℤ) → Rectangle
sides w s e n = record { west = w; south = s; east = e; north = n }

abbrev pub lowest : ℤ
lowest = negsuc 2147483647

abbrev pub highest : ℤ
highest = pos 2147483647

-- From -10 to 30, and from -20 to 40.
abbrev pub sheet : Rectangle
sheet = sides (negsuc 9) (negsuc 19) (pos 30) (pos 40)

-- The west side lies east of the east side.
abbrev pub crossed : Rectangle
crossed = sides (pos 6) (pos 0) (pos 5) (pos 9)

-- ---- buffers of the table

-- The empty register.
abbrev pub blank : List ℕ
blank = zeros register_length

-- One peg, on the sheet.
abbrev pub one_peg : List ℕ
one_peg = register_image (peg short 1 2 ∷ []) blank

-- As long, and no register: its one peg has no name.
abbrev pub nameless : List ℕ
nameless = 0 ∷ 1 ∷ zeros (peg_size * most_pegs)

-- One byte below the formula.
abbrev pub too_short : List ℕ
too_short = zeros (register_length - 1)

-- ---- the table

pub record QueryPairs : Type 0 where
  -- "inside a rectangle, edges included": at two corners, and one millimetre beside each side
  pub south_west : in_rectangle sheet (point (negsuc 9) (negsuc 19)) ≡ true
  pub north_east : in_rectangle sheet (point (pos 30) (pos 40)) ≡ true
  pub beside_west : in_rectangle sheet (point (negsuc 10) (pos 0)) ≡ false
  pub beside_south : in_rectangle sheet (point (pos 0) (negsuc 20)) ≡ false
  pub beside_east : in_rectangle sheet (point (pos 31) (pos 0)) ≡ false
  pub beside_north : in_rectangle sheet (point (pos 0) (pos 41)) ≡ false
  -- "12 a rectangle whose low side exceeds its high side": on either axis; equal sides do not.
  pub one_point : sides_rise (sides (pos 5) (pos 6) (pos 5) (pos 6)) ≡ true
  pub west_of_east : sides_rise (sides (pos 6) (pos 0) (pos 5) (pos 9)) ≡ false
  pub south_of_north : sides_rise (sides (pos 0) (pos 6) (pos 9) (pos 5)) ≡ false
  -- "Refused: 12 a rectangle whose low side exceeds its high side"; "Before these, here and later: 7 a buffer below its formula, then 8 a
  -- register .. out of range or order or with a name twice; no refusal changes anything lent"
  pub seven_first : region_on (Inside crossed) [] [] ≡ changed 7 []
  pub then_eight : region_on (Inside crossed) nameless blank ≡ changed 8 blank
  pub then_twelve : region_on (Inside crossed) one_peg blank ≡ changed 12 blank
  pub taken : region_on (Inside sheet) one_peg blank ≡ changed 0 one_peg
  -- The answer's buffer counts for 7 and never for 8: what it holds is not read.
  pub answer_short : region_on (Inside sheet) one_peg too_short ≡ changed 7 too_short
  pub answer_nameless : region_on (Inside sheet) one_peg nameless ≡ changed 0 one_peg
  -- "Distances use full-range coordinates without wrapping": twice the square of 2^32 - 1, more than 2^64
  pub across : squared_distance (point lowest lowest) (point highest highest) ≡ 36893488130239234050
  -- "within a whole number of millimetres, 0 to 4,294,967,295": at the edge, and squares that differ by 1
  pub at_edge : within_radius 5 (point (pos 0) (pos 0)) (point (pos 3) (negsuc 3)) ≡ true
  pub beyond_edge : within_radius 4 (point (pos 0) (pos 0)) (point (pos 3) (negsuc 3)) ≡ false
  pub same_point : within_radius 0 (point lowest highest) (point lowest highest) ≡ true
  pub largest : within_radius 4294967295 (point lowest (pos 0)) (point highest (pos 0)) ≡ true
  pub larger_by_1 : within_radius 4294967295 (point lowest (pos 0)) (point highest (pos 1)) ≡ false
  -- "the peg nearest a point, .. the smaller name winning a tie"; "An empty register has no nearest peg"
  pub of_none : nearest (point (pos 0) (pos 0)) [] ≡ none
  pub of_one : nearest (point lowest lowest) (peg short 2147483647 2147483647 ∷ []) ≡ some 0
  pub tie : nearest (point (pos 0) (pos 0)) (peg short 5 0 ∷ peg longer 0 4294967291 ∷ []) ≡ some 0
  pub second : nearest (point (pos 0) (pos 0)) (peg short 5 1 ∷ peg longer 0 4294967291 ∷ []) ≡ some 1
  pub second_by_1 : nearest (point lowest (pos 0)) (peg short 2147483647 1 ∷ peg longer 2147483647 0 ∷ []) ≡ some 1
  pub second_across : nearest (point lowest lowest) (peg short 2147483647 2147483647 ∷ peg longer 2147483647 2147483646 ∷ []) ≡ some 1
