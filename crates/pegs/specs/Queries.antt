-- What the exported functions answer on pegs in the plane: numbers, and the bytes of a lent buffer. Document 02, K5.
use Rattle.std.specs.Prelude.{ℕ, List}
use Rattle.std.proofs.Math.Option.{Option, none, some}
use Rattle.base.specs.Lists.{at}
use Rattle.base.specs.Tests.{◌=?◌, pick}
use Rattle.base.specs.Refusals.{short_buffer}
use Rattle.plane.specs.declared.Point.{Point}
use Rattle.plane.specs.declared.Region.{Region}
use Rattle.plane.specs.declared.Region.TheVariants.{Inside, Within}
use Rattle.plane.specs.Plane.{sides_rise}
use Rattle.pegs.specs.Operations.{Peg}
use Rattle.pegs.specs.Image.{register_image, pegs_in}
use Rattle.pegs.specs.Outcome.{register_short, register_number, Changed, changed, Found, not_found, found_if}
use Rattle.pegs.specs.Regions.{pegs_inside, nearest}

-- ---- pegs of a region

-- "7 a buffer below its formula, then 8 a register .. out of range or order or with a name twice": the answer's buffer counts for 7, never for 8.
unfoldable pub both_number : (register answer : List ℕ) → ℕ
both_number r b = pick (register_short b) short_buffer (register_number r)

-- "12 a rectangle whose low side exceeds its high side"
abbrev pub bad_rectangle : ℕ
bad_rectangle = 12

unfoldable pub sides_number : Region → ℕ
sides_number (Inside s) = pick (sides_rise s) 0 bad_rectangle
sides_number (Within p m) = 0

unfoldable pub region_number : Region → (register answer : List ℕ) → ℕ
region_number a r b = pick (both_number r b =? 0) (sides_number a) (both_number r b)

-- The pegs of the region, as a register in the answer's buffer; "no refusal changes anything lent".
unfoldable pub region_on : Region → (register answer : List ℕ) → Changed
region_on a r b =
    pick (region_number a r b =? 0) (changed 0 (register_image (pegs_inside a (pegs_in r)) b)) (changed (region_number a r b) b)

-- ---- the nearest peg

unfoldable pub found_peg : (index : ℕ) → Option Peg → Found
found_peg k none = not_found 0
found_peg k (some g) = found_if k (some g.place)

-- "An empty register has no nearest peg": as a name that is not there.
unfoldable pub found_at : List Peg → Option ℕ → Found
found_at l none = not_found 0
found_at l (some k) = found_peg k (at l k)

unfoldable pub nearest_on : (register : List ℕ) → Point → Found
nearest_on r p = pick (register_number r =? 0) (found_at (pegs_in r) (nearest p (pegs_in r))) (not_found (register_number r))
