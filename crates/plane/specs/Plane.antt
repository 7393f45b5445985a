-- Points, rectangles and distances in the plane, in millimetres. Document 02, K5: all numbers are whole, and none wraps.
use Rattle.std.specs.Prelude.{ℕ, ◌+◌, ◌*◌, Bool, ℤ, ◌-ℤ◌, nat_abs}
use Rattle.std.specs.Int.Signed.{le_z}
use Rattle.base.specs.Tests.{◌and◌, ◌≤?◌}
use Rattle.plane.specs.declared.Point.{Point}
use Rattle.plane.specs.declared.Rectangle.{Rectangle}
use Rattle.plane.specs.declared.Region.{Region}
use Rattle.plane.specs.declared.Region.TheVariants.{Inside, Within}

-- ---- "inside a rectangle, edges included"

unfoldable pub between : (low high : ℤ) → ℤ → Bool
between low high z = le_z low z and le_z z high

unfoldable pub in_rectangle : Rectangle → Point → Bool
in_rectangle s p = between s.west s.east p.easting and between s.south s.north p.northing

-- "12 a rectangle whose low side exceeds its high side": neither pair of sides does.
unfoldable pub sides_rise : Rectangle → Bool
sides_rise s = le_z s.west s.east and le_z s.south s.north

-- ---- "by exact squared distance"

unfoldable pub squared : ℤ → ℕ
squared z = nat_abs z * nat_abs z

unfoldable pub squared_distance : Point → Point → ℕ
squared_distance p q = squared (p.easting -ℤ q.easting) + squared (p.northing -ℤ q.northing)

-- "within a whole number of millimetres .. of a point", the edge included
unfoldable pub within_radius : (radius : ℕ) → Point → Point → Bool
within_radius m p q = squared_distance p q ≤? m * m

-- ---- both

unfoldable pub in_region : Region → Point → Bool
in_region (Inside s) q = in_rectangle s q
in_region (Within p m) q = within_radius m p q
