-- The pegs of a register in a region of the plane, and the one nearest to a point. Document 02, K5.
use Rattle.std.specs.Prelude.{ℕ, Bool, List}
use Rattle.std.proofs.Math.Option.{Option}
use Rattle.base.specs.Tests.{◌≤?◌}
use Rattle.base.specs.Lists.{all, filter, first_from}
use Rattle.plane.specs.declared.Point.{Point}
use Rattle.plane.specs.declared.Region.{Region}
use Rattle.plane.specs.Plane.{squared_distance, in_region}
use Rattle.pegs.specs.Operations.{Place, Peg, coordinate}

unfoldable pub point_of : Place → Point
point_of p = record { easting = coordinate p.easting; northing = coordinate p.northing }

-- ---- "all pegs inside a rectangle, edges included, in name order"; "all pegs within a whole number of millimetres .. of a point, in name order"

unfoldable pub peg_inside : Region → Peg → Bool
peg_inside a g = in_region a (point_of g.place)

-- In their order in the register.
unfoldable pub pegs_inside : Region → List Peg → List Peg
pegs_inside a l = filter (peg_inside a) l

-- ---- "the peg nearest a point, by exact squared distance, the smaller name winning a tie"

unfoldable pub distance_to : Point → Peg → ℕ
distance_to p g = squared_distance p (point_of g.place)

-- h is no nearer to p than g.
unfoldable pub no_nearer : Point → Peg → Peg → Bool
no_nearer p g h = distance_to p g ≤? distance_to p h

-- No peg of l is nearer to p than g.
unfoldable pub is_nearest : Point → List Peg → Peg → Bool
is_nearest p l g = all (no_nearer p g) l

-- Which peg of a register it is, from 0 on: the first in byte order of name that no peg is nearer than.
unfoldable pub nearest : Point → List Peg → Option ℕ
nearest p l = first_from (is_nearest p l) 0 l
