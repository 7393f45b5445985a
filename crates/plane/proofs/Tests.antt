-- The tests of a point, as the code makes them.
use Prim.Native.Nat.{ℕ}
use mathlib.Core.Path.{◌≡◌, sym, ap, ap₂, ◌∙◌}
use mathlib.Core.Bool.{Bool, true, false}
use lib.IntN.{ℤ}
use lib.Signed.{le_z}
use mir.Syntax.{w32}
use mir.Val.{SFits}
use Rattle.base.specs.Tests.{◌and◌}
use Rattle.base.proofs.TestLaws.{and_yes, and_no}
use Rattle.plane.specs.declared.Point.{Point}
use Rattle.plane.specs.declared.Rectangle.{Rectangle}
use Rattle.plane.specs.declared.Region.{Region}
use Rattle.plane.specs.declared.Region.TheVariants.{Inside, Within}
use Rattle.plane.specs.Plane.{between, in_rectangle, sides_rise, within_radius, in_region}
use Rattle.plane.proofs.Signed.{bits_of, bits_test}

module _ (low high z : ℤ) (f : SFits w32 low) (g : SFits w32 high) (h : SFits w32 z) where
  pub between_on : le_z (bits_of low) (bits_of z) ≡ true → le_z (bits_of z) (bits_of high) ≡ between low high z
  unfolding between
  between_on e = and_yes (le_z (bits_of z) (bits_of high)) (le_z low z) (le_z z high) (sym (bits_test low z f h) ∙ e) (bits_test z high h g)

  pub between_off : le_z (bits_of low) (bits_of z) ≡ false → le_z (bits_of low) (bits_of z) ≡ between low high z
  unfolding between
  between_off e = e ∙ and_no (le_z low z) (le_z z high) (sym (bits_test low z f h) ∙ e)

bits_between : (low high z : ℤ) → SFits w32 low → SFits w32 high → SFits w32 z → between (bits_of low) (bits_of high) (bits_of z) ≡ between low high z
unfolding between
bits_between low high z f g h = ap₂ {A = Bool} {B = Bool} {C = Bool} (λ t u. t and u) (bits_test low z f h) (bits_test z high h g)

module _ (s : Rectangle) (p : Point) (t : Bool) (f : SFits w32 s.west) (g : SFits w32 s.east) (h : SFits w32 p.easting)
    (e : t ≡ between (bits_of s.west) (bits_of s.east) (bits_of p.easting)) where
  pub inside_on : (u : Bool) → SFits w32 s.south → SFits w32 s.north → SFits w32 p.northing
      → u ≡ between (bits_of s.south) (bits_of s.north) (bits_of p.northing) → t ≡ true → u ≡ in_rectangle s p
  unfolding in_rectangle
  inside_on u i j k d y = and_yes u _ _ (sym (e ∙ bits_between _ _ _ f g h) ∙ y) (d ∙ bits_between _ _ _ i j k)

  pub inside_off : t ≡ false → t ≡ in_rectangle s p
  unfolding in_rectangle
  inside_off n = n ∙ and_no _ _ (sym (e ∙ bits_between _ _ _ f g h) ∙ n)

module _ (s : Rectangle) (f : SFits w32 s.west) (g : SFits w32 s.east) where
  pub rise_on : SFits w32 s.south → SFits w32 s.north → le_z (bits_of s.west) (bits_of s.east) ≡ true
      → le_z (bits_of s.south) (bits_of s.north) ≡ sides_rise s
  unfolding sides_rise
  rise_on h k e = and_yes _ _ _ (sym (bits_test s.west s.east f g) ∙ e) (bits_test s.south s.north h k)

  pub rise_off : le_z (bits_of s.west) (bits_of s.east) ≡ false → le_z (bits_of s.west) (bits_of s.east) ≡ sides_rise s
  unfolding sides_rise
  rise_off e = e ∙ and_no _ _ (sym (bits_test s.west s.east f g) ∙ e)

-- ---- by the region

pub in_inside : (a : Region) (s : Rectangle) (q : Point) (t : Bool) → a ≡ Inside s → t ≡ in_rectangle s q → t ≡ in_region a q
unfolding in_region
in_inside a s q t e h = h ∙ ap (λ (b : Region). in_region b q) (sym e)

pub in_within : (a : Region) (p q : Point) (m : ℕ) (t : Bool) → a ≡ Within p m → t ≡ within_radius m p q → t ≡ in_region a q
unfolding in_region
in_within a p q m t e h = h ∙ ap (λ (b : Region). in_region b q) (sym e)
