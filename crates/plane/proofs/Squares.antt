-- Squares of differences, and their sum.
use Prim.Native.Nat.{ℕ, ◌+◌, ◌*◌}
use mathlib.Core.Path.{◌≡◌, ap, ap₂, ◌∙◌}
use mathlib.Core.Bool.{Bool}
use lib.Dec.{leb}
use lib.IntN.{ℤ, ◌-ℤ◌, nat_abs}
use mir.Syntax.{w32}
use mir.Val.{SFits}
use mir.Facts.{to_z-of_z}
use Rattle.base.specs.Tests.{◌≤?◌}
use Rattle.base.proofs.Branches.{told_le}
use Rattle.plane.specs.declared.Point.{Point}
use Rattle.plane.specs.Plane.{squared, squared_distance, within_radius}
use Rattle.plane.proofs.Signed.{bits_of}

bits_gap : (x y : ℤ) (g a : ℕ) → SFits w32 x → SFits w32 y → g ≡ nat_abs (bits_of x -ℤ bits_of y) → a ≡ g * g → a ≡ squared (x -ℤ y)
unfolding squared
bits_gap x y g a f k e h =
    let same : g ≡ nat_abs (x -ℤ y) = e ∙ ap₂ {A = ℤ} {B = ℤ} {C = ℕ} (λ u v. nat_abs (u -ℤ v)) (to_z-of_z f) (to_z-of_z k) in
    h ∙ ap (λ (n : ℕ). n * n) same

module _ (p q : Point) (g h a b m n : ℕ) (x : SFits w32 p.easting) (u : SFits w32 q.easting) (y : SFits w32 p.northing) (v : SFits w32 q.northing)
    (eg : g ≡ nat_abs (bits_of p.easting -ℤ bits_of q.easting)) (eh : h ≡ nat_abs (bits_of p.northing -ℤ bits_of q.northing))
    (ea : a ≡ g * g) (eb : b ≡ h * h) (em : m ≡ a) (en : n ≡ b) where
  pub distance_is : m + n ≡ squared_distance p q
  unfolding squared_distance
  distance_is =
      ap₂ {A = ℕ} {B = ℕ} {C = ℕ} (λ i j. i + j)
      (em ∙ bits_gap p.easting q.easting g a x u eg ea) (en ∙ bits_gap p.northing q.northing h b y v eh eb)

-- d is the squared distance, l the square of the radius.
pub within_is : (p q : Point) (radius d s l : ℕ) → d ≡ squared_distance p q → s ≡ radius * radius → l ≡ s → leb d l ≡ within_radius radius p q
unfolding within_radius
within_is p q radius d s l e f k = told_le d l ∙ ap₂ {A = ℕ} {B = ℕ} {C = Bool} (λ i j. i ≤? j) e (k ∙ f)
