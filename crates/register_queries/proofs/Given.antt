-- The numbers that an exported function is given, and what the code has of them: their bits, read.
use Prim.Native.Nat.{ℕ, ◌+◌, ◌*◌}
use mathlib.Core.Path.{◌≡◌, ap, ◌∙◌}
use mathlib.Core.List.{List}
use mathlib.Core.Option.{none, some}
use lib.IntN.{ℤ}
use mir.Syntax.{w32}
use mir.Val.{SFits}
use mir.Facts.{to_z-of_z}
use Rattle.plane.specs.declared.Point.{Point}
use Rattle.plane.specs.declared.Region.{Region}
use Rattle.plane.proofs.Signed.{bits_of}
use Rattle.pegs.specs.Image.{count_size, peg_size, peg_at, pegs_in}
use Rattle.pegs.specs.Outcome.{register_number, changed, Found, not_found, found_if}
use Rattle.pegs.specs.Regions.{nearest}
use Rattle.pegs.specs.Queries.{region_on, nearest_on}
use Rattle.register_queries.specs.Arguments.{point, rectangle, disc}
use Rattle.register_queries.proofs.Answers.{nearest_none, nearest_found}

module _ (w s e n : ℤ) (fw : SFits w32 w) (fs : SFits w32 s) (fe : SFits w32 e) (fn : SFits w32 n) where
  rectangle_bits : rectangle (bits_of w) (bits_of s) (bits_of e) (bits_of n) ≡ rectangle w s e n
  rectangle_bits = λ i. rectangle (to_z-of_z fw i) (to_z-of_z fs i) (to_z-of_z fe i) (to_z-of_z fn i)

  pub rectangle_given : (r b c : List ℕ) (k : ℕ) → changed k c ≡ region_on (rectangle (bits_of w) (bits_of s) (bits_of e) (bits_of n)) r b
      → changed k c ≡ region_on (rectangle w s e n) r b
  rectangle_given r b c k h = h ∙ ap (λ (a : Region). region_on a r b) rectangle_bits

module _ (e n : ℤ) (fe : SFits w32 e) (fn : SFits w32 n) where
  point_bits : point (bits_of e) (bits_of n) ≡ point e n
  point_bits = λ i. point (to_z-of_z fe i) (to_z-of_z fn i)

  pub disc_given : (m : ℕ) (r b c : List ℕ) (k : ℕ) → changed k c ≡ region_on (disc (bits_of e) (bits_of n) m) r b
      → changed k c ≡ region_on (disc e n m) r b
  disc_given m r b c k h = h ∙ (λ i. region_on (disc (to_z-of_z fe i) (to_z-of_z fn i) m) r b)

  pub nearest_point : (b : List ℕ) (r : Found) → r ≡ nearest_on b (point (bits_of e) (bits_of n)) → r ≡ nearest_on b (point e n)
  nearest_point b r h = h ∙ ap (nearest_on b) point_bits

  module _ (b : List ℕ) (r : Found) (c : List ℕ) (h : c ≡ b) (ok : register_number c ≡ 0) where
    pub none_given : none ≡ nearest (point (bits_of e) (bits_of n)) (pegs_in c) → r ≡ not_found 0 → r ≡ nearest_on b (point e n)
    none_given f g = nearest_none b (point e n) r c h ok (f ∙ ap (λ (p : Point). nearest p (pegs_in c)) point_bits) g

    pub nearest_given : (i : ℕ) → some i ≡ nearest (point (bits_of e) (bits_of n)) (pegs_in c)
        → r ≡ found_if i (some (peg_at b (count_size + peg_size * i)).place) → r ≡ nearest_on b (point e n)
    nearest_given i f g = nearest_found b (point e n) r c h ok i (f ∙ ap (λ (p : Point). nearest p (pegs_in c)) point_bits) g
