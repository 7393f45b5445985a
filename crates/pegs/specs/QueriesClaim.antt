-- What is true of the answers on pegs in the plane. Document 02, K5.
use Rattle.std.specs.Prelude.{ℕ, ◌≤◌, ◌≡◌, true, ◌↔◌}
use mathlib.Core.List.{List, [], Memᴰ}
use Rattle.std.proofs.Math.Option.{none, some}
use Rattle.base.specs.Lists.{at}
use Rattle.plane.specs.declared.Point.{Point}
use Rattle.plane.specs.declared.Region.{Region}
use Rattle.pegs.specs.Names.{before}
use Rattle.pegs.specs.Operations.{Peg}
use Rattle.pegs.specs.Claim.{Sorted}
use Rattle.pegs.specs.Image.{pegs_in, read_register}
use Rattle.pegs.specs.Outcome.{register_number}
use Rattle.pegs.specs.Regions.{peg_inside, pegs_inside, distance_to, nearest}
use Rattle.pegs.specs.Queries.{region_on, nearest_on}

-- ---- pegs of a region

pub record RegionTheorem : Type 0 where
  -- Exactly the pegs of the register that lie inside, "in name order".
  pub listed : (a : Region) (l : List Peg) (g : Peg) → Memᴰ g (pegs_inside a l) ↔ (Memᴰ g l × (peg_inside a g ≡ true))
  pub ordered : (a : Region) (l : List Peg) → Sorted l → Sorted (pegs_inside a l)
  -- The answer is a register, and can be asked again: of the same region it is the whole answer.
  pub read : (a : Region) (r b : List ℕ) → (region_on a r b).number ≡ 0
      → read_register (region_on a r b).register ≡ some (pegs_inside a (pegs_in r))
  pub number : (a : Region) (r b : List ℕ) → (region_on a r b).number ≡ 0 → register_number (region_on a r b).register ≡ 0
  pub again : (a : Region) (l : List Peg) → pegs_inside a (pegs_inside a l) ≡ pegs_inside a l
  -- "no refusal changes anything lent"
  pub refused : (a : Region) (r b : List ℕ) → ((region_on a r b).number ≡ 0 → ⊥) → (region_on a r b).register ≡ b

-- ---- the nearest peg

pub record NearestTheorem : Type 0 where
  -- "An empty register has no nearest peg, and that is said only then."
  pub none_empty : (p : Point) (l : List Peg) → (nearest p l ≡ none) ↔ (l ≡ [])
  pub said : (r : List ℕ) (p : Point) → register_number r ≡ 0 → ((nearest_on r p).found ≡ 0) ↔ (pegs_in r ≡ [])
  -- It is in the register;
  pub there : (p : Point) (l : List Peg) (k : ℕ) → nearest p l ≡ some k → (g : Peg) × (at l k ≡ some g)
  -- none is nearer;
  pub least : (p : Point) (l : List Peg) (k : ℕ) (g h : Peg) → nearest p l ≡ some k → at l k ≡ some g → Memᴰ h l
      → distance_to p g ≤ distance_to p h
  -- "the smaller name winning a tie": of an equally near one it is the smaller name.
  pub tie : (p : Point) (l : List Peg) (k : ℕ) (g h : Peg) → Sorted l → nearest p l ≡ some k → at l k ≡ some g → Memᴰ h l
      → distance_to p h ≡ distance_to p g → (h ≡ g → ⊥) → before g.name h.name ≡ true
