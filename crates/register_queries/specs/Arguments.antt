-- Regions and points, by the numbers that the exported functions take, and what is answered on a region.
use Rattle.std.specs.Prelude.{ℕ, ◌≡◌, ℤ, List, Option, Some, None, Result, Ok, Err}
use Rattle.std.proofs.Math.Option.{Option as MayBe, none, some}
use Rattle.base.specs.Lent.{Lent}
use Rattle.refusals.specs.declared.Refusal.{Refusal}
use Rattle.refusals.specs.Numbers.{refusal_number}
use Rattle.plane.specs.declared.Point.{Point}
use Rattle.plane.specs.declared.Region.{Region}
use Rattle.plane.specs.declared.Region.TheVariants.{Inside, Within}
use Rattle.pegs.specs.Outcome.{changed}
use Rattle.pegs.specs.Queries.{region_on}

abbrev pub point : (easting northing : ℤ) → Point
point e n = record { easting = e; northing = n }

abbrev pub rectangle : (west south east north : ℤ) → Region
rectangle w s e n = Inside (record { west = w; south = s; east = e; north = n })

abbrev pub disc : (easting northing : ℤ) → (radius : ℕ) → Region
disc e n m = Within (point e n) m

-- The number returned, and the answer's buffer afterwards, are those of the region.
abbrev pub AnswersRegion : (number : ℕ) → Region → (register : List ℕ) → (answer : Lent) → Type 0
AnswersRegion k a r b = changed k b.exit.now ≡ region_on a r b.entry.now

-- 0 where the check yields something, or the number of its refusal.
abbrev pub held_number : {A : Type 0} → Result A Refusal → ℕ
held_number (Ok _) = 0
held_number (Err r) = refusal_number r

-- An index that the code yields, in the definitions' terms.
abbrev pub maybe : Option ℕ → MayBe ℕ
maybe (Some k) = some k
maybe None = none
