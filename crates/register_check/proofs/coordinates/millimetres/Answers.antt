use mathlib.Core.Path.{◌≡◌, ◌∙◌}
use lib.IntN.{ℤ}
use mir.Syntax.{w32}
use mir.Val.{SFits, to_z, of_z}
use mir.Facts.{to_z-of_z}
use Prim.Native.Nat.{ℕ}
use Rattle.pegs.specs.Operations.{coordinate}
use borrow.Author.Rules.{rules}
use Rattle.register_check.proofs.coordinates.millimetres.Goals as goal

signed : (v : ℕ) (z : ℤ) → SFits w32 z → z ≡ to_z w32 v → to_z w32 (of_z w32 z) ≡ coordinate v
unfolding coordinate
signed v z f e = to_z-of_z f ∙ e

pub returns : goal.returns
returns c = search (rules, signed)
