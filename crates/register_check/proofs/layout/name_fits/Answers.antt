use Prim.Native.Nat.{ℕ, ◌≤◌, ◌<◌}
use mathlib.Core.Path.{◌≡◌, refl, ◌∙◌}
use lib.Dec.{leb}
use borrow.Author.Rules.{rules}
use borrow.Author.Tests.{lt-leb}
use Rattle.base.specs.Tests.{◌≤?◌}
use Rattle.base.proofs.TestLaws.{and_le, and_gt}
use Rattle.pegs.specs.Operations.{most_name, name_fits}
use Rattle.register_check.proofs.layout.name_fits.Goals as goal

whole : (k : ℕ) → 1 ≤ k → leb k most_name ≡ name_fits k
unfolding name_fits ◌≤?◌
whole k h = and_le 1 k _ _ h refl

empty : (k : ℕ) → k < 1 → leb 1 k ≡ name_fits k
unfolding name_fits
empty k h = lt-leb 1 k h ∙ and_gt 1 k _ h

pub returns-then-size-ge1 : goal.returns-then-size-ge1
returns-then-size-ge1 c = search (rules, whole)

pub returns-else-size-ge1 : goal.returns-else-size-ge1
returns-else-size-ge1 c = search (rules, empty)
