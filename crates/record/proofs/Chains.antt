-- Tests joined by `&&` in the code and by `and` in a definition.
use mathlib.Core.Path.{◌≡◌, refl, sym}
use mathlib.Core.Bool.{Bool, true, false}
use Rattle.base.specs.Tests.{◌and◌}
use Rattle.base.proofs.TestLaws.{and_yes, and_no, lt_yes, lt_no, le_yes, le_no, eq_yes, eq_no}
use Rattle.base.proofs.Branches.{told_le, told_lt, told_eq}

pub and_on : (t u : Bool) → t ≡ true → (t and u) ≡ u
and_on t u h = sym (and_yes u t u h refl)

pub and_off : (t u : Bool) → t ≡ false → (t and u) ≡ false
and_off t u h = sym (and_no t u h)

pub ruleset chain = (and_on, and_off, lt_yes, lt_no, le_yes, le_no, eq_yes, eq_no, told_le, told_lt, told_eq)
