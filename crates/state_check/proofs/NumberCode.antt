-- What the code on numbers answers.
use mathlib.Core.Path.{◌≡◌, refl, sym}
use mathlib.Core.Bool.{Bool, true, false}
use Rattle.base.specs.Tests.{pick}
use Rattle.base.proofs.TestLaws.{pick_yes, pick_no}

pub pick_on : {A : Type 0} (t : Bool) (a b : A) → t ≡ true → pick t a b ≡ a
pick_on t a b h = sym (pick_yes t a a b h refl)

pub pick_off : {A : Type 0} (t : Bool) (a b : A) → t ≡ false → pick t a b ≡ b
pick_off t a b h = sym (pick_no t b a b h refl)

pub ruleset picked = (pick_on, pick_off)
