-- For the code: a test that is returned as it stands, and a branch on what a call answered.
use Prim.Native.Nat.{ℕ}
use mathlib.Core.Path.{◌≡◌, refl, sym, ◌∙◌}
use mathlib.Core.Bool.{Bool, true, false, not}
use lib.Dec.{eqb, leb, ltb}
use borrow.Author.Tests.{not-true, not-false}
use Rattle.base.specs.Tests.{◌≤?◌, ◌<?◌, ◌=?◌, ◌and◌, ◌or◌, pick}
use Rattle.base.proofs.TestLaws.{not_both, and_yes, and_no, pick_yes, pick_no}

pub told_le : (m n : ℕ) → leb m n ≡ (m ≤? n)
unfolding ◌≤?◌
told_le m n = refl

pub told_lt : (m n : ℕ) → ltb m n ≡ (m <? n)
unfolding ◌<?◌
told_lt m n = refl

pub told_eq : (m n : ℕ) → eqb m n ≡ (m =? n)
unfolding ◌=?◌
told_eq m n = refl

pub and_true : (t : Bool) → t ≡ (t and true)
unfolding ◌and◌
and_true true = refl
and_true false = refl

pub and_false : (t : Bool) → false ≡ (t and false)
unfolding ◌and◌
and_false true = refl
and_false false = refl

pub or_false : (t : Bool) → (t or false) ≡ t
unfolding ◌or◌
or_false true = refl
or_false false = refl

pub or_assoc : (t u v : Bool) → (t or u or v) ≡ ((t or u) or v)
unfolding ◌or◌
or_assoc true u v = refl
or_assoc false u v = refl

pub or_yes : (t u : Bool) → t ≡ true → true ≡ (t or u)
unfolding ◌or◌
or_yes true u h = refl
or_yes false u h = not_both h

pub or_no : (r t u : Bool) → t ≡ false → r ≡ u → r ≡ (t or u)
unfolding ◌or◌
or_no r false u h e = e
or_no r true u h e = not_both (sym h)

-- Two tests that hold together.
pub same_truth : (t u : Bool) → (t ≡ true → u ≡ true) → (u ≡ true → t ≡ true) → t ≡ u
same_truth true u f g = sym (f refl)
same_truth false true f g = g refl
same_truth false false f g = refl

-- b is what a call answered to the test t.

pub and_answered : (b t r u : Bool) → b ≡ t → not b ≡ false → r ≡ u → r ≡ (t and u)
and_answered b t r u e h k = and_yes r t u (sym e ∙ not-false b h) k

pub and_denied : (b t u : Bool) → b ≡ t → not b ≡ true → false ≡ (t and u)
and_denied b t u e h = and_no t u (sym e ∙ not-true b h)

pub pick_answered : {A : Type 0} (b t : Bool) (r x y : A) → b ≡ t → not b ≡ false → r ≡ x → r ≡ pick t x y
pick_answered b t r x y e h k = pick_yes t r x y (sym e ∙ not-false b h) k

pub pick_denied : {A : Type 0} (b t : Bool) (r x y : A) → b ≡ t → not b ≡ true → r ≡ y → r ≡ pick t x y
pick_denied b t r x y e h k = pick_no t r x y (sym e ∙ not-true b h) k

pub ruleset told = (told_le, told_lt, told_eq)

pub ruleset answers = (and_answered, and_denied, pick_answered, pick_denied)
