-- Tests that decide an equation.
use mathlib.Core.Path.{◌≡◌, refl, ap, subst}
use mathlib.Core.Bool.{Bool, true}
use mathlib.Core.Option.{Option, none, some}
use Rattle.base.specs.Tests.{◌=?◌, ◌and◌}
use Rattle.base.proofs.TestLaws.{not_both, eq_yes, eq_holds, and_holds, both_yes}
use Rattle.base.specs.Lists.{same}
use Rattle.base.proofs.SameLaws.{same_yes, same_holds}
use Rattle.base.specs.Quantifiers.{same_option}

pub record Decides {A : Type 0} (t : A → A → Bool) : Type 0 where
  pub says : (x y : A) → t x y ≡ true → x ≡ y
  pub itself : (x : A) → t x x ≡ true

pub decided : {A : Type 0} {t : A → A → Bool} → Decides t → {x y : A} → x ≡ y → t x y ≡ true
decided {A} {t} d {x} e = subst (λ z. t x z ≡ true) e (d.itself x)

pub numbers_decided : Decides ◌=?◌
numbers_decided = record { says = eq_holds; itself = λ x. eq_yes x x refl }

pub lists_decided : Decides same
lists_decided = record { says = same_holds; itself = same_yes }

module _ {A : Type 0} {t : A → A → Bool} (d : Decides t) where
  option_says : (x y : Option A) → same_option t x y ≡ true → x ≡ y
  unfolding same_option
  option_says none none h = refl
  option_says none (some y) h = not_both h
  option_says (some x) none h = not_both h
  option_says (some x) (some y) h = ap some (d.says x y h)

  option_itself : (x : Option A) → same_option t x x ≡ true
  unfolding same_option
  option_itself none = refl
  option_itself (some x) = d.itself x

  pub options_decided : Decides (same_option t)
  options_decided = record { says = option_says; itself = option_itself }

-- Two parts decided each by its own test.
pub parts_decided : {A B C : Type 0} {t : B → B → Bool} {u : C → C → Bool} (f : A → B) (g : A → C)
    → ((x y : A) → f x ≡ f y → g x ≡ g y → x ≡ y) → Decides t → Decides u → Decides (λ x y. t (f x) (f y) and u (g x) (g y))
parts_decided f g whole d e = record {
  says = λ x y h. let both = and_holds _ _ h in whole x y (d.says (f x) (f y) both.0) (e.says (g x) (g y) both.1);
  itself = λ x. both_yes _ _ (d.itself (f x)) (e.itself (g x));
}
