-- The numbers of the configurations: the code's tests of them, and what they say of the configurations that are read of them.
use Prim.Native.Nat.{ℕ, ◌<◌, ◌^◌}
use mathlib.Core.Path.{◌≡◌, refl, sym, ap, subst, ◌∙◌}
use mathlib.Core.Bool.{Bool, true, false}
use mathlib.Core.Option.{Option, none, some, none-ne-some, some-injective}
use native.Mathlib.Omega.{arith}
use Rattle.base.specs.Tests.{◌and◌, ◌=?◌, pick}
use Rattle.base.proofs.TestLaws.{pick_yes, pick_no, not_both, and_holds, both_yes, eq_yes, eq_no, eq_holds, Known, holds, fails, known}
use Rattle.base.specs.Sets.{in_set, inside}
use Rattle.base.proofs.SetLaws.{in_empty, inside_member}
use Rattle.format.specs.Types.{Context}
use Rattle.format.specs.Range.{own_set_ok, inside_last}
use Rattle.record.specs.Context.{last_of}
use Rattle.record.specs.declared.State.{State}
use Rattle.replication.specs.Machine.Types.{Configuration, set_of}
use Rattle.replication.specs.Machine.Rules.{member_of, is_of}
use Rattle.replication.specs.Machine.WellFormedRanges.{ConfigurationFits, TransitionalFits}
use Rattle.replication.proofs.WellFormed.Ranges.{own_set_facts, own_set_ok_lem}
use Rattle.image.specs.Header.{status_of, id_of, set_of as set_number, transitional_of}
use Rattle.image.specs.Decode.{regular_of, transitional_in}
use Rattle.state_check.specs.Numbers.{regular_ok, transitional_ok}

-- A choice by a test, as what it comes to.
picked : {A : Type 0} (t : Bool) (x y : A) → t ≡ true → pick t x y ≡ x
picked t x y h = sym (pick_yes t x x y h refl)

other : {A : Type 0} (t : Bool) (x y : A) → t ≡ false → pick t x y ≡ y
other t x y h = sym (pick_no t y x y h refl)

-- ---- the regular one

pub data Regular (c : Context) (h : State) : Type 0 where
  absent : h.configuration_status ≡ 0 → h.configuration_id ≡ 0 → h.configuration_set ≡ 0 → regular_of h ≡ none → Regular c h
  there : h.configuration_status ≡ 1 → own_set_ok c h.configuration_set ≡ true
      → regular_of h ≡ some (record { id = h.configuration_id; set = h.configuration_set }) → Regular c h

pub regular : (c : Context) (h : State) → regular_ok c h ≡ true → Regular c h
unfolding regular_ok regular_of
regular c h t = go (known (h.configuration_status =? 0))
  where
    go : Known (h.configuration_status =? 0) → Regular c h
    go (holds e) =
        let z : h.configuration_status ≡ 0 = eq_holds _ _ e in
        let u = and_holds _ _ (sym (picked _ _ _ e) ∙ t) in
        absent z (eq_holds _ _ u.0) (eq_holds _ _ u.1) (other _ _ _ (eq_no _ 1 (λ p. omega arith)))
    go (fails e) =
        let u = and_holds _ _ (sym (other _ _ _ e) ∙ t) in
        there (eq_holds _ _ u.0) u.1 (picked _ _ _ u.0)

-- From its numbers, if they are what is written of it.
pub regular_ok_lem : (c : Context) (h : State) (d : Option Configuration) → regular_of h ≡ d → h.configuration_status ≡ status_of d → h.configuration_id ≡ id_of d
    → h.configuration_set ≡ set_number d → ((x : Configuration) → d ≡ some x → ConfigurationFits c.servers c.self x) → regular_ok c h ≡ true
unfolding regular_ok status_of id_of set_number
regular_ok_lem c h none p status id set f =
    picked (h.configuration_status =? 0) _ _ (eq_yes _ _ status) ∙ both_yes _ _ (eq_yes _ _ id) (eq_yes _ _ set)
regular_ok_lem c h (some x) p status id set f =
    other (h.configuration_status =? 0) _ _ (eq_no _ 0 (λ z. omega arith))
    ∙ both_yes _ _ (eq_yes _ _ status) (subst (λ (s : ℕ). own_set_ok c s ≡ true) (sym set) (own_set_ok_lem c x.set (f x refl).set))

-- ---- the transitional one

pub data Transitional (c : Context) (h : State) : Type 0 where
  absent : h.transitional_status ≡ 0 → h.transitional_set ≡ 0 → transitional_in h ≡ none → Transitional c h
  there : h.transitional_status ≡ 1 → own_set_ok c h.transitional_set ≡ true → inside_last c.last h.transitional_set ≡ true
      → transitional_in h ≡ some h.transitional_set → Transitional c h

pub transitional : (c : Context) (h : State) → transitional_ok c h ≡ true → Transitional c h
unfolding transitional_ok transitional_in
transitional c h t = go (known (h.transitional_status =? 0))
  where
    go : Known (h.transitional_status =? 0) → Transitional c h
    go (holds e) =
        let z : h.transitional_status ≡ 0 = eq_holds _ _ e in
        absent z (eq_holds _ _ (sym (picked _ _ _ e) ∙ t)) (other _ _ _ (eq_no _ 1 (λ p. omega arith)))
    go (fails e) =
        let u = and_holds _ _ (sym (other _ _ _ e) ∙ t) in
        let v = and_holds _ _ u.1 in
        there (eq_holds _ _ u.0) v.0 v.1 (picked _ _ _ u.0)

pub transitional_ok_lem : (c : Context) (h : State) (d : Option Configuration) (t : Option ℕ) → c.last ≡ set_of d → h.transitional_status ≡ status_of t
    → h.transitional_set ≡ transitional_of t → ((x : ℕ) → t ≡ some x → TransitionalFits c.servers c.self d x) → transitional_ok c h ≡ true
unfolding transitional_ok status_of transitional_of
transitional_ok_lem c h d none l status set f = picked (h.transitional_status =? 0) _ _ (eq_yes _ _ status) ∙ eq_yes _ _ set
transitional_ok_lem c h d (some x) l status set f =
    let fits = f x refl in
    other (h.transitional_status =? 0) _ _ (eq_no _ 0 (λ z. omega arith))
    ∙ both_yes _ _ (eq_yes _ _ status)
    (subst (λ (s : ℕ). (own_set_ok c s and inside_last c.last s) ≡ true) (sym set)
    (both_yes _ _ (own_set_ok_lem c x fits.set) (ap (λ (o : Option ℕ). inside_last o x) l ∙ fits.inside)))

-- ---- what a well-formed state's membership needs

module _ (c : Context) (h : State) (last_is : c.last ≡ last_of h.configuration_status h.configuration_set) where
  -- The last regular set, as a record is read against it.
  pub last_set : Regular c h → c.last ≡ set_of (regular_of h)
  unfolding last_of set_of
  last_set (absent s i t e) = last_is ∙ ap (λ (k : ℕ). last_of k h.configuration_set) s ∙ ap set_of (sym e)
  last_set (there s o e) = last_is ∙ ap (λ (k : ℕ). last_of k h.configuration_set) s ∙ ap set_of (sym e)

  pub regular_fits : h.configuration_id < 2 ^ 32 → Regular c h → (d : Configuration) → regular_of h ≡ some d → ConfigurationFits c.servers c.self d
  regular_fits small (absent s i t e) d p = absurd (none-ne-some d (sym e ∙ p))
  regular_fits small (there s o e) d p =
      subst (ConfigurationFits c.servers c.self) (some-injective _ d (sym e ∙ p)) (record { id = small; set = own_set_facts c _ o })

  pub transitional_fits_lem : Regular c h → Transitional c h → (t : ℕ) → transitional_in h ≡ some t → TransitionalFits c.servers c.self (regular_of h) t
  transitional_fits_lem r (absent s z e) t p = absurd (none-ne-some t (sym e ∙ p))
  transitional_fits_lem r (there s o l e) t p =
      subst (TransitionalFits c.servers c.self (regular_of h)) (some-injective _ t (sym e ∙ p))
      (record { set = own_set_facts c _ o; inside = ap (λ (x : Option ℕ). inside_last x h.transitional_set) (sym (last_set r)) ∙ l })

  -- A sender of a State is a member, and the State is of the configuration.
  pub member : Regular c h → inside h.states h.configuration_set ≡ true → (k : ℕ) → in_set k h.states ≡ true → member_of (regular_of h) k ≡ true
  unfolding member_of
  member (absent s i t e) l k m =
      let z : in_set k h.configuration_set ≡ true = inside_member _ _ k l m in
      not_both (sym (in_empty k) ∙ ap (in_set k) (sym t) ∙ z)
  member (there s o e) l k m = ap (λ (d : Option Configuration). member_of d k) e ∙ inside_member _ _ k l m

  pub of_it : Regular c h → (k : ℕ) → member_of (regular_of h) k ≡ true → (i : ℕ) → i ≡ h.configuration_id → is_of (regular_of h) i ≡ true
  unfolding is_of member_of
  of_it (absent s j t e) k m i p = not_both (ap (λ (d : Option Configuration). member_of d k) (sym e) ∙ m)
  of_it (there s o e) k m i p = ap (λ (d : Option Configuration). is_of d i) e ∙ eq_yes _ _ p
