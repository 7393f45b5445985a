-- Which events a server does not refuse.
use Prim.Native.Nat.{ℕ}
use mathlib.Core.Path.{◌≡◌, refl, sym, ap, subst, ◌∙◌}
use mathlib.Core.Bool.{Bool, true, false, not}
use mathlib.Core.Option.{Option, none, some}
use Rattle.base.specs.Tests.{◌or◌, pick}
use Rattle.base.proofs.TestLaws.{not_both}
use Rattle.base.specs.Lists.{is_there}
use Rattle.base.proofs.AtLaws.{none_some}
use Rattle.format.specs.Types.{Record, regular, transitional, recovery}
use Rattle.replication.specs.Machine.Types.{Mode, Non_prim, Reg_prim, Trans_prim, Exchange_states, Exchange_actions, Construct, No, Un, Configuration, Server, Outcome, refused, taken}
use Rattle.replication.specs.Machine.Rules.{Rule, on_regular, on_transitional, rule_for, regular_due, transitional_due, possible, is_ignored, from_member, within_quota}
use Rattle.replication.specs.Machine.Step.{apply, apply_rule, answer}
use Rattle.replication.specs.Machine.White.{full, sieved, sieved_record, raised}
use Rattle.replication.proofs.Step.Inversion.{not_taken}
use Rattle.replication.specs.Laws.Modes.{InRegular}
use Rattle.replication.proofs.Step.Moves.{Moves, rule_moves, rule_sieved}
use Rattle.replication.proofs.Runs.Modes.{Stands, Standing}

moves_no_refusal : (s : Server) (r : Record) (o : Outcome Record) (z : ℕ) → o ≡ refused z → Moves s r o → ⊥
moves_no_refusal s r o z e m = subst (Moves s r) e m

pub picked_true : {A : Type 0} (c : Bool) (x y : A) → c ≡ true → pick c x y ≡ x
unfolding pick
picked_true true x y e = refl
picked_true false x y e = not_both e

pub picked_false : {A : Type 0} (c : Bool) (x y : A) → c ≡ false → pick c x y ≡ y
unfolding pick
picked_false true x y e = not_both (sym e)
picked_false false x y e = refl

pub or_true : (c d : Bool) → d ≡ true → (c or d) ≡ true
unfolding ◌or◌
or_true true d e = refl
or_true false d e = e

raised_refused : (k : Rule) (s : Server) (o : Outcome Record) (y : ℕ) → raised k s o ≡ refused y → o ≡ refused y
unfolding raised
raised_refused k s (refused j) y u = u
raised_refused k s (taken t rs m g) y u = not_taken (sym u)

-- An event that has a rule in the state and meets no row of the table is taken.
pub not_refused : (s : Server) (r : Record) (k : Rule) → rule_for s.membership.mode r ≡ some k → possible s r ≡ true
    → (is_ignored k or from_member s.membership r) ≡ true → within_quota s r ≡ true → (z : ℕ) → answer s r ≡ refused z → ⊥
unfolding answer apply_rule
not_refused s r k e a b c z h = moves_no_refusal s (sieved_record (full k s) r) (apply (sieved (full k s) k) s) z (raised_refused k s (apply (sieved (full k s) k) s) z (sym f ∙ h))
    (rule_moves s (sieved_record (full k s) r) (sieved (full k s) k) (rule_sieved s.membership.mode (full k s) r k e))
  where
    f : answer s r ≡ raised k s (apply (sieved (full k s) k) s)
    f = ap (λ x. apply_rule x s r) e ∙ picked_true _ _ _ a ∙ picked_true _ _ _ b ∙ picked_true _ _ _ c

-- ---- the events of the group layer

pub recovery_taken : (s : Server) (z : ℕ) → answer s recovery ≡ refused z → ⊥
unfolding rule_for possible from_member within_quota is_ignored ◌or◌
recovery_taken s z h = not_refused s recovery _ refl refl refl refl z h

regular_ruled : (m : Mode) (c : Option Configuration) (t : Option ℕ) (d : Configuration) → (InRegular c t → ⊥) → Stands m c t
    → (k : Rule) × (on_regular m d ≡ some k)
unfolding on_regular
regular_ruled Non_prim c t d f h = (_, refl)
regular_ruled Reg_prim c t d f h = absurd (f h)
regular_ruled Trans_prim c t d f h = (_, refl)
regular_ruled Exchange_states c t d f h = absurd (f h)
regular_ruled Exchange_actions c t d f h = absurd (f h)
regular_ruled Construct c t d f h = absurd (f h)
regular_ruled No c t d f h = (_, refl)
regular_ruled Un c t d f h = (_, refl)

due : (c : Option Configuration) (t : Option ℕ) → (InRegular c t → ⊥) → (is_there t or not (is_there c)) ≡ true
unfolding is_there ◌or◌
due none none f = refl
due (some d) none f = absurd (f (record { configuration = d; there = refl; none_after = refl }))
due c (some x) f = refl

-- A regular configuration is taken unless the latest one is regular.
pub regular_taken : (s : Server) (i x z : ℕ) → Standing s → (InRegular s.membership.configuration s.membership.transitional → ⊥)
    → answer s (regular i x) ≡ refused z → ⊥
unfolding rule_for possible regular_due from_member within_quota
regular_taken s i x z h f e =
    let k = regular_ruled _ _ _ (record { id = i; set = x }) f h in
    not_refused s (regular i x) k.0 k.1 (due _ _ f) (or_true _ _ refl) refl z e

transitional_ruled : (m : Mode) (c : Option Configuration) (t : Option ℕ) (x : ℕ) → t ≡ none → Stands m c t → (k : Rule) × (on_transitional m x ≡ some k)
unfolding on_transitional
transitional_ruled Non_prim c t x f h = (_, refl)
transitional_ruled Reg_prim c t x f h = (_, refl)
transitional_ruled Trans_prim c t x f h = none_some (sym f ∙ h.after)
transitional_ruled Exchange_states c t x f h = (_, refl)
transitional_ruled Exchange_actions c t x f h = (_, refl)
transitional_ruled Construct c t x f h = (_, refl)
transitional_ruled No c t x f h = none_some (sym f ∙ h.after)
transitional_ruled Un c t x f h = none_some (sym f ∙ h.after)

-- A transitional configuration is taken unless one has come.
pub transitional_taken : (s : Server) (x z : ℕ) → Standing s → s.membership.transitional ≡ none → answer s (transitional x) ≡ refused z → ⊥
unfolding rule_for possible transitional_due is_there from_member within_quota
transitional_taken s x z h f e =
    let k = transitional_ruled _ _ _ x f h in
    not_refused s (transitional x) k.0 k.1 (ap (λ t. not (is_there t)) f) (or_true _ _ refl) refl z e
