-- Marks told apart; whom rule (b) names.
use mathlib.Core.Path.{◌≡◌, sym, ap, ◌∙◌}
use mathlib.Core.Bool.{true, false, not}
use mathlib.Core.List.{List, [], Memᴰ}
use mathlib.Core.Logic.{◌⊎◌, inl, inr}
use Rattle.base.proofs.Members.{any_from}
use Rattle.base.specs.Sets.{in_set}
use Rattle.base.specs.Tests.{◌and◌, ◌or◌, ◌=?◌, pick}
use Rattle.base.proofs.TestLaws.{not_both, and_holds, both_yes, eq_holds, eq_fails, eq_yes, Known, holds, fails, known}
use Rattle.format.specs.Types.{Mark, State}
use Rattle.replication.specs.Machine.Types.{Server}
use Rattle.replication.specs.Machine.Exchange.{is_marked, same_attempt_of, rule_b}
use Rattle.replication.proofs.Agreement.Votes.Judging.{Alike}
use Rattle.replication.proofs.Agreement.Greens.Terms.{valid_yellow}

pub alike? : (m o : Mark) → Alike m o ⊎ (Alike m o → ⊥)
alike? m o = go (known (o.status =? 1)) (known (o.index =? m.index)) (known (o.attempt =? m.attempt)) (known (o.set =? m.set))
  where
    go : Known (o.status =? 1) → Known (o.index =? m.index) → Known (o.attempt =? m.attempt) → Known (o.set =? m.set) → Alike m o ⊎ (Alike m o → ⊥)
    go (holds a) (holds b) (holds c) (holds d) =
        inl (record { status = eq_holds _ _ a; index = eq_holds _ _ b; attempt = eq_holds _ _ c; set = eq_holds _ _ d })
    go (fails a) b c d = inr (λ h. eq_fails _ _ a h.status)
    go (holds a) (fails b) c d = inr (λ h. eq_fails _ _ b h.index)
    go (holds a) (holds b) (fails c) d = inr (λ h. eq_fails _ _ c h.attempt)
    go (holds a) (holds b) (holds c) (fails d) = inr (λ h. eq_fails _ _ d h.set)

pub invalid_yellow : (u : Server) → (u.votes.yellow.status =? 1) ≡ false → valid_yellow u ≡ []
unfolding valid_yellow pick
invalid_yellow u h = rw h

-- Rule (b) names a present member of the mark's set whose mark is another, or none.
pub rule_b_names : (xs : List State) (v : State) → rule_b xs v ≡ true
    → (w : State) × Memᴰ w xs × (in_set w.sender v.mark.set ≡ true) × ((m : Mark) → Alike m v.mark → Alike m w.mark → ⊥)
unfolding rule_b is_marked same_attempt_of ◌or◌
rule_b_names xs v h =
    let r = any_from (λ x. in_set x.sender v.mark.set and (not (is_marked x) or not (same_attempt_of v.mark x.mark))) xs h in
    let k = and_holds _ _ r.2 in
    (r.0, r.1, k.0, λ m a b. differ r.0 m a b k.1)
  where
    differ : (w : State) (m : Mark) → Alike m v.mark → Alike m w.mark
        → (not (w.mark.status =? 1) or not ((w.mark.index =? v.mark.index) and (w.mark.attempt =? v.mark.attempt))) ≡ true → ⊥
    differ w m a b e =
        let p : (w.mark.status =? 1) ≡ true = eq_yes _ _ b.status in
        let q : ((w.mark.index =? v.mark.index) and (w.mark.attempt =? v.mark.attempt)) ≡ true =
        both_yes _ _ (eq_yes _ _ (b.index ∙ sym a.index)) (eq_yes _ _ (b.attempt ∙ sym a.attempt)) in
        not_both (sym (ap (λ z. not z or not ((w.mark.index =? v.mark.index) and (w.mark.attempt =? v.mark.attempt))) p ∙ ap (λ z. not z) q) ∙ e)
