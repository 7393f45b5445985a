-- A CPC that comes is taken, and outside Non_prim it is kept.
use Prim.Native.Nat.{ℕ, suc, ◌≤◌, ◌<◌}
use mathlib.Core.Path.{◌≡◌, refl, sym, ap, subst, ◌∙◌}
use mathlib.Core.Bool.{Bool, true, false, not}
use mathlib.Core.Logic.{◌⊎◌, inl, inr}
use native.Mathlib.Omega.{arith}
use Rattle.base.specs.Tests.{◌or◌}
use Rattle.base.proofs.TestLaws.{not_both, eq_yes, both_yes, Known, holds, fails, known}
use Rattle.base.specs.Sets.{in_set, with_member}
use Rattle.base.proofs.SetLaws.{in_with_member, inside_member}
use Rattle.format.specs.Types.{Record, cpc, kind_number, kind_of}
use Rattle.replication.specs.Machine.Types.{Mode, Non_prim, Reg_prim, Trans_prim, Exchange_states, Exchange_actions, Construct, No, Un, Configuration, Membership}
use Rattle.replication.specs.Machine.Rules.{ignoring, collecting_cpc, collecting_late_cpc, on_cpc, rule_for, possible, cpc_in, from_member, is_ignored}
use Rattle.replication.specs.Machine.Step.{the_set}
use Rattle.replication.specs.Runs.Run.{Run}
use Rattle.replication.specs.Runs.Happenings.{is_message, Comes}
use Rattle.replication.proofs.Runs.Roomy.{Roomy as Allowed}
use Rattle.replication.proofs.Runs.CpcOrigins.{cpcs_came}
use Rattle.replication.proofs.Runs.Progress.{Installable, progress_in, progress}
use Rattle.replication.proofs.Runs.Memberships as M
use Rattle.replication.proofs.Runs.Memberships.{Completes, MembershipStep}
use Rattle.replication.proofs.Runs.Stays.{membership_at, stay_configuration, acts_membership}
use Rattle.replication.proofs.Agreement.Exchange.Stages.{remains, stage, InCom, between, onward}
use Rattle.replication.proofs.Agreement.Exchange.Phases.{settled_step}
use Rattle.replication.proofs.Agreement.Exchange.Answers.{coming, TakenAt, taken-by-rule, member-here, is-here}
use Rattle.replication.proofs.Agreement.Exchange.Cpcs.{CpcMessage, cpc_message, cpc_comes_once}
use Rattle.replication.proofs.Agreement.Exchange.PastExchange.{past_exchange}

-- ---- one step

or_left : (t u : Bool) → t ≡ true → (t or u) ≡ true
unfolding ◌or◌
or_left true u h = refl
or_left false u h = not_both h

or_right : (t u : Bool) → u ≡ true → (t or u) ≡ true
unfolding ◌or◌
or_right true u h = refl
or_right false u h = h

member_more : (j k s : ℕ) → in_set j s ≡ true → in_set j (with_member k s) ≡ true
member_more j k s h = in_with_member j k s ∙ or_left _ _ h

member_new : (k s : ℕ) → in_set k (with_member k s) ≡ true
member_new k s = in_with_member k k s ∙ or_right _ _ (eq_yes k k refl)

module _ {n : ℕ} {m : Membership} where
  completes_cpcs : {r : Record} {o : Membership} → Completes n m r o → o.cpcs ≡ m.cpcs
  completes_cpcs (M.by_state x e c d) = refl
  completes_cpcs (M.by_retransmission k p a e c) = refl

  -- In a stay CPCs are only added.
  cpc_kept : {r : Record} {o : Membership} (j : ℕ) → MembershipStep n m r o → remains r ≡ true → in_set j m.cpcs ≡ true → in_set j o.cpcs ≡ true
  unfolding remains
  cpc_kept j (M.ignores r e f) h k = k
  cpc_kept j (M.acts a o e t) h k = k
  cpc_kept j (M.asks p) h k = k
  cpc_kept j (M.collects x e c) h k = k
  cpc_kept j (M.resends x e c d) h k = k
  cpc_kept j (M.counts i p a e c) h k = k
  cpc_kept j (M.attempts r o c q) h k = ap (in_set j) (completes_cpcs c) ∙ k
  cpc_kept j (M.settles r o c q) h k = ap (in_set j) (completes_cpcs c) ∙ k
  cpc_kept j (M.counts_cpc i d e c) h k = member_more j i _ k
  cpc_kept j (M.installs i d e c) h k = member_more j i _ k
  cpc_kept j (M.counts_late_cpc i d e c) h k = member_more j i _ k
  cpc_kept j (M.counts_last_cpc i d e c) h k = member_more j i _ k
  cpc_kept j (M.installs_late a e) h k = k
  cpc_kept j (M.joins c o e i) h k = not_both h
  cpc_kept j (M.leaves o u x e y) h k = k
  cpc_kept j M.recovers h k = not_both h

  -- No CPC ends an exchange.
  completes_kind : {r : Record} {o : Membership} → Completes n m r o → kind_number (kind_of r) ≤ 3
  unfolding kind_number kind_of
  completes_kind (M.by_state x e c d) = omega arith
  completes_kind (M.by_retransmission k p a e c) = omega arith

  -- A CPC that is taken is added, or ignored in Non_prim.
  cpc_added_lem : {k x : ℕ} {o : Membership} → MembershipStep n m (cpc k x) o → (in_set k o.cpcs ≡ true) ⊎ (m.mode ≡ Non_prim)
  unfolding kind_number kind_of
  cpc_added_lem (M.ignores r e f) = inr f
  cpc_added_lem (M.attempts r o c q) = absurd (omega (arith, completes_kind c))
  cpc_added_lem (M.settles r o c q) = absurd (omega (arith, completes_kind c))
  cpc_added_lem (M.counts_cpc k x e c) = inl (member_new k _)
  cpc_added_lem (M.installs k x e c) = inl (member_new k _)
  cpc_added_lem (M.counts_late_cpc k x e c) = inl (member_new k _)
  cpc_added_lem (M.counts_last_cpc k x e c) = inl (member_new k _)

-- ---- a CPC that comes

module _ {n q : ℕ} {l : Run} (A : Allowed n q l) where
  module _ (p i k x : ℕ) (come : Comes n q l p i (cpc k x)) (c : Configuration) (here : InCom n q l p i c) where
    message : CpcMessage A (A.allowed.source p) k c × (x ≡ c.id)
    unfolding is_message
    message = cpc_message A (coming A come refl) refl here

    -- Its sender has ended the exchange, so the server is past it.
    past : 2 ≤ stage (membership_at n q l p i).mode
    unfolding is_message stage
    past =
        let m = message.0 in
        past_exchange A m.sends m.after (omega (arith, m.marking)) (λ e. absurd (omega (arith, m.marking, ap stage e))) (coming A come refl) here

    -- It has not come before.
    not_in : in_set k (membership_at n q l p i).cpcs ≡ false
    unfolding is_message
    not_in = go (known (in_set k (membership_at n q l p i).cpcs))
      where
        go : Known (in_set k (membership_at n q l p i).cpcs) → in_set k (membership_at n q l p i).cpcs ≡ false
        go (holds e) =
            let w = (cpcs_came A i c p here k e).1 in
            absurd (omega (arith, w.earlier, cpc_comes_once A w.delivery (coming A come refl) w.what refl w.here here))
        go (fails e) = e

    full : {X : Type 0} → Installable n (membership_at n q l p i) → X
    unfolding the_set
    full h =
        not_both
        (sym not_in
        ∙ inside_member (the_set (membership_at n q l p i).configuration) (membership_at n q l p i).cpcs k h.all_cpcs
        (ap (λ d. in_set k (the_set d)) (stay_configuration A p i c here) ∙ message.0.member))

    from_member_lem : from_member (membership_at n q l p i) (cpc k x) ≡ true
    unfolding from_member cpc_in
    from_member_lem = both_yes _ _ (member-here A p i c here k message.0.member) (both_yes _ _ (is-here A p i c here x message.1) (ap not not_in))

    pub cpc_taken : TakenAt n q l p i (cpc k x)
    unfolding is_message rule_for on_cpc possible is_ignored ◌or◌ stage
    cpc_taken = go (membership_at n q l p i).mode refl
      where
        go : (m : Mode) → (membership_at n q l p i).mode ≡ m → TakenAt n q l p i (cpc k x)
        go Non_prim e = taken-by-rule A p i come refl ignoring (ap (λ m. on_cpc m k) e) refl refl
        go Reg_prim e = full (progress_in n _ Reg_prim e (progress A i c p here))
        go Trans_prim e = full (progress_in n _ Trans_prim e (progress A i c p here))
        go Exchange_states e = absurd (omega (arith, past, ap stage e))
        go Exchange_actions e = absurd (omega (arith, past, ap stage e))
        go Construct e = taken-by-rule A p i come refl (collecting_cpc k) (ap (λ m. on_cpc m k) e) refl from_member_lem
        go No e = taken-by-rule A p i come refl (collecting_late_cpc k) (ap (λ m. on_cpc m k) e) refl from_member_lem
        go Un e = full (progress_in n _ Un e (progress A i c p here))

  -- Outside Non_prim every CPC that has come is in.
  pub cpcs_recorded : (p i : ℕ) (c : Configuration) → InCom n q l p i c → ((membership_at n q l p i).mode ≡ Non_prim → ⊥) → (y k x : ℕ) → y < p
      → Comes n q l y i (cpc k x) → InCom n q l y i c → in_set k (membership_at n q l p i).cpcs ≡ true
  cpcs_recorded p i c here f y k x h come there-then = go (cpc_added_lem step)
    where
      taken : TakenAt n q l y i (cpc k x)
      taken = cpc_taken y i k x come c there-then

      step : MembershipStep n (membership_at n q l y i) (cpc k x) (membership_at n q l (suc y) i)
      step = subst (λ r. MembershipStep n (membership_at n q l y i) r (membership_at n q l (suc y) i)) taken.1 (acts_membership A y i taken.0)

      go : (in_set k (membership_at n q l (suc y) i).cpcs ≡ true) ⊎ ((membership_at n q l y i).mode ≡ Non_prim) → in_set k (membership_at n q l p i).cpcs ≡ true
      go (inl e) =
          onward A i c (λ m. in_set k m.cpcs ≡ true) (λ m o r s u v. cpc_kept k s u v) (suc y) p (between A i c there-then here (omega arith) h) here h e
      go (inr e) = absurd (f (onward A i c (λ m. m.mode ≡ Non_prim) (λ m o r s u v. (settled_step s u v).0) y p there-then here (omega arith) e))
