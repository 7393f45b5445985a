-- Whoever ends an exchange has the State that each member sent on taking the configuration, and no other; so all have the same.
use Prim.Native.Nat.{ℕ, suc, ◌<◌}
use mathlib.Core.Path.{◌≡◌, refl, sym, ap, subst, ◌∙◌}
use mathlib.Core.Bool.{true, false}
use mathlib.Core.Option.{Option, none, some}
use native.Mathlib.Omega.{arith}
use lib.ListN.{get_or}
use lib.Seq.{ext_get_or}
use Rattle.base.proofs.TestLaws.{not_both, Known, holds, fails, known}
use Rattle.base.specs.Lists.{present}
use Rattle.base.specs.Sets.{in_set}
use Rattle.format.specs.Types.{State}
use Rattle.replication.specs.Machine.Types.{Configuration}
use Rattle.replication.specs.Machine.Step.{own_state, here_set, all_states_in, collected}
use Rattle.replication.specs.Runs.Run.{Run}
use Rattle.replication.proofs.Runs.Roomy.{Roomy as Allowed}
use Rattle.replication.proofs.Runs.Deliveries.{sent_before}
use Rattle.replication.proofs.Runs.AllowedTurns.{memory_at}
use Rattle.replication.proofs.Runs.Coupling.{coupled}
use Rattle.replication.proofs.Runs.Memberships.{every_state_in}
use Rattle.replication.proofs.Runs.Stays.{membership_at}
use Rattle.replication.proofs.Runs.StateOrigins.{states_came}
use Rattle.replication.proofs.Agreement.Terms.{EndsAt, SentState}
use Rattle.replication.proofs.Agreement.Exchange.Stages.{InCom}
use Rattle.replication.proofs.Agreement.Exchange.Endings.{ends_membership}
use Rattle.replication.proofs.Agreement.Exchange.Collected.{states_length, complete_in}
use Rattle.replication.proofs.Agreement.Exchange.States.{StateMessage, state_message}

module _ {n q : ℕ} {l : Run} (A : Allowed n q l) where
  -- ---- at any place of a stay

  -- A State that a server has collected is the one that its sender sent on taking the configuration.
  pub collected_sent : (p i : ℕ) (c : Configuration) → InCom n q l p i c → (k : ℕ) (x : State) → get_or (membership_at n q l p i).states k none ≡ some x
      → (y : SentState n q l k c x) × (suc y.at < p) × (in_set k c.set ≡ true)
  collected_sent p i c here k x e =
      let h = states_came A i c p here k x e in
      let w = h.0 in
      let m = subst (λ z. StateMessage A (A.allowed.source w.place) z c x) (sym h.1) (state_message A w.delivery w.what w.here) in
      let s : SentState n q l k c x = record { at = (A.allowed.source w.place).sending; took = m.entered.took; says = m.entered.is } in
      (s, omega (arith, sent_before A w.delivery, w.earlier), m.member)

  -- A server's State in one configuration is one.
  pub sent_same : {k : ℕ} {c : Configuration} {x y : State} → SentState n q l k c x → SentState n q l k c y → x ≡ y
  sent_same {k} {c} {x} {y} u v =
      u.says ∙ ap (λ z. own_state c (memory_at n q l (suc z) k)) (A.allowed.once u.at v.at k c u.took v.took) ∙ sym v.says

  -- A server collects only members' States.
  pub collected_only : (p i : ℕ) (c : Configuration) → InCom n q l p i c → (k : ℕ) → in_set k c.set ≡ false
      → get_or (membership_at n q l p i).states k none ≡ none
  collected_only p i c here k h = go (get_or (membership_at n q l p i).states k none) refl
    where
      go : (x : Option State) → get_or (membership_at n q l p i).states k none ≡ x → x ≡ none
      go none e = refl
      go (some x) e = not_both (sym h ∙ (collected_sent p i c here k x e).2)

  -- Two servers that have all States of one configuration have the same.
  pub complete_same : (p r i j : ℕ) (c : Configuration) → InCom n q l p i c → InCom n q l r j c → every_state_in (membership_at n q l p i) ≡ true
      → every_state_in (membership_at n q l r j) ≡ true → (membership_at n q l p i).states ≡ (membership_at n q l r j).states
  complete_same p r i j c a b e f =
      ext_get_or none _ _ (states_length A i c p a ∙ sym (states_length A j c r b))
      (λ k h. go k (omega (arith, states_length A i c p a)) (known (in_set k c.set)))
    where
      go : (k : ℕ) → k < n → Known (in_set k c.set) → get_or (membership_at n q l p i).states k none ≡ get_or (membership_at n q l r j).states k none
      go k h (holds m) =
          let x = complete_in A i c p a e k h m in
          let y = complete_in A j c r b f k h m in
          x.1 ∙ ap some (sent_same (collected_sent p i c a k x.0 x.1).0 (collected_sent r j c b k y.0 y.1).0) ∙ sym y.1
      go k h (fails m) = collected_only p i c a k m ∙ sym (collected_only r j c b k m)

  -- ---- at the end of an exchange

  module _ {p i : ℕ} {c : Configuration} (x : EndsAt n q l p i c) where
    pub after_states_lem : (membership_at n q l (suc p) i).states ≡ x.judged.membership.states
    after_states_lem = ap (λ s. s.membership.states) x.acts.memory_next ∙ ap (λ m. m.states) (ends_membership x.ends).1

    pub still_here : InCom n q l (suc p) i c
    still_here =
        sym (ap (λ z. z.regular) (coupled A (suc p) i x.acts.down_next))
        ∙ ap (λ s. s.membership.configuration) x.acts.memory_next
        ∙ ap (λ m. m.configuration) (ends_membership x.ends).1
        ∙ x.configuration

    pub complete_after : every_state_in (membership_at n q l (suc p) i) ≡ true
    unfolding all_states_in here_set
    complete_after =
        ap (λ m. every_state_in m.membership) x.acts.memory_next ∙ ap every_state_in (ends_membership x.ends).1 ∙ x.complete

    pub states_sent : (k : ℕ) → k < n → in_set k c.set ≡ true
        → (s : State) × (get_or x.judged.membership.states k none ≡ some s) × (y : SentState n q l k c s) × (y.at < p)
    states_sent k h m =
        let s = complete_in A i c (suc p) still_here complete_after k h m in
        let y = collected_sent (suc p) i c still_here k s.0 s.1 in
        (s.0, ap (λ z. get_or z k none) (sym after_states_lem) ∙ s.1, y.0, omega (arith, y.1))

    pub states_only : (k : ℕ) → in_set k c.set ≡ false → get_or x.judged.membership.states k none ≡ none
    states_only k h = ap (λ z. get_or z k none) (sym after_states_lem) ∙ collected_only (suc p) i c still_here k h

  pub same_states : (p r i j : ℕ) (c : Configuration) (x : EndsAt n q l p i c) (y : EndsAt n q l r j c) → collected x.judged ≡ collected y.judged
  unfolding collected
  same_states p r i j c x y =
      ap present
      (sym (after_states_lem x) ∙ complete_same (suc p) (suc r) i j c (still_here x) (still_here y) (complete_after x) (complete_after y) ∙ after_states_lem y)
