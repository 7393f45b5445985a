-- States in one configuration: each member sends one, on taking it; those that come are taken; all who have them all have the same.
use Prim.Native.Nat.{ℕ, suc, ◌≤◌, ◌<◌}
use mathlib.Core.Path.{◌≡◌, refl, sym, ap, subst, ◌∙◌}
use mathlib.Core.Bool.{true, false, not}
use mathlib.Core.Option.{none, some}
use native.Mathlib.Omega.{arith}
use lib.ListN.{get_or}
use lib.Seq.{get_or-set_same}
use Rattle.base.specs.Tests.{◌or◌}
use Rattle.base.proofs.TestLaws.{not_both, both_yes, Known, holds, fails, known}
use Rattle.base.specs.Lists.{is_there}
use Rattle.base.proofs.ListLaws.{there}
use Rattle.base.specs.Sets.{in_set}
use Rattle.format.specs.Types.{State, state}
use Rattle.replication.specs.Machine.Types.{Mode, Non_prim, Reg_prim, Trans_prim, Exchange_states, Exchange_actions, Construct, No, Un, Configuration}
use Rattle.replication.specs.Machine.Rules.{ignoring, collecting_state, on_state, rule_for, possible, state_in, from_member, is_ignored}
use Rattle.replication.specs.Machine.Step.{own_state}
use Rattle.replication.proofs.WellFormed.SentFacts.{sender_of}
use Rattle.replication.specs.Runs.Run.{Run}
use Rattle.replication.specs.Runs.Happenings.{Message, is_message, Comes, Sends}
use Rattle.replication.proofs.Runs.Roomy.{Roomy as Allowed}
use Rattle.replication.proofs.Runs.Deliveries.{Delivery}
use Rattle.replication.proofs.Runs.Order.{delivered_once}
use Rattle.replication.proofs.Runs.StateOrigins.{Entered, state_entered, states_came}
use Rattle.replication.proofs.Runs.Memberships.{MembershipStep}
use Rattle.replication.proofs.Runs.Stays.{membership_at, acts_membership}
use Rattle.replication.proofs.Step.Apart.{mode_number}
use Rattle.replication.proofs.Agreement.Exchange.Stages.{stage, first_stage, InCom, between, onward, stage_onward}
use Rattle.replication.proofs.Agreement.Exchange.Collected.{complete_in, states_in_lem, states_length, state_adds, state_stays}
use Rattle.replication.proofs.Agreement.Exchange.Messages.{same_message_lem, sent_in_lem}
use Rattle.replication.proofs.Agreement.Exchange.Answers.{coming, TakenAt, taken-by-rule, member-here, is-here}

module _ {n q : ℕ} {l : Run} (A : Allowed n q l) where
  -- The message m is the State x that the server k sent on taking c.
  pub record StateMessage (m : Message) (k : ℕ) (c : Configuration) (x : State) : Type 0 where
    pub entered : Entered A m.sending k c x
    pub first : m.number ≡ 0
    pub sends : Sends n q l k m c
    pub member : in_set k c.set ≡ true

  pub state_message : {p i : ℕ} {m : Message} {c : Configuration} {x : State} (d : Delivery A p i m) → d.what ≡ state x → InCom n q l p i c
      → StateMessage m x.sender c x
  unfolding sender_of
  state_message {p} {i} {m} {c} {x} d e a =
      let u = sent_in_lem A x.sender c d e refl a in
      let v = state_entered A u.puts in
      record { entered = v.0; first = v.1; sends = u.sends; member = u.member }

  -- A server sends one State in a configuration.
  pub one_state : {m m' : Message} {k : ℕ} {c : Configuration} {x y : State} → StateMessage m k c x → StateMessage m' k c y → m ≡ m'
  one_state {m} {m'} {k} {c} u v = same_message_lem (A.allowed.once m.sending m'.sending k c u.entered.took v.entered.took) (u.first ∙ sym v.first)

  -- A server's State comes once to each server.
  pub state_comes_once : {p r i : ℕ} {m m' : Message} {c : Configuration} {x y : State} (d : Delivery A p i m) (e : Delivery A r i m') → d.what ≡ state x
      → e.what ≡ state y → InCom n q l p i c → InCom n q l r i c → x.sender ≡ y.sender → p ≡ r
  state_comes_once {p} {r} {i} {m} {m'} {c} {x} {y} d e f g a b h =
      let u = subst (λ z. StateMessage m z c x) h (state_message d f a) in
      delivered_once A d (subst (λ z. Delivery A r i z) (sym (one_state u (state_message e g b))) e)

  -- ---- a State that comes is taken

  module _ (p i : ℕ) (x : State) (come : Comes n q l p i (state x)) (c : Configuration) (here : InCom n q l p i c) where
    message : StateMessage (A.allowed.source p) x.sender c x
    unfolding is_message
    message = state_message (coming A come refl) refl here

    -- It has not come before.
    not_in : is_there (get_or (membership_at n q l p i).states x.sender none) ≡ false
    unfolding is_message
    not_in = go (known (is_there (get_or (membership_at n q l p i).states x.sender none)))
      where
        go : Known (is_there (get_or (membership_at n q l p i).states x.sender none)) → is_there (get_or (membership_at n q l p i).states x.sender none) ≡ false
        go (holds e) =
            let y = there _ e in
            let w = states_came A i c p here x.sender y.0 y.1 in
            absurd (omega (arith, w.0.earlier, state_comes_once w.0.delivery (coming A come refl) w.0.what refl w.0.here here (sym w.1)))
        go (fails e) = e

    sender_below : x.sender < n
    sender_below = A.allowed.servers (A.allowed.source p).sending x.sender message.sends.mine

    -- The server lacks a State, so it is in Exchange_states or was interrupted.
    not_past : {X : Type 0} (m : Mode) → (membership_at n q l p i).mode ≡ m → 1 ≤ stage m → (mode_number m ≡ 0 → ⊥) → X
    unfolding is_there mode_number
    not_past m e h f =
        let s = states_in_lem A i c p here (omega (arith, ap stage e)) (λ z. absurd (f (ap mode_number (sym e ∙ z)))) in
        let y = complete_in A i c p here s x.sender sender_below message.member in
        not_both (sym not_in ∙ ap is_there y.1)

    names_here : x.configuration ≡ c.id
    unfolding own_state
    names_here = ap (λ z. z.configuration) message.entered.is

    pub state_taken : TakenAt n q l p i (state x)
    unfolding is_message rule_for on_state possible is_ignored from_member state_in ◌or◌ stage mode_number
    state_taken = go (membership_at n q l p i).mode refl
      where
        go : (m : Mode) → (membership_at n q l p i).mode ≡ m → TakenAt n q l p i (state x)
        go Non_prim e = taken-by-rule A p i come refl ignoring (ap (λ m. on_state m x) e) refl refl
        go Reg_prim e = not_past Reg_prim e (omega arith) (λ z. omega arith)
        go Trans_prim e = not_past Trans_prim e (omega arith) (λ z. omega arith)
        go Exchange_states e =
            taken-by-rule A p i come refl (collecting_state x) (ap (λ m. on_state m x) e) refl
            (both_yes _ _ (member-here A p i c here x.sender message.member)
            (both_yes _ _ (is-here A p i c here x.configuration names_here) (ap not not_in)))
        go Exchange_actions e = not_past Exchange_actions e (omega arith) (λ z. omega arith)
        go Construct e = not_past Construct e (omega arith) (λ z. omega arith)
        go No e = not_past No e (omega arith) (λ z. omega arith)
        go Un e = not_past Un e (omega arith) (λ z. omega arith)

  -- In Exchange_states every State that has come is in.
  pub states_recorded : (p i : ℕ) (c : Configuration) → InCom n q l p i c → (membership_at n q l p i).mode ≡ Exchange_states → (y : ℕ) (x : State) → y < p
      → Comes n q l y i (state x) → InCom n q l y i c → is_there (get_or (membership_at n q l p i).states x.sender none) ≡ true
  unfolding stage is_there
  states_recorded p i c here e y x h come there-then =
      onward A i c (λ m. is_there (get_or m.states x.sender none) ≡ true) (state_stays n x.sender) (suc y) p
      (between A i c there-then here (omega arith) h) here h
      (ap (λ z. is_there (get_or z x.sender none)) (state_adds step collecting)
      ∙ ap is_there
      (get_or-set_same (membership_at n q l y i).states x.sender (some x) none
      (omega (arith, states_length A i c y there-then, sender_below y i x come c there-then))))
    where
      collecting : (membership_at n q l y i).mode ≡ Exchange_states
      collecting = first_stage _ (omega (arith, stage_onward A i c y p there-then here (omega arith), ap stage e))

      taken : TakenAt n q l y i (state x)
      taken = state_taken y i x come c there-then

      step : MembershipStep n (membership_at n q l y i) (state x) (membership_at n q l (suc y) i)
      step = subst (λ r. MembershipStep n (membership_at n q l y i) r (membership_at n q l (suc y) i)) taken.1 (acts_membership A y i taken.0)
