-- An action that comes is taken: its sender has ended the exchange, and if it marked, it had every CPC.
use Prim.Native.Nat.{ℕ, suc, ◌^◌, ◌≤◌, ◌<◌}
use mathlib.Core.Path.{◌≡◌, refl, sym, ap, subst, ◌∙◌}
use mathlib.Core.Bool.{true}
use mathlib.Core.Logic.{◌⊎◌, inl, inr}
use mathlib.Core.Option.{none}
use native.Mathlib.Omega.{arith}
use Rattle.base.specs.Tests.{◌or◌}
use Rattle.base.proofs.TestLaws.{not_both}
use Rattle.base.specs.Lists.{present}
use Rattle.base.specs.Sets.{in_set, inside}
use Rattle.base.proofs.SetLaws.{members_inside}
use Rattle.format.specs.Types.{Action, action}
use Rattle.replication.specs.Machine.Types.{Mode, Non_prim, Reg_prim, Trans_prim, Exchange_states, Exchange_actions, Construct, No, Un, Configuration}
use Rattle.replication.specs.Machine.Exchange.{quorum}
use Rattle.replication.specs.Machine.Rules.{reddening, greening, yellowing, late_installing, on_action, rule_for, possible, from_member, is_ignored}
use Rattle.replication.specs.Machine.Step.{the_set}
use Rattle.replication.proofs.WellFormed.SentFacts.{sender_of}
use Rattle.replication.specs.Runs.Run.{Run, place_at}
use Rattle.replication.specs.Runs.Happenings.{Message, is_message, Comes, Sends}
use Rattle.replication.proofs.Runs.Roomy.{Roomy as Allowed}
use Rattle.replication.proofs.Runs.Numbers.{numbers, invariant_at}
use Rattle.replication.proofs.Runs.Deliveries.{Delivery}
use Rattle.replication.proofs.Runs.Order.{in_regular_of}
use Rattle.replication.proofs.Runs.AllowedTurns.{memory_at}
use Rattle.replication.proofs.Runs.PutRecords.{action_sent_in}
use Rattle.replication.proofs.Runs.StateOrigins.{puts_among, puts_by}
use Rattle.replication.proofs.Runs.Made.{delivered_made}
use Rattle.replication.proofs.Runs.Progress.{Attempting, Settled, Installable, progress_in, stay_member, progress}
use Rattle.replication.proofs.Runs.Memberships.{every_state_in, every_cpc_in, quorum_in}
use Rattle.replication.proofs.Runs.Stays.{membership_at, stay_configuration, stay_transitional}
use Rattle.replication.proofs.Step.Apart.{mode_number, other_mode}
use Rattle.replication.proofs.Agreement.Exchange.Stages.{stage, InCom}
use Rattle.replication.proofs.Agreement.Exchange.SameStates.{complete_same}
use Rattle.replication.proofs.Agreement.Exchange.Messages.{sent_in_lem}
use Rattle.replication.proofs.Agreement.Exchange.Answers.{coming, TakenAt, taken-by-rule, member-here}
use Rattle.replication.proofs.Agreement.Exchange.Causality.{came_before}
use Rattle.replication.proofs.Agreement.Exchange.Retransmissions.{made_numbered}
use Rattle.replication.proofs.Agreement.Exchange.Cpcs.{every_cpc_came}
use Rattle.replication.proofs.Agreement.Exchange.PastExchange.{past_exchange}
use Rattle.replication.proofs.Agreement.Exchange.CpcsTaken.{cpcs_recorded}

-- The states in which actions are sent.
abbrev pub SendsActions : Mode → Type 0
SendsActions m = (m ≡ Non_prim) ⊎ (m ≡ Reg_prim)

module _ {n q : ℕ} {l : Run} (A : Allowed n q l) where
  -- The message m is an action that the server k sent in regular c, in Non_prim or Reg_prim.
  pub record ActionMessage (m : Message) (k : ℕ) (c : Configuration) : Type 0 where
    pub sends : Sends n q l k m c
    pub member : in_set k c.set ≡ true
    pub in_regular_lem : place_at n q l k (suc m.sending) ≡ in_regular_of c
    pub after : InCom n q l (suc m.sending) k c
    pub regular : (membership_at n q l (suc m.sending) k).transitional ≡ none
    pub sender_in : SendsActions (membership_at n q l (suc m.sending) k).mode

  pub action_message : {p i : ℕ} {a : Action} {m : Message} {c : Configuration} (d : Delivery A p i m) → d.what ≡ action a → InCom n q l p i c
      → ActionMessage m a.id.creator c
  unfolding sender_of
  action_message {p} {i} {a} {m} {c} d e b =
      let k = a.id.creator in
      let u = sent_in_lem A k c d e refl b in
      let z = ap (λ y. y.regular) u.puts.in_regular_lem in
      record {
        sends = u.sends;
        member = u.member;
        in_regular_lem = u.puts.in_regular_lem;
        after = z;
        regular = stay_transitional A (suc m.sending) k c z ∙ ap (λ y. y.transitional) u.puts.in_regular_lem;
        sender_in =
            subst (λ s. SendsActions s.membership.mode) (sym u.puts.act.memory_next)
            (action_sent_in (puts_by A u.puts) a (puts_among A u.puts));
      }

  -- If each member's CPC is in, all are.
  pub every_cpc_in_lem : (p i : ℕ) (c : Configuration) → InCom n q l p i c → ((k : ℕ) → in_set k c.set ≡ true → in_set k (membership_at n q l p i).cpcs ≡ true)
      → every_cpc_in (membership_at n q l p i) ≡ true
  unfolding the_set
  every_cpc_in_lem p i c here f =
      let h = stay_configuration A p i c here in
      let w = ((invariant_at n q i A.allowed.sizes (stay_member A i p c here).0 l p).memory.well_formed_lem.membership.configuration c h).set.below in
      ap (λ d. inside (the_set d) (membership_at n q l p i).cpcs) h
      ∙ members_inside n c.set (membership_at n q l p i).cpcs (subst (λ z. c.set < 2 ^ z) (numbers n q i l p).memory.servers w) (λ k a m. f k m)

  -- If the sender of a message had every CPC, whoever delivers it outside Non_prim has every CPC in.
  pub every_cpc_delivered : {m : Message} {k p i : ℕ} {c : Configuration} → Sends n q l k m c → InCom n q l (suc m.sending) k c
      → Installable n (membership_at n q l (suc m.sending) k) → Delivery A p i m → InCom n q l p i c → ((membership_at n q l p i).mode ≡ Non_prim → ⊥)
      → every_cpc_in (membership_at n q l p i) ≡ true
  every_cpc_delivered {m} {k} {p} {i} {c} s a h d b f =
      every_cpc_in_lem p i c b
      (λ j u.
      let w = every_cpc_came A (suc m.sending) k c a h j u in
      let y = (came_before A s w.1 d).0 in
      cpcs_recorded A p i c b f y.place j w.0 y.earlier (subst (λ r. Comes n q l y.place i r) y.what y.delivery.comes) y.here)

  -- One who ended the exchange in c with a quorum, and one without, cannot both be.
  pub one_decision : (p r i j : ℕ) (c : Configuration) → InCom n q l p i c → InCom n q l r j c → every_state_in (membership_at n q l p i) ≡ true
      → quorum_in (membership_at n q l p i) ≡ true → Settled n (membership_at n q l r j) → ⊥
  unfolding the_set
  one_decision p r i j c a b x u y =
      let e = complete_same A p r i j c a b x y.ended.all_in in
      let f = stay_configuration A p i c a ∙ sym (stay_configuration A r j c b) in
      not_both (sym y.refused ∙ sym (λ z. quorum (present (e z)) (the_set (f z))) ∙ u)

  -- The sender of an action in Non_prim ended the exchange without a quorum.
  pub sender_settled : {m : Message} {k : ℕ} {c : Configuration} → ActionMessage m k c → (membership_at n q l (suc m.sending) k).mode ≡ Non_prim
      → Settled n (membership_at n q l (suc m.sending) k)
  sender_settled {m} {k} {c} x e =
      progress_in n _ Non_prim e (progress A k c (suc m.sending) x.after)
      (record { configuration = c; there = stay_configuration A (suc m.sending) k c x.after; none_after = x.regular })

  -- The sender of an action in Reg_prim had every CPC.
  pub sender_installed : {m : Message} {k : ℕ} {c : Configuration} → ActionMessage m k c → (membership_at n q l (suc m.sending) k).mode ≡ Reg_prim
      → Installable n (membership_at n q l (suc m.sending) k)
  sender_installed {m} {k} {c} x e = progress_in n _ Reg_prim e (progress A k c (suc m.sending) x.after)

  module _ (p i : ℕ) (a : Action) (come : Comes n q l p i (action a)) (c : Configuration) (here : InCom n q l p i c) where
    message : ActionMessage (A.allowed.source p) a.id.creator c
    unfolding is_message
    message = action_message (coming A come refl) refl here

    -- The server is past the exchange, and does not lack a CPC.
    not_attempting : Attempting n (membership_at n q l p i) → ((membership_at n q l p i).mode ≡ Non_prim → ⊥) → ⊥
    unfolding is_message
    not_attempting x f = go message.sender_in
      where
        go : SendsActions (membership_at n q l (suc (A.allowed.source p).sending) a.id.creator).mode → ⊥
        go (inl e) =
            one_decision p (suc (A.allowed.source p).sending) i a.id.creator c here message.after x.ended.all_in x.agreed (sender_settled message e)
        go (inr e) =
            not_both (sym x.not_all_cpcs ∙ every_cpc_delivered message.sends message.after (sender_installed message e) (coming A come refl) here f)

    -- The server is past the exchange.
    pub past : 2 ≤ stage (membership_at n q l p i).mode
    unfolding is_message stage
    past = past_exchange A message.sends message.after (go message.sender_in) (λ e. message.regular) (coming A come refl) here
      where
        go : SendsActions (membership_at n q l (suc (A.allowed.source p).sending) a.id.creator).mode
            → 2 ≤ stage (membership_at n q l (suc (A.allowed.source p).sending) a.id.creator).mode
        go (inl e) = omega (arith, ap stage e)
        go (inr e) = omega (arith, ap stage e)

    action_possible : possible (memory_at n q l p i) (action a) ≡ true
    unfolding is_message possible
    action_possible = made_numbered A p i a (delivered_made A (coming A come refl)).0

    from_member_lem : from_member (membership_at n q l p i) (action a) ≡ true
    unfolding from_member
    from_member_lem = member-here A p i c here a.id.creator message.member

    pub action_taken : TakenAt n q l p i (action a)
    unfolding is_message rule_for on_action is_ignored ◌or◌ stage mode_number
    action_taken = go (membership_at n q l p i).mode refl
      where
        go : (m : Mode) → (membership_at n q l p i).mode ≡ m → TakenAt n q l p i (action a)
        go Non_prim e = taken-by-rule A p i come refl (reddening a) (ap (λ m. on_action m a) e) action_possible from_member_lem
        go Reg_prim e = taken-by-rule A p i come refl (greening a) (ap (λ m. on_action m a) e) action_possible from_member_lem
        go Trans_prim e = taken-by-rule A p i come refl (yellowing a) (ap (λ m. on_action m a) e) action_possible from_member_lem
        go Exchange_states e = absurd (omega (arith, past, ap stage e))
        go Exchange_actions e = absurd (omega (arith, past, ap stage e))
        go Construct e = absurd (not_attempting (progress_in n _ Construct e (progress A i c p here)) (λ f. other_mode e f (λ z. omega arith)))
        go No e = absurd (not_attempting (progress_in n _ No e (progress A i c p here)) (λ f. other_mode e f (λ z. omega arith)))
        go Un e = taken-by-rule A p i come refl (late_installing a) (ap (λ m. on_action m a) e) action_possible from_member_lem
