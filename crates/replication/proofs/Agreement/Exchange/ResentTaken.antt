-- No more retransmissions come in a configuration than are planned, so each one that comes is taken.
use Prim.Native.Nat.{ℕ, suc, ◌+◌, ◌≤◌, ◌<◌}
use mathlib.Core.Path.{◌≡◌, refl, sym, ap, subst, ◌∙◌}
use mathlib.Core.Bool.{true}
use mathlib.Core.List.{List, Memᴰ}
use mathlib.Core.Option.{Option, none, some}
use native.Mathlib.Omega.{arith}
use lib.ListN.{length}
use Rattle.base.specs.Tests.{◌or◌}
use Rattle.base.specs.Lists.{at, present}
use Rattle.base.proofs.Distinct.{numbered_length}
use Rattle.base.proofs.Passing.{passing, passing_in, passing_more, passing_distinct}
use Rattle.base.proofs.Totals.{total, slot_below, slot_same}
use Rattle.format.specs.Types.{Action, State, retransmission}
use Rattle.replication.specs.Machine.Types.{Mode, Non_prim, Reg_prim, Trans_prim, Exchange_states, Exchange_actions, Construct, No, Un, Configuration}
use Rattle.replication.specs.Machine.Rules.{reddening, on_retransmission, rule_for, from_member, is_ignored}
use Rattle.replication.specs.Runs.Run.{Entry, Run, server_of}
use Rattle.replication.specs.Runs.Happenings.{is_message, Of, Comes}
use Rattle.replication.proofs.Runs.Roomy.{Roomy as Allowed}
use Rattle.replication.proofs.Runs.AllowedTurns.{memory_at}
use Rattle.replication.proofs.Runs.Memberships.{states_in_of, every_state_in, planned_in}
use Rattle.replication.proofs.Runs.Stays.{membership_at}
use Rattle.replication.proofs.Agreement.Exchange.Stages.{stage, InCom}
use Rattle.replication.proofs.Agreement.Exchange.Collected.{states_in_lem}
use Rattle.replication.proofs.Agreement.Exchange.SameStates.{complete_same}
use Rattle.replication.proofs.Agreement.Exchange.Messages.{same_message_lem}
use Rattle.replication.proofs.Agreement.Exchange.Answers.{coming, TakenAt, taken-by-rule, member-here}
use Rattle.replication.proofs.Agreement.Exchange.Retransmissions.{resent_at, resent_yes, resent_holds, PartMessage, part_message, one_place, resent_possible, resent_late, resent_taken}
use Rattle.replication.proofs.Agreement.Exchange.Tally.{resent_count}
use Rattle.replication.proofs.Agreement.Exchange.PastExchange.{messages_differ, ended_count}
use Rattle.replication.proofs.Agreement.Exchange.Shares.{share, part_within, shares_planned}

-- Whose the entry is, if there is one.
owner_of : Option Entry → ℕ
owner_of none = 0
owner_of (some e) = server_of e

owner : {l : Run} {v k : ℕ} → Of l v k → owner_of (at l v) ≡ k
unfolding owner_of
owner x = ap owner_of x.here ∙ x.its

module _ {n q : ℕ} {l : Run} (A : Allowed n q l) where
  module _ (p i : ℕ) (c : Configuration) (here : InCom n q l p i c) (complete : every_state_in (membership_at n q l p i) ≡ true) (t : ℕ) where
    abbrev pub states_here : List State
    states_here = states_in_of (membership_at n q l p i)

    -- The number, among all that are planned, of the retransmission that comes at x.
    pub plan_number : ℕ → ℕ
    plan_number x = total (owner_of (at l (A.allowed.source x).sending)) (share n states_here) + (A.allowed.source x).number

    pub record Resent (x : ℕ) : Type 0 where
      pub sender : ℕ
      pub message : PartMessage A (A.allowed.source x) sender c
      pub number : plan_number x ≡ total sender (share n states_here) + (A.allowed.source x).number
      pub below_share : (A.allowed.source x).number < share n states_here sender

    pub resent : (x : ℕ) → Memᴰ x (passing (resent_at n q l c i) t) → Resent x
    unfolding is_message plan_number
    resent x h =
        let u = resent_holds n q l c i x (passing_in (resent_at n q l c i) t x h).1 in
        let m = part_message A (coming A u.3 refl) refl u.4 in
        let v = suc (A.allowed.source x).sending in
        let e = complete_same A v p u.0 i c m.put.after here m.put.complete complete in
        let w = part_within n u.0 (memory_at n q l (A.allowed.source x).sending u.0).white (memory_at n q l v u.0).log (states_in_of (membership_at n q l v u.0)) in
        record {
          sender = u.0;
          message = m;
          number = ap (λ z. total z (share n (states_in_of (membership_at n q l p i))) + (A.allowed.source x).number) (owner m.sends.mine);
          below_share = subst (λ z. (A.allowed.source x).number < share n (present z) u.0) e (omega (arith, w, m.put.below_length));
        }

    pub number_below : (x : ℕ) → Memᴰ x (passing (resent_at n q l c i) t) → plan_number x < planned_in n (membership_at n q l p i)
    number_below x h =
        let y = resent x h in
        let m = y.message in
        omega (
          arith,
          y.number,
          shares_planned n (states_in_of (membership_at n q l p i)),
          slot_below n (share n (states_in_of (membership_at n q l p i))) y.sender (A.allowed.source x).number
              (A.allowed.servers (A.allowed.source x).sending y.sender m.sends.mine) y.below_share,
        )

    -- Retransmissions with one number are one.
    pub number_once : (x y : ℕ) → Memᴰ x (passing (resent_at n q l c i) t) → Memᴰ y (passing (resent_at n q l c i) t) → plan_number x ≡ plan_number y → x ≡ y
    number_once x y h k e =
        let u = resent x h in
        let w = resent y k in
        let z =
        slot_same (share n states_here) u.sender (A.allowed.source x).number w.sender (A.allowed.source y).number u.below_share w.below_share
        (sym u.number ∙ e ∙ w.number)
        in
        let f = one_place A (subst (λ j. PartMessage A (A.allowed.source x) j c) z.0 u.message) w.message in
        messages_differ A i c t x y h k (same_message_lem f z.1)

    -- However long one waits, no more come than are planned.
    pub most_planned_lem : resent_count A i c t ≤ planned_in n (membership_at n q l p i)
    most_planned_lem = numbered_length plan_number _ (passing (resent_at n q l c i) t) number_once number_below (passing_distinct (resent_at n q l c i) t)

  module _ (p i k x : ℕ) (a : Action) (come : Comes n q l p i (retransmission k x a)) (c : Configuration) (here : InCom n q l p i c) where
    -- After the end of the exchange none comes.
    not_past : {X : Type 0} (m : Mode) → (membership_at n q l p i).mode ≡ m → 3 ≤ stage m → X
    unfolding stage
    not_past m e h =
        let f : (membership_at n q l p i).mode ≡ Non_prim → (membership_at n q l p i).transitional ≡ none = λ z. absurd (omega (arith, ap stage e, ap stage z)) in
        let s = states_in_lem A i c p here (omega (arith, ap stage e)) f in
        absurd
        (omega (
          arith,
          most_planned_lem p i c here s (suc p),
          ended_count A p i c here (omega (arith, ap stage e)) f,
          ap length (passing_more (resent_at n q l c i) p (resent_yes n q l c i p k x a come here)),
        ))

    message : PartMessage A (A.allowed.source p) k c
    unfolding is_message
    message = part_message A (coming A come refl) refl here

    pub retransmission_taken : TakenAt n q l p i (retransmission k x a)
    unfolding is_message rule_for on_retransmission is_ignored from_member ◌or◌ stage
    retransmission_taken = go (membership_at n q l p i).mode refl
      where
        go : (m : Mode) → (membership_at n q l p i).mode ≡ m → TakenAt n q l p i (retransmission k x a)
        go Non_prim e =
            taken-by-rule A p i come refl (reddening a) (ap (λ m. on_retransmission m x a) e) (resent_possible A p i k x a come c here)
            (member-here A p i c here k message.member)
        go Reg_prim e = not_past Reg_prim e (omega arith)
        go Trans_prim e = not_past Trans_prim e (omega arith)
        go Exchange_states e = absurd (resent_late A p i k x a come c here e)
        go Exchange_actions e = resent_taken A p i k x a come c here e
        go Construct e = not_past Construct e (omega arith)
        go No e = not_past No e (omega arith)
        go Un e = not_past Un e (omega arith)
