-- What it takes for a delivered record to be taken.
use Prim.Native.Nat.{ℕ}
use mathlib.Core.Path.{◌≡◌, refl, sym, ap, ◌∙◌}
use mathlib.Core.Bool.{true, false}
use mathlib.Core.Option.{some}
use Rattle.base.specs.Tests.{◌or◌}
use Rattle.base.proofs.TestLaws.{not_both, eq_yes}
use Rattle.base.proofs.AtLaws.{some_same}
use Rattle.base.specs.Sets.{in_set}
use Rattle.format.specs.Types.{Record, action, retransmission, state, cpc, regular, transitional, request, recovery, says}
use Rattle.replication.specs.Machine.Types.{Configuration, Server}
use Rattle.replication.specs.Machine.Rules.{Rule, rule_for, possible, member_of, is_of, from_member, is_ignored, within_quota}
use Rattle.replication.specs.Images.{is_recovery}
use Rattle.replication.specs.Runs.Run.{Run, heard_at}
use Rattle.replication.specs.Runs.Happenings.{is_message, Comes}
use Rattle.replication.proofs.Runs.Roomy.{Roomy as Allowed}
use Rattle.replication.proofs.Runs.Places.{event_entry}
use Rattle.replication.proofs.Runs.Refusals.{not_refused}
use Rattle.replication.proofs.Runs.Readings.{answer_refused}
use Rattle.replication.proofs.Runs.Deliveries.{Delivery}
use Rattle.replication.proofs.Runs.AllowedTurns.{memory_at, Acts, Refuses}
use Rattle.replication.proofs.Runs.Sending.{comes_taken}
use Rattle.replication.proofs.Runs.Stays.{membership_at, stay_configuration}
use Rattle.replication.proofs.Agreement.Exchange.Stages.{InCom}

message-no-recovery : (r : Record) → is_message r ≡ true → is_recovery (says r) ≡ false
unfolding is_message is_recovery
message-no-recovery (action a) h = refl
message-no-recovery (retransmission k p a) h = refl
message-no-recovery (state x) h = refl
message-no-recovery (cpc k i) h = refl
message-no-recovery (regular i s) h = refl
message-no-recovery (transitional s) h = refl
message-no-recovery (request p) h = refl
message-no-recovery recovery h = not_both h

message-within : (s : Server) (r : Record) → is_message r ≡ true → within_quota s r ≡ true
unfolding is_message within_quota
message-within s (action a) h = refl
message-within s (retransmission k p a) h = refl
message-within s (state x) h = refl
message-within s (cpc k i) h = refl
message-within s (regular i t) h = refl
message-within s (transitional t) h = refl
message-within s (request p) h = not_both h
message-within s recovery h = refl

-- What comes as a message is a delivery.
abbrev pub coming : {n q : ℕ} {l : Run} (A : Allowed n q l) {p i : ℕ} {r : Record} → Comes n q l p i r → is_message r ≡ true → Delivery A p i (A.allowed.source p)
coming A {r = r} c h = record { what = r; comes = c; message = h; which = refl }

-- The server i takes an event at p, and it says r.
abbrev pub TakenAt : (n q : ℕ) (l : Run) (p i : ℕ) → Record → Type 0
TakenAt n q l p i r = (x : Acts n q l p i) × (x.by.event ≡ r)

module _ {n q : ℕ} {l : Run} (A : Allowed n q l) (p i : ℕ) where
  -- A message for which the state has a rule, and that meets no row of the table, is taken.
  pub taken-by-rule : {r : Record} → Comes n q l p i r → is_message r ≡ true → (k : Rule) → rule_for (membership_at n q l p i).mode r ≡ some k
      → possible (memory_at n q l p i) r ≡ true → (is_ignored k or from_member (membership_at n q l p i) r) ≡ true → TakenAt n q l p i r
  taken-by-rule {r} c h k e f g = comes_taken A p i r c (message-no-recovery r h) (λ x. refuted x)
    where
      refuted : Refuses n q l p i → ⊥
      refuted x =
          let w = message-within (memory_at n q l p i) r h in
          let y = event_entry (some_same (sym x.here ∙ c.here)) in
          not_refused (memory_at n q l p i) r k e f g w x.number
          (answer_refused (memory_at n q l p i) x.bytes r x.number x.refusal (x.reads ∙ ap (heard_at n q l p i) y.1 ∙ c.heard))

  -- ---- row 6 in com(c)

  module _ (c : Configuration) (here : InCom n q l p i c) where
    pub member-here : (k : ℕ) → in_set k c.set ≡ true → member_of (membership_at n q l p i).configuration k ≡ true
    unfolding member_of
    member-here k h = ap (λ d. member_of d k) (stay_configuration A p i c here) ∙ h

    pub is-here : (x : ℕ) → x ≡ c.id → is_of (membership_at n q l p i).configuration x ≡ true
    unfolding is_of
    is-here x h = ap (λ d. is_of d x) (stay_configuration A p i c here) ∙ eq_yes x c.id h
