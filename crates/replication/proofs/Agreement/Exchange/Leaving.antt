-- If anyone installs in a configuration, no member leaves it and its transitional configuration from No.
use Prim.Native.Nat.{ℕ, suc}
use mathlib.Core.Path.{◌≡◌, refl, sym, ap, subst, ◌∙◌}
use mathlib.Core.Bool.{true}
use mathlib.Core.Logic.{inl, inr}
use native.Mathlib.Omega.{arith}
use Rattle.base.proofs.TestLaws.{not_both}
use Rattle.base.proofs.AtLaws.{some_same}
use Rattle.base.specs.Sets.{in_set}
use Rattle.format.specs.Types.{Action, Record, action, says}
use Rattle.replication.specs.Machine.Types.{Non_prim, Reg_prim, Un, No, Configuration}
use Rattle.replication.specs.Runs.Run.{Run, place_at}
use Rattle.replication.specs.Runs.Happenings.{is_message, Comes, Takes, Left}
use Rattle.replication.proofs.Runs.Roomy.{Roomy as Allowed}
use Rattle.replication.proofs.Runs.Entries.{had}
use Rattle.replication.proofs.Runs.Modes.{standing_in, standing}
use Rattle.replication.proofs.Runs.Order.{in_regular_of, still_regular, left_delivered}
use Rattle.replication.proofs.Runs.AllowedTurns.{memory_at}
use Rattle.replication.proofs.Runs.Origins.{delivery_says}
use Rattle.replication.proofs.Runs.Progress.{Installable, progress_in, progress}
use Rattle.replication.proofs.Runs.Stays.{membership_at, stay_transitional}
use Rattle.replication.proofs.Agreement.Terms.{Within, InstallsAt}
use Rattle.replication.proofs.Step.Apart.{mode_number, other_mode}
use Rattle.replication.proofs.Agreement.Exchange.Stages.{InCom}
use Rattle.replication.proofs.Agreement.Exchange.Answers.{coming}
use Rattle.replication.proofs.Agreement.Exchange.Cpcs.{every_cpc_came}
use Rattle.replication.proofs.Agreement.Exchange.CpcsTaken.{cpcs_recorded}
use Rattle.replication.proofs.Agreement.Exchange.ActionsTaken.{SendsActions, ActionMessage, action_message, every_cpc_in_lem, one_decision, sender_settled, sender_installed}
use Rattle.replication.proofs.Agreement.Exchange.Installs.{Installing, on_cpc_lem, on_action_lem, installs_on_lem, installs_here, installs_with_all}

module _ {n q : ℕ} {l : Run} (A : Allowed n q l) where
  -- A server in regular c has every CPC.
  pub record HasEveryCpc (c : Configuration) : Type 0 where
    pub place : ℕ
    pub server : ℕ
    pub in_regular_lem : place_at n q l server place ≡ in_regular_of c
    pub with_all : Installable n (membership_at n q l place server)

  -- If anyone installs in c, someone has every CPC in regular c: one who installs later does so by an action of c.
  pub regular_installer : {p i : ℕ} {c : Configuration} → InstallsAt n q l p i c → HasEveryCpc c
  unfolding is_message
  regular_installer {p} {i} {c} x = go x.acts.by.event refl (installs_on_lem A x)
    where
      here : InCom n q l (suc p) i c
      here = installs_here A x

      by_action : (a : Action) → (membership_at n q l p i).mode ≡ Un → (m : ActionMessage A (A.allowed.source p) a.id.creator c) → HasEveryCpc c
      by_action a e m = at m.sender_in
        where
          late : Installable n (membership_at n q l p i)
          late = progress_in n _ Un e (progress A i c p x.here)

          at : SendsActions (membership_at n q l (suc (A.allowed.source p).sending) a.id.creator).mode → HasEveryCpc c
          at (inl f) =
              absurd
              (one_decision A p (suc (A.allowed.source p).sending) i a.id.creator c x.here m.after late.ended.all_in late.agreed
              (sender_settled A m f))
          at (inr f) = record { place = suc (A.allowed.source p).sending; server = a.id.creator; in_regular_lem = m.in_regular_lem; with_all = sender_installed A m f }

      go : (r : Record) → x.acts.by.event ≡ r → Installing (memory_at n q l p i) (memory_at n q l (suc p) i) r → HasEveryCpc c
      go r e (on_cpc_lem k d f g) =
          let s = standing_in (memory_at n q l (suc p) i) Reg_prim g (standing n q l i (suc p)).memory in
          let t = sym (stay_transitional A (suc p) i c here) ∙ s.none_after in
          record { place = suc p; server = i; in_regular_lem = λ z. record { regular = here z; transitional = t z }; with_all = installs_with_all A x }
      go r e (on_action_lem a f g) =
          let y : Comes n q l p i (action a) =
          record { bytes = x.acts.bytes; sent = x.acts.sent; here = x.acts.here; heard = x.acts.heard ∙ ap says e }
          in
          by_action a f (action_message A (coming A y refl) refl x.here)

  -- Who leaves com(c) then has every CPC.
  pub leaves_with_all : {c : Configuration} → HasEveryCpc c → (r k : ℕ) (d : Configuration) → InCom n q l r k c → Takes n q l r k d
      → ((membership_at n q l r k).mode ≡ Non_prim → ⊥) → (i : ℕ) → in_set i c.set ≡ true → in_set i (membership_at n q l r k).cpcs ≡ true
  leaves_with_all {c} x r k d here t f i m =
      let h = had n q l r k c here in
      let w = every_cpc_came A x.place x.server c (ap (λ z. z.regular) x.in_regular_lem) x.with_all i m in
      let left : Left n q l k c = record { p = h.took_at; r = r; next = d; took = h.took; took_next = t; order = h.earlier; steady = h.steady } in
      let s = still_regular A x.server w.1.place x.place c w.1.here x.in_regular_lem (omega (arith, w.1.earlier)) in
      let y = left_delivered A w.1.delivery s left in
      let e = some_same (sym (delivery_says A y.1) ∙ delivery_says A w.1.delivery) ∙ w.1.what in
      cpcs_recorded A r k c here f y.0 i w.0 y.3 (subst (λ z. Comes n q l y.0 k z) e y.1.comes) y.4

  pub none_leaves_late : (p r i k : ℕ) (c d : Configuration) → InstallsAt n q l p i c → in_set k c.set ≡ true → Within n q l r k c → Takes n q l r k d
      → (memory_at n q l r k).membership.mode ≡ No → ⊥
  unfolding mode_number
  none_leaves_late p r i k c d x m w t e =
      let f = leaves_with_all (regular_installer x) r k d w.here t (λ z. other_mode e z (λ y. omega arith)) in
      not_both (sym (progress_in n _ No e (progress A k c r w.here)).not_all_cpcs ∙ every_cpc_in_lem A r k c w.here f)
