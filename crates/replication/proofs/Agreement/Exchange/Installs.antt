-- Whoever installs in a configuration has the CPC of each member: every member marked there before.
use Prim.Native.Nat.{ℕ, suc, ◌<◌}
use mathlib.Core.Path.{◌≡◌, refl, sym, ap, subst, ◌∙◌}
use mathlib.Core.Bool.{Bool, true, false}
use mathlib.Core.List.{List}
use native.Mathlib.Omega.{arith}
use Rattle.base.proofs.TestLaws.{not_both}
use Rattle.base.specs.Sets.{in_set}
use Rattle.format.specs.Types.{Action, Record, action, cpc, transitional, says}
use Rattle.replication.specs.Machine.Types.{Mode, Non_prim, Reg_prim, Trans_prim, Exchange_states, Exchange_actions, Construct, No, Un, Configuration, Server, with_white}
use Rattle.replication.specs.Machine.Rules.{on_action, on_retransmission, on_state, on_cpc, on_regular, on_transitional, rule_for}
use Rattle.replication.specs.Machine.Requests.{numbered, send_waiting}
use Rattle.replication.specs.Machine.Step.{installs_by}
use Rattle.replication.specs.Laws.Transitions as L
use Rattle.replication.specs.Laws.Transitions.{Leads, Transition}
use Rattle.replication.specs.Runs.Run.{Run, moved, place_at}
use Rattle.replication.proofs.Runs.Roomy.{Roomy as Allowed}
use Rattle.replication.proofs.Runs.Deliveries.{sent_before}
use Rattle.replication.proofs.Runs.AllowedTurns.{memory_at}
use Rattle.replication.proofs.Runs.Progress.{Installable, Progress, progress_in, progress}
use Rattle.replication.proofs.Runs.Stays.{membership_at}
use Rattle.replication.proofs.Agreement.Terms.{MarksAt, InstallsAt}
use Rattle.replication.proofs.Agreement.Exchange.Stages.{InCom}
use Rattle.replication.proofs.Agreement.Exchange.Cpcs.{cpc_message, cpc_marked, every_cpc_came}

-- ---- one step

-- The server s installs on the record r and becomes t.
pub data Installing (s t : Server) : Record → Type 0 where
  on_cpc_lem : (k i : ℕ) → s.membership.mode ≡ Construct → t.membership.mode ≡ Reg_prim → Installing s t (cpc k i)
  on_action_lem : (a : Action) → s.membership.mode ≡ Un → t.membership.mode ≡ Trans_prim → Installing s t (action a)

module _ (s : Server) where
  no_install : {X : Type 0} (r : Record) (m : Mode) → s.membership.mode ≡ m → installs_by (rule_for m r) s ≡ false
      → installs_by (rule_for s.membership.mode r) s ≡ true → X
  no_install r m e f h = not_both (sym f ∙ ap (λ o. installs_by (rule_for o r) s) (sym e) ∙ h)

  leads_rule : {m o : Mode} (x : ℕ) → Leads m o → installs_by (rule_for m (transitional x)) s ≡ false
  unfolding rule_for on_transitional installs_by
  leads_rule x L.stays = refl
  leads_rule x L.parts = refl
  leads_rule x L.interrupts_states = refl
  leads_rule x L.interrupts_actions = refl
  leads_rule x L.interrupts_construct = refl

  pub installing : {r : Record} {t : Server} {rs : List Record} {b : Bool} → Transition s r t rs b
      → installs_by (rule_for s.membership.mode r) s ≡ true → Installing s t r
  unfolding rule_for on_action on_retransmission on_state on_cpc on_regular on_transitional installs_by send_waiting numbered
  installing {r} (L.ignores_state x e) h = no_install r Non_prim e refl h
  installing {r} (L.ignores_cpc k i e) h = no_install r Non_prim e refl h
  installing {r} (L.reddens a e) h = no_install r Non_prim e refl h
  installing {r} (L.reddens_resent k p a e) h = no_install r Non_prim e refl h
  installing {r} (L.reddens_in_exchange a e) h = no_install r Exchange_states e refl h
  installing {r} (L.greens a e) h = no_install r Reg_prim e refl h
  installing {r} (L.yellows a e) h = no_install r Trans_prim e refl h
  installing (L.installs_late a e) h = on_action_lem a e refl
  installing {r} (L.exchanges k p a e c) h = no_install r Exchange_actions e refl h
  installing {r} (L.exchanges_last k p a t rs e c x) h = no_install r Exchange_actions e refl h
  installing {r} (L.collects x e c) h = no_install r Exchange_states e refl h
  installing {r} (L.collects_last x e c d) h = no_install r Exchange_states e refl h
  installing {r} (L.collects_whole x t rs e c d y) h = no_install r Exchange_states e refl h
  installing {r} (L.counts k i e c) h = no_install r Construct e c h
  installing (L.installs k i e c) h = on_cpc_lem k i e refl
  installing {r} (L.counts_late k i e c) h = no_install r No e refl h
  installing {r} (L.counts_all_late k i e c) h = no_install r No e refl h
  installing {r} (L.joins c e) h = no_install r Non_prim e refl h
  installing {r} (L.joins_marked c e) h = no_install r Un e refl h
  installing {r} (L.joins_unmarked c e) h = no_install r No e refl h
  installing {r} (L.joins_yellow c e) h = no_install r Trans_prim e refl h
  installing {r} (L.leaves m o x e y) h = no_install r m e (leads_rule x y) h
  installing (L.sends p c) h = not_both h
  installing (L.numbers p c) h = not_both h
  installing L.recovers h = not_both h

installing_raised : {s t : Server} {r : Record} (w : ℕ) → Installing s t r → Installing s (with_white w t) r
installing_raised w (on_cpc_lem k i e f) = on_cpc_lem k i e f
installing_raised w (on_action_lem a e f) = on_action_lem a e f

pub installing_lowered : {s t : Server} {r : Record} (w : ℕ) → Installing s (with_white w t) r → Installing s t r
installing_lowered w (on_cpc_lem k i e f) = on_cpc_lem k i e f
installing_lowered w (on_action_lem a e f) = on_action_lem a e f

-- ---- in a run

module _ {n q : ℕ} {l : Run} (A : Allowed n q l) where
  pub installs_on_lem : {p i : ℕ} {c : Configuration} (x : InstallsAt n q l p i c) → Installing (memory_at n q l p i) (memory_at n q l (suc p) i) x.acts.by.event
  installs_on_lem {p} {i} x =
      subst (λ t. Installing (memory_at n q l p i) t x.acts.by.event) (sym x.acts.memory_next)
      (installing_raised x.acts.white (installing (memory_at n q l p i) x.acts.moves (ap (λ z. installs_by z (memory_at n q l p i)) x.acts.by.ruled ∙ x.installs)))

  -- Installing keeps the configuration.
  pub installs_here : {p i : ℕ} {c : Configuration} → InstallsAt n q l p i c → InCom n q l (suc p) i c
  unfolding moved
  installs_here {p} {i} {c} x = go x.acts.by.event refl (installs_on_lem x)
    where
      go : (r : Record) → x.acts.by.event ≡ r → Installing (memory_at n q l p i) (memory_at n q l (suc p) i) r → InCom n q l (suc p) i c
      go r e (on_cpc_lem k d f g) = ap (λ z. z.regular) (x.acts.place_next ∙ ap (λ z. moved (says z) (place_at n q l i p)) e) ∙ x.here
      go r e (on_action_lem a f g) = ap (λ z. z.regular) (x.acts.place_next ∙ ap (λ z. moved (says z) (place_at n q l i p)) e) ∙ x.here

  pub installs_with_all : {p i : ℕ} {c : Configuration} → InstallsAt n q l p i c → Installable n (membership_at n q l (suc p) i)
  installs_with_all {p} {i} {c} x = go (installs_on_lem x)
    where
      progressed : Progress n (membership_at n q l (suc p) i)
      progressed = progress A i c (suc p) (installs_here x)

      go : {r : Record} → Installing (memory_at n q l p i) (memory_at n q l (suc p) i) r → Installable n (membership_at n q l (suc p) i)
      go (on_cpc_lem k d f g) = progress_in n _ Reg_prim g progressed
      go (on_action_lem a f g) = progress_in n _ Trans_prim g progressed

  -- If anyone installs in c, every member of c marked in c before.
  pub all_marked : (p i : ℕ) (c : Configuration) → InstallsAt n q l p i c → (k : ℕ) → k < n → in_set k c.set ≡ true → (r : ℕ) × (r < p) × MarksAt n q l r k c
  all_marked p i c x k h m =
      let y = every_cpc_came A (suc p) i c (installs_here x) (installs_with_all x) k m in
      let w = y.1 in
      let z = cpc_marked A (cpc_message A w.delivery w.what w.here).0 in
      (z.0, omega (arith, z.1, w.earlier, sent_before A w.delivery), z.2)
