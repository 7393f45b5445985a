-- What each event does in a primary component.
use Prim.Native.Nat.{ℕ}
use mathlib.Core.Path.{◌≡◌, refl, sym, subst, ◌∙◌}
use mathlib.Core.Bool.{Bool, true, false}
use mathlib.Core.List.{List, [], append-nil}
use Rattle.base.specs.Tests.{◌=?◌}
use Rattle.base.specs.Lists.{Each}
use Rattle.base.proofs.TestLaws.{eq_fails, not_both}
use Rattle.format.specs.Types.{Record}
use Rattle.replication.specs.Machine.Types.{Mode, Non_prim, Reg_prim, Trans_prim, Exchange_states, Exchange_actions, Construct, No, Un, Server}
use Rattle.replication.specs.Machine.Requests.{sends_in, sends_now, numbered, send_waiting}
use Rattle.replication.specs.Machine.Step.{entering, leave, green_and_note}
use Rattle.replication.specs.Laws.Transitions as L
use Rattle.replication.specs.Laws.Transitions.{Leads, Transition}
use Rattle.replication.specs.Laws.Modes.{ColourFacts, ColourFactsOf}
use Rattle.replication.specs.Laws.Folds.{entered, cuts_after}
use Rattle.replication.specs.Laws.Primary as S
use Rattle.replication.specs.Laws.Primary.{RegularStep, TransitionalStep}
use Rattle.replication.proofs.Step.Apart.{mode_number, other_mode, sends_in_lem}
use Rattle.replication.proofs.Step.Folds.{green_one, YellowRoom, yellow_one}
use Rattle.replication.proofs.Runs.LogActions.{carried}
use Rattle.replication.proofs.Step.Control.{yellow_membership}

regular_sends : (m : Mode) (r : Bool) → m ≡ Reg_prim → sends_in m r ≡ true
unfolding sends_in
regular_sends m r e = rw e

-- ---- Reg_prim

module _ (s : Server) (here : s.membership.mode ≡ Reg_prim) (colours : ColourFactsOf s) where
  not_here : {X : Type 0} (m : Mode) → s.membership.mode ≡ m → (mode_number m =? 1) ≡ false → X
  unfolding mode_number
  not_here m e f = other_mode e here (eq_fails (mode_number m) 1 f)

  no_red : s.log.red ≡ []
  no_red = let p : ColourFacts Reg_prim s.votes.yellow s.log.red = subst (λ m. ColourFacts m s.votes.yellow s.log.red) here colours in p.1

  leads_regular : (r : Record) (m n : Mode) (x : ℕ) → r ≡ Record.transitional x → s.membership.mode ≡ m → Leads m n → RegularStep s r (leave n x s)
  unfolding mode_number ◌=?◌ leave
  leads_regular r m n x q e L.stays = not_here Non_prim e refl
  leads_regular r m n x q e L.parts = S.RegularStep.leaves x q refl refl refl
  leads_regular r m n x q e L.interrupts_states = not_here Exchange_states e refl
  leads_regular r m n x q e L.interrupts_actions = not_here Exchange_actions e refl
  leads_regular r m n x q e L.interrupts_construct = not_here Construct e refl

  pub regular_step : {r : Record} {t : Server} {rs : List Record} {b : Bool} → Transition s r t rs b → RegularStep s r t
  unfolding mode_number ◌=?◌ green_and_note numbered entered cuts_after sends_now send_waiting
  regular_step (L.ignores_state x e) = not_here Non_prim e refl
  regular_step (L.ignores_cpc k i e) = not_here Non_prim e refl
  regular_step (L.reddens a e) = not_here Non_prim e refl
  regular_step (L.reddens_resent k i a e) = not_here Non_prim e refl
  regular_step (L.reddens_in_exchange a e) = not_here Exchange_states e refl
  regular_step (L.greens a e) = S.RegularStep.delivers a refl refl refl (green_one a s.log no_red)
  regular_step (L.yellows a e) = not_here Trans_prim e refl
  regular_step (L.installs_late a e) = not_here Un e refl
  regular_step (L.exchanges k i a e c) = not_here Exchange_actions e refl
  regular_step (L.exchanges_last k i a u us e c x) = not_here Exchange_actions e refl
  regular_step (L.collects x e c) = not_here Exchange_states e refl
  regular_step (L.collects_last x e c d) = not_here Exchange_states e refl
  regular_step (L.collects_whole x u us e c d y) = not_here Exchange_states e refl
  regular_step (L.counts k i e c) = not_here Construct e refl
  regular_step (L.installs k i e c) = not_here Construct e refl
  regular_step (L.counts_late k i e c) = not_here No e refl
  regular_step (L.counts_all_late k i e c) = not_here No e refl
  regular_step (L.joins c e) = not_here Non_prim e refl
  regular_step (L.joins_marked c e) = not_here Un e refl
  regular_step (L.joins_unmarked c e) = not_here No e refl
  regular_step (L.joins_yellow c e) = not_here Trans_prim e refl
  regular_step (L.leaves m n x e q) = leads_regular _ m n x refl e q
  regular_step (L.sends q c) = S.RegularStep.sends q refl refl refl (record { green = sym (append-nil _); red = no_red; cuts = refl })
  regular_step (L.numbers q c) = not_both (sym c ∙ regular_sends _ _ here)
  regular_step L.recovers = S.RegularStep.recovers refl

-- ---- Trans_prim

module _ (s : Server) (here : s.membership.mode ≡ Trans_prim) where
  not_there : {X : Type 0} (m : Mode) → s.membership.mode ≡ m → (mode_number m =? 2) ≡ false → X
  unfolding mode_number
  not_there m e f = other_mode e here (eq_fails (mode_number m) 2 f)

  leads_ending : {X : Type 0} (m n : Mode) → s.membership.mode ≡ m → Leads m n → X
  unfolding mode_number ◌=?◌
  leads_ending m n e L.stays = not_there Non_prim e refl
  leads_ending m n e L.parts = not_there Reg_prim e refl
  leads_ending m n e L.interrupts_states = not_there Exchange_states e refl
  leads_ending m n e L.interrupts_actions = not_there Exchange_actions e refl
  leads_ending m n e L.interrupts_construct = not_there Construct e refl

  pub transitional_step : {r : Record} {t : Server} {rs : List Record} {b : Bool} → Transition s r t rs b → Each (YellowRoom s) (carried r) → TransitionalStep s r t
  unfolding mode_number ◌=?◌ numbered entering sends_now send_waiting
  transitional_step (L.ignores_state x e) room = not_there Non_prim e refl
  transitional_step (L.ignores_cpc k i e) room = not_there Non_prim e refl
  transitional_step (L.reddens a e) room = not_there Non_prim e refl
  transitional_step (L.reddens_resent k i a e) room = not_there Non_prim e refl
  transitional_step (L.reddens_in_exchange a e) room = not_there Exchange_states e refl
  transitional_step (L.greens a e) room = not_there Reg_prim e refl
  transitional_step (L.yellows a e) room = S.TransitionalStep.delivers a refl (yellow_membership a s) (yellow_one a s room.0)
  transitional_step (L.installs_late a e) room = not_there Un e refl
  transitional_step (L.exchanges k i a e c) room = not_there Exchange_actions e refl
  transitional_step (L.exchanges_last k i a u us e c x) room = not_there Exchange_actions e refl
  transitional_step (L.collects x e c) room = not_there Exchange_states e refl
  transitional_step (L.collects_last x e c d) room = not_there Exchange_states e refl
  transitional_step (L.collects_whole x u us e c d y) room = not_there Exchange_states e refl
  transitional_step (L.counts k i e c) room = not_there Construct e refl
  transitional_step (L.installs k i e c) room = not_there Construct e refl
  transitional_step (L.counts_late k i e c) room = not_there No e refl
  transitional_step (L.counts_all_late k i e c) room = not_there No e refl
  transitional_step (L.joins c e) room = not_there Non_prim e refl
  transitional_step (L.joins_marked c e) room = not_there Un e refl
  transitional_step (L.joins_unmarked c e) room = not_there No e refl
  transitional_step (L.joins_yellow c e) room = S.TransitionalStep.joins c refl refl refl refl
  transitional_step (L.leaves m n x e q) room = leads_ending m n e q
  transitional_step (L.sends q c) room = sends_in_lem _ _ c (λ e. not_there Non_prim e refl) (λ e. not_there Reg_prim e refl)
  transitional_step (L.numbers q c) room = S.TransitionalStep.numbers q refl refl refl (record { green = refl; red = refl; cuts = refl })
  transitional_step L.recovers room = S.TransitionalStep.recovers refl
