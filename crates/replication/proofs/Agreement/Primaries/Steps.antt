-- What an event does to a server that is in its exchange or has an attempt under way: it goes on so, ends in Non_prim, or installs.
use Prim.Native.Nat.{ℕ, ◌<◌}
use mathlib.Core.Path.{◌≡◌, refl, sym, ap, subst, ◌∙◌}
use mathlib.Core.Bool.{Bool, true, false}
use mathlib.Core.List.{List, [], ◌∷◌, ◌++◌, append-nil}
use native.Mathlib.Omega.{arith}
use lib.ListN.{length}
use Rattle.base.proofs.TestLaws.{not_both}
use Rattle.format.specs.Types.{Action, Record, action, retransmission, state, cpc, regular, transitional, request, recovery}
use Rattle.replication.specs.Machine.Types.{Mode, Non_prim, Reg_prim, Trans_prim, Exchange_states, Exchange_actions, Construct, No, Un, Server, in_mode, no_yellow}
use Rattle.replication.specs.Machine.Colours.{enter, yellow}
use Rattle.replication.specs.Machine.Install.{install_log, install, install_votes}
use Rattle.replication.specs.Machine.Requests.{numbered, send_waiting, sends_now}
use Rattle.replication.specs.Machine.Step.{with_cpc, all_cpcs_in, decided, attempting, with_state, resending, one_more, exchanged, leave}
use Rattle.replication.specs.Machine.WellFormed.{well_formed, ids_in}
use Rattle.replication.specs.Laws.Folds.{entered, cuts_after, Yellowed}
use Rattle.replication.specs.Laws.Transitions as L
use Rattle.replication.specs.Laws.Transitions.{Ends, Leads, Transition}
use Rattle.replication.proofs.Step.Apart.{sends_in_lem}
use Rattle.replication.proofs.Step.Logs.{yellow_as}
use Rattle.replication.proofs.Step.Folds.{yellow_one}
use Rattle.replication.proofs.Step.ModeColours.{two_places, install_no_red}
use Rattle.replication.proofs.Agreement.Exchange.Stages.{remains}
use Rattle.replication.proofs.Agreement.Lists.Install.{install_cuts}
use Rattle.replication.proofs.Agreement.Primaries.Parts.{InRegPrim, InTransPrim, yellowed_kept}

-- The states between taking a configuration and installing in it.
unfoldable pub before_install : Mode → Bool
before_install Non_prim = false
before_install Reg_prim = false
before_install Trans_prim = false
before_install Exchange_states = true
before_install Exchange_actions = true
before_install Construct = true
before_install No = true
before_install Un = true

-- Which records are actions.
unfoldable pub is_action : Record → Bool
is_action (action a) = true
is_action (retransmission k p a) = false
is_action (state x) = false
is_action (cpc k i) = false
is_action (regular i s) = false
is_action (transitional s) = false
is_action (request p) = false
is_action recovery = false

pub other_record : {X : Type 0} (r : Record) (a : Action) → is_action r ≡ false → r ≡ action a → X
unfolding is_action
other_record r a h e = not_both (sym h ∙ ap is_action e)

pub data EarlyStep (s : Server) (r : Record) (t : Server) : Type 0 where
  goes_on_lem : before_install t.membership.mode ≡ true → ((a : Action) → r ≡ action a → ⊥) → EarlyStep s r t
  reddens : (a : Action) → r ≡ action a → s.membership.mode ≡ Exchange_states → EarlyStep s r t
  settles : t.membership.mode ≡ Non_prim → EarlyStep s r t
  installs : (k i : ℕ) → r ≡ cpc k i → s.membership.mode ≡ Construct → all_cpcs_in (with_cpc k s) ≡ true
      → t.log.green ≡ (install_log s.votes.yellow.ids s.log).green → InRegPrim t.log.green s.log.cuts [] [] t → EarlyStep s r t
  installs_late_lem : (a : Action) → r ≡ action a → s.membership.mode ≡ Un → t.log.green ≡ (install_log s.votes.yellow.ids s.log).green
      → (a.id.creator < length s.log.cuts → InTransPrim t.log.green s.log.cuts [] (a ∷ []) t) → EarlyStep s r t
  leaves : remains r ≡ false → EarlyStep s r t

-- ---- the Installs

regular_green : (s : Server) (k : ℕ) → (send_waiting (in_mode Reg_prim (install (with_cpc k s)))).log.green ≡ (install_log s.votes.yellow.ids s.log).green
unfolding send_waiting numbered install with_cpc
regular_green s k = refl

late_green : (s : Server) (a : Action) → (yellow a (install s)).log.green ≡ (install_log s.votes.yellow.ids s.log).green
unfolding install enter
late_green s a = yellow_as (λ t. t.log.green ≡ (install s).log.green) a (install s) (λ e. refl) (λ e. refl)

module _ (s : Server) (formed : well_formed s ≡ true) where
  installed_regular : (k : ℕ) → let t = send_waiting (in_mode Reg_prim (install (with_cpc k s))) in InRegPrim t.log.green s.log.cuts [] [] t
  unfolding send_waiting numbered install install_votes with_cpc entered cuts_after
  installed_regular k =
      record {
        mode = refl;
        green = sym (append-nil _);
        cuts_now = install_cuts s.votes.yellow.ids s.log;
        all_regular = refl;
        yellow = refl;
        red = install_no_red s formed;
      }

  -- In Trans_prim before the action that brings the Install is yellowed.
  installed_late_lem : InTransPrim (install s).log.green s.log.cuts [] [] (in_mode Trans_prim (install s))
  unfolding install install_votes no_yellow entered cuts_after ids_in
  installed_late_lem =
      record {
        mode = refl;
        green = sym (append-nil _);
        cuts_now = install_cuts s.votes.yellow.ids s.log;
        red = ap ids_in (install_no_red s formed);
        ids = ap (λ z. ids_in (install s).log.green ++ z) refl ∙ ap (λ z. ids_in z ++ []) (sym (append-nil (install s).log.green)) ∙ append-nil _;
      }

  late_one : (a : Action) → Yellowed (a ∷ []) (install s) (yellow a (install s))
  unfolding install install_votes no_yellow
  late_one a = yellow_one a (install s) (λ h. omega (arith, two_places s formed))

  late_yellowed : (a : Action) → Yellowed (a ∷ []) (in_mode Trans_prim (install s)) (in_mode Trans_prim (yellow a (install s)))
  late_yellowed a = let y = late_one a in record { ids = y.ids; status = y.status; green = y.green; red = y.red; cuts = y.cuts }

  yellowed_late : (a : Action) → a.id.creator < length s.log.cuts
      → InTransPrim (yellow a (install s)).log.green s.log.cuts [] (a ∷ []) (in_mode Trans_prim (yellow a (install s)))
  unfolding install install_votes no_yellow
  yellowed_late a h =
      subst (λ g. InTransPrim g s.log.cuts [] (a ∷ []) (in_mode Trans_prim (yellow a (install s)))) (sym (late_green s a))
      (yellowed_kept (install s).log.green s.log.cuts [] [] [] (a ∷ []) (a ∷ []) (in_mode Trans_prim (install s)) (in_mode Trans_prim (yellow a (install s)))
      installed_late_lem refl (late_yellowed a) tt (rw (install_cuts s.votes.yellow.ids s.log) h, tt) refl refl)

-- ---- every event

module _ (s : Server) (formed : well_formed s ≡ true) (early : before_install s.membership.mode ≡ true) where
  elsewhere : {X : Type 0} (m : Mode) → s.membership.mode ≡ m → before_install m ≡ false → X
  elsewhere m e h = not_both (sym h ∙ subst (λ o. before_install o ≡ true) e early)

  ended : {r : Record} {t u : Server} {rs : List Record} → Ends t u rs → ((a : Action) → r ≡ action a → ⊥) → EarlyStep s r u
  unfolding before_install attempting decided send_waiting numbered
  ended (L.with_quorum q) f = goes_on_lem refl f
  ended (L.without_quorum q) f = settles refl

  left : {m o : Mode} (x : ℕ) → s.membership.mode ≡ m → Leads m o → EarlyStep s (transitional x) (leave o x s)
  unfolding before_install leave is_action
  left x e L.stays = elsewhere Non_prim e refl
  left x e L.parts = elsewhere Reg_prim e refl
  left x e L.interrupts_states = settles refl
  left x e L.interrupts_actions = settles refl
  left x e L.interrupts_construct = goes_on_lem refl (λ b h. other_record _ b refl h)

  pub early_step : {r : Record} {t : Server} {rs : List Record} {b : Bool} → Transition s r t rs b → EarlyStep s r t
  unfolding is_action before_install exchanged one_more with_state resending with_cpc numbered remains sends_now send_waiting
  early_step (L.ignores_state x e) = elsewhere Non_prim e refl
  early_step (L.ignores_cpc k i e) = elsewhere Non_prim e refl
  early_step (L.reddens a e) = elsewhere Non_prim e refl
  early_step (L.reddens_resent k p a e) = elsewhere Non_prim e refl
  early_step (L.reddens_in_exchange a e) = reddens a refl e
  early_step (L.greens a e) = elsewhere Reg_prim e refl
  early_step (L.yellows a e) = elsewhere Trans_prim e refl
  early_step (L.installs_late a e) = installs_late_lem a refl e (late_green s a) (λ h. yellowed_late s formed a h)
  early_step (L.exchanges k p a e c) = goes_on_lem early (λ b h. other_record _ b refl h)
  early_step (L.exchanges_last k p a t rs e c x) = ended x (λ b h. other_record _ b refl h)
  early_step (L.collects x e c) = goes_on_lem early (λ b h. other_record _ b refl h)
  early_step (L.collects_last x e c d) = goes_on_lem refl (λ b h. other_record _ b refl h)
  early_step (L.collects_whole x t rs e c d y) = ended y (λ b h. other_record _ b refl h)
  early_step (L.counts k i e c) = goes_on_lem early (λ b h. other_record _ b refl h)
  early_step (L.installs k i e c) = installs k i refl e c (regular_green s k) (installed_regular s formed k)
  early_step (L.counts_late k i e c) = goes_on_lem early (λ b h. other_record _ b refl h)
  early_step (L.counts_all_late k i e c) = goes_on_lem refl (λ b h. other_record _ b refl h)
  early_step (L.joins c e) = leaves refl
  early_step (L.joins_marked c e) = leaves refl
  early_step (L.joins_unmarked c e) = leaves refl
  early_step (L.joins_yellow c e) = leaves refl
  early_step (L.leaves m o x e y) = left x e y
  early_step (L.sends p c) = sends_in_lem _ _ c (λ e. elsewhere Non_prim e refl) (λ e. elsewhere Reg_prim e refl)
  early_step (L.numbers p c) = goes_on_lem early (λ b h. other_record _ b refl h)
  early_step L.recovers = leaves refl
