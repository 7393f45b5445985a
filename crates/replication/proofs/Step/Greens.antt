-- The green list changes only by an action in Reg_prim, a retransmission at the next position, and Install.
use Prim.Native.Nat.{ℕ, ◌+◌}
use mathlib.Core.Path.{◌≡◌, refl, ap, ◌∙◌}
use mathlib.Core.Bool.{Bool}
use mathlib.Core.List.{List, [], ◌∷◌}
use lib.ListN.{length}
use Rattle.base.specs.Tests.{◌=?◌, ◌≤?◌, ◌and◌, pick}
use Rattle.base.proofs.TestLaws.{eq_holds, Known, holds, fails, known}
use Rattle.format.specs.Types.{Action, Record, retransmission}
use Rattle.replication.specs.Machine.Types.{Exchange_actions, Log, Server}
use Rattle.replication.specs.Machine.Colours.{is_next, enter, red, reds, green, yellow}
use Rattle.replication.specs.Machine.Install.{install}
use Rattle.replication.specs.Machine.Requests.{numbered, send_waiting, recovered}
use Rattle.replication.specs.Machine.Step.{entering, decided, attempting, with_state, resending, placed, one_more, exchanged, with_cpc, leave, green_and_note}
use Rattle.replication.specs.Laws.Transitions as L
use Rattle.replication.specs.Laws.Transitions.{Ends, Transition}
use Rattle.replication.specs.Laws.Greens.{GreenChange, unchanged, delivered, resent, installed, installed_late}
use Rattle.replication.proofs.Step.Logs.{red_entered, red_ignored, yellow_log}

pub red_green : (a : Action) (l : Log) → (red a l).green ≡ l.green
unfolding enter
red_green a l = go (known (is_next l a))
  where
    go : Known (is_next l a) → (red a l).green ≡ l.green
    go (holds e) = rw (red_entered a l e)
    go (fails e) = rw (red_ignored a l e)

pub reds_green : (more : List Action) (l : Log) → (reds more l).green ≡ l.green
unfolding reds
reds_green [] l = refl
reds_green (a ∷ more) l = reds_green more (red a l) ∙ red_green a l

pub yellow_green : (a : Action) (s : Server) → (yellow a s).log.green ≡ s.log.green
yellow_green a s = ap (λ l. l.green) (yellow_log a s) ∙ red_green a s.log

-- What a retransmission does to the green list.
pub data Placing (p : ℕ) (a : Action) (l : Log) : Type 0 where
  at_end : p ≡ length l.green + 1 → placed p a l ≡ green a l → Placing p a l
  elsewhere : (placed p a l).green ≡ l.green → Placing p a l

pub placing : (p : ℕ) (a : Action) (l : Log) → Placing p a l
unfolding placed pick
placing p a l = go (known (p =? length l.green + 1)) (known (1 ≤? p and p ≤? length l.green))
  where
    go : Known (p =? length l.green + 1) → Known (1 ≤? p and p ≤? length l.green) → Placing p a l
    go (holds e) x = at_end (eq_holds p _ e) (rw e)
    go (fails e) (holds f) = elsewhere (rw (e, f))
    go (fails e) (fails f) = elsewhere (rw (e, f) (red_green a l))

module _ (s : Server) where
  placed_change : (k p : ℕ) (a : Action) (t : Server) → s.membership.mode ≡ Exchange_actions → t.log.green ≡ (placed p a s.log).green
      → GreenChange s (retransmission k p a) t
  placed_change k p a t e g = go (placing p a s.log)
    where
      go : Placing p a s.log → GreenChange s (retransmission k p a) t
      go (at_end h f) = resent k p a e refl h (g ∙ ap (λ l. l.green) f)
      go (elsewhere f) = unchanged (g ∙ f)

  end_green : (t u : Server) (rs : List Record) → Ends t u rs → u.log.green ≡ t.log.green
  unfolding attempting decided send_waiting numbered
  end_green t u rs (L.with_quorum q) = refl
  end_green t u rs (L.without_quorum q) = refl

  pub green_changes : {r : Record} {t : Server} {rs : List Record} {b : Bool} → Transition s r t rs b → GreenChange s r t
  unfolding green_and_note install exchanged one_more with_state resending with_cpc send_waiting numbered entering leave recovered
  green_changes (L.ignores_state x e) = unchanged refl
  green_changes (L.ignores_cpc k i e) = unchanged refl
  green_changes (L.reddens a e) = unchanged (red_green a s.log)
  green_changes (L.reddens_resent k i a e) = unchanged (red_green a s.log)
  green_changes (L.reddens_in_exchange a e) = unchanged (red_green a s.log)
  green_changes (L.greens a e) = delivered a e refl refl
  green_changes (L.yellows a e) = unchanged (yellow_green a s)
  green_changes (L.installs_late a e) = installed_late a e refl (yellow_green a (install s))
  green_changes (L.exchanges k p a e c) = placed_change k p a _ e refl
  green_changes (L.exchanges_last k p a u us e c x) = placed_change k p a u e (end_green (exchanged p a s) u us x)
  green_changes (L.collects x e c) = unchanged refl
  green_changes (L.collects_last x e c d) = unchanged refl
  green_changes (L.collects_whole x u us e c d y) = unchanged (end_green (with_state x s) u us y)
  green_changes (L.counts k i e c) = unchanged refl
  green_changes (L.installs k i e c) = installed k i e refl c refl
  green_changes (L.counts_late k i e c) = unchanged refl
  green_changes (L.counts_all_late k i e c) = unchanged refl
  green_changes (L.joins c e) = unchanged refl
  green_changes (L.joins_marked c e) = unchanged refl
  green_changes (L.joins_unmarked c e) = unchanged refl
  green_changes (L.joins_yellow c e) = unchanged refl
  green_changes (L.leaves m n x e q) = unchanged refl
  green_changes (L.sends q c) = unchanged refl
  green_changes (L.numbers q c) = unchanged refl
  green_changes L.recovers = unchanged (reds_green s.log.own s.log)
