-- The log in an exchange: in Exchange_states nothing is entered, in Exchange_actions only retransmissions change it, each by its place.
use Prim.Native.Nat.{ℕ, suc, ◌≤◌, ◌<◌}
use mathlib.Core.Path.{◌≡◌, refl, sym, ap, subst, ◌∙◌}
use mathlib.Core.Bool.{Bool, true, false}
use mathlib.Core.List.{List}
use native.Mathlib.Omega.{arith}
use Rattle.base.proofs.TestLaws.{not_both}
use Rattle.base.proofs.AtLaws.{some_same}
use Rattle.format.specs.Types.{Action, Record, action, retransmission, says}
use Rattle.replication.specs.Machine.Types.{Mode, Non_prim, Reg_prim, Exchange_actions, Construct, No, Configuration, Server}
use Rattle.replication.specs.Machine.Requests.{sends_now, numbered, send_waiting}
use Rattle.replication.specs.Machine.Step.{decided, attempting, with_state, resending, one_more, placed, exchanged, leave}
use Rattle.replication.specs.Laws.Transitions as L
use Rattle.replication.specs.Laws.Transitions.{Ends, Transition}
use Rattle.replication.specs.Laws.Order.{SameHeld}
use Rattle.replication.specs.Runs.Run.{Run, heard_at}
use Rattle.replication.specs.Runs.Happenings.{is_message, Comes, Falls, by_crash, by_recovery, Takes}
use Rattle.replication.proofs.Runs.Roomy.{Roomy as Allowed}
use Rattle.replication.proofs.Step.Apart.{sends_in_lem}
use Rattle.replication.proofs.Step.SameHeld.{held_refl}
use Rattle.replication.proofs.Runs.Places.{event_not_store, event_entry}
use Rattle.replication.proofs.Runs.Shifts.{comes_of}
use Rattle.replication.proofs.Runs.AllowedTurns.{memory_at, Acts, AllowedTurn, rests, crashes, saves, refuses, recovers, acts, allowed_turn}
use Rattle.replication.proofs.Runs.Stays.{membership_at}
use Rattle.replication.proofs.Agreement.Exchange.Stages.{remains, stage, InCom, remaining}
use Rattle.replication.proofs.Agreement.Exchange.Retransmissions.{says_resent}
use Rattle.replication.proofs.Agreement.Exchange.ActionsTaken as T
use Rattle.replication.proofs.Agreement.Exchange.NotRefused.{no_delivery_refused}

-- What an event of a stay that brings no action does to the log of a server in the exchange.
pub data LogMove (s : Server) (r : Record) (t : Server) : Type 0 where
  keeps : says_resent (says r) ≡ false → SameHeld s.log t.log → LogMove s r t
  places : (k p : ℕ) (a : Action) → r ≡ retransmission k p a → s.membership.mode ≡ Exchange_actions → SameHeld (placed p a s.log) t.log → LogMove s r t

pub ends_log : {t u : Server} {rs : List Record} → Ends t u rs → SameHeld t.log u.log × (2 ≤ stage u.membership.mode)
unfolding attempting decided send_waiting numbered stage
ends_log (L.with_quorum h) = (record { green = refl; red = refl; cuts = refl }, omega arith)
ends_log (L.without_quorum h) = (record { green = refl; red = refl; cuts = refl }, omega arith)

module _ (s : Server) (early : stage s.membership.mode ≤ 1) where
  late : {X : Type 0} (m : Mode) → s.membership.mode ≡ m → 1 < stage m → X
  late m e h = absurd (omega (arith, ap stage e))

  pub log_move : {r : Record} {t : Server} {rs : List Record} {b : Bool} → ((a : Action) → r ≡ action a → ⊥) → remains r ≡ true → Transition s r t rs b → LogMove s r t
  unfolding exchanged one_more with_state resending numbered stage remains says_resent leave sends_now send_waiting
  log_move f h (L.ignores_state x e) = late Non_prim e (omega arith)
  log_move f h (L.ignores_cpc k i e) = late Non_prim e (omega arith)
  log_move f h (L.reddens a e) = absurd (f a refl)
  log_move f h (L.reddens_resent k p a e) = late Non_prim e (omega arith)
  log_move f h (L.reddens_in_exchange a e) = absurd (f a refl)
  log_move f h (L.greens a e) = absurd (f a refl)
  log_move f h (L.yellows a e) = absurd (f a refl)
  log_move f h (L.installs_late a e) = absurd (f a refl)
  log_move f h (L.exchanges k p a e c) = places k p a refl e (held_refl _)
  log_move f h (L.exchanges_last k p a t rs e c x) = places k p a refl e (ends_log x).0
  log_move f h (L.collects x e c) = keeps refl (held_refl _)
  log_move f h (L.collects_last x e c d) = keeps refl (held_refl _)
  log_move f h (L.collects_whole x t rs e c d y) = keeps refl (ends_log y).0
  log_move f h (L.counts k i e c) = late Construct e (omega arith)
  log_move f h (L.installs k i e c) = late Construct e (omega arith)
  log_move f h (L.counts_late k i e c) = late No e (omega arith)
  log_move f h (L.counts_all_late k i e c) = late No e (omega arith)
  log_move f h (L.joins c e) = not_both h
  log_move f h (L.joins_marked c e) = not_both h
  log_move f h (L.joins_unmarked c e) = not_both h
  log_move f h (L.joins_yellow c e) = not_both h
  log_move f h (L.leaves m o x e y) = keeps refl (held_refl _)
  log_move f h (L.sends p c) = sends_in_lem _ _ c (λ e. late Non_prim e (omega arith)) (λ e. late Reg_prim e (omega arith))
  log_move f h (L.numbers p c) = keeps refl (record { green = refl; red = refl; cuts = refl })
  log_move f h L.recovers = not_both h

-- ---- a stay

module _ {n q : ℕ} {l : Run} (A : Allowed n q l) where
  -- A place that is no fall: nothing for this server, or an event that is no message and is refused; or an event that it takes.
  pub data MemoryStep (p i : ℕ) : Type 0 where
    still : memory_at n q l (suc p) i ≡ memory_at n q l p i → ((r : Record) → Comes n q l p i r → is_message r ≡ true → ⊥) → MemoryStep p i
    moved : Acts n q l p i → MemoryStep p i

  pub memory_step : (p i : ℕ) → (Falls n q l p i → ⊥) → MemoryStep p i
  memory_step p i f = go (allowed_turn A p i)
    where
      go : AllowedTurn n q l p i → MemoryStep p i
      go (rests o m c d) = still (ap (λ x. x.memory) m) (λ r y z. o (comes_of y))
      go (crashes x m c d) = absurd (f (by_crash x))
      go (saves x m c d u) = still (ap (λ y. y.memory) m) (λ r y z. event_not_store (some_same (sym y.here ∙ x)))
      go (refuses x) =
          still (ap (λ y. y.memory) x.images_next)
          (λ r y z.
          let e = event_entry (some_same (sym x.here ∙ y.here)) in
          no_delivery_refused A x (ap (heard_at n q l p i) e.1 ∙ y.heard) z)
      go (recovers x) = absurd (f (by_recovery x.comes))
      go (acts x) = moved x

  -- What an event that a server takes says.
  abbrev pub acting : {p i : ℕ} (x : Acts n q l p i) → Comes n q l p i x.by.event
  acting x = record { bytes = x.bytes; sent = x.sent; here = x.here; heard = x.heard }

  -- What an event of a stay does to the log of a server in the exchange: no action comes.
  pub acts_log : {p i : ℕ} {c : Configuration} → InCom n q l p i c → stage (membership_at n q l p i).mode ≤ 1 → ((d : Configuration) → Takes n q l p i d → ⊥)
      → (Falls n q l p i → ⊥) → (x : Acts n q l p i) → LogMove (memory_at n q l p i) x.by.event x.after
  acts_log {p} {i} {c} here h g f x =
      log_move (memory_at n q l p i) h
      (λ a e. omega (arith, T.past A p i a (subst (λ r. Comes n q l p i r) e (acting x)) c here))
      (remaining g f x.by.event (acting x)) x.moves
