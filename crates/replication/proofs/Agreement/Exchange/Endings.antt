-- How a server leaves an exchange: by its end, or by a transitional configuration.
use Prim.Native.Nat.{ℕ, ◌≤◌, ◌<◌}
use mathlib.Core.Path.{◌≡◌, refl, ap}
use mathlib.Core.Bool.{Bool, true, false}
use mathlib.Core.List.{List}
use mathlib.Core.Logic.{◌⊎◌, inl, inr}
use mathlib.Core.Option.{some}
use native.Mathlib.Omega.{arith}
use Rattle.base.proofs.TestLaws.{not_both}
use Rattle.format.specs.Types.{Record}
use Rattle.replication.specs.Machine.Types.{Mode, Non_prim, Reg_prim, Trans_prim, Exchange_actions, Construct, No, Un, Server, with_mode}
use Rattle.replication.specs.Machine.Exchange.{quorum}
use Rattle.replication.specs.Machine.Requests.{sends_now, numbered, send_waiting}
use Rattle.replication.specs.Machine.Step.{here_set, collected, decided, attempting, with_state, all_states_in, resending, one_more, exchanged, leave}
use Rattle.replication.specs.Laws.Transitions as L
use Rattle.replication.specs.Laws.Transitions.{Ends, Leads, Transition}
use Rattle.replication.proofs.Step.Apart.{sends_in_lem}
use Rattle.replication.proofs.Agreement.Exchange.Stages.{remains, stage}

-- ---- one step

-- The end of an exchange changes only the state's name in the membership part.
pub ends_membership : {t u : Server} {rs : List Record} → Ends t u rs → (m : Mode) × (u.membership ≡ with_mode m t.membership)
unfolding attempting decided send_waiting numbered
ends_membership (L.with_quorum h) = (Construct, refl)
ends_membership (L.without_quorum h) = (Non_prim, refl)

-- How the server s leaves an exchange or stays in it, becoming t.
pub data ExchangeMove (s t : Server) (rs : List Record) (b : Bool) : Type 0 where
  goes_on_lem : stage t.membership.mode ≤ 1 → ExchangeMove s t rs b
  is_left_lem : (x : ℕ) → t.membership.mode ≡ Non_prim → t.membership.transitional ≡ some x → ExchangeMove s t rs b
  is_ended : (judged : Server) → Ends judged t rs → b ≡ true → judged.me ≡ s.me → judged.votes ≡ s.votes
      → judged.membership.configuration ≡ s.membership.configuration → all_states_in judged ≡ true → ExchangeMove s t rs b

module _ (s : Server) (early : stage s.membership.mode ≤ 1) where
  past : {X : Type 0} (m : Mode) → s.membership.mode ≡ m → 1 < stage m → X
  past m e h = absurd (omega (arith, ap stage e))

  leads_move : (m o : Mode) (x : ℕ) (rs : List Record) (b : Bool) → s.membership.mode ≡ m → Leads m o → ExchangeMove s (leave o x s) rs b
  unfolding leave stage
  leads_move m o x rs b e L.stays = past Non_prim e (omega arith)
  leads_move m o x rs b e L.parts = past Reg_prim e (omega arith)
  leads_move m o x rs b e L.interrupts_states = is_left_lem x refl refl
  leads_move m o x rs b e L.interrupts_actions = is_left_lem x refl refl
  leads_move m o x rs b e L.interrupts_construct = past Construct e (omega arith)

  pub exchange_move : {r : Record} {t : Server} {rs : List Record} {b : Bool} → (s.membership.mode ≡ Exchange_actions → all_states_in s ≡ true)
      → remains r ≡ true → Transition s r t rs b → ExchangeMove s t rs b
  unfolding exchanged one_more with_state resending numbered stage remains all_states_in here_set sends_now send_waiting
  exchange_move f h (L.ignores_state x e) = past Non_prim e (omega arith)
  exchange_move f h (L.ignores_cpc k i e) = past Non_prim e (omega arith)
  exchange_move f h (L.reddens a e) = past Non_prim e (omega arith)
  exchange_move f h (L.reddens_resent k p a e) = past Non_prim e (omega arith)
  exchange_move f h (L.reddens_in_exchange a e) = goes_on_lem early
  exchange_move f h (L.greens a e) = past Reg_prim e (omega arith)
  exchange_move f h (L.yellows a e) = past Trans_prim e (omega arith)
  exchange_move f h (L.installs_late a e) = past Un e (omega arith)
  exchange_move f h (L.exchanges k p a e c) = goes_on_lem early
  exchange_move f h (L.exchanges_last k p a t rs e c x) = is_ended (exchanged p a s) x refl refl refl refl (f e)
  exchange_move f h (L.collects x e c) = goes_on_lem early
  exchange_move f h (L.collects_last x e c d) = goes_on_lem (omega arith)
  exchange_move f h (L.collects_whole x t rs e c d y) = is_ended (with_state x s) y refl refl refl refl c
  exchange_move f h (L.counts k i e c) = past Construct e (omega arith)
  exchange_move f h (L.installs k i e c) = past Construct e (omega arith)
  exchange_move f h (L.counts_late k i e c) = past No e (omega arith)
  exchange_move f h (L.counts_all_late k i e c) = past No e (omega arith)
  exchange_move f h (L.joins c e) = not_both h
  exchange_move f h (L.joins_marked c e) = not_both h
  exchange_move f h (L.joins_unmarked c e) = not_both h
  exchange_move f h (L.joins_yellow c e) = not_both h
  exchange_move f h (L.leaves m o x e y) = leads_move m o x _ _ e y
  exchange_move f h (L.sends p c) = sends_in_lem _ _ c (λ e. past Non_prim e (omega arith)) (λ e. past Reg_prim e (omega arith))
  exchange_move f h (L.numbers p c) = goes_on_lem early
  exchange_move f h L.recovers = not_both h

-- How the end of an exchange decides.
pub ends_decide : {t u : Server} {rs : List Record} → Ends t u rs
    → ((quorum (collected t) (here_set t) ≡ true) × (u.membership.mode ≡ Construct))
    ⊎ ((quorum (collected t) (here_set t) ≡ false) × (u.membership.mode ≡ Non_prim))
unfolding attempting send_waiting numbered
ends_decide (L.with_quorum h) = inl (h, refl)
ends_decide (L.without_quorum h) = inr (h, refl)
