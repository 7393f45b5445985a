-- The ways in which a taken event treats what the invariant of green lists speaks of: the green list, the last primary, the mark, the yellow list, an attempt.
use mathlib.Core.Path.{◌≡◌, refl, sym, ap, subst, ◌∙◌}
use Prim.Native.Nat.{ℕ}
use mathlib.Core.Bool.{Bool, true}
use mathlib.Core.List.{List}
use mathlib.Core.Logic.{◌⊎◌, inl, inr}
use Rattle.base.proofs.TestLaws.{not_both}
use Rattle.format.specs.Types.{Record, regular}
use Rattle.replication.specs.Machine.Types.{Mode, Non_prim, Reg_prim, Trans_prim, Exchange_states, Exchange_actions, Construct, No, Un, Votes, Configuration, Server, start}
use Rattle.replication.specs.Machine.Install.{install, install_votes}
use Rattle.replication.specs.Machine.Requests.{numbered, send_waiting, recovered}
use Rattle.replication.specs.Machine.Rules.{rule_for, on_action, on_cpc}
use Rattle.replication.specs.Machine.Step.{entering, unmarked, yellow_valid, with_state, resending, exchanged, one_more, with_cpc, leave, green_and_note, attempting, decided, installs_by, here_set, all_states_in}
use Rattle.replication.specs.Laws.Modes as M
use Rattle.replication.specs.Laws.Modes.{ModeFacts, ModeFactsOf}
use Rattle.replication.specs.Laws.Order.{in_exchange}
use Rattle.replication.specs.Laws.Transitions as L
use Rattle.replication.specs.Laws.Transitions.{Transition, Leads, Ends}
use Rattle.replication.specs.Runs.Run.{Run, world_at}
use Rattle.replication.specs.Laws.Images.{OfBoth}
use Rattle.replication.specs.Machine.Colours.{yellow}
use Rattle.replication.proofs.Step.Inversion.{taken_by}
use Rattle.replication.proofs.Step.Moves.{moved}
use Rattle.replication.proofs.Step.Modes.{mode_facts_kept}
use Rattle.replication.proofs.Runs.Lived.{each_at_place}
use Rattle.replication.proofs.Step.Greens.{red_green, reds_green}
use Rattle.replication.proofs.Step.Control.{control_yellow, yellow_membership}
use Rattle.replication.proofs.Agreement.Votes.Changes as C
use Rattle.replication.proofs.Agreement.Votes.Changes.{Ending, Installing, VotesStep, votes_step, installing}

-- In a primary component.
abbrev pub InPrimary : Server → Type 0
InPrimary s = (s.membership.mode ≡ Reg_prim) ⊎ (s.membership.mode ≡ Trans_prim)

pub data GreenStep (s : Server) (r : Record) (t : Server) (rs : List Record) (b : Bool) : Type 0 where
  steady : t.log.green ≡ s.log.green → t.votes ≡ s.votes → (M.attempting t.membership.mode ≡ true → M.attempting s.membership.mode ≡ true)
      → GreenStep s r t rs b
  delivers : InPrimary s → InPrimary t → t.votes.last ≡ s.votes.last → t.votes.mark ≡ s.votes.mark → GreenStep s r t rs b
  exchanges : s.membership.mode ≡ Exchange_actions → t.membership.mode ≡ Exchange_actions → t.votes ≡ s.votes → GreenStep s r t rs b
  ends : b ≡ true → Ending s t rs → GreenStep s r t rs b
  installs : installing s r ≡ true → b ≡ true → InPrimary t → Installing s t → GreenStep s r t rs b
  unmarks : s.membership.mode ≡ No → t.membership.mode ≡ Exchange_states → t.log ≡ s.log → t.votes ≡ unmarked s.votes → GreenStep s r t rs b
  makes_valid : (c : Configuration) → r ≡ regular c.id c.set → s.membership.mode ≡ Trans_prim → t.membership.mode ≡ Exchange_states → t.log ≡ s.log
      → t.votes ≡ yellow_valid (unmarked s.votes) → GreenStep s r t rs b

module _ (s : Server) where
  leads_steady : (m n : Mode) → s.membership.mode ≡ m → Leads m n → M.attempting n ≡ true → M.attempting s.membership.mode ≡ true
  unfolding M.attempting
  leads_steady m n e L.stays h = not_both h
  leads_steady m n e L.parts h = not_both h
  leads_steady m n e L.interrupts_states h = not_both h
  leads_steady m n e L.interrupts_actions h = not_both h
  leads_steady m n e L.interrupts_construct h = ap M.attempting e

  by_votes : {r : Record} {t : Server} {rs : List Record} {b : Bool} → b ≡ true → InPrimary t → installing s r ≡ true → VotesStep s r t rs b
      → GreenStep s r t rs b
  by_votes h p k (C.keeps g o v w) = not_both (sym o ∙ k)
  by_votes h p k (C.joins c e o j) = not_both (sym o ∙ k)
  by_votes h p k (C.ends g o w j) = not_both (sym o ∙ k)
  by_votes h p k (C.installs g o j) = installs o h p j

  pub green_step : {r : Record} {t : Server} {rs : List Record} {b : Bool} → Transition s r t rs b → GreenStep s r t rs b
  unfolding green_and_note install exchanged one_more with_state resending with_cpc send_waiting numbered entering leave recovered M.attempting in_exchange installs_by rule_for on_action on_cpc here_set all_states_in
  green_step (L.ignores_state x e) = steady refl refl (λ h. h)
  green_step (L.ignores_cpc k i e) = steady refl refl (λ h. h)
  green_step (L.reddens a e) = steady (red_green a s.log) refl (λ h. h)
  green_step (L.reddens_resent k i a e) = steady (red_green a s.log) refl (λ h. h)
  green_step (L.reddens_in_exchange a e) = steady (red_green a s.log) refl (λ h. h)
  green_step (L.greens a e) = delivers (inl e) (inl e) refl refl
  green_step (L.yellows a e) =
      delivers (inr e) (inr (ap (λ m. m.mode) (yellow_membership a s) ∙ e)) (control_yellow a s).last (control_yellow a s).mark
  green_step (L.installs_late a e) = by_votes refl (inr refl) (ap (λ m. installs_by (on_action m a) s) e) (votes_step s (L.installs_late a e))
  green_step (L.exchanges k p a e c) = exchanges e e refl
  green_step (L.exchanges_last k p a u us e c x) =
      ends refl (record { judged = exchanged p a s; ends = x; exchanging = ap in_exchange e; me = refl; votes = refl; configuration = refl; complete = λ f. f e })
  green_step (L.collects x e c) = steady refl refl (λ h. h)
  green_step (L.collects_last x e c d) = steady refl refl (λ h. not_both h)
  green_step (L.collects_whole x u us e c d y) =
      ends refl (record { judged = with_state x s; ends = y; exchanging = ap in_exchange e; me = refl; votes = refl; configuration = refl; complete = λ f. c })
  green_step (L.counts k i e c) = steady refl refl (λ h. h)
  green_step (L.installs k i e c) = by_votes refl (inl refl) (ap (λ m. installs_by (on_cpc m k) s) e ∙ c) (votes_step s (L.installs k i e c))
  green_step (L.counts_late k i e c) = steady refl refl (λ h. h)
  green_step (L.counts_all_late k i e c) = steady refl refl (λ h. ap M.attempting e)
  green_step (L.joins c e) = steady refl refl (λ h. not_both h)
  green_step (L.joins_marked c e) = steady refl refl (λ h. not_both h)
  green_step (L.joins_unmarked c e) = unmarks e refl refl refl
  green_step (L.joins_yellow c e) = makes_valid c refl e refl refl refl
  green_step (L.leaves m n x e q) = steady refl refl (leads_steady m n e q)
  green_step (L.sends p c) = steady refl refl (λ h. h)
  green_step (L.numbers p c) = steady refl refl (λ h. h)
  green_step L.recovers = steady (reds_green s.log.own s.log) refl (λ h. not_both h)

-- ---- in a primary component the mark is set

abbrev pub MarkSet : Mode → Votes → Type 0
MarkSet Non_prim v = Unit {0}
MarkSet Reg_prim v = v.mark.status ≡ 1
MarkSet Trans_prim v = v.mark.status ≡ 1
MarkSet Exchange_states v = Unit {0}
MarkSet Exchange_actions v = Unit {0}
MarkSet Construct v = Unit {0}
MarkSet No v = Unit {0}
MarkSet Un v = Unit {0}

abbrev pub MarkSetOf : Server → Type 0
MarkSetOf s = MarkSet s.membership.mode s.votes

leads_marked : {m n : Mode} (v : Votes) → Leads m n → MarkSet m v → MarkSet n v
leads_marked v L.stays h = tt
leads_marked v L.parts h = h
leads_marked v L.interrupts_states h = tt
leads_marked v L.interrupts_actions h = tt
leads_marked v L.interrupts_construct h = tt

module _ (s : Server) where
  marked_in : (m : Mode) → s.membership.mode ≡ m → MarkSetOf s → MarkSet m s.votes
  marked_in m e h = subst (λ n. MarkSet n s.votes) e h

  facts_in : (m : Mode) → s.membership.mode ≡ m → ModeFactsOf s → ModeFacts m s.votes s.membership.configuration s.membership.transitional
  facts_in m e h = subst (λ n. ModeFacts n s.votes s.membership.configuration s.membership.transitional) e h

  end_marked : (t u : Server) (rs : List Record) → Ends t u rs → MarkSetOf u
  unfolding attempting decided send_waiting numbered
  end_marked t u rs (L.with_quorum q) = tt
  end_marked t u rs (L.without_quorum q) = tt

  pub mark_set_kept : {r : Record} {t : Server} {rs : List Record} {b : Bool} → Transition s r t rs b → ModeFactsOf s → MarkSetOf s → MarkSetOf t
  unfolding green_and_note install install_votes exchanged one_more with_state resending with_cpc send_waiting numbered entering leave recovered
  mark_set_kept (L.ignores_state x e) f h = h
  mark_set_kept (L.ignores_cpc k i e) f h = h
  mark_set_kept (L.reddens a e) f h = h
  mark_set_kept (L.reddens_resent k i a e) f h = h
  mark_set_kept (L.reddens_in_exchange a e) f h = h
  mark_set_kept (L.greens a e) f h = h
  mark_set_kept (L.yellows a e) f h =
      rw (yellow_membership a s) (subst (λ m. MarkSet m (yellow a s).votes) (sym e) (ap (λ m. m.status) (control_yellow a s).mark ∙ marked_in Trans_prim e h))
  mark_set_kept (L.installs_late a e) f h =
      let q = facts_in Un e f in
      ap (λ m. m.status) ((control_yellow a (install s)).mark ∙ q.1.mark)
  mark_set_kept (L.exchanges k i a e c) f h = h
  mark_set_kept (L.exchanges_last k i a u us e c x) f h = end_marked (exchanged i a s) u us x
  mark_set_kept (L.collects x e c) f h = h
  mark_set_kept (L.collects_last x e c d) f h = tt
  mark_set_kept (L.collects_whole x u us e c d y) f h = end_marked (with_state x s) u us y
  mark_set_kept (L.counts k i e c) f h = h
  mark_set_kept (L.installs k i e c) f h = let q = facts_in Construct e f in ap (λ m. m.status) q.1.mark
  mark_set_kept (L.counts_late k i e c) f h = h
  mark_set_kept (L.counts_all_late k i e c) f h = tt
  mark_set_kept (L.joins c e) f h = tt
  mark_set_kept (L.joins_marked c e) f h = tt
  mark_set_kept (L.joins_unmarked c e) f h = tt
  mark_set_kept (L.joins_yellow c e) f h = tt
  mark_set_kept (L.leaves m n x e q) f h = leads_marked s.votes q (marked_in m e h)
  mark_set_kept (L.sends p c) f h = h
  mark_set_kept (L.numbers p c) f h = h
  mark_set_kept L.recovers f h = tt

-- For both images of every server.
pub mark_set_at_lem : (n q : ℕ) (l : Run) (i p : ℕ) → OfBoth MarkSetOf ((world_at n q l p).images i)
unfolding start
mark_set_at_lem n q l i p =
    let both = each_at_place n q l (λ s. ModeFactsOf s × MarkSetOf s)
    (λ s e t bs b g h f. let x = taken_by s e t bs b g h in let m = (moved x).0 in subst (λ u. ModeFactsOf u × MarkSetOf u) (sym x.raise) (mode_facts_kept s m f.0, mark_set_kept s m f.0 f.1)) i (tt, tt) p in
    record { memory = both.memory.1; store = both.store.1 }
