-- Where requests are sent, nothing waits: what leads there sends all, and what comes there numbers none that is not sent at once.
use Prim.Native.Nat.{ℕ, zero, suc, ◌-◌, ◌≤◌}
use mathlib.Core.Path.{◌≡◌, refl, sym, ap, subst, ◌∙◌}
use mathlib.Core.Bool.{Bool, true, false}
use mathlib.Core.List.{List, [], ◌∷◌}
use mathlib.Core.Logic.{◌⊎◌, inl, inr}
use native.Mathlib.Omega.{arith}
use lib.ListN.{length, drop}
use Rattle.base.specs.Tests.{◌and◌}
use Rattle.base.specs.Lists.{is_there}
use Rattle.base.proofs.TestLaws.{not_both}
use Rattle.format.specs.Types.{Action, Record}
use Rattle.replication.specs.Machine.Types.{Mode, Server, taken, start}
use Rattle.replication.specs.Machine.Colours.{cut}
use Rattle.replication.specs.Machine.Install.{install}
use Rattle.replication.specs.Machine.Requests.{in_regular, sends_in, sends_now, numbered, waiting, send_waiting, recovered}
use Rattle.replication.specs.Machine.Step.{entering, decided, attempting, with_state, resending, one_more, exchanged, with_cpc, leave, green_and_note, step}
use Rattle.replication.specs.Machine.White.{full, sieved_record}
use Rattle.replication.specs.Machine.WellFormed.{well_formed}
use Rattle.replication.specs.Images.{started}
use Rattle.replication.specs.Laws.Order.{SameNumbers}
use Rattle.replication.specs.Laws.Transitions as L
use Rattle.replication.specs.Laws.Transitions.{Ends, Leads, Transition, TakenBy}
use Rattle.replication.specs.Runs.Requests.{NothingWaits, SentOnReaching}
use Rattle.replication.proofs.Step.Control.{yellow_membership}
use Rattle.replication.proofs.Step.Growth.{transition_grows}
use Rattle.replication.proofs.Step.Identity.{identity_kept}
use Rattle.replication.proofs.Step.Inversion.{taken_by}
use Rattle.replication.proofs.Step.Lifts.{lived_each}
use Rattle.replication.proofs.Step.Moves.{moved}
use Rattle.replication.proofs.Step.Numbered.{same_numbers, numbers_red, numbers_green, numbers_placed, numbers_yellow}
use Rattle.replication.proofs.WellFormed.Facts.{well_formed_facts}
use Rattle.replication.proofs.WellFormed.OwnList.{own_length, waiting_behind}
use Rattle.replication.proofs.WellFormed.Runs.{start_well_formed}
use Rattle.replication.proofs.WellFormed.Steps.{step_well_formed}

-- ---- by the numbers: all that is numbered is sent, or entered

abbrev AllOut : Server → Type 0
AllOut s = (s.log.numbered ≤ s.log.sent) ⊎ (s.log.numbered ≤ cut s.log s.me)

drop_past : (k : ℕ) (xs : List Action) → length xs ≤ k → drop k xs ≡ []
drop_past zero [] h = refl
drop_past (suc k) [] h = refl
drop_past zero (x ∷ xs) h = absurd (omega arith)
drop_past (suc k) (x ∷ xs) h = drop_past k xs (omega arith)

none_waits : (s : Server) → well_formed s ≡ true → AllOut s → waiting s.log ≡ []
none_waits s ok a =
    let f = well_formed_facts s ok in
    waiting_behind s.me s.log f.own_list ∙ drop_past (s.log.sent - cut s.log s.me) s.log.own (short a)
  where
    short : AllOut s → length s.log.own ≤ s.log.sent - cut s.log s.me
    short (inl h) = omega (arith, own_length s.me s.log (well_formed_facts s ok).own_list)
    short (inr h) = omega (arith, own_length s.me s.log (well_formed_facts s ok).own_list)

-- ---- one event

-- t sends requests: s did, and none was numbered; or t has sent all.
abbrev Reaches : Server → Server → Type 0
Reaches s t = ((sends_now s.membership ≡ true) × SameNumbers s.log t.log) ⊎ (t.log.numbered ≤ t.log.sent)

ends_reach : (s : Server) {t u : Server} {rs : List Record} → Ends t u rs → sends_now u.membership ≡ true → Reaches s u
unfolding attempting decided send_waiting sends_now sends_in
ends_reach s (L.with_quorum q) h = not_both h
ends_reach s (L.without_quorum q) h = inr (omega arith)

and_false : (c : Bool) → (c and false) ≡ false
unfolding ◌and◌
and_false true = refl
and_false false = refl

leads_none : {X : Type 0} {m o : Mode} → Leads m o → (c : Bool) → sends_in o (c and false) ≡ true → X
unfolding sends_in
leads_none L.stays c h = not_both (sym (and_false c) ∙ h)
leads_none L.parts c h = not_both h
leads_none L.interrupts_states c h = not_both (sym (and_false c) ∙ h)
leads_none L.interrupts_actions c h = not_both (sym (and_false c) ∙ h)
leads_none L.interrupts_construct c h = not_both h

reaches : {s : Server} {r : Record} {t : Server} {rs : List Record} {b : Bool} → Transition s r t rs b → sends_now t.membership ≡ true → Reaches s t
unfolding green_and_note install exchanged one_more with_state resending with_cpc entering leave recovered numbered send_waiting sends_now sends_in in_regular is_there ◌and◌
reaches {s} (L.ignores_state x e) h = inl (h, same_numbers s.log)
reaches {s} (L.ignores_cpc k i e) h = inl (h, same_numbers s.log)
reaches {s} (L.reddens a e) h = inl (h, numbers_red a s.log)
reaches {s} (L.reddens_resent k i a e) h = inl (h, numbers_red a s.log)
reaches {s} (L.reddens_in_exchange a e) h = inl (h, numbers_red a s.log)
reaches {s} (L.greens a e) h = inl (h, numbers_green a s.log)
reaches {s} (L.yellows a e) h = inl (ap sends_now (sym (yellow_membership a s)) ∙ h, numbers_yellow a s)
reaches (L.installs_late a e) h = not_both h
reaches {s} (L.exchanges k i a e c) h = inl (h, numbers_placed i a s.log)
reaches {s} (L.exchanges_last k i a u us e c x) h = ends_reach s x h
reaches {s} (L.collects x e c) h = inl (h, same_numbers s.log)
reaches (L.collects_last x e c d) h = not_both h
reaches {s} (L.collects_whole x u us e c d y) h = ends_reach s y h
reaches {s} (L.counts k i e c) h = inl (h, same_numbers s.log)
reaches (L.installs k i e c) h = inr (omega arith)
reaches {s} (L.counts_late k i e c) h = inl (h, same_numbers s.log)
reaches (L.counts_all_late k i e c) h = not_both h
reaches (L.joins c e) h = not_both h
reaches (L.joins_marked c e) h = not_both h
reaches (L.joins_unmarked c e) h = not_both h
reaches (L.joins_yellow c e) h = not_both h
reaches {s} (L.leaves m n x e q) h = leads_none q (is_there s.membership.configuration) h
reaches (L.sends q c) h = inr (omega arith)
reaches (L.numbers q c) h = not_both (sym c ∙ h)
reaches L.recovers h = not_both h

-- ---- over any events

abbrev Sending : Server → Type 0
Sending s = (well_formed s ≡ true) × (sends_now s.membership ≡ true → AllOut s)

sending_kept : (s : Server) (e : List ℕ) (t : Server) (bs : List (List ℕ)) (b : Bool) (g : List Action) → step s e ≡ taken t bs b g → Sending s → Sending t
unfolding cut
sending_kept s e t bs b g h (ok, f) =
    (step_well_formed s e t bs b g ok h, subst (λ u. sends_now u.membership ≡ true → AllOut u) (sym y.raise) (λ z. go (reaches x z)))
  where
    y : TakenBy s e t bs b g
    y = taken_by s e t bs b g h

    x : Transition s (sieved_record (full y.rule s) y.event) y.core y.records b
    x = (moved y).0

    kept : AllOut s → SameNumbers s.log y.core.log → AllOut y.core
    kept (inl a) n = inl (omega (arith, n.numbered, n.sent))
    kept (inr a) n = inr (omega (arith, n.numbered, (transition_grows x).cuts s.me, ap (cut y.core.log) (identity_kept s x).me))

    go : Reaches s y.core → AllOut y.core
    go (inr y) = inl y
    go (inl y) = kept (f y.0) y.1

pub sent_on_reaching : SentOnReaching
unfolding SentOnReaching NothingWaits start started
sent_on_reaching n q i sizes own es =
    let both =
    lived_each Sending sending_kept (started (start n q i)) es
    (record { memory = (start_well_formed n q i sizes own, λ h. inl (omega arith)); store = (start_well_formed n q i sizes own, λ h. inl (omega arith)) })
    in
    record { memory = λ h. none_waits _ both.memory.0 (both.memory.1 h); store = λ h. none_waits _ both.store.0 (both.store.1 h) }
