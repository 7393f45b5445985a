-- In Reg_prim every held action is green and yellow is cleared; in Trans_prim every held action is green or yellow, and yellow is invalid.
use mathlib.Core.Path.{◌≡◌, refl, sym, ap, subst, ◌∙◌}
use mathlib.Core.Bool.{Bool, true}
use mathlib.Core.List.Memᴰ
use mathlib.Core.List.{List, [], ◌∷◌, map, Memᴰ}
use mathlib.Core.Logic.{◌⊎◌, inl, inr}
use Prim.Native.Nat.{◌*◌, ◌≤◌}
use native.Mathlib.Omega.{arith}
use native.Mathlib.Nat.{mul-le-mul}
use Rattle.base.specs.Lists.{Each}
use Rattle.format.specs.Types.{Action, Yellow, Record}
use Rattle.replication.specs.Machine.Types.{Mode, Non_prim, Reg_prim, Trans_prim, Exchange_states, Exchange_actions, Server, no_yellow}
use Rattle.replication.specs.Machine.Colours.{yellow}
use Rattle.replication.specs.Machine.Install.{install_log, install, install_votes}
use Rattle.replication.specs.Machine.Requests.{numbered, send_waiting, recovered}
use Rattle.replication.specs.Machine.Step.{decided, attempting, with_state, resending, one_more, exchanged, with_cpc, entering, leave, green_and_note}
use Rattle.replication.specs.Machine.WellFormed.{well_formed}
use Rattle.replication.specs.Laws.Transitions as L
use Rattle.replication.specs.Laws.Transitions.{Ends, Leads, Transition}
use Rattle.replication.specs.Laws.Modes.{ColourFacts, ColourFactsOf}
use Rattle.replication.specs.Laws.Folds.{entered, add_ids, Yellowed}
use Rattle.replication.proofs.Step.Control.{yellow_membership}
use Rattle.replication.proofs.Step.Folds.{green_one, YellowRoom, yellow_one}
use Rattle.replication.proofs.WellFormed.Facts.{well_formed_facts}
use Rattle.replication.proofs.Runs.LogActions.{carried}
use Rattle.replication.proofs.Step.Yellows.{add_ids_keeps, add_ids_joins}
use Rattle.replication.proofs.Step.Reds.{install_empties}
use Rattle.replication.proofs.Step.Formed.{reds_differ, reds_within}

-- ---- the colours

pub two_places : (s : Server) → well_formed s ≡ true → 2 ≤ s.servers * s.quota
two_places s w =
    let z = (well_formed_facts s w).sizes in
    omega (arith, mul-le-mul {n₁ = 2} {m₁ = 1} {n₂ = s.servers} {m₂ = s.quota} z.fewest z.least)

pub install_no_red : (s : Server) → well_formed s ≡ true → (install_log s.votes.yellow.ids s.log).red ≡ []
install_no_red s w = install_empties s.votes.yellow.ids s.log (reds_differ s w) (reds_within s w)

-- Yellowing keeps every red action yellow.
yellow_covers : (s t : Server) (more : List Action) → Yellowed more s t → s.votes.yellow.status ≡ 0
    → ((a : Action) → Memᴰ a s.log.red → Memᴰ a.id s.votes.yellow.ids)
    → (t.votes.yellow.status ≡ 0) × ((a : Action) → Memᴰ a t.log.red → Memᴰ a.id t.votes.yellow.ids)
yellow_covers s t more y z p = (y.status ∙ z, λ a m. rw y.ids (go a (Memᴰ.append_cases s.log.red (rw y.red at m))))
  where
    go : (a : Action) → Memᴰ a s.log.red ⊎ Memᴰ a (entered s.log.cuts more)
        → Memᴰ a.id (add_ids (map (λ x. x.id) (entered s.log.cuts more)) s.votes.yellow.ids)
    go a (inl m) = add_ids_keeps a.id (map (λ x. x.id) (entered s.log.cuts more)) s.votes.yellow.ids (p a m)
    go a (inr m) = add_ids_joins a.id (map (λ x. x.id) (entered s.log.cuts more)) s.votes.yellow.ids (Memᴰ.map (λ (x : Action). x.id) m)

leads_colours : {m n : Mode} (y : Yellow) (l : List Action) → Leads m n → ColourFacts m y l → ColourFacts n y l
unfolding no_yellow
leads_colours y l L.stays p = tt
leads_colours y l L.parts p = (ap (λ x. x.status) p.0, λ a m. absurd (Memᴰ.not-nil (rw p.1 at m)))
leads_colours y l L.interrupts_states p = tt
leads_colours y l L.interrupts_actions p = tt
leads_colours y l L.interrupts_construct p = tt

-- ---- kept by every transition

module _ (s : Server) (formed : well_formed s ≡ true) where
  at : (m : Mode) → s.membership.mode ≡ m → ColourFactsOf s → ColourFacts m s.votes.yellow s.log.red
  at m e p = subst (λ n. ColourFacts n s.votes.yellow s.log.red) e p

  back : (m : Mode) (y : Yellow) (l : List Action) → s.membership.mode ≡ m → ColourFacts m y l → ColourFacts s.membership.mode y l
  back m y l e p = subst (λ n. ColourFacts n y l) (sym e) p

  end_colours : (t u : Server) (rs : List Record) → Ends t u rs → ColourFactsOf u
  unfolding attempting decided send_waiting numbered
  end_colours t u rs (L.with_quorum q) = tt
  end_colours t u rs (L.without_quorum q) = tt

  pub colour_facts_kept : {r : Record} {t : Server} {rs : List Record} {b : Bool} → Transition s r t rs b
      → (s.membership.mode ≡ Trans_prim → Each (YellowRoom s) (carried r)) → ColourFactsOf s → ColourFactsOf t
  unfolding green_and_note install install_votes no_yellow exchanged one_more with_state resending with_cpc send_waiting numbered entering leave recovered
  colour_facts_kept (L.ignores_state x e) room p = p
  colour_facts_kept (L.ignores_cpc k i e) room p = p
  colour_facts_kept (L.reddens a e) room p = back Non_prim _ _ e tt
  colour_facts_kept (L.reddens_resent k i a e) room p = back Non_prim _ _ e tt
  colour_facts_kept (L.reddens_in_exchange a e) room p = back Exchange_states _ _ e tt
  colour_facts_kept (L.greens a e) room p = let q = at Reg_prim e p in back Reg_prim _ _ e (q.0, (green_one a s.log q.1).red)
  colour_facts_kept (L.yellows a e) room p =
      let q = at Trans_prim e p in
      rw (yellow_membership a s) (back Trans_prim _ _ e (yellow_covers s (yellow a s) (a ∷ []) (yellow_one a s (room e).0) q.0 q.1))
  colour_facts_kept (L.installs_late a e) room p =
      yellow_covers (install s) (yellow a (install s)) (a ∷ []) (yellow_one a (install s) (λ h. omega (arith, two_places s formed))) refl (λ x m. absurd (Memᴰ.not-nil (rw (install_no_red s formed) at m)))
  colour_facts_kept (L.exchanges k i a e c) room p = back Exchange_actions _ _ e tt
  colour_facts_kept (L.exchanges_last k i a u us e c x) room p = end_colours (exchanged i a s) u us x
  colour_facts_kept (L.collects x e c) room p = p
  colour_facts_kept (L.collects_last x e c d) room p = tt
  colour_facts_kept (L.collects_whole x u us e c d y) room p = end_colours (with_state x s) u us y
  colour_facts_kept (L.counts k i e c) room p = p
  colour_facts_kept (L.installs k i e c) room p = (refl, install_no_red s formed)
  colour_facts_kept (L.counts_late k i e c) room p = p
  colour_facts_kept (L.counts_all_late k i e c) room p = tt
  colour_facts_kept (L.joins c e) room p = tt
  colour_facts_kept (L.joins_marked c e) room p = tt
  colour_facts_kept (L.joins_unmarked c e) room p = tt
  colour_facts_kept (L.joins_yellow c e) room p = tt
  colour_facts_kept (L.leaves m n x e q) room p = leads_colours s.votes.yellow s.log.red q (at m e p)
  colour_facts_kept (L.sends q c) room p = p
  colour_facts_kept (L.numbers q c) room p = p
  colour_facts_kept L.recovers room p = tt
