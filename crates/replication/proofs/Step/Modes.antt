-- In every image the mark, the last primary and the configuration are as the server's state says.
use Prim.Native.Nat.{ℕ, ◌+◌}
use mathlib.Core.Path.{◌≡◌, refl, sym, ap, subst, ◌∙◌}
use mathlib.Core.Bool.{Bool}
use mathlib.Core.List.{List, [], ◌∷◌}
use mathlib.Core.Option.{Option, some}
use native.Mathlib.Omega.{arith}
use Rattle.base.specs.Lists.{filter}
use Rattle.format.specs.Types.{Action, State, Record}
use Rattle.replication.specs.Machine.Types.{Mode, Trans_prim, Exchange_states, Exchange_actions, Construct, No, Un, Votes, Configuration, Server, start, no_yellow}
use Rattle.replication.specs.Machine.Colours.{yellow}
use Rattle.replication.specs.Machine.Exchange.{is_valid, updated_group, common_yellow, taken_yellow, taken_votes, attempted}
use Rattle.replication.specs.Machine.Install.{install, install_votes}
use Rattle.replication.specs.Machine.Requests.{numbered, send_waiting, recovered}
use Rattle.replication.specs.Machine.Step as M
use Rattle.replication.specs.Machine.Step.{the_set, here_set, collected, decided}
use Rattle.replication.specs.Images.{started, lived}
use Rattle.replication.specs.Laws.Transitions as L
use Rattle.replication.specs.Laws.Transitions.{Ends, Leads, Transition}
use Rattle.replication.specs.Laws.Images.{OfBoth}
use Rattle.replication.specs.Laws.Modes.{InRegular, Attempts, Attained, ModeFacts, ModeFactsOf}
use Rattle.replication.proofs.Step.Inversion.{taken_by}
use Rattle.replication.proofs.Step.Moves.{moved}
use Rattle.replication.proofs.Step.Control.{control_yellow, yellow_membership}
use Rattle.replication.proofs.Step.Lifts.{lived_each}

-- ---- what makes the facts

common_empty : (xs : List State) → (common_yellow xs).status ≡ 0 → (common_yellow xs).ids ≡ []
unfolding common_yellow no_yellow
common_empty [] h = refl
common_empty (x ∷ xs) h = absurd (omega arith)

-- An attempt as the end of an exchange marks it.
attempt_marked : (me here : ℕ) (c : Option Configuration) (xs : List State) → here ≡ the_set c → Attempts (attempted here (taken_votes me xs)) c
unfolding attempted taken_votes taken_yellow
attempt_marked me here c xs h = record {
  mark = ap (λ x. record { status = 1; index = (taken_votes me xs).last.index; attempt = (taken_votes me xs).attempt + 1; set = x; bits = 0 }) h;
  invalid_empty = common_empty (filter is_valid (updated_group xs));
}

-- Install makes the marked attempt the last primary.
install_attains : (v : Votes) (c : Option Configuration) → Attempts v c → Attained (install_votes v) c
unfolding install_votes
install_attains v c p = record {
  index = ap (λ m. m.index + 1) (sym p.mark);
  attempt = ap (λ m. m.attempt) (sym p.mark);
  set = refl;
  here = ap (λ m. m.set) p.mark;
}

attained_yellow : (a : Action) (s : Server) (c : Option Configuration) → Attained s.votes c → Attained (yellow a s).votes c
attained_yellow a s c p =
    let y = control_yellow a s in
    record {
      index = ap (λ x. x.index) y.last ∙ p.index ∙ sym (ap (λ x. x.index + 1) y.mark);
      attempt = ap (λ x. x.attempt) y.last ∙ p.attempt ∙ sym (ap (λ x. x.attempt) y.mark);
      set = ap (λ x. x.set) y.last ∙ p.set ∙ sym (ap (λ x. x.set) y.mark);
      here = ap (λ x. x.set) y.mark ∙ p.here;
    }

-- ---- kept by every transition

leads_kept : {m n : Mode} (v : Votes) (c : Option Configuration) (t : Option ℕ) (x : ℕ) → Leads m n → ModeFacts m v c t → ModeFacts n v c (some x)
leads_kept v c t x L.stays p = tt
leads_kept v c t x L.parts p = (record { configuration = p.0.configuration; there = p.0.there; set = x; after = refl }, p.1)
leads_kept v c t x L.interrupts_states p = tt
leads_kept v c t x L.interrupts_actions p = tt
leads_kept v c t x L.interrupts_construct p = (record { configuration = p.0.configuration; there = p.0.there; set = x; after = refl }, p.1)

module _ (s : Server) where
  -- The facts, in the state that the server is known to be in.
  at : (m : Mode) → s.membership.mode ≡ m → ModeFactsOf s → ModeFacts m s.votes s.membership.configuration s.membership.transitional
  at m e p = subst (λ n. ModeFacts n s.votes s.membership.configuration s.membership.transitional) e p

  end_facts : (t u : Server) (rs : List Record) → t.membership.configuration ≡ s.membership.configuration → t.membership.transitional ≡ s.membership.transitional
      → InRegular s.membership.configuration s.membership.transitional → Ends t u rs → ModeFactsOf u
  unfolding M.attempting decided send_waiting numbered here_set
  end_facts t u rs e f p (L.with_quorum q) =
      (record { configuration = p.configuration; there = e ∙ p.there; none_after = f ∙ p.none_after }, attempt_marked t.me _ _ (collected t) refl)
  end_facts t u rs e f p (L.without_quorum q) = tt

  pub mode_facts_kept : {r : Record} {t : Server} {rs : List Record} {b : Bool} → Transition s r t rs b → ModeFactsOf s → ModeFactsOf t
  unfolding M.green_and_note install M.exchanged M.one_more M.with_state M.resending M.with_cpc send_waiting numbered M.entering M.leave recovered
  mode_facts_kept (L.ignores_state x e) p = p
  mode_facts_kept (L.ignores_cpc k i e) p = p
  mode_facts_kept (L.reddens a e) p = p
  mode_facts_kept (L.reddens_resent k i a e) p = p
  mode_facts_kept (L.reddens_in_exchange a e) p = p
  mode_facts_kept (L.greens a e) p = p
  mode_facts_kept (L.yellows a e) p =
      let q = at Trans_prim e p in
      rw (yellow_membership a s) (subst (λ m. ModeFacts m (yellow a s).votes s.membership.configuration s.membership.transitional) (sym e)
      (q.0, attained_yellow a s s.membership.configuration q.1))
  mode_facts_kept (L.installs_late a e) p =
      let q = at Un e p in
      rw (yellow_membership a (install s)) (q.0, attained_yellow a (install s) s.membership.configuration (install_attains s.votes s.membership.configuration q.1))
  mode_facts_kept (L.exchanges k i a e c) p = p
  mode_facts_kept (L.exchanges_last k i a u us e c x) p = end_facts (M.exchanged i a s) u us refl refl (at Exchange_actions e p) x
  mode_facts_kept (L.collects x e c) p = p
  mode_facts_kept (L.collects_last x e c d) p = at Exchange_states e p
  mode_facts_kept (L.collects_whole x u us e c d y) p = end_facts (M.with_state x s) u us refl refl (at Exchange_states e p) y
  mode_facts_kept (L.counts k i e c) p = p
  mode_facts_kept (L.installs k i e c) p = let q = at Construct e p in (q.0, install_attains s.votes s.membership.configuration q.1)
  mode_facts_kept (L.counts_late k i e c) p = p
  mode_facts_kept (L.counts_all_late k i e c) p = at No e p
  mode_facts_kept (L.joins c e) p = record { configuration = c; there = refl; none_after = refl }
  mode_facts_kept (L.joins_marked c e) p = record { configuration = c; there = refl; none_after = refl }
  mode_facts_kept (L.joins_unmarked c e) p = record { configuration = c; there = refl; none_after = refl }
  mode_facts_kept (L.joins_yellow c e) p = record { configuration = c; there = refl; none_after = refl }
  mode_facts_kept (L.leaves m n x e q) p = leads_kept s.votes s.membership.configuration s.membership.transitional x q (at m e p)
  mode_facts_kept (L.sends q c) p = p
  mode_facts_kept (L.numbers q c) p = p
  mode_facts_kept L.recovers p = tt

-- ---- over a run

pub mode_facts : (n q i : ℕ) (es : List (Option (List ℕ))) → OfBoth ModeFactsOf (lived (started (start n q i)) es)
unfolding start started
mode_facts n q i es =
    lived_each ModeFactsOf (λ s e t bs b g h p. let x = taken_by s e t bs b g h in subst ModeFactsOf (sym x.raise) (mode_facts_kept s (moved x).0 p)) (started (start n q i)) es (record { memory = tt; store = tt })
