-- Install in place, in the state that it leads to; then what waits is sent.
use Prim.Native.Nat.{ℕ, zero, suc, ◌≤◌, ◌<◌}
use mathlib.Core.Path.{◌≡◌, refl, sym, ap, ◌∙◌}
use mathlib.Core.Bool.{true}
use mathlib.Core.List.{List}
use mathlib.Core.Logic.{inl, inr}
use native.Mathlib.Omega.{arith}
use Rattle.base.proofs.Prefixes.{begins_same, begins_refl}
use Rattle.format.specs.Limits.{most_index_limit}
use Rattle.replication.specs.Machine.Types.{Mode, Non_prim, Reg_prim, Trans_prim, Exchange_states, Exchange_actions, Construct, No, Un, Log, Server, in_mode, no_yellow}
use Rattle.replication.specs.Machine.Install.{ids_up_to, install_log, install_votes, install}
use Rattle.replication.specs.Machine.Requests.{send_waiting, waiting_records}
use Rattle.replication.specs.Machine.Step.{stored, installing}
use Rattle.replication.specs.Machine.WellFormed.{queue, well_formed}
use Rattle.replication.specs.Machine.WellFormedFacts.{Configured, ModeFits}
use Rattle.replication.proofs.Step.Growth.{install_grows}
use Rattle.replication.proofs.WellFormed.Facts.{well_formed_facts, facts_well_formed}
use Rattle.replication.proofs.WellFormed.Changes.{Body, body, whole, in_mode_lem}
use Rattle.replication.proofs.WellFormed.Effects.{install_body, send_waiting_body}
use Rattle.image.specs.Image.{image}
use Rattle.image.specs.Header.{mode_number}
use Rattle.image.specs.Holding.{Holds, HoldsSuch, HoldsSome}
use Rattle.image.proofs.InPlace.{such_fact, holds_some}
use Rattle.install.proofs.SwapFits.{swaps_kept}
use Rattle.install.proofs.InstallLaws.{install_swaps}
use Rattle.step.specs.declared.Answer.{Answer}
use Rattle.outgoing.specs.Lent.{LentSuch}
use Rattle.step.specs.Answers.{answered, outcome_on, Installs}
use Rattle.outgoing.proofs.LentFacts.{lent_fact}
use Rattle.image.proofs.Chained.{Covers, chained, then_holds}
use Rattle.step.proofs.OutcomeLaws.{stored_after}
use Rattle.step.proofs.BlankLaws.{grown_still}

-- ---- well-formed states on the way

-- In Reg_prim and Trans_prim row 8 asks for a configuration only.
pub primary_fits : (m : Mode) (k : ℕ) → 1 ≤ k → k ≤ 2 → k ≡ mode_number m → (s : Server) → Configured s → ModeFits m s
unfolding mode_number
primary_fits Non_prim k h l e s c = tt
primary_fits Reg_prim k h l e s c = c
primary_fits Trans_prim k h l e s c = c
primary_fits Exchange_states k h l e s c = c
primary_fits Exchange_actions k h l e s c = absurd (omega arith)
primary_fits Construct k h l e s c = absurd (omega arith)
primary_fits No k h l e s c = absurd (omega arith)
primary_fits Un k h l e s c = absurd (omega arith)

primary_mode : (k : ℕ) → 1 ≤ k → k ≤ 2 → (m : Mode) × (k ≡ mode_number m)
unfolding mode_number
primary_mode zero h l = absurd (omega arith)
primary_mode (suc zero) h l = (Reg_prim, refl)
primary_mode (suc (suc zero)) h l = (Trans_prim, refl)
primary_mode (suc (suc (suc k))) h l = absurd (omega arith)

module _ (k : ℕ) (s : Server) (m : Mode) (ok : well_formed s ≡ true) (i : Installs k s) (e : k ≡ mode_number m) where
  pub mode_formed : well_formed (in_mode m s) ≡ true
  mode_formed =
      facts_well_formed (in_mode m s)
      (whole (in_mode m s) (in_mode_lem s (body s (well_formed_facts s ok)) m) (primary_fits m k i.from i.to e (in_mode m s) i.configured))

  installed_body : Body s.white (in_mode m (install s))
  installed_body = in_mode_lem (install s) (install_body s (body s (well_formed_facts s ok)) i.index) m

  pub installed_formed : well_formed (in_mode m (install s)) ≡ true
  unfolding install
  installed_formed =
      facts_well_formed (in_mode m (install s))
      (whole (in_mode m (install s)) installed_body (primary_fits m k i.from i.to e (in_mode m (install s)) i.configured))

  pub sent_formed : well_formed (send_waiting (in_mode m (install s))) ≡ true
  unfolding install send_waiting
  sent_formed =
      facts_well_formed (send_waiting (in_mode m (install s)))
      (whole (send_waiting (in_mode m (install s))) (send_waiting_body (in_mode m (install s)) installed_body)
      (primary_fits m k i.from i.to e (send_waiting (in_mode m (install s))) i.configured))

own_kept : (s : Server) → well_formed s ≡ true → (install s).log.own ≡ s.log.own
unfolding install
own_kept s ok =
    ap (λ (l : Log). l.own) (sym (install_swaps s ok))
    ∙ (swaps_kept (ids_up_to 0 s.log.cuts) _).own
    ∙ (swaps_kept s.votes.yellow.ids s.log).own

-- ---- Install in a state of a primary component

module _ (k : ℕ) (b c : List ℕ) (p : HoldsSuch (Installs k) b) (f : (s : Server) (m : Mode) → Holds s b → k ≡ mode_number m → c ≡ image (in_mode m s) b) where
  pub mode_holds : (s : Server) (m : Mode) → Holds s b → k ≡ mode_number m → Holds (in_mode m s) c
  mode_holds s m r e = then_holds s (in_mode m s) b c r (f s m r e) refl refl (mode_formed k s m r.formed (such_fact (Installs k) b s p r) e) r.blank

  pub mode_some : HoldsSome c
  mode_some =
      let o = primary_mode k p.fact.from p.fact.to in
      holds_some (in_mode o.0 p.state) c (mode_holds p.state o.0 p.holds o.1)

  pub mode_installed : (d : List ℕ) → ((t : Server) → Holds t c → d ≡ image (install t) c) → (s : Server) (m : Mode) → Holds s b → k ≡ mode_number m
      → d ≡ image (in_mode m (install s)) b
  unfolding install
  mode_installed d g s m r e =
      let i : Installs k s = such_fact (Installs k) b s p r in
      chained s (in_mode m s) (in_mode m (install s)) b r (mode_formed k s m r.formed i e) (installed_formed k s m r.formed i e) covers c d (f s m r e)
      (g (in_mode m s) (mode_holds s m r e))
    where
      covers : Covers s (in_mode m s) (in_mode m (install s))
      covers = record {
        servers = (refl, refl);
        quota = (refl, refl);
        states = inr refl;
        ids = inr (begins_refl _);
        own = inr (begins_refl _);
        actions = inr (begins_refl _);
      }

-- The buffer that it left.
installed_holds : (k : ℕ) (b c : List ℕ) → ((s : Server) (m : Mode) → Holds s b → k ≡ mode_number m → c ≡ image (in_mode m (install s)) b)
    → (s : Server) (m : Mode) → Holds s b → Installs k s → k ≡ mode_number m → Holds (in_mode m (install s)) c
unfolding install
installed_holds k b c f s m r i e =
    then_holds s (in_mode m (install s)) b c r (f s m r e) refl refl (installed_formed k s m r.formed i e)
    (grown_still s (install_log s.votes.yellow.ids s.log).green r.formed r.blank (install_grows s.votes.yellow.ids s.log).greens)

-- ---- what waits is sent

sent_covers : (t : Server) → well_formed t ≡ true → Covers t (in_mode Reg_prim (install t)) (send_waiting (in_mode Reg_prim (install t)))
unfolding install install_votes no_yellow send_waiting queue
sent_covers t ok = record {
  servers = (refl, refl);
  quota = (refl, refl);
  states = inl refl;
  ids = inl (omega arith);
  own = inr (begins_same _ _ (sym (own_kept t ok)));
  actions = inl (omega arith);
}

module _ (b o : List ℕ) (p : LentSuch (λ t. Configured t × (t.votes.last.index < most_index_limit)) b o) where
  to_primary : (t : Server) → Holds t b → Installs 1 t
  to_primary t r =
      let f = lent_fact (λ x. Configured x × (x.votes.last.index < most_index_limit)) b o t p r in
      record { from = omega arith; to = omega arith; configured = f.0; index = f.1 }

  pub primary_installs : HoldsSuch (Installs 1) b
  primary_installs = record { state = p.state; holds = p.holds; fact = to_primary p.state p.holds }

  module _ (c : List ℕ) (f : (s : Server) (m : Mode) → Holds s b → 1 ≡ mode_number m → c ≡ image (in_mode m (install s)) b) where
    primary_holds : (t : Server) → Holds t b → Holds (in_mode Reg_prim (install t)) c
    unfolding mode_number
    primary_holds t r = installed_holds 1 b c f t Reg_prim r (to_primary t r) refl

    pub primary_lent : LentSuch (λ s. 0 ≤ 0) c o
    unfolding install
    primary_lent = record { state = in_mode Reg_prim (install p.state); holds = primary_holds p.state p.holds; fact = omega arith; room = p.room }

    pub primary_sent : (a : Answer) (d u : List ℕ)
        → ((s t : Server) → Holds t c → answered a d u ≡ outcome_on (stored s (send_waiting t) (waiting_records t)) c o)
        → (s t : Server) → Holds t b → answered a d u ≡ outcome_on (installing s t) b o
    unfolding installing mode_number
    primary_sent a d u g s t r =
        let v : Server = in_mode Reg_prim (install t) in
        let held : Holds v c = primary_holds t r in
        g s v held
        ∙ stored_after t v (send_waiting v) b c o r held.formed (sent_formed 1 t Reg_prim r.formed (to_primary t r) refl)
        (sent_covers t r.formed) (f t Reg_prim r refl) s (waiting_records v)
