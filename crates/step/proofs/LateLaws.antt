-- Install in Un, with an action yellow after it.
use Prim.Native.Nat.{ℕ, ◌*◌, ◌≤◌, ◌<◌}
use mathlib.Core.Path.{◌≡◌, refl, sym, ap, subst, ◌∙◌}
use mathlib.Core.Bool.{Bool, true, false}
use mathlib.Core.List.{List, []}
use mathlib.Core.Logic.{inl, inr}
use native.Mathlib.Omega.{arith}
use lib.ListN.{length}
use Rattle.base.proofs.Prefixes.{begins_refl}
use Rattle.base.specs.Tests.{pick}
use Rattle.format.specs.Limits.{most_index_limit}
use Rattle.format.specs.Types.{Action}
use Rattle.record.specs.declared.ActionHead.{ActionHead}
use Rattle.record.specs.Values.{id_of, action_of}
use Rattle.replication.specs.Machine.Types.{Mode, Trans_prim, Un, Server, with_log, with_votes, with_white, in_mode, no_yellow}
use Rattle.replication.specs.Machine.Colours.{is_next, enter, join_yellow, yellow}
use Rattle.replication.specs.Machine.Install.{install_log, install_votes, install}
use Rattle.replication.specs.Machine.Rules.{reddening, late_installing, yellowing}
use Rattle.replication.specs.Machine.Step.{quiet, apply, in_bytes}
use Rattle.replication.specs.Machine.White.{entrant, met_log, is_recovering, took_white, full, sifted}
use Rattle.replication.specs.Machine.WellFormed.{well_formed}
use Rattle.replication.specs.Machine.WellFormedFacts.{Configured, ModeFits}
use Rattle.replication.specs.Laws.RuleFits.{Delivered}
use Rattle.replication.proofs.Step.Growth.{install_grows}
use Rattle.replication.proofs.Step.Logs.{yellow_as}
use Rattle.replication.proofs.Step.Numbered.{numbers_install}
use Rattle.replication.proofs.WellFormed.Facts.{well_formed_facts, facts_well_formed}
use Rattle.replication.proofs.WellFormed.Changes.{body, whole, log_changed, in_mode_lem}
use Rattle.replication.proofs.WellFormed.Effects.{install_body}
use Rattle.replication.proofs.WellFormed.Places.{took_rises, took_low}
use Rattle.replication.proofs.WellFormed.Stages.{met_formed}
use Rattle.image.specs.Header.{mode_number}
use Rattle.image.specs.Image.{image}
use Rattle.image.specs.Holding.{Holds, HoldsSuch, blanked}
use Rattle.image.specs.Outcome.{Result, result_of}
use Rattle.image.proofs.InPlace.{such_fact}
use Rattle.image.proofs.Chained.{Covers, chained, then_holds}
use Rattle.image.proofs.Raising.{outcome_blanked, yellow_at_lem}
use Rattle.queue.specs.Queue.{Placed}
use Rattle.queue.proofs.ShiftLaws.{raised_holds}
use Rattle.step.specs.Answers.{Installs}
use Rattle.step.specs.Events.{installed_late}
use Rattle.step.specs.Stages.{Sifts, core_images}
use Rattle.step.proofs.BlankLaws.{grown_holds}
use Rattle.step.proofs.ColoursLaws.{joined_formed}
use Rattle.step.proofs.Installed.{primary_fits, mode_formed, mode_holds}
use Rattle.step.proofs.SieveLaws.{sifted_placed}

-- ---- the votes' part, in Trans_prim

abbrev pub ended : Server → Server
ended s = in_mode Trans_prim (with_votes (install_votes s.votes) s)

ended_formed : (s : Server) → well_formed s ≡ true → Installs 2 s → well_formed (ended s) ≡ true
unfolding install mode_number
ended_formed s ok i =
    let b = body s (well_formed_facts s ok) in
    facts_well_formed (ended s)
    (whole (ended s) (in_mode_lem (with_votes (install_votes s.votes) s) (log_changed (install s) (install_body s b i.index) s.log b.log) Trans_prim)
    (primary_fits Trans_prim 2 i.from i.to refl (ended s) i.configured))

module _ (b c : List ℕ) (p : HoldsSuch (Installs 2) b) (f : (s : Server) (m : Mode) → Holds s b → 2 ≡ mode_number m → c ≡ image (in_mode m s) b) where
  pub votes_ended : (d : List ℕ) → ((t : Server) → Holds t c → d ≡ image (with_votes (install_votes t.votes) t) c)
      → (s : Server) → Holds s b → d ≡ image (in_mode Trans_prim (with_votes (install_votes s.votes) s)) b
  unfolding mode_number
  votes_ended d g s r =
      let i : Installs 2 s = such_fact (Installs 2) b s p r in
      chained s (in_mode Trans_prim s) (ended s) b r (mode_formed 2 s Trans_prim r.formed i refl) (ended_formed s r.formed i) covers c d (f s Trans_prim r refl)
      (g (in_mode Trans_prim s) (mode_holds 2 b c p f s Trans_prim r refl))
    where
      covers : Covers s (in_mode Trans_prim s) (ended s)
      covers = record {
        servers = (refl, refl);
        quota = (refl, refl);
        states = inr refl;
        ids = inr (begins_refl _);
        own = inr (begins_refl _);
        actions = inr (begins_refl _);
      }

-- ---- yellow after it

yellow_formed : (a : Action) (s : Server) → well_formed s ≡ true → Placed s a → well_formed (yellow a s) ≡ true
yellow_formed a s ok d = yellow_as (λ u. well_formed u ≡ true) a s (λ e. joined_formed s a ok d e) (λ e. ok)

yellow_in_mode : (m : Mode) (a : Action) (s : Server) → yellow a (in_mode m s) ≡ in_mode m (yellow a s)
unfolding yellow pick
yellow_in_mode m a s = go (is_next s.log a)
  where
    go : (t : Bool)
        → pick t (with_votes (join_yellow (s.servers * s.quota) a.id s.votes) (with_log (enter a s.log) (in_mode m s))) (in_mode m s)
        ≡ in_mode m (pick t (with_votes (join_yellow (s.servers * s.quota) a.id s.votes) (with_log (enter a s.log) s)) s)
    go true = refl
    go false = refl

yellow_covers : (a : Action) (s : Server) → Covers s (ended s) (yellow a (ended s))
unfolding install_votes no_yellow
yellow_covers a s = yellow_as (Covers s (ended s)) a (ended s) (λ e. after _ refl refl refl) (λ e. after (ended s) refl refl refl)
  where
    after : (u : Server) → u.servers ≡ s.servers → u.quota ≡ s.quota → (ended s).membership.states ≡ u.membership.states → Covers s (ended s) u
    after u e f g = record {
      servers = (refl, e);
      quota = (refl, f);
      states = inl g;
      ids = inl (omega arith);
      own = inr (begins_refl _);
      actions = inr (begins_refl _);
    }

-- A state whose white actions are blank, after yellow.
yellow_blanked : (a : Action) (u : Server) (c : List ℕ) → u.white ≤ length u.log.green → image (yellow a (blanked u)) c ≡ image (yellow a u) c
unfolding apply quiet in_bytes result_of
yellow_blanked a u c low = ap (λ (x : Result). x.state) (outcome_blanked (yellowing a) u low c [])

module _ (h : ActionHead) (p b : List ℕ) (P : HoldsSuch (λ s. Delivered s (action_of h p) × (s.membership.mode ≡ Un)) b) (c₁ : List ℕ)
    (f₁ : (s : Server) → Holds s b → c₁ ≡ image (with_log (install_log s.votes.yellow.ids s.log) s) b) where
  abbrev a : Action
  a = action_of h p

  such : (s : Server) → Holds s b → Delivered s a × (s.membership.mode ≡ Un)
  such s r = such_fact (λ x. Delivered x a × (x.membership.mode ≡ Un)) b s P r

  -- The state that the action meets.
  abbrev met : Server → Server
  met s = with_log (install_log s.votes.yellow.ids s.log) s

  met_holds : (s : Server) → Holds s b → Holds (met s) c₁
  unfolding met_log
  met_holds s r =
      grown_holds s (install_log s.votes.yellow.ids s.log) b c₁ r (f₁ s r) (met_formed s r.formed (late_installing a))
      (install_grows s.votes.yellow.ids s.log).greens

  met_delivered : (s : Server) → Holds s b → Delivered (met s) a
  met_delivered s r =
      let d : Delivered s a = (such s r).0 in
      record { fits = d.fits; own = λ e. omega (arith, d.own e, (numbers_install s.votes.yellow.ids s.log).numbered) }

  pub late_pass : HoldsSuch (λ s. h.creator < s.servers) c₁
  unfolding action_of id_of
  late_pass = record { state = met P.state; holds = met_holds P.state P.holds; fact = P.fact.0.fits.creator }

  module _ (x : ActionHead) (c₂ : List ℕ) (f₂ : Sifts reddening h x c₁ c₂) where
    abbrev w : Server → ℕ
    w s = took_white (late_installing a) s

    abbrev y : Server → Action
    y s = sifted (full (late_installing a) s) a

    took : (s : Server) → Holds s b → c₂ ≡ image (with_white (w s) (met s)) c₁
    unfolding took_white entrant met_log is_recovering pick
    took s r = (f₂ p).0 (met s) (met_holds s r)

    let_through : (s : Server) → Holds s b → action_of x p ≡ y s
    unfolding full took_white entrant met_log is_recovering pick
    let_through s r = (f₂ p).1 (met s) (met_holds s r)

    took_high : (s : Server) → Holds s b → w s ≤ length (met s).log.green
    unfolding met_log
    took_high s r = took_low (late_installing a) s (well_formed_facts s r.formed).white

    -- What the buffer holds then.
    abbrev here : Server → Server
    here s = blanked (with_white (w s) (met s))

    here_holds : (s : Server) → Holds s b → Holds (here s) c₂
    here_holds s r = raised_holds (met s) c₁ c₂ (w s) (met_holds s r) (took_rises (late_installing a) s) (took_high s r) (took s r)

    installs : (s : Server) → Holds s b → Installs 2 (here s)
    unfolding blanked
    installs s r =
        let f : Configured s × (s.votes.last.index < most_index_limit) = subst (λ o. ModeFits o s) (such s r).1 (well_formed_facts s r.formed).mode in
        record { from = omega arith; to = omega arith; configured = f.0; index = f.1 }

    pub late_installs : HoldsSuch (Installs 2) c₂
    late_installs = record { state = here P.state; holds = here_holds P.state P.holds; fact = installs P.state P.holds }

    here_placed : (s : Server) → Holds s b → Placed (here s) (y s)
    unfolding full took_white entrant met_log is_recovering pick
    here_placed s r = sifted_placed (met s) a (met_delivered s r)

    module _ (c₃ : List ℕ) (f₃ : (s : Server) → Holds s c₂ → c₃ ≡ image (in_mode Trans_prim (with_votes (install_votes s.votes) s)) c₂) where
      ended_holds : (s : Server) → Holds s b → Holds (ended (here s)) c₃
      ended_holds s r =
          let k = here_holds s r in
          then_holds (here s) (ended (here s)) c₂ c₃ k (f₃ (here s) k) refl refl (ended_formed (here s) k.formed (installs s r)) k.blank

      ended_placed : (s : Server) → Holds s b → Placed (ended (here s)) (action_of x p)
      ended_placed s r =
          let d = here_placed s r in
          subst (Placed (ended (here s))) (sym (let_through s r))
          (record { delivered = record { fits = d.delivered.fits; own = d.delivered.own }; room = d.room })

      pub late_placed : HoldsSuch (λ s. Placed s (action_of x p)) c₃
      late_placed = record { state = ended (here P.state); holds = ended_holds P.state P.holds; fact = ended_placed P.state P.holds }

      -- The same state, of which Install is known.
      as_installed : (s : Server) → ended (here s) ≡ blanked (with_white (w s) (in_mode Trans_prim (install s)))
      unfolding blanked install
      as_installed s = refl

      made : (s : Server) → Holds s b → image (yellow (action_of x p) (ended (here s))) c₂ ≡ image (with_white (w s) (installed_late (y s) s)) c₂
      unfolding install
      made s r =
          ap (λ (v : Action). image (yellow v (ended (here s))) c₂) (let_through s r)
          ∙ ap (λ (u : Server). image (yellow (y s) u) c₂) (as_installed s)
          ∙ yellow_blanked (y s) (with_white (w s) (in_mode Trans_prim (install s))) c₂ (took_high s r)
          ∙ ap (λ (u : Server). image u c₂)
          (yellow_at_lem (w s) (y s) (in_mode Trans_prim (install s)) ∙ ap (with_white (w s)) (yellow_in_mode Trans_prim (y s) (install s)))

      pub late_yellow : (d : List ℕ) → ((t : Server) → Holds t c₃ → d ≡ image (yellow (action_of x p) t) c₃) → (s : Server) → Holds s b
          → d ≡ core_images (late_installing (action_of h p)) s (installed_late (sifted (full (late_installing (action_of h p)) s) (action_of h p)) s) b
      unfolding core_images met_log
      late_yellow d g s r =
          let k = here_holds s r in
          let e = ended_holds s r in
          chained (here s) (ended (here s)) (yellow (action_of x p) (ended (here s))) c₂ k e.formed
          (yellow_formed (action_of x p) (ended (here s)) e.formed (ended_placed s r)) (yellow_covers (action_of x p) (here s)) c₃ d (f₃ (here s) k)
          (g (ended (here s)) e)
          ∙ made s r
          ∙ ap (image (with_white (w s) (installed_late (y s) s))) (took s r ∙ ap (image (with_white (w s) (met s))) (f₁ s r))
