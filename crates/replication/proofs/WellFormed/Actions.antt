-- The rules of actions keep the invariant.
use Rattle.replication.proofs.WellFormed.Logs.{HasPlace}
use Prim.Native.Nat.{ℕ, ◌*◌, ◌≤◌, ◌<◌}
use mathlib.Core.Path.{◌≡◌, refl, sym, ap, subst, ◌∙◌}
use mathlib.Core.List.Memᴰ
use mathlib.Core.List.{[], ◌∷◌, map-append, Memᴰ}
use mathlib.Core.Logic.{⊎_elim}
use mathlib.Core.Option.{some}
use native.Mathlib.Omega.{arith}
use lib.ListN.{length}
use Rattle.format.specs.Limits.{most_index_limit}
use Rattle.format.specs.Types.{Action}
use Rattle.replication.specs.Machine.Types.{Reg_prim, Trans_prim, Un, Configuration, Server, with_log, in_mode, no_yellow}
use Rattle.replication.specs.Machine.Colours.{enter, red, green, join_yellow, yellow, note}
use Rattle.replication.specs.Machine.Install.{install_votes, install, install_log}
use Rattle.replication.specs.Machine.Step.{quiet, stored, green_and_note}
use Rattle.replication.specs.Machine.WellFormed.{ids_in}
use Rattle.replication.specs.Machine.WellFormedFacts.{Configured, ModeFits}
use Rattle.replication.specs.Laws.Folds.{entered, Yellowed}
use Rattle.replication.proofs.WellFormed.Clauses.{YellowRed, YellowEntered, WellFormed}
use Rattle.replication.proofs.Step.Logs.{yellow_as}
use Rattle.replication.proofs.Step.Numbered.{numbers_install}
use Rattle.replication.proofs.Step.Apart.{mode_number, other_mode}
use Rattle.replication.proofs.Step.Control.{yellow_membership}
use Rattle.replication.proofs.Step.Folds.{yellow_one}
use Rattle.replication.proofs.Step.Yellows.{yellow_gained}
use Rattle.replication.proofs.WellFormed.Changes.{Body, in_mode_lem}
use Rattle.replication.specs.Laws.RuleFits.{Delivered}
use Rattle.replication.proofs.WellFormed.Effects.{red_body, green_and_note_body, yellow_body, install_body}
use Rattle.replication.proofs.WellFormed.Kept.{Keeps, mode_kept, yellow_kept, red_stays}
use Rattle.replication.proofs.WellFormed.Places.{yellow_room, some_places, raised_body}

-- ---- the yellow list

-- It stays within the red actions.
yellow_red : (s : Server) (a : Action) → a.id.creator < length s.log.cuts → Yellowed (a ∷ []) s (yellow a s) → YellowRed s → YellowRed (yellow a s)
unfolding ids_in
yellow_red s a inside y f =
    let g = yellow_gained (a ∷ []) s (yellow a s) y f.within (inside, tt) in
    record {
      within = g.within;
      reds = λ d m.
          subst (Memᴰ d) (sym (ap ids_in y.red ∙ map-append (λ (x : Action). x.id) s.log.red (entered s.log.cuts (a ∷ []))))
          (⊎_elim (λ k. Memᴰ.append_left _ (f.reds d k)) (λ k. Memᴰ.append_right (ids_in s.log.red) k) (Memᴰ.append_cases s.votes.yellow.ids (subst (Memᴰ d) g.ids m)));
    }

module _ {w : ℕ} (s : Server) (f : WellFormed s) (b : Body w s) where
  inside : (a : Action) → Delivered s a → a.id.creator < length s.log.cuts
  inside a d = omega (arith, d.fits.creator, f.log.cuts_length)

  pub ignoring_keeps : Keeps w s (quiet s s)
  unfolding quiet
  ignoring_keeps = record { body = b; mode = f.mode; yellow = λ z. z }

  pub reddening_keeps : (a : Action) → Delivered s a → HasPlace s.quota w a s.log → Keeps w s (quiet s (with_log (red a s.log) s))
  unfolding quiet
  reddening_keeps a d h = record {
    body = red_body s b a d h;
    mode = mode_kept s.membership.mode s (red a s.log) s.votes s.noted refl f.mode;
    yellow = λ z. yellow_kept s.membership.mode s (red a s.log) s.noted (λ e. red_stays a s.log) z;
  }

  pub greening_keeps : (a : Action) → Delivered s a → HasPlace s.quota w a s.log → s.membership.mode ≡ Reg_prim → Keeps w s (quiet s (green_and_note a s))
  unfolding quiet green_and_note mode_number
  greening_keeps a d h e = record {
    body = green_and_note_body s b a d h;
    mode = mode_kept s.membership.mode s (green a s.log) s.votes (note a.id.creator a.green_length s.noted) refl f.mode;
    yellow = λ z. yellow_kept s.membership.mode s (green a s.log) (note a.id.creator a.green_length s.noted) (λ o. other_mode e o (λ x. omega (arith, x))) z;
  }

  pub yellowing_keeps : (a : Action) → Delivered s a → HasPlace s.quota w a s.log → s.membership.mode ≡ Trans_prim → Keeps w s (quiet s (yellow a s))
  unfolding quiet join_yellow
  yellowing_keeps a d h e = record {
    body = yellow_body s b a d h;
    mode =
        yellow_as (λ u. ModeFits u.membership.mode u) a s
        (λ next. mode_kept s.membership.mode s (enter a s.log) (join_yellow (s.servers * s.quota) a.id s.votes) s.noted refl f.mode) (λ old. f.mode);
    yellow = λ z.
        subst (λ m. YellowEntered m (yellow a s)) (sym (ap (λ m. m.mode) (yellow_membership a s) ∙ e))
        (let y : YellowRed s = subst (λ m. YellowEntered m s) e z in yellow_red s a (inside a d) (yellow_one a s (yellow_room s b a d.fits.creator h y.reds)) y);
  }

-- Between Install and the action more may turn white.
module _ {v w : ℕ} (s : Server) (f : WellFormed s) (b : Body v s) (rise : v ≤ w) (low : w ≤ length (install_log s.votes.yellow.ids s.log).green) where
  pub late_installing_keeps : (a : Action) → Delivered s a → HasPlace s.quota w a (install_log s.votes.yellow.ids s.log) → s.membership.mode ≡ Un
      → Keeps w s (stored s (in_mode Trans_prim (yellow a (install s))) [])
  unfolding stored install install_votes no_yellow
  late_installing_keeps a d h e = record {
    body = in_mode_lem (yellow a (install s)) (yellow_body (install s) installed a delivered h) Trans_prim;
    mode = subst (λ m. (c : Configuration) × (m.configuration ≡ some c)) (sym (yellow_membership a (install s))) attempt.0;
    yellow = λ z.
        let y = yellow_red (install s) a (omega (arith, d.fits.creator, installed.log.shows.ranges.cuts_length))
        (yellow_one a (install s) (λ next. omega (arith, some_places s.servers s.quota s.me b.sizes)))
        (record { within = tt; reds = λ x m. absurd (Memᴰ.not-nil m) }) in
        record { within = y.within; reds = y.reds };
  }
    where
      attempt : Configured s × (s.votes.last.index < most_index_limit)
      attempt = subst (λ m. ModeFits m s) e f.mode

      installed : Body w (install s)
      installed = raised_body (install s) (install_body s b attempt.1) rise low

      delivered : Delivered (install s) a
      delivered = record { fits = d.fits; own = λ p. omega (arith, d.own p, (numbers_install s.votes.yellow.ids s.log).numbered) }
