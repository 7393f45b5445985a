-- Each rule keeps the invariant.
use Prim.Native.Nat.{ℕ, ◌≤◌}
use mathlib.Core.Path.{◌≡◌, refl}
use mathlib.Core.Bool.{true}
use mathlib.Core.List.Memᴰ
use mathlib.Core.List.{List, []}
use native.Mathlib.Omega.{arith}
use lib.ListN.{length}
use Rattle.base.proofs.TestLaws.{pick_as}
use Rattle.replication.specs.Machine.Types.{Mode, Log, Configuration, Server, with_log, with_votes}
use Rattle.replication.specs.Machine.Colours.{cut}
use Rattle.replication.specs.Machine.Requests.{sends_now, quota_left, numbered, send_waiting, waiting_records, recovered}
use Rattle.replication.specs.Machine.Rules.{Rule, ignoring, reddening, greening, yellowing, late_installing, exchanging, collecting_state, collecting_cpc, collecting_late_cpc, joining, joining_unmarked, joining_yellow, leaving, requesting, recovering}
use Rattle.replication.specs.Machine.Step.{quiet, stored, entering, unmarked, yellow_valid, join, leave, requested, apply}
use Rattle.replication.specs.Laws.Transitions.{Leads, stays, parts, interrupts_states, interrupts_actions, interrupts_construct}
use Rattle.replication.specs.Machine.White.{met_log}
use Rattle.replication.specs.Machine.WellFormed.{ids_in}
use Rattle.replication.specs.Machine.WellFormedRanges.{PayloadFits, TransitionalFits}
use Rattle.replication.specs.Machine.WellFormedFacts.{ModeFits}
use Rattle.replication.proofs.WellFormed.Clauses.{YellowEntered, WellFormed}
use Rattle.replication.proofs.WellFormed.Changes.{Body, body}
use Rattle.replication.specs.Laws.RuleFits.{RuleFits}
use Rattle.replication.proofs.WellFormed.Effects.{number_body, send_waiting_body, recovered_body}
use Rattle.replication.proofs.WellFormed.Exchanges.{entering_body, unmarked_body, yellow_valid_body, leave_body}
use Rattle.replication.proofs.WellFormed.Kept.{Kept, Keeps, RedsStay, mode_kept, yellow_kept}
use Rattle.replication.proofs.WellFormed.Places.{RulePlace, raised_body}
use Rattle.replication.proofs.WellFormed.Actions.{ignoring_keeps, reddening_keeps, greening_keeps, yellowing_keeps, late_installing_keeps}
use Rattle.replication.proofs.WellFormed.Attempts.{exchanging_keeps, collecting_state_keeps, collecting_cpc_keeps, collecting_late_cpc_keeps}

-- ---- configurations

pub joining_keeps : {w : ℕ} (s t : Server) (c : Configuration) → Body w (entering c t) → Keeps w s (join s c t)
unfolding join stored entering
joining_keeps s t c b = record { body = b; mode = (c, refl); yellow = λ z. tt }

leads_mode : {o m : Mode} (s : Server) (t : ℕ) → Leads o m → ModeFits o s → ModeFits m (leave m t s)
unfolding leave
leads_mode s t stays f = tt
leads_mode s t interrupts_states f = tt
leads_mode s t interrupts_actions f = tt
leads_mode s t parts f = f
leads_mode s t interrupts_construct f = f

leads_yellow : {o m : Mode} (s : Server) (t : ℕ) → Leads o m → YellowEntered o s → YellowEntered m (leave m t s)
unfolding leave
leads_yellow s t stays f = tt
leads_yellow s t interrupts_states f = tt
leads_yellow s t interrupts_actions f = tt
leads_yellow s t parts f = record { within = rw f tt; reds = λ d m. absurd (Memᴰ.not-nil (rw f at m)) }
leads_yellow s t interrupts_construct f = tt

module _ {w : ℕ} (s : Server) (f : WellFormed s) (b : Body w s) where
  leaving_keeps : (m : Mode) (t : ℕ) → TransitionalFits s.servers s.me s.membership.configuration t → Leads s.membership.mode m
      → Keeps w s (quiet s (leave m t s))
  unfolding quiet leave
  leaving_keeps m t g l =
      record { body = leave_body s b m t g; mode = leads_mode s t l f.mode; yellow = leads_yellow s t l }

  -- ---- requests and recovery

  requesting_keeps : (p : List ℕ) → s.white ≡ w → PayloadFits p → quota_left s ≡ true → Keeps w s (requested p s)
  unfolding requested stored numbered send_waiting cut ids_in
  requesting_keeps p e g q =
      pick_as (Keeps w s) (sends_now s.membership) (stored s (send_waiting (numbered p s)) (waiting_records (numbered p s))) (stored s (numbered p s) [])
      (λ h. kept (send_waiting (numbered p s)).log (send_waiting_body (numbered p s) numbered_body) (record { cuts = λ c. omega arith; reds = λ d m. m }))
      (λ h. kept (numbered p s).log numbered_body (record { cuts = λ c. omega arith; reds = λ d m. m }))
    where
      numbered_body : Body w (numbered p s)
      numbered_body = number_body s b p e g q

      kept : (l : Log) → Body w (with_log l s) → RedsStay s.log l → Kept w s (with_log l s)
      kept l k r = record {
        body = k;
        mode = mode_kept s.membership.mode s l s.votes s.noted refl f.mode;
        yellow = λ z. yellow_kept s.membership.mode s l s.noted (λ o. r) z;
      }

  recovering_keeps : Keeps w s (stored s (recovered s) [])
  unfolding stored recovered
  recovering_keeps = record { body = recovered_body s b; mode = tt; yellow = λ z. tt }

-- ---- every rule

module _ (s : Server) (f : WellFormed s) (w : ℕ) (rise : s.white ≤ w) where
  at_number : w ≤ length s.log.green → Body w s
  at_number low = raised_body s (body s f) rise low

  pub apply_keeps : (k : Rule) → w ≤ length (met_log k s).green → RuleFits k s → RulePlace w k s → Keeps w s (apply k s)
  unfolding apply met_log
  apply_keeps ignoring low r h = ignoring_keeps s f (at_number low)
  apply_keeps (reddening a) low r h = reddening_keeps s f (at_number low) a r h
  apply_keeps (greening a) low r h = greening_keeps s f (at_number low) a r.0 h r.1
  apply_keeps (yellowing a) low r h = yellowing_keeps s f (at_number low) a r.0 h r.1
  apply_keeps (late_installing a) low r h = late_installing_keeps s f (body s f) rise low a r.0 h r.1
  apply_keeps (exchanging p a) low r h = exchanging_keeps s f (at_number low) p a r.0 h r.1
  apply_keeps (collecting_state x) low r h = collecting_state_keeps s f (at_number low) x r.0 r.1
  apply_keeps (collecting_cpc k) low r h = collecting_cpc_keeps s f (at_number low) k r.0 r.1
  apply_keeps (collecting_late_cpc k) low r h = collecting_late_cpc_keeps s f (at_number low) k r.0 r.1
  apply_keeps (joining c) low r h = joining_keeps s s c (entering_body s (at_number low) c r)
  apply_keeps (joining_unmarked c) low r h =
      joining_keeps s (with_votes (unmarked s.votes) s) c (entering_body (with_votes (unmarked s.votes) s) (unmarked_body s (at_number low)) c r)
  apply_keeps (joining_yellow c) low r h =
      joining_keeps s (with_votes (yellow_valid (unmarked s.votes)) s) c
      (entering_body (with_votes (yellow_valid (unmarked s.votes)) s) (yellow_valid_body s (at_number low)) c r)
  apply_keeps (leaving m t) low r h = leaving_keeps s f (at_number low) m t r.0 r.1
  apply_keeps (requesting p) low r h = requesting_keeps s f (at_number low) p h r.0 r.1
  apply_keeps recovering low r h = recovering_keeps s f (at_number low)
