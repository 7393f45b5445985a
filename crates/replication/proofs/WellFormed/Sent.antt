-- Each rule puts out records that are in range and name the server as sender, not too many and not too long.
use Prim.Native.Nat.{ℕ, ◌≤◌, ◌<◌}
use mathlib.Core.Path.{◌≡◌, refl, subst}
use mathlib.Core.Bool.{true, false}
use mathlib.Core.List.{List, []}
use lib.ListN.{length}
use Rattle.base.specs.Tests.{◌and◌, ◌=?◌, ◌≤?◌}
use Rattle.base.proofs.TestLaws.{pick_as}
use Rattle.format.specs.Types.{Action, State, Record}
use Rattle.replication.specs.Machine.Types.{Exchange_states, Exchange_actions, Construct, Un, Server, Outcome, with_votes, in_mode}
use Rattle.replication.specs.Machine.Exchange.{quorum}
use Rattle.replication.specs.Machine.Plan.{own_part}
use Rattle.replication.specs.Machine.Install.{install}
use Rattle.replication.specs.Machine.Requests.{sends_now, quota_left, numbered, send_waiting, waiting_records}
use Rattle.replication.specs.Machine.Rules.{Rule, ignoring, reddening, greening, yellowing, late_installing, exchanging, collecting_state, collecting_cpc, collecting_late_cpc, joining, joining_unmarked, joining_yellow, leaving, requesting, recovering}
use Rattle.replication.specs.Machine.Step.{quiet, stored, sent, unmarked, yellow_valid, join, here_set, here_id, collected, decided, end_exchange, with_state, all_states_in, planned_now, resending, after_states, collect_state, one_more, exchanged, all_come_of, exchange, with_cpc, all_cpcs_in, installing, collect_cpc, collect_late_cpc, requested, apply}
use Rattle.replication.specs.Machine.WellFormedRanges.{PayloadFits}
use Rattle.replication.specs.Machine.WellFormedFacts.{Configured, StatesIn, ModeFits}
use Rattle.replication.proofs.WellFormed.Clauses.{WellFormed}
use Rattle.replication.proofs.WellFormed.SentFacts.{PutOut}
use Rattle.replication.proofs.WellFormed.Changes.{Body, body, collected_fit_lem, here_id_below}
use Rattle.replication.specs.Laws.RuleFits.{Delivered, StateCame, RuleFits}
use Rattle.replication.proofs.WellFormed.Effects.{exchanged_body, install_body, number_body}
use Rattle.replication.proofs.WellFormed.Exchanges.{with_state_body, with_cpc_body, unmarked_body, yellow_valid_body}
use Rattle.replication.proofs.WellFormed.Kept.{After}
use Rattle.replication.proofs.WellFormed.Logs.{HasPlace}
use Rattle.replication.proofs.WellFormed.Places.{RulePlace, raised_body}
use Rattle.replication.specs.Machine.White.{met_log}
use Rattle.replication.proofs.WellFormed.Records.{none_out, cpc_out, state_out, waiting_out, resent_out}

abbrev pub PutsOut : Server → Outcome Record → Type 0
PutsOut s o = After (λ t r. PutOut s.servers s.quota s.me r) o

abbrev PutBy : Server → List Record → Type 0
PutBy s r = PutOut s.servers s.quota s.me r

-- ---- the end of an exchange, at t

module _ {w : ℕ} (s t : Server) (b : Body w t) (c : Configured t) where
  end_out : PutsOut t (end_exchange s t)
  unfolding end_exchange stored decided send_waiting
  end_out =
      pick_as (PutsOut t) (quorum (collected t) (here_set t)) _ _ (λ h. cpc_out t b (here_id t) (here_id_below t b c.0 c.1))
      (λ h. waiting_out t b _ refl)

  states_out : t.white ≡ w → PutsOut t (after_states s t)
  unfolding after_states sent
  states_out e =
      pick_as (PutsOut t) (planned_now t =? 0) (end_exchange s t) (sent s (resending t) (own_part t.servers t.me t.white t.log (collected t))) (λ h. end_out)
      (λ h. resent_out t b e (collected t) (collected_fit_lem t b))

-- ---- the rules

module _ (s : Server) (f : WellFormed s) where
  nothing_out : PutBy s []
  nothing_out = none_out s.servers s.quota s.me

  exchanging_out : {w : ℕ} → Body w s → (p : ℕ) (a : Action) → Delivered s a → ((1 ≤? p and p ≤? length s.log.green) ≡ false → HasPlace s.quota w a s.log) → s.membership.mode ≡ Exchange_actions → PutsOut s (exchange p a s)
  unfolding exchange quiet exchanged one_more
  exchanging_out b p a d z e =
      pick_as (PutsOut s) (all_come_of (exchanged p a s)) (end_exchange s (exchanged p a s)) (quiet s (exchanged p a s))
      (λ h. end_out s (exchanged p a s) (exchanged_body s b a d p z fits.2) fits.0) (λ h. nothing_out)
    where
      fits : Configured s × StatesIn s × (s.membership.come < planned_now s)
      fits = subst (λ m. ModeFits m s) e f.mode

  collecting_state_out : (x : State) → StateCame s x → s.membership.mode ≡ Exchange_states → PutsOut s (collect_state x s)
  unfolding collect_state quiet with_state
  collecting_state_out x c e =
      pick_as (PutsOut s) (all_states_in (with_state x s)) (after_states s (with_state x s)) (quiet s (with_state x s))
      (λ h. states_out s (with_state x s) (with_state_body s (body s f) x c) (subst (λ m. ModeFits m s) e f.mode) refl) (λ h. nothing_out)

  collecting_cpc_out : (k : ℕ) → k < s.servers → s.membership.mode ≡ Construct → PutsOut s (collect_cpc k s)
  unfolding collect_cpc installing quiet stored with_cpc install
  collecting_cpc_out k h e =
      pick_as (PutsOut s) (all_cpcs_in (with_cpc k s)) (installing s (with_cpc k s)) (quiet s (with_cpc k s))
      (λ t.
      waiting_out (install (with_cpc k s))
      (install_body (with_cpc k s) (with_cpc_body s (body s f) k h) (subst (λ m. ModeFits m s) e f.mode).1) _ refl)
      (λ t. nothing_out)

  collecting_late_cpc_out : (k : ℕ) → PutsOut s (collect_late_cpc k s)
  unfolding collect_late_cpc quiet
  collecting_late_cpc_out k =
      pick_as (PutsOut s) (all_cpcs_in (with_cpc k s)) (quiet s (in_mode Un (with_cpc k s))) (quiet s (with_cpc k s)) (λ t. nothing_out) (λ t. nothing_out)

  requesting_out : (p : List ℕ) → PayloadFits p → quota_left s ≡ true → PutsOut s (requested p s)
  unfolding requested stored numbered
  requesting_out p g q =
      pick_as (PutsOut s) (sends_now s.membership) (stored s (send_waiting (numbered p s)) (waiting_records (numbered p s))) (stored s (numbered p s) [])
      (λ h. waiting_out (numbered p s) (number_body s (body s f) p refl g q) _ refl) (λ h. nothing_out)

  pub apply_out : (w : ℕ) → s.white ≤ w → (k : Rule) → w ≤ length (met_log k s).green → RuleFits k s → RulePlace w k s → PutsOut s (apply k s)
  unfolding apply quiet stored join met_log
  apply_out w rise ignoring low r h = nothing_out
  apply_out w rise (reddening a) low r h = nothing_out
  apply_out w rise (greening a) low r h = nothing_out
  apply_out w rise (yellowing a) low r h = nothing_out
  apply_out w rise (late_installing a) low r h = nothing_out
  apply_out w rise (exchanging p a) low r h = exchanging_out (raised_body s (body s f) rise low) p a r.0 h r.1
  apply_out w rise (collecting_state x) low r h = collecting_state_out x r.0 r.1
  apply_out w rise (collecting_cpc k) low r h = collecting_cpc_out k r.0 r.1
  apply_out w rise (collecting_late_cpc k) low r h = collecting_late_cpc_out k
  apply_out w rise (joining c) low r h = state_out s (body s f) c r
  apply_out w rise (joining_unmarked c) low r h = state_out (with_votes (unmarked s.votes) s) (unmarked_body s (body s f)) c r
  apply_out w rise (joining_yellow c) low r h = state_out (with_votes (yellow_valid (unmarked s.votes)) s) (yellow_valid_body s (body s f)) c r
  apply_out w rise (leaving m t) low r h = nothing_out
  apply_out w rise (requesting p) low r h = requesting_out p r.0 r.1
  apply_out w rise recovering low r h = nothing_out
