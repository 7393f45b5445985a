-- The rules of exchanges and of attempts to create a primary component keep the invariant.
use Rattle.replication.proofs.WellFormed.Logs.{HasPlace}
use Prim.Native.Nat.{ℕ, ◌<◌}
use mathlib.Core.Path.{◌≡◌, refl, subst}
use mathlib.Core.Bool.{true, false}
use native.Mathlib.Omega.{arith}
use lib.ListN.{length}
use Rattle.base.specs.Tests.{◌and◌, ◌=?◌, ◌≤?◌}
use Rattle.base.proofs.TestLaws.{and_holds, lt_holds, le_fails, eq_fails, pick_as}
use Rattle.format.specs.Limits.{most_index_limit}
use Rattle.format.specs.Types.{Action, State}
use Rattle.replication.specs.Machine.Types.{Non_prim, Reg_prim, Exchange_states, Exchange_actions, Construct, No, Un, Server, in_mode, no_yellow}
use Rattle.replication.specs.Machine.Exchange.{quorum, taken_votes, attempted}
use Rattle.replication.specs.Machine.Plan.{own_part}
use Rattle.replication.specs.Machine.Install.{install_votes, install}
use Rattle.replication.specs.Machine.Requests.{numbered, send_waiting}
use Rattle.replication.specs.Machine.Step.{quiet, stored, sent, here_set, collected, decided, attempting, end_exchange, with_state, all_states_in, planned_now, resending, after_states, collect_state, one_more, exchanged, all_come_of, exchange, with_cpc, all_cpcs_in, installing, collect_cpc, collect_late_cpc}
use Rattle.replication.specs.Machine.WellFormedFacts.{Configured, StatesIn, ModeFits}
use Rattle.replication.proofs.WellFormed.Clauses.{WellFormed}
use Rattle.replication.proofs.WellFormed.Changes.{Body, in_mode_lem, mode_changed, here_below}
use Rattle.replication.specs.Laws.RuleFits.{Delivered, StateCame}
use Rattle.replication.proofs.WellFormed.Effects.{exchanged_body, install_body, send_waiting_body}
use Rattle.replication.proofs.WellFormed.Exchanges.{decided_body, attempting_body, with_state_body, with_cpc_body}
use Rattle.replication.proofs.WellFormed.Modes.{all_in_facts}
use Rattle.replication.proofs.WellFormed.Kept.{Kept, Keeps, kept_at}

-- ---- the end of an exchange

module _ {w : ℕ} (s t : Server) (b : Body w t) (c : Configured t) where
  attempting_keeps : quorum (collected t) (here_set t) ≡ true → Kept w s (attempting (decided t))
  unfolding quorum attempting decided taken_votes attempted here_set
  attempting_keeps h =
      let x = and_holds _ _ h in
      let y = and_holds _ _ x.1 in
      let z = and_holds _ _ y.1 in
      record {
        body = attempting_body (decided t) (decided_body t b) (lt_holds _ _ z.1) (here_below t b c.0 c.1);
        mode = (c, lt_holds _ _ z.0);
        yellow = λ z. tt;
      }

  giving_up_keeps : Kept w s (send_waiting (in_mode Non_prim (decided t)))
  unfolding send_waiting numbered decided
  giving_up_keeps =
      record { body = send_waiting_body (in_mode Non_prim (decided t)) (in_mode_lem (decided t) (decided_body t b) Non_prim); mode = tt; yellow = λ z. tt }

  end_keeps : Keeps w s (end_exchange s t)
  unfolding end_exchange stored
  end_keeps =
      pick_as (Keeps w s) (quorum (collected t) (here_set t)) _ _ attempting_keeps (λ h. giving_up_keeps)

  after_states_keeps : all_states_in t ≡ true → Keeps w s (after_states s t)
  unfolding after_states sent resending here_set planned_now collected
  after_states_keeps a =
      pick_as (Keeps w s) (planned_now t =? 0) (end_exchange s t) (sent s (resending t) (own_part t.servers t.me t.white t.log (collected t))) (λ h. end_keeps) more
    where
      some_planned : (planned_now t =? 0) ≡ false → 0 < planned_now t
      some_planned h = let differ = eq_fails (planned_now t) 0 h in omega arith

      more : (planned_now t =? 0) ≡ false → Kept w s (resending t)
      more h = record { body = mode_changed t b Exchange_actions 0 (omega arith); mode = (c, all_in_facts t b.membership.states_length a, some_planned h); yellow = λ z. tt }

-- ---- the rules of exchanges and attempts

module _ {w : ℕ} (s : Server) (f : WellFormed s) (b : Body w s) where
  pub exchanging_keeps : (p : ℕ) (a : Action) → Delivered s a → ((1 ≤? p and p ≤? length s.log.green) ≡ false → HasPlace s.quota w a s.log) → s.membership.mode ≡ Exchange_actions → Keeps w s (exchange p a s)
  unfolding exchange quiet exchanged one_more all_come_of planned_now collected here_set
  exchanging_keeps p a d z e =
      pick_as (Keeps w s) (all_come_of (exchanged p a s)) (end_exchange s (exchanged p a s)) (quiet s (exchanged p a s))
      (λ h. end_keeps s (exchanged p a s) after fits.0) more
    where
      fits : Configured s × StatesIn s × (s.membership.come < planned_now s)
      fits = subst (λ m. ModeFits m s) e f.mode

      after : Body w (exchanged p a s)
      after = exchanged_body s b a d p z fits.2

      more : all_come_of (exchanged p a s) ≡ false → Kept w s (exchanged p a s)
      more h = kept_at s (exchanged p a s) Exchange_actions e after (fits.0, fits.1, le_fails _ _ h) tt

  pub collecting_state_keeps : (x : State) → StateCame s x → s.membership.mode ≡ Exchange_states → Keeps w s (collect_state x s)
  unfolding collect_state quiet with_state
  collecting_state_keeps x c e =
      pick_as (Keeps w s) (all_states_in (with_state x s)) (after_states s (with_state x s)) (quiet s (with_state x s))
      (λ h. after_states_keeps s (with_state x s) after configured h)
      (λ h. kept_at s (with_state x s) Exchange_states e after configured tt)
    where
      configured : Configured s
      configured = subst (λ m. ModeFits m s) e f.mode

      after : Body w (with_state x s)
      after = with_state_body s b x c

  pub collecting_cpc_keeps : (k : ℕ) → k < s.servers → s.membership.mode ≡ Construct → Keeps w s (collect_cpc k s)
  unfolding collect_cpc installing quiet stored with_cpc send_waiting numbered install install_votes no_yellow
  collecting_cpc_keeps k h e =
      pick_as (Keeps w s) (all_cpcs_in (with_cpc k s)) (installing s (with_cpc k s)) (quiet s (with_cpc k s))
      (λ t. record {
        body =
            send_waiting_body (in_mode Reg_prim (install (with_cpc k s))) (in_mode_lem (install (with_cpc k s)) (install_body (with_cpc k s) after fits.1) Reg_prim);
        mode = fits.0;
        yellow = λ z. refl;
      })
      (λ t. kept_at s (with_cpc k s) Construct e after fits tt)
    where
      fits : Configured s × (s.votes.last.index < most_index_limit)
      fits = subst (λ m. ModeFits m s) e f.mode

      after : Body w (with_cpc k s)
      after = with_cpc_body s b k h

  pub collecting_late_cpc_keeps : (k : ℕ) → k < s.servers → s.membership.mode ≡ No → Keeps w s (collect_late_cpc k s)
  unfolding collect_late_cpc quiet with_cpc
  collecting_late_cpc_keeps k h e =
      pick_as (Keeps w s) (all_cpcs_in (with_cpc k s)) (quiet s (in_mode Un (with_cpc k s))) (quiet s (with_cpc k s))
      (λ t. record { body = in_mode_lem (with_cpc k s) after Un; mode = fits; yellow = λ z. tt })
      (λ t. kept_at s (with_cpc k s) No e after fits tt)
    where
      fits : Configured s × (s.votes.last.index < most_index_limit)
      fits = subst (λ m. ModeFits m s) e f.mode

      after : Body w (with_cpc k s)
      after = with_cpc_body s b k h
