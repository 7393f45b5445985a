-- The states that an exchange passes through are well formed.
use Prim.Native.Nat.{ℕ, ◌+◌, ◌<◌}
use mathlib.Core.Path.{◌≡◌, sym, subst}
use mathlib.Core.Bool.{true, false}
use native.Mathlib.Omega.{arith}
use Rattle.base.specs.Tests.{◌=?◌}
use Rattle.base.proofs.TestLaws.{and_holds, lt_holds, le_fails, eq_fails}
use Rattle.format.specs.Types.{Action, State}
use Rattle.replication.specs.Machine.Types.{Mode, Non_prim, Exchange_states, Exchange_actions, Server, with_log, in_mode}
use Rattle.replication.specs.Machine.Exchange.{quorum, taken_votes, attempted}
use Rattle.replication.specs.Machine.Requests.{numbered, send_waiting}
use Rattle.replication.specs.Machine.Step.{here_set, collected, decided, attempting, with_state, all_states_in, planned_now, resending, placed, one_more, exchanged, all_come_of}
use Rattle.replication.specs.Machine.WellFormed.{well_formed}
use Rattle.replication.specs.Machine.WellFormedFacts.{Configured, StatesIn, ModeFits}
use Rattle.replication.proofs.WellFormed.Facts.{well_formed_facts, facts_well_formed}
use Rattle.replication.proofs.WellFormed.Numbering.{placed_fits}
use Rattle.replication.proofs.WellFormed.Decisions.{planned_bound}
use Rattle.replication.proofs.WellFormed.Changes.{Body, body, whole, mode_changed, in_mode_lem, collected_fit_lem, here_below}
use Rattle.replication.specs.Laws.RuleFits.{StateCame}
use Rattle.replication.proofs.WellFormed.Effects.{exchanged_body, send_waiting_body}
use Rattle.replication.proofs.WellFormed.Exchanges.{decided_body, attempting_body, with_state_body}
use Rattle.replication.proofs.WellFormed.Modes.{all_in_facts}
use Rattle.queue.proofs.Holding.{log_formed, log_fits}
use Rattle.queue.proofs.Entered.{has_place}
use Rattle.step.specs.Events.{PlacedAt}

-- A state known to be m.
formed_at : (t : Server) (m : Mode) → t.membership.mode ≡ m → Body t.white t → ModeFits m t → well_formed t ≡ true
formed_at t m e b f = facts_well_formed t (whole t b (subst (λ n. ModeFits n t) (sym e) f))

module _ (s : Server) (ok : well_formed s ≡ true) where
  in_body : Body s.white s
  in_body = body s (well_formed_facts s ok)

  fits_at : (m : Mode) → s.membership.mode ≡ m → ModeFits m s
  fits_at m e = subst (λ n. ModeFits n s) e (well_formed_facts s ok).mode

  -- ---- retransmissions

  pub placed_formed : (k : ℕ) (a : Action) → PlacedAt k a s → well_formed (with_log (placed k a s.log) s) ≡ true
  placed_formed k a d =
      log_formed s (placed k a s.log) ok
      (placed_fits s.servers s.quota s.me s.white k a s.log (log_fits s ok) d.delivered.fits d.delivered.own (λ h. has_place s a (d.room h)))

  pub non_prim_formed : well_formed (in_mode Non_prim s) ≡ true
  non_prim_formed = facts_well_formed (in_mode Non_prim s) (whole (in_mode Non_prim s) (in_mode_lem s in_body Non_prim) tt)

  module _ (e : s.membership.mode ≡ Exchange_actions) where
    pub awaiting : Configured s × StatesIn s × (s.membership.come < planned_now s)
    awaiting = fits_at Exchange_actions e

    placed_body : (k : ℕ) (a : Action) → PlacedAt k a s → Body s.white (exchanged k a s)
    placed_body k a d = exchanged_body s in_body a d.delivered k (λ h. has_place s a (d.room h)) awaiting.2

    pub more_formed : (k : ℕ) (a : Action) → PlacedAt k a s → all_come_of (one_more s) ≡ false → well_formed (exchanged k a s) ≡ true
    unfolding exchanged one_more all_come_of planned_now collected here_set
    more_formed k a d h =
        formed_at (exchanged k a s) Exchange_actions e (placed_body k a d) (awaiting.0, awaiting.1, le_fails _ _ h)

    pub closed_formed : well_formed (one_more (in_mode Non_prim s)) ≡ true
    unfolding one_more planned_now
    closed_formed =
        facts_well_formed (one_more (in_mode Non_prim s))
        (whole (one_more (in_mode Non_prim s))
        (mode_changed s in_body Non_prim (s.membership.come + 1)
        (omega (arith, awaiting.2, planned_bound s.servers s.quota (collected s) (collected_fit_lem s in_body))))
        tt)

    pub last_formed : (k : ℕ) (a : Action) → PlacedAt k a s → well_formed (in_mode Non_prim (exchanged k a s)) ≡ true
    unfolding exchanged one_more
    last_formed k a d =
        facts_well_formed (in_mode Non_prim (exchanged k a s))
        (whole (in_mode Non_prim (exchanged k a s)) (in_mode_lem (exchanged k a s) (placed_body k a d) Non_prim) tt)

  -- ---- the end

  pub decided_formed : s.membership.mode ≡ Non_prim → well_formed (decided s) ≡ true
  unfolding decided
  decided_formed e = formed_at (decided s) Non_prim e (decided_body s in_body) tt

  pub attempting_formed : Configured s → quorum (collected s) (here_set s) ≡ true → well_formed (attempting (decided s)) ≡ true
  unfolding quorum attempting decided taken_votes attempted here_set
  attempting_formed c h =
      let x = and_holds _ _ h in
      let y = and_holds _ _ x.1 in
      let z = and_holds _ _ y.1 in
      facts_well_formed (attempting (decided s))
      (whole (attempting (decided s)) (attempting_body (decided s) (decided_body s in_body) (lt_holds _ _ z.1) (here_below s in_body c.0 c.1))
      (c, lt_holds _ _ z.0))

  pub staying_formed : well_formed (send_waiting (in_mode Non_prim (decided s))) ≡ true
  unfolding send_waiting numbered decided
  staying_formed =
      facts_well_formed (send_waiting (in_mode Non_prim (decided s)))
      (whole (send_waiting (in_mode Non_prim (decided s))) (send_waiting_body (in_mode Non_prim (decided s)) (in_mode_lem (decided s) (decided_body s in_body) Non_prim)) tt)

  -- ---- States

  module _ (e : s.membership.mode ≡ Exchange_states) where
    pub exchange_configured : Configured s
    exchange_configured = fits_at Exchange_states e

    pub came_formed : (x : State) → StateCame s x → well_formed (with_state x s) ≡ true
    unfolding with_state
    came_formed x c = formed_at (with_state x s) Exchange_states e (with_state_body s in_body x c) exchange_configured

    pub resending_formed : all_states_in s ≡ true → (planned_now s =? 0) ≡ false → well_formed (resending s) ≡ true
    unfolding resending here_set planned_now collected
    resending_formed a h =
        let differ = eq_fails (planned_now s) 0 h in
        facts_well_formed (resending s)
        (whole (resending s) (mode_changed s in_body Exchange_actions 0 (omega arith))
        (exchange_configured, all_in_facts s in_body.membership.states_length a, omega arith))
