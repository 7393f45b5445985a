-- What exchanges and configurations do to a state keeps row 8's clauses, apart from those on the eight states.
use Prim.Native.Nat.{ℕ, ◌^◌, ◌<◌}
use mathlib.Core.Path.{◌≡◌, sym, ◌∙◌, subst}
use mathlib.Core.Option.{none, some, some-injective, none-ne-some}
use native.Mathlib.Omega.{arith}
use native.Mathlib.Decide.{ℕ_discrete}
use lib.ListN.{get_or, set, length-set, length-replicate}
use lib.Seq.{get_or-set_same, get_or-set_other}
use Rattle.base.specs.Sets.{with_member}
use Rattle.base.proofs.SetLaws.{with_member_below}
use Rattle.format.specs.Limits.{most_index_limit}
use Rattle.format.specs.Types.{State}
use Rattle.replication.specs.Machine.Types.{Mode, Construct, Configuration, Server, with_votes, no_states, with_mode, with_transitional, with_states, with_cpcs}
use Rattle.replication.specs.Machine.Exchange.{note_all, taken_votes, attempted}
use Rattle.replication.specs.Machine.Step.{entering, unmarked, yellow_valid, here_set, collected, decided, attempting, with_state, with_cpc, leave}
use Rattle.replication.specs.Machine.WellFormedRanges.{ConfigurationFits, TransitionalFits}
use Rattle.replication.proofs.WellFormed.Clauses.{CollectedFits}
use Rattle.replication.proofs.WellFormed.Decisions.{empty_below, cleared_mark_fits, taken_votes_fits, attempted_fits, note_all_length, note_all_bound}
use Rattle.replication.proofs.WellFormed.Changes.{Body, votes_changed, membership_changed, noted_changed, in_mode_lem, collected_fit_lem, no_states_lem}
use Rattle.replication.specs.Laws.RuleFits.{StateCame}

module _ {w : ℕ} (s : Server) (b : Body w s) where
  -- ---- exchanges

  pub decided_body : Body w (decided s)
  unfolding decided
  decided_body =
      noted_changed (with_votes (taken_votes s.me (collected s)) s)
      (votes_changed s b (taken_votes s.me (collected s)) (taken_votes_fits s.servers s.quota s.me (collected s) (collected_fit_lem s b)))
      (note_all (collected s) s.noted) (note_all_length (collected s) s.noted)
      (note_all_bound s.servers s.quota (collected s) s.noted (collected_fit_lem s b) b.noted)

  pub attempting_body : s.votes.attempt < most_index_limit → here_set s < 2 ^ s.servers → Body w (attempting s)
  unfolding attempting
  attempting_body h l =
      in_mode_lem (with_votes (attempted (here_set s) s.votes) s)
      (votes_changed s b (attempted (here_set s) s.votes) (attempted_fits s.servers s.quota (here_set s) s.votes b.votes h l)) Construct

  pub with_state_body : (x : State) → StateCame s x → Body w (with_state x s)
  unfolding with_state
  with_state_body x c =
      membership_changed s b
      (with_states (set s.membership.states x.sender (some x)) s.membership)
      (record {
        configuration = b.membership.configuration;
        transitional = b.membership.transitional;
        states_length = length-set s.membership.states x.sender (some x) ∙ b.membership.states_length;
        states = states;
        cpcs = b.membership.cpcs;
        come = b.membership.come;
      })
    where
      states : (k : ℕ) (y : State) → get_or (set s.membership.states x.sender (some x)) k none ≡ some y
          → CollectedFits s.servers s.quota s.membership.configuration k y
      states k y e = go (ℕ_discrete k x.sender)
        where
          go : Dec (k ≡ x.sender) → CollectedFits s.servers s.quota s.membership.configuration k y
          go (yes p) =
              let there : get_or (set s.membership.states x.sender (some x)) x.sender none ≡ some x =
              get_or-set_same s.membership.states x.sender (some x) none (omega (arith, c.fits.sender, b.membership.states_length)) in
              let same : x ≡ y = some-injective x y (sym there ∙ (rw p at e)) in
              subst (CollectedFits s.servers s.quota s.membership.configuration k) same
              (record { fits = c.fits; sender = sym p; member = rw p c.member; configuration = c.configuration })
          go (no p) = b.membership.states k y (sym (get_or-set_other s.membership.states x.sender k (some x) none p) ∙ e)

  pub with_cpc_body : (k : ℕ) → k < s.servers → Body w (with_cpc k s)
  unfolding with_cpc
  with_cpc_body k h =
      membership_changed s b
      (with_cpcs (with_member k s.membership.cpcs) s.membership)
      (record {
        configuration = b.membership.configuration;
        transitional = b.membership.transitional;
        states_length = b.membership.states_length;
        states = b.membership.states;
        cpcs = with_member_below s.servers k s.membership.cpcs h b.membership.cpcs;
        come = b.membership.come;
      })

  -- ---- configurations

  pub entering_body : (c : Configuration) → ConfigurationFits s.servers s.me c → Body w (entering c s)
  unfolding entering no_states
  entering_body c f =
      membership_changed s b
      (entering c s).membership
      (record {
        configuration = λ d e. subst (ConfigurationFits s.servers s.me) (some-injective c d e) f;
        transitional = λ t e. absurd (none-ne-some t e);
        states_length = length-replicate s.servers none;
        states = λ k x e. no_states_lem s.servers k x e;
        cpcs = empty_below s.servers;
        come = b.membership.come;
      })

  pub unmarked_body : Body w (with_votes (unmarked s.votes) s)
  unfolding unmarked
  unmarked_body =
      votes_changed s b (unmarked s.votes)
      (record { last = b.votes.last; attempt = b.votes.attempt; mark = cleared_mark_fits s.servers; yellow = b.votes.yellow })

  pub yellow_valid_body : Body w (with_votes (yellow_valid (unmarked s.votes)) s)
  unfolding yellow_valid unmarked
  yellow_valid_body =
      votes_changed s b (yellow_valid (unmarked s.votes))
      (record {
        last = b.votes.last;
        attempt = b.votes.attempt;
        mark = cleared_mark_fits s.servers;
        yellow = record { status = omega arith; few = b.votes.yellow.few; ids = b.votes.yellow.ids; once = b.votes.yellow.once };
      })

  pub leave_body : (m : Mode) (t : ℕ) → TransitionalFits s.servers s.me s.membership.configuration t → Body w (leave m t s)
  unfolding leave
  leave_body m t f =
      membership_changed s b
      (with_mode m (with_transitional t s.membership))
      (record {
        configuration = b.membership.configuration;
        transitional = λ u e. subst (TransitionalFits s.servers s.me s.membership.configuration) (some-injective t u e) f;
        states_length = b.membership.states_length;
        states = b.membership.states;
        cpcs = b.membership.cpcs;
        come = b.membership.come;
      })
