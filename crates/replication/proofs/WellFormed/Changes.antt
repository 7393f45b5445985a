-- A change of one part of a state keeps row 8's clauses, apart from those on the eight states.
use Rattle.replication.specs.Machine.Colours.{cut}
use Rattle.format.specs.Limits.{most_length_limit, most_planned}
use Prim.Native.Nat.{ℕ, ◌^◌, ◌≤◌, ◌<◌}
use mathlib.Core.Path.{◌≡◌, sym, ◌∙◌}
use mathlib.Core.List.{List}
use mathlib.Core.Option.{none, some, none-ne-some}
use lib.ListN.{length, get_or}
use Rattle.base.specs.Lists.{Each}
use Rattle.base.proofs.ListLaws.{each_present, replicate_at}
use Rattle.format.specs.Types.{State}
use Rattle.replication.specs.Machine.Types.{Mode, Log, Votes, Configuration, Membership, Server, with_log, with_votes, with_membership, with_noted, with_mode, with_come, in_mode, no_states}
use Rattle.replication.specs.Machine.Step.{collected, here_set, the_set, here_id, the_id}
use Rattle.replication.specs.Machine.WellFormedRanges.{StateFits}
use Rattle.replication.specs.Machine.WellFormedFacts.{ModeFits}
use Rattle.replication.proofs.WellFormed.Clauses.{SizesFit, VotesRanges, MembershipRanges, WellFormed}
use Rattle.replication.proofs.WellFormed.Logs.{LogFits}

-- The clauses that do not depend on which of the eight states it is.
pub record Body (w : ℕ) (s : Server) : Type 0 where
  pub sizes : SizesFit s.servers s.quota s.me
  pub log : LogFits s.servers s.quota s.me w s.log
  pub votes : VotesRanges s.servers s.quota s.votes
  pub membership : MembershipRanges s.servers s.quota s.me s.membership
  pub noted_length : length s.noted ≡ s.servers
  pub noted : (c : ℕ) → get_or s.noted c 0 ≤ most_length_limit

pub body : (s : Server) → WellFormed s → Body s.white s
unfolding cut
body s f = record {
  sizes = f.sizes;
  log = record { shows = record { ranges = f.log; once = f.once; within = f.within; places = f.places; own_list = record { numbered = f.own_list.numbered; ids = f.own_list.ids } }; low = f.white };
  votes = f.votes;
  membership = f.membership;
  noted_length = f.noted_length;
  noted = f.noted;
}

pub whole : (s : Server) → Body s.white s → ModeFits s.membership.mode s → WellFormed s
unfolding cut
whole s b m = record {
  sizes = b.sizes;
  log = b.log.shows.ranges;
  votes = b.votes;
  membership = b.membership;
  noted_length = b.noted_length;
  noted = b.noted;
  white = b.log.low;
  once = b.log.shows.once;
  within = b.log.shows.within;
  places = b.log.shows.places;
  own_list = record { numbered = b.log.shows.own_list.numbered; ids = b.log.shows.own_list.ids };
  mode = m;
}

pub no_states_lem : {X : Type 0} (n k : ℕ) (x : State) → get_or (no_states n) k none ≡ some x → X
unfolding no_states
no_states_lem n k x e = absurd (none-ne-some x (sym (replicate_at none n k) ∙ e))

-- ---- one part changed

module _ {w : ℕ} (s : Server) (b : Body w s) where
  changed : (l : Log) (v : Votes) (m : Membership) (z : List ℕ) → LogFits s.servers s.quota s.me w l → VotesRanges s.servers s.quota v
      → MembershipRanges s.servers s.quota s.me m → length z ≡ s.servers → ((c : ℕ) → get_or z c 0 ≤ most_length_limit)
      → Body w (record { servers = s.servers; quota = s.quota; me = s.me; log = l; votes = v; membership = m; noted = z; white = s.white })
  changed l v m z log votes membership long noted = record {
    sizes = b.sizes;
    log = log;
    votes = votes;
    membership = membership;
    noted_length = long;
    noted = noted;
  }

  pub log_changed : (l : Log) → LogFits s.servers s.quota s.me w l → Body w (with_log l s)
  log_changed l f = changed l s.votes s.membership s.noted f b.votes b.membership b.noted_length b.noted

  pub votes_changed : (v : Votes) → VotesRanges s.servers s.quota v → Body w (with_votes v s)
  votes_changed v f = changed s.log v s.membership s.noted b.log f b.membership b.noted_length b.noted

  pub membership_changed : (m : Membership) → MembershipRanges s.servers s.quota s.me m → Body w (with_membership m s)
  membership_changed m f = changed s.log s.votes m s.noted b.log b.votes f b.noted_length b.noted

  pub noted_changed : (z : List ℕ) → length z ≡ length s.noted → ((c : ℕ) → get_or z c 0 ≤ most_length_limit) → Body w (with_noted z s)
  noted_changed z l f = changed s.log s.votes s.membership z b.log b.votes b.membership (l ∙ b.noted_length) f

  -- Another of the eight states, and another count of retransmissions.
  pub mode_changed : (m : Mode) (k : ℕ) → k ≤ most_planned s.servers → Body w (with_membership (with_mode m (with_come k s.membership)) s)
  mode_changed m k h =
      membership_changed (with_mode m (with_come k s.membership))
      (record {
        configuration = b.membership.configuration;
        transitional = b.membership.transitional;
        states_length = b.membership.states_length;
        states = b.membership.states;
        cpcs = b.membership.cpcs;
        come = h;
      })

  pub in_mode_lem : (m : Mode) → Body w (in_mode m s)
  in_mode_lem m = mode_changed m s.membership.come b.membership.come

  -- ---- what is read off

  pub collected_fit_lem : Each (StateFits s.servers s.quota) (collected s)
  unfolding collected
  collected_fit_lem = each_present (StateFits s.servers s.quota) s.membership.states (λ k x e. (b.membership.states k x e).fits)

  pub here_below : (d : Configuration) → s.membership.configuration ≡ some d → here_set s < 2 ^ s.servers
  unfolding here_set the_set
  here_below d e = rw e (b.membership.configuration d e).set.below

  pub here_id_below : (d : Configuration) → s.membership.configuration ≡ some d → here_id s < 2 ^ 32
  unfolding here_id the_id
  here_id_below d e = rw e (b.membership.configuration d e).id
