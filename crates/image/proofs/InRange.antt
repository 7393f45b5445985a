-- What a well-formed state's numbers and lists are, as far as its image has to hold them.
use Prim.Native.Nat.{ℕ, suc, ◌+◌, ◌*◌, ◌-◌, ◌^◌, ◌≤◌, ◌<◌}
use mathlib.Core.Path.{◌≡◌, refl, ap}
use mathlib.Core.Bool.{true}
use mathlib.Core.List.{List, [], ◌∷◌, ◌++◌}
use mathlib.Core.Option.{Option, none, some}
use native.Mathlib.Omega.{arith}
use lib.ListN.{length, length-map}
use Rattle.base.proofs.TestLaws.{and_holds, both_yes, le_holds, eq_holds, not_both}
use Rattle.base.specs.Lists.{all, above, sum, Each}
use Rattle.base.proofs.ListLaws.{all_each, above_length, each_implied}
use Rattle.format.specs.Limits.{most_servers_limit, most_index_limit, most_number_limit, most_length_limit, most_planned}
use Rattle.format.specs.Types.{Id, Action, State, Context}
use Rattle.format.specs.Range.{action_ok, length_ok, cuts_ok, own_set_ok}
use Rattle.format.proofs.Ranges.{ContextRange, context_range, length_range, set_range, index_range, configuration_range, ActionRange, action_range, PrimaryRange, primary_range, MarkRange, mark_range, YellowRange, yellow_range, StateRange, state_range}
use Rattle.replication.specs.Machine.Types.{Log, Configuration, Server, context_of}
use Rattle.replication.specs.Machine.Colours.{cut}
use Rattle.replication.specs.Machine.WellFormed.{log_ranges, votes_ranges, configuration_fits, transitional_fits, collected_fits, collected_fit, membership_ranges, ranges, ids_in, queue, same_ids, own_list_fits, well_formed}
use Rattle.replication.proofs.WellFormed.Facts.{well_formed_facts}
use Rattle.replication.proofs.WellFormed.Sums.{places_most}
use Rattle.image.specs.Header.{shown_log}

abbrev pub ConfigurationRange : Option Configuration → Type 0
ConfigurationRange none = Unit {0}
ConfigurationRange (some d) = (d.id < 2 ^ 32) × (d.set < 2 ^ most_servers_limit)

abbrev pub TransitionalRange : Option ℕ → Type 0
TransitionalRange none = Unit {0}
TransitionalRange (some t) = t < 2 ^ most_servers_limit

-- A slot for a State: empty, or a State in range.
abbrev pub CollectedRange : Context → Option State → Type 0
CollectedRange c none = Unit {0}
CollectedRange c (some x) = StateRange c x

pub record InRange (s : Server) : Type 0 where
  pub context : ContextRange (context_of s)
  pub actions : Each (ActionRange (context_of s)) (queue (shown_log s))
  pub queue_count : length (queue (shown_log s)) ≤ s.servers * s.quota
  pub cuts_count : length s.log.cuts ≡ s.servers
  pub cuts : cuts_ok most_number_limit s.log.cuts ≡ true
  pub counted : s.white + length (queue (shown_log s)) ≡ sum s.log.cuts
  pub own : Each (ActionRange (context_of s)) s.log.own
  pub own_count_of : length s.log.own ≤ s.quota
  pub numbered : s.log.numbered ≤ most_number_limit
  pub last : PrimaryRange s.votes.last
  pub attempt : s.votes.attempt ≤ most_index_limit
  pub mark : MarkRange s.votes.mark
  pub yellow : YellowRange (context_of s) s.votes.yellow
  pub configuration : ConfigurationRange s.membership.configuration
  pub transitional : TransitionalRange s.membership.transitional
  pub states_count : length s.membership.states ≡ s.servers
  pub states : Each (CollectedRange (context_of s)) s.membership.states
  pub cpcs : s.membership.cpcs < 2 ^ most_servers_limit
  pub come : s.membership.come ≤ most_planned s.servers
  pub sent : s.log.sent ≤ s.log.numbered
  pub noted_count : length s.noted ≡ s.servers
  pub noted : Each (λ l. l ≤ most_length_limit) s.noted

-- ---- the parts

actions_range : (c : Context) → ContextRange c → (l : List Action) → all (action_ok c) l ≡ true → Each (ActionRange c) l
actions_range c r l ok = all_each (action_ok c) (ActionRange c) (λ a h. action_range c a r h) l ok

all_append : (c : Context) (x y : List Action) → all (action_ok c) x ≡ true → all (action_ok c) y ≡ true → all (action_ok c) (x ++ y) ≡ true
unfolding all
all_append c [] y h k = k
all_append c (a ∷ x) y h k = let t = and_holds _ _ h in both_yes _ _ t.0 (all_append c x y t.1 k)

same_count : (x y : List Id) → same_ids x y ≡ true → length x ≡ length y
unfolding same_ids
same_count [] [] h = refl
same_count [] (b ∷ y) h = not_both h
same_count (a ∷ x) [] h = not_both h
same_count (a ∷ x) (b ∷ y) h = ap suc (same_count x y (and_holds _ _ h).1)

own_count_lem : (me : ℕ) (l : Log) → own_list_fits me l ≡ true → length l.own ≤ l.numbered - cut l me
unfolding own_list_fits ids_in
own_count_lem me l ok =
    let t = and_holds _ _ ok in
    let same = same_count _ _ t.1 in
    omega (arith, same, length-map l.own (λ (a : Action). a.id), length-map {B = Id} (above (cut l me) l.numbered) (λ (i : ℕ). record { creator = me; index = i }), above_length (cut l me) l.numbered)

configuration_fits_lem : (c : Context) → ContextRange c → (d : Option Configuration) → configuration_fits c d ≡ true → ConfigurationRange d
unfolding configuration_fits own_set_ok
configuration_fits_lem c r none ok = tt
configuration_fits_lem c r (some d) ok =
    let t = and_holds _ _ ok in
    (configuration_range d.id t.0, set_range c d.set r (and_holds _ _ t.1).0)

transitional_fits_lem : (c : Context) → ContextRange c → (d : Option Configuration) (t : Option ℕ) → transitional_fits c d t ≡ true → TransitionalRange t
unfolding transitional_fits own_set_ok
transitional_fits_lem c r none none ok = tt
transitional_fits_lem c r (some d) none ok = tt
transitional_fits_lem c r none (some t) ok = set_range c t r (and_holds _ _ ok).0
transitional_fits_lem c r (some d) (some t) ok = set_range c t r (and_holds _ _ (and_holds _ _ ok).0).0

collected_fits_lem : (c : Context) → ContextRange c → (d : Option Configuration) (k : ℕ) (x : Option State) → collected_fits c d k x ≡ true → CollectedRange c x
unfolding collected_fits
collected_fits_lem c r none k none ok = tt
collected_fits_lem c r (some d) k none ok = tt
collected_fits_lem c r none k (some x) ok = not_both ok
collected_fits_lem c r (some d) k (some x) ok = state_range c x r (and_holds _ _ ok).0

collected_fit_lem : (c : Context) → ContextRange c → (d : Option Configuration) (k : ℕ) (l : List (Option State)) → collected_fit c d k l ≡ true → Each (CollectedRange c) l
unfolding collected_fit
collected_fit_lem c r d k [] ok = tt
collected_fit_lem c r d k (x ∷ l) ok = let t = and_holds _ _ ok in (collected_fits_lem c r d k x t.0, collected_fit_lem c r d (k + 1) l t.1)

-- ---- the whole

pub in_range : (s : Server) → well_formed s ≡ true → InRange s
unfolding well_formed ranges log_ranges votes_ranges membership_ranges context_of queue cut
in_range s ok =
    let c : Context = context_of s in
    let a₁ = and_holds _ _ ok in
    let a₂ = and_holds _ _ a₁.1 in
    let a₃ = and_holds _ _ a₂.1 in
    let a₄ = and_holds _ _ a₃.1 in
    let b₁ = and_holds _ _ a₁.0 in
    let b₂ = and_holds _ _ b₁.1 in
    let b₃ = and_holds _ _ b₂.1 in
    let b₄ = and_holds _ _ b₃.1 in
    let b₅ = and_holds _ _ b₄.1 in
    let b₆ = and_holds _ _ b₅.1 in
    let a₅ = and_holds _ _ a₄.1 in
    let f = well_formed_facts s ok in
    let r : ContextRange c = context_range c b₁.0 in
    let l₁ = and_holds _ _ b₂.0 in
    let l₂ = and_holds _ _ l₁.1 in
    let l₃ = and_holds _ _ l₂.1 in
    let l₄ = and_holds _ _ l₃.1 in
    let l₅ = and_holds _ _ l₄.1 in
    let l₆ = and_holds _ _ l₅.1 in
    let v₁ = and_holds _ _ b₃.0 in
    let v₂ = and_holds _ _ v₁.1 in
    let v₃ = and_holds _ _ v₂.1 in
    let m₁ = and_holds _ _ b₄.0 in
    let m₂ = and_holds _ _ m₁.1 in
    let m₃ = and_holds _ _ m₂.1 in
    let m₄ = and_holds _ _ m₃.1 in
    let m₅ = and_holds _ _ m₄.1 in
    let actions : all (action_ok c) ((shown_log s).green ++ s.log.red) ≡ true = all_append c (shown_log s).green s.log.red l₁.0 l₂.0 in
    record {
      context = r;
      actions = actions_range c r ((shown_log s).green ++ s.log.red) actions;
      queue_count =
          places_most s.servers s.quota ((shown_log s).green ++ s.log.red)
          (each_implied (ActionRange c) (λ a. a.id.creator < s.servers) (λ a h. h.id.creator) ((shown_log s).green ++ s.log.red)
          (actions_range c r ((shown_log s).green ++ s.log.red) actions))
          f.places.unwhites;
      counted = f.places.counted;
      cuts_count = eq_holds (length s.log.cuts) s.servers l₃.0;
      cuts = l₄.0;
      own = actions_range c r s.log.own l₅.0;
      own_count_of = omega (arith, own_count_lem s.me s.log a₅.0, f.places.own_room);
      numbered = le_holds s.log.numbered most_number_limit l₆.0;
      sent = le_holds s.log.sent s.log.numbered l₆.1;
      last = primary_range c s.votes.last r v₁.0;
      attempt = index_range s.votes.attempt v₂.0;
      mark = mark_range c s.votes.mark r v₃.0;
      yellow = yellow_range c s.votes.yellow v₃.1;
      configuration = configuration_fits_lem c r s.membership.configuration m₁.0;
      transitional = transitional_fits_lem c r s.membership.configuration s.membership.transitional m₂.0;
      states_count = eq_holds (length s.membership.states) s.servers m₃.0;
      states = collected_fit_lem c r s.membership.configuration 0 s.membership.states m₄.0;
      cpcs = set_range c s.membership.cpcs r m₅.0;
      come = le_holds s.membership.come (most_planned s.servers) m₅.1;
      noted_count = eq_holds (length s.noted) s.servers b₅.0;
      noted = all_each length_ok (λ l. l ≤ most_length_limit) length_range s.noted b₆.0;
    }
