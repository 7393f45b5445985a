-- The tests on the parts of a state hold exactly if the facts of `WellFormedRanges` and `Clauses` do.
use Rattle.base.specs.Tests.{◌≤?◌}
use Rattle.base.proofs.Distinct.{below_has}
use Rattle.base.specs.Lists.{below}
use Rattle.format.specs.Limits.{most_number_limit}
use Prim.Native.Nat.{ℕ, zero, suc, ◌+◌, ◌≤◌, ◌<◌}
use mathlib.Core.Path.{◌≡◌, refl, subst}
use mathlib.Core.Bool.{true}
use mathlib.Core.List.{List, [], ◌∷◌}
use mathlib.Core.Option.{Option, none, some}
use native.Mathlib.Omega.{arith}
use lib.ListN.{get_or}
use Rattle.base.proofs.TestLaws.{not_both, and_holds, both_yes, le_yes, le_holds, lt_yes, lt_holds, eq_yes, eq_holds}
use Rattle.base.proofs.ListLaws.{all_each, each_all, each_map, map_each, below_each}
use Rattle.format.specs.Types.{Id, State, Context}
use Rattle.format.specs.Range.{action_ok, index_ok, configuration_ok, inside_last}
use Rattle.replication.specs.Machine.Types.{Log, Votes, Configuration, Membership, set_of}
use Rattle.replication.specs.Machine.Colours.{cut, of_creator}
use Rattle.replication.specs.Machine.Rules.{member_of, is_of}
use Rattle.replication.specs.Machine.WellFormed.{log_ranges, votes_ranges, configuration_fits, transitional_fits, collected_fits, collected_fit, membership_ranges, ids_in, queue, within_cut, within_cuts, places_fit, own_list_fits}
use Rattle.replication.specs.Machine.WellFormedRanges.{ActionFits, ConfigurationFits, TransitionalFits}
use Rattle.replication.proofs.WellFormed.Clauses.{LogRanges, VotesRanges, CollectedFits, MembershipRanges, held_count, PlacesFit, OwnListFits}
use Rattle.replication.proofs.Runs.LogActions.{each_in}
use Rattle.replication.proofs.WellFormed.Ids.{each_counted, counted_fact, same_ids_holds, same_ids_yes}
use Rattle.replication.proofs.WellFormed.Ranges.{cuts_facts, cuts_ok_lem, set_facts, set_ok_lem, action_facts, action_ok_lem, primary_facts, primary_ok_lem, mark_facts, mark_ok_lem, yellow_facts, yellow_ok_lem, state_facts, state_ok_lem, own_set_facts, own_set_ok_lem}

module _ (c : Context) where
  pub log_facts : (l : Log) → log_ranges c l ≡ true → LogRanges c.servers c.quota l
  unfolding log_ranges cut
  log_facts l h =
      let a₁ = and_holds _ _ h in
      let a₂ = and_holds _ _ a₁.1 in
      let a₃ = and_holds _ _ a₂.1 in
      let a₄ = and_holds _ _ a₃.1 in
      let a₅ = and_holds _ _ a₄.1 in
      let a₆ = and_holds _ _ a₅.1 in
      record {
        green = all_each (action_ok c) (ActionFits c.servers c.quota) (action_facts c) l.green a₁.0;
        red = all_each (action_ok c) (ActionFits c.servers c.quota) (action_facts c) l.red a₂.0;
        cuts_length = eq_holds _ _ a₃.0;
        cuts = cuts_facts most_number_limit l.cuts a₄.0;
        own = all_each (action_ok c) (ActionFits c.servers c.quota) (action_facts c) l.own a₅.0;
        numbered = le_holds _ _ a₆.0;
        sent = le_holds _ _ a₆.1;
      }

  pub log_ok : (l : Log) → LogRanges c.servers c.quota l → log_ranges c l ≡ true
  unfolding log_ranges cut
  log_ok l f =
      both_yes _ _ (each_all (action_ok c) (ActionFits c.servers c.quota) (action_ok_lem c) l.green f.green)
      (both_yes _ _ (each_all (action_ok c) (ActionFits c.servers c.quota) (action_ok_lem c) l.red f.red)
      (both_yes _ _ (eq_yes _ _ f.cuts_length)
      (both_yes _ _ (cuts_ok_lem most_number_limit l.cuts f.cuts)
      (both_yes _ _ (each_all (action_ok c) (ActionFits c.servers c.quota) (action_ok_lem c) l.own f.own)
      (both_yes _ _ (le_yes _ _ f.numbered) (le_yes _ _ f.sent))))))

  pub votes_facts : (v : Votes) → votes_ranges c v ≡ true → VotesRanges c.servers c.quota v
  unfolding votes_ranges index_ok
  votes_facts v h =
      let a₁ = and_holds _ _ h in
      let a₂ = and_holds _ _ a₁.1 in
      let a₃ = and_holds _ _ a₂.1 in
      record { last = primary_facts c v.last a₁.0; attempt = le_holds _ _ a₂.0; mark = mark_facts c v.mark a₃.0; yellow = yellow_facts c v.yellow a₃.1 }

  pub votes_ok_lem : (v : Votes) → VotesRanges c.servers c.quota v → votes_ranges c v ≡ true
  unfolding votes_ranges index_ok
  votes_ok_lem v f =
      both_yes _ _ (primary_ok_lem c v.last f.last)
      (both_yes _ _ (le_yes _ _ f.attempt) (both_yes _ _ (mark_ok_lem c v.mark f.mark) (yellow_ok_lem c v.yellow f.yellow)))

  -- ---- configurations and collected States

  pub configuration_facts : (d : Configuration) → configuration_fits c (some d) ≡ true → ConfigurationFits c.servers c.self d
  unfolding configuration_fits configuration_ok
  configuration_facts d h = let b = and_holds _ _ h in record { id = lt_holds _ _ b.0; set = own_set_facts c d.set b.1 }

  pub configuration_ok_lem : (o : Option Configuration) → ((d : Configuration) → o ≡ some d → ConfigurationFits c.servers c.self d) → configuration_fits c o ≡ true
  unfolding configuration_fits configuration_ok
  configuration_ok_lem none f = refl
  configuration_ok_lem (some d) f = both_yes _ _ (lt_yes _ _ (f d refl).id) (own_set_ok_lem c d.set (f d refl).set)

  pub transitional_facts : (o : Option Configuration) (t : ℕ) → transitional_fits c o (some t) ≡ true → TransitionalFits c.servers c.self o t
  unfolding transitional_fits inside_last set_of
  transitional_facts none t h = record { set = own_set_facts c t h; inside = refl }
  transitional_facts (some d) t h = let b = and_holds _ _ h in record { set = own_set_facts c t b.0; inside = b.1 }

  pub transitional_ok_lem : (o : Option Configuration) (t : Option ℕ) → ((k : ℕ) → t ≡ some k → TransitionalFits c.servers c.self o k)
      → transitional_fits c o t ≡ true
  unfolding transitional_fits inside_last set_of
  transitional_ok_lem o none f = refl
  transitional_ok_lem none (some t) f = own_set_ok_lem c t (f t refl).set
  transitional_ok_lem (some d) (some t) f = both_yes _ _ (own_set_ok_lem c t (f t refl).set) (f t refl).inside

  collected_one : (o : Option Configuration) (k : ℕ) (x : State) → collected_fits c o k (some x) ≡ true → CollectedFits c.servers c.quota o k x
  unfolding collected_fits member_of is_of
  collected_one none k x h = not_both h
  collected_one (some d) k x h =
      let a₁ = and_holds _ _ h in
      let a₂ = and_holds _ _ a₁.1 in
      let a₃ = and_holds _ _ a₂.1 in
      record { fits = state_facts c x a₁.0; sender = eq_holds _ _ a₂.0; member = a₃.0; configuration = a₃.1 }

  collected_one_ok : (o : Option Configuration) (k : ℕ) (y : Option State) → ((x : State) → y ≡ some x → CollectedFits c.servers c.quota o k x)
      → collected_fits c o k y ≡ true
  unfolding collected_fits member_of is_of
  collected_one_ok o k none f = refl
  collected_one_ok none k (some x) f = (f x refl).member
  collected_one_ok (some d) k (some x) f =
      both_yes _ _ (state_ok_lem c x (f x refl).fits) (both_yes _ _ (eq_yes _ _ (f x refl).sender) (both_yes _ _ (f x refl).member (f x refl).configuration))

  pub collected_facts : (o : Option Configuration) (k : ℕ) (xs : List (Option State)) → collected_fit c o k xs ≡ true → (j : ℕ) (x : State)
      → get_or xs j none ≡ some x → CollectedFits c.servers c.quota o (k + j) x
  unfolding collected_fit
  collected_facts o k [] h j x e = let z : ◌≡◌ {A = ℕ} 0 1 = cc in absurd (omega arith)
  collected_facts o k (y ∷ ys) h zero x e =
      let z : k + 0 ≡ k = omega arith in
      rw z (collected_one o k x (subst (λ y. collected_fits c o k y ≡ true) e (and_holds _ _ h).0))
  collected_facts o k (y ∷ ys) h (suc j) x e =
      let z : k + 1 + j ≡ k + suc j = omega arith in
      rw z at (collected_facts o (k + 1) ys (and_holds _ _ h).1 j x e)

  pub collected_ok_lem : (o : Option Configuration) (k : ℕ) (xs : List (Option State))
      → ((j : ℕ) (x : State) → get_or xs j none ≡ some x → CollectedFits c.servers c.quota o (k + j) x) → collected_fit c o k xs ≡ true
  unfolding collected_fit
  collected_ok_lem o k [] f = refl
  collected_ok_lem o k (y ∷ ys) f =
      both_yes _ _ (collected_one_ok o k y (λ x e. let z : k + 0 ≡ k = omega arith in rw z at (f 0 x e)))
      (collected_ok_lem o (k + 1) ys (λ j x e. let z : k + 1 + j ≡ k + suc j = omega arith in rw z (f (suc j) x e)))

  pub membership_facts : (m : Membership) → membership_ranges c m ≡ true → MembershipRanges c.servers c.quota c.self m
  unfolding membership_ranges
  membership_facts m h =
      let a₁ = and_holds _ _ h in
      let a₂ = and_holds _ _ a₁.1 in
      let a₃ = and_holds _ _ a₂.1 in
      let a₄ = and_holds _ _ a₃.1 in
      let a₅ = and_holds _ _ a₄.1 in
      record {
        configuration = λ d e. configuration_facts d (subst (λ o. configuration_fits c o ≡ true) e a₁.0);
        transitional = λ t e. transitional_facts m.configuration t (subst (λ o. transitional_fits c m.configuration o ≡ true) e a₂.0);
        states_length = eq_holds _ _ a₃.0;
        states = λ k x e. let z : 0 + k ≡ k = omega arith in rw z at (collected_facts m.configuration 0 m.states a₄.0 k x e);
        cpcs = set_facts c m.cpcs a₅.0;
        come = le_holds _ _ a₅.1;
      }

  pub membership_ok_lem : (m : Membership) → MembershipRanges c.servers c.quota c.self m → membership_ranges c m ≡ true
  unfolding membership_ranges
  membership_ok_lem m f =
      both_yes _ _ (configuration_ok_lem m.configuration f.configuration)
      (both_yes _ _ (transitional_ok_lem m.configuration m.transitional f.transitional)
      (both_yes _ _ (eq_yes _ _ f.states_length)
      (both_yes _ _ (collected_ok_lem m.configuration 0 m.states (λ k x e. let z : 0 + k ≡ k = omega arith in rw z (f.states k x e)))
      (both_yes _ _ (set_ok_lem c m.cpcs f.cpcs) (le_yes _ _ f.come)))))

-- ---- the held actions and the own list

abbrev Within : Log → Id → Type 0
Within l d = d.index ≤ cut l d.creator

abbrev Held : Log → Id → Type 0
Held l d = 1 ≤ held_count d l

pub within_facts : (l : Log) → within_cuts l ≡ true → (d : Id) → 1 ≤ held_count d l → d.index ≤ cut l d.creator
unfolding within_cuts within_cut ids_in cut
within_facts l h d m =
    counted_fact (Within l) d (ids_in (queue l))
    (each_map (Within l) (λ a. a.id) (queue l) (all_each (within_cut l) (λ a. Within l a.id) (λ a t. le_holds _ _ t) (queue l) h)) m

pub within_ok : (l : Log) → ((d : Id) → 1 ≤ held_count d l → d.index ≤ cut l d.creator) → within_cuts l ≡ true
unfolding within_cuts within_cut ids_in cut
within_ok l f =
    each_all (within_cut l) (λ a. Held l a.id) (λ a m. le_yes _ _ (f a.id m)) (queue l) (map_each (Held l) (λ a. a.id) (queue l) (each_counted (ids_in (queue l))))

pub places_facts : (n q me w : ℕ) (l : Log) → places_fit n q me w l ≡ true → PlacesFit n q me w l
unfolding places_fit
places_facts n q me w l h =
    let a = and_holds _ _ h in
    let b = and_holds _ _ a.1 in
    record {
      counted = eq_holds _ _ a.0;
      unwhites = λ c k. each_in (λ c. of_creator c (queue l) ≤ q) (below n) (all_each (λ c. of_creator c (queue l) ≤? q) (λ c. of_creator c (queue l) ≤ q) (λ c t. le_holds _ _ t) (below n) b.0) c (below_has n c k);
      own_room = le_holds _ _ b.1;
    }

pub places_ok_lem : (n q me w : ℕ) (l : Log) → PlacesFit n q me w l → places_fit n q me w l ≡ true
unfolding places_fit
places_ok_lem n q me w l f =
    both_yes _ _ (eq_yes _ _ f.counted)
    (both_yes _ _ (each_all (λ c. of_creator c (queue l) ≤? q) (λ c. c < n) (λ c k. le_yes _ _ (f.unwhites c k)) (below n) (below_each n)) (le_yes _ _ f.own_room))

pub own_list_facts : (me : ℕ) (l : Log) → own_list_fits me l ≡ true → OwnListFits me l
unfolding own_list_fits
own_list_facts me l h = let b = and_holds _ _ h in record { numbered = le_holds _ _ b.0; ids = same_ids_holds _ _ b.1 }

pub own_list_ok : (me : ℕ) (l : Log) → OwnListFits me l → own_list_fits me l ≡ true
unfolding own_list_fits
own_list_ok me l f = both_yes _ _ (le_yes _ _ f.numbered) (same_ids_yes _ _ f.ids)
