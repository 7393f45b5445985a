-- The test `well_formed` holds exactly if `WellFormed` does.
use Rattle.format.specs.Limits.{most_length_limit}
use Prim.Native.Nat.{◌≤◌}
use mathlib.Core.Path.{◌≡◌}
use mathlib.Core.Bool.{true}
use Rattle.base.proofs.TestLaws.{le_holds, le_yes, and_holds, both_yes, eq_yes, eq_holds}
use Rattle.base.proofs.ListLaws.{all_each, each_all, each_bounded, bounded_each}
use Rattle.format.specs.Range.{length_ok}
use Rattle.format.proofs.Ranges.{length_range}
use Rattle.replication.specs.Machine.Types.{Server, context_of}
use Rattle.replication.specs.Machine.Colours.{cut, shown}
use Rattle.replication.specs.Machine.WellFormed.{ranges, ids_in, queue, well_formed}
use Rattle.replication.proofs.WellFormed.Clauses.{WellFormed}
use Rattle.replication.proofs.WellFormed.Ids.{differ_once, once_differ}
use Rattle.replication.proofs.WellFormed.Ranges.{sizes_facts, sizes_ok_lem, length_ok_lem}
use Rattle.replication.proofs.WellFormed.Parts.{log_facts, log_ok, votes_facts, votes_ok_lem, membership_facts, membership_ok_lem, within_facts, within_ok, places_facts, places_ok_lem, own_list_facts, own_list_ok}
use Rattle.replication.proofs.WellFormed.Modes.{mode_facts, mode_ok_lem}

pub well_formed_facts : (s : Server) → well_formed s ≡ true → WellFormed s
unfolding well_formed ranges context_of cut
well_formed_facts s h =
    let a₁ = and_holds _ _ h in
    let a₂ = and_holds _ _ a₁.1 in
    let a₃ = and_holds _ _ a₂.1 in
    let a₄ = and_holds _ _ a₃.1 in
    let a₅ = and_holds _ _ a₄.1 in
    let r₁ = and_holds _ _ a₁.0 in
    let r₂ = and_holds _ _ r₁.1 in
    let r₃ = and_holds _ _ r₂.1 in
    let r₄ = and_holds _ _ r₃.1 in
    let r₅ = and_holds _ _ r₄.1 in
    let r₆ = and_holds _ _ r₅.1 in
    let membership = membership_facts (context_of s) s.membership r₄.0 in
    record {
      sizes = sizes_facts (context_of s) r₁.0;
      log = log_facts (context_of s) (shown s.white s.log) r₂.0;
      votes = votes_facts (context_of s) s.votes r₃.0;
      membership = membership;
      noted_length = eq_holds _ _ r₅.0;
      noted =
          each_bounded most_length_limit s.noted
          (all_each length_ok (λ l. l ≤ most_length_limit) length_range s.noted r₆.0);
      white = le_holds _ _ r₆.1;
      once = differ_once (ids_in (queue (shown s.white s.log))) a₂.0;
      within = within_facts (shown s.white s.log) a₃.0;
      places = places_facts s.servers s.quota s.me s.white (shown s.white s.log) a₄.0;
      own_list = own_list_facts s.me s.log a₅.0;
      mode = mode_facts s.membership.mode s membership.states_length a₅.1;
    }

pub facts_well_formed : (s : Server) → WellFormed s → well_formed s ≡ true
unfolding well_formed ranges context_of cut
facts_well_formed s f =
    both_yes _ _
    (both_yes _ _ (sizes_ok_lem (context_of s) f.sizes)
    (both_yes _ _ (log_ok (context_of s) (shown s.white s.log) f.log)
    (both_yes _ _ (votes_ok_lem (context_of s) s.votes f.votes)
    (both_yes _ _ (membership_ok_lem (context_of s) s.membership f.membership)
    (both_yes _ _ (eq_yes _ _ f.noted_length)
    (both_yes _ _
    (each_all length_ok (λ l. l ≤ most_length_limit) length_ok_lem s.noted
    (bounded_each most_length_limit s.noted f.noted))
    (le_yes _ _ f.white)))))))
    (both_yes _ _ (once_differ (ids_in (queue (shown s.white s.log))) f.once)
    (both_yes _ _ (within_ok (shown s.white s.log) f.within)
    (both_yes _ _ (places_ok_lem s.servers s.quota s.me s.white (shown s.white s.log) f.places)
    (both_yes _ _ (own_list_ok s.me s.log f.own_list) (mode_ok_lem s.membership.mode s f.membership.states_length f.mode)))))
