-- Where the code's tests hold, the bytes say a well-formed state.
use Prim.Native.Nat.{ℕ, ◌+◌, ◌-◌, ◌≤◌, ◌<◌, ◌^◌}
use mathlib.Core.Path.{◌≡◌, refl, sym, ap, subst, ◌∙◌}
use mathlib.Core.Bool.{true}
use mathlib.Core.List.{List, ◌++◌}
use mathlib.Core.Option.{none, some}
use native.Mathlib.Nat.{zero-add}
use native.Mathlib.Omega.{arith}
use lib.ListN.{length, get_or, take-append-drop}
use Rattle.base.proofs.TestLaws.{and_holds, le_holds, lt_holds, eq_holds}
use Rattle.base.specs.Bytes.{Bytes, numbers_at}
use Rattle.base.proofs.BytesLaws.{numbers_length, numbers_at_lem}
use Rattle.base.proofs.Entries.{every_number}
use Rattle.base.specs.Lists.{above, Each}
use Rattle.base.proofs.ListLaws.{all_each, each_first, each_second, each_bounded}
use Rattle.base.specs.Sets.{inside}
use Rattle.base.proofs.Occurs.{Occurs}
use Rattle.format.specs.Limits.{most_number_limit, most_length_limit}
use Rattle.format.specs.Types.{Id, Action, State as Record, Context}
use Rattle.format.specs.Range.{length_ok, index_ok, status_ok, ids_in_range, ids_differ, ids_ok}
use Rattle.format.proofs.Ranges.{ContextRange, context_range, length_range}
use Rattle.format.proofs.Writing.{ids_number}
use Rattle.record.proofs.Ranges.{cuts_law}
use Rattle.record.specs.Context.{last_of}
use Rattle.record.specs.Values.{primary_of, ids_by}
use Rattle.record.specs.declared.State.{State}
use Rattle.replication.specs.Machine.Types.{Log}
use Rattle.replication.specs.Machine.Colours.{cut, of_creator}
use Rattle.replication.specs.Machine.Step.{planned_now, here_set, the_set, collected}
use Rattle.replication.specs.Machine.WellFormed.{ids_in, queue}
use Rattle.replication.specs.Machine.WellFormedRanges.{ActionFits}
use Rattle.replication.specs.Machine.WellFormedFacts.{Configured, ModeFits}
use Rattle.replication.proofs.WellFormed.Clauses.{LogRanges, VotesRanges, CollectedFits, MembershipRanges, held_count, PlacesFit, OwnListFits, WellFormed}
use Rattle.replication.proofs.WellFormed.Ids.{counted_fact, differ_once}
use Rattle.replication.proofs.WellFormed.Ranges.{cuts_facts, sizes_facts, set_facts, primary_facts, mark_facts, ids_facts, state_facts}
use Rattle.image.specs.Layout.{slot_size, the_cuts, the_noted, the_states, the_yellow, the_own, the_queue, state_length}
use Rattle.image.specs.Image.{action_slots}
use Rattle.image.specs.Header.{mode_number}
use Rattle.image.specs.Decode.{mode_named, actions_at, regular_of, white_at}
use Rattle.state_check.specs.Slots.{noted_at, noted_fit}
use Rattle.state_check.specs.Tally.{quotas_fit}
use Rattle.state_check.specs.Collected.{planned_in}
use Rattle.state_check.specs.Checks.{place_of, own_cut, queue_in, exchange_ok, mode_ok}
use Rattle.image.proofs.Slots.{actions_count}
use Rattle.state_check.proofs.Quotas.{quota_held}
use Rattle.state_check.proofs.Rooms.{states_room, own_room, queue_room}
use Rattle.state_check.proofs.SlotLists.{ids_of_actions, actions_in}
use Rattle.state_check.proofs.IdLists.{WithinCuts, queue_slots, queue_within, own_slots, own_run, own_in_range, run}
use Rattle.state_check.proofs.StateLists.{states_number, states_collected}
use Rattle.state_check.proofs.Configurations.{Regular, absent, there, regular, transitional, regular_fits, transitional_fits_lem, member, of_it}
use Rattle.state_check.proofs.Modes.{mode_in, inside_all_in}
use Rattle.state_check.proofs.Checked.{Checked}
use Rattle.state_check.proofs.Said.{white_said, log_said, shown_said, shown_said_lem, white_said_lem, votes_said, membership_said, said}

module _ (c : Context) (h : State) (b : List ℕ) (k : Checked c h b) (bytes : Bytes b) (long : state_length c.servers c.quota ≤ length b)
    (small : h.configuration_id < 2 ^ 32) (number_small : h.numbered ≤ most_number_limit) (last_is : c.last ≡ last_of h.configuration_status h.configuration_set) where
  context_in_lem : ContextRange c
  context_in_lem = context_range c k.context

  -- ---- the log

  ids_in_range_lem : ids_in_range c (ids_by slot_size h.queue_length b (place_of c the_queue)) ≡ true
  unfolding ids_ok
  ids_in_range_lem = (and_holds _ _ k.queue_ids).0

  ids_differ_lem : ids_differ (ids_by slot_size h.queue_length b (place_of c the_queue)) ≡ true
  unfolding ids_ok
  ids_differ_lem = (and_holds _ _ k.queue_ids).1

  pub queue_in_lem : Each (ActionFits c.servers c.quota) (actions_at h.queue_length b (place_of c the_queue))
      × Occurs (action_slots (actions_at h.queue_length b (place_of c the_queue))) b (place_of c the_queue)
  unfolding place_of
  queue_in_lem =
      actions_in c b bytes h.queue_length (place_of c the_queue) (queue_room c.servers c.quota b long h.queue_length k.few_actions) ids_in_range_lem
      (queue_slots b (place_of c the_cuts) h.queue_length (place_of c the_queue) k.queue)

  pub whole_queue : queue (shown_said c h b) ≡ actions_at h.queue_length b (place_of c the_queue)
  unfolding queue
  whole_queue = take-append-drop h.green_count (actions_at h.queue_length b (place_of c the_queue))

  queue_ids : ids_in (queue (shown_said c h b)) ≡ ids_by slot_size h.queue_length b (place_of c the_queue)
  queue_ids = ap ids_in whole_queue ∙ ids_of_actions h.queue_length b (place_of c the_queue)

  both_parts : Each (ActionFits c.servers c.quota) ((shown_said c h b).green ++ (shown_said c h b).red)
  both_parts =
      subst (Each (ActionFits c.servers c.quota)) (sym (take-append-drop h.green_count (actions_at h.queue_length b (place_of c the_queue)))) queue_in_lem.0

  own_cut_lem : cut (log_said c h b) c.self ≡ own_cut c b
  unfolding cut own_cut
  own_cut_lem = numbers_at_lem 2 c.servers b (place_of c the_cuts) c.self context_in_lem.own

  pub own_ids_in_range : ids_in_range c (ids_by slot_size h.own_count b (place_of c the_own)) ≡ true
  own_ids_in_range =
      own_in_range c b (own_cut c b) h.own_count (place_of c the_own) k.own context_in_lem.own (omega (arith, k.own_next_lem, number_small))

  pub own_in_lem : Each (ActionFits c.servers c.quota) (actions_at h.own_count b (place_of c the_own))
      × Occurs (action_slots (actions_at h.own_count b (place_of c the_own))) b (place_of c the_own)
  unfolding place_of
  own_in_lem =
      actions_in c b bytes h.own_count (place_of c the_own) (own_room c.servers c.quota b long h.own_count k.few_own) own_ids_in_range
      (own_slots c b (own_cut c b) h.own_count (place_of c the_own) k.own)

  log_ranges_lem : LogRanges c.servers c.quota (shown_said c h b)
  unfolding cut
  log_ranges_lem =
      record {
        green = each_first (ActionFits c.servers c.quota) (shown_said c h b).green (shown_said c h b).red both_parts;
        red = each_second (ActionFits c.servers c.quota) (shown_said c h b).green (shown_said c h b).red both_parts;
        cuts_length = numbers_length 2 c.servers b (place_of c the_cuts);
        cuts = cuts_facts most_number_limit (numbers_at 2 c.servers b (place_of c the_cuts)) (cuts_law c.servers b (place_of c the_cuts) bytes);
        own = own_in_lem.0;
        numbered = number_small;
        sent = k.sent;
      }

  within : Each (WithinCuts (numbers_at 2 c.servers b (place_of c the_cuts))) (ids_in (queue (shown_said c h b)))
  within =
      subst (Each (WithinCuts (numbers_at 2 c.servers b (place_of c the_cuts)))) (sym queue_ids)
      (queue_within c b (place_of c the_cuts) h.queue_length (place_of c the_queue) ids_in_range_lem k.queue)

  differ : ids_differ (ids_in (queue (shown_said c h b))) ≡ true
  differ = ap ids_differ queue_ids ∙ ids_differ_lem

  held_within : (d : Id) → 1 ≤ held_count d (shown_said c h b) → d.index ≤ cut (shown_said c h b) d.creator
  unfolding cut
  held_within d m = counted_fact (WithinCuts (shown_said c h b).cuts) d (ids_in (queue (shown_said c h b))) within m

  -- Each creator's actions that have a place, and the own list.
  places_fit_lem : PlacesFit c.servers c.quota c.self (white_said c h b) (shown_said c h b)
  unfolding white_at quotas_fit place_of cut
  places_fit_lem =
      let actions : List Action = queue_in c h.queue_length b in
      record {
        counted = omega (arith, k.few_held, ap length whole_queue, actions_count h.queue_length b (place_of c the_queue));
        unwhites = λ j l. subst (λ (xs : List Action). of_creator j xs ≤ c.quota) (sym whole_queue) (quota_held c.servers c.quota actions k.quotas j l);
        own_room = subst (λ (xs : List Action). of_creator c.self xs + h.numbered ≤ c.quota + cut (shown_said c h b) c.self) (sym whole_queue) (omega (arith, k.own_room, own_cut_lem));
      }

  own_list : OwnListFits c.self (log_said c h b)
  unfolding above
  own_list =
      let next : own_cut c b + h.own_count ≡ h.numbered = k.own_next_lem in
      let count : h.numbered - cut (log_said c h b) c.self ≡ h.own_count = omega (arith, own_cut_lem) in
      record {
        numbered = omega (arith, own_cut_lem);
        ids =
            ids_of_actions h.own_count b (place_of c the_own)
            ∙ own_run c b (own_cut c b) h.own_count (place_of c the_own) k.own
            ∙ λ i. run c.self (sym own_cut_lem i) (sym count i);
      }

  -- ---- the votes

  votes_ranges_lem : VotesRanges c.servers c.quota (votes_said c h b)
  unfolding index_ok status_ok ids_ok
  votes_ranges_lem =
      let u = and_holds _ _ k.ids in
      record {
        last = primary_facts c _ k.last;
        attempt = le_holds _ _ k.attempt;
        mark = mark_facts c _ k.mark;
        yellow = record { status = le_holds _ _ k.status; few = omega (arith, ids_number h.yellow_count b (place_of c the_yellow), k.few_ids); ids = ids_facts c _ u.0; once = differ_once _ u.1 };
      }

  -- ---- the membership

  regular_in : Regular c h
  regular_in = regular c h k.regular

  collected_fits_lem : (j : ℕ) (x : Record) → get_or (membership_said c h b).states j none ≡ some x → CollectedFits c.servers c.quota (regular_of h) j x
  unfolding place_of
  collected_fits_lem j x e =
      let r = states_collected c context_in_lem k.context b bytes h.states h.configuration_id c.servers 0 (place_of c the_states) (states_room c.servers c.quota b long) k.collected j x e in
      let place : 0 + j ≡ j = zero-add j in
      let m = member c h last_is regular_in k.members j (rw place at r.1) in
      record {
        fits = state_facts c x r.0.fits;
        sender = r.0.sender ∙ place;
        member = m;
        configuration = of_it c h last_is regular_in j m x.configuration r.0.configuration;
      }

  membership_ranges_lem : MembershipRanges c.servers c.quota c.self (membership_said c h b)
  membership_ranges_lem =
      record {
        configuration = regular_fits c h last_is small regular_in;
        transitional = transitional_fits_lem c h last_is regular_in (transitional c h k.transitional);
        states_length = states_number c.servers c.quota h.states c.servers 0 b (place_of c the_states);
        states = collected_fits_lem;
        cpcs = set_facts c h.cpcs k.cpcs;
        come = k.come;
      }

  -- ---- noted lengths

  noted_bound : (j : ℕ) → get_or (numbers_at 4 c.servers b (place_of c the_noted)) j 0 ≤ most_length_limit
  unfolding noted_fit noted_at
  noted_bound =
      each_bounded most_length_limit (numbers_at 4 c.servers b (place_of c the_noted))
      (all_each length_ok (λ l. l ≤ most_length_limit) length_range (numbers_at 4 c.servers b (place_of c the_noted))
      (sym (every_number length_ok 4 c.servers b (place_of c the_noted)) ∙ k.noted))

  -- ---- the state's name

  configured : Regular c h → h.configuration_status ≡ 1 → Configured (said c h b)
  configured (absent s i t e) p = absurd (omega arith)
  configured (there s o e) p = (_, e)

  here_set_lem : Regular c h → here_set (said c h b) ≡ h.configuration_set
  unfolding here_set the_set
  here_set_lem (absent s i t e) = ap the_set e ∙ sym t
  here_set_lem (there s o e) = ap the_set e

  pub mode_is : ModeFits (mode_named h.mode) (said c h b) × (mode_number (mode_named h.mode) ≡ h.mode)
  unfolding mode_ok exchange_ok planned_in planned_now collected primary_of
  mode_is =
      mode_in (said c h b) _ _ _ (λ e. configured regular_in (eq_holds _ _ e))
      (λ e. let a = and_holds _ _ e in (inside_all_in (said c h b) c.quota h.states b (place_of c the_states) refl (ap (λ (x : ℕ). inside x h.states) (here_set_lem regular_in) ∙ a.0), lt_holds _ _ a.1))
      (λ e. lt_holds _ _ e) h.mode k.mode

  pub formed : WellFormed (said c h b)
  unfolding cut
  formed =
      let shown = shown_said_lem c h b in
      record {
        sizes = sizes_facts c k.context;
        log = subst (LogRanges c.servers c.quota) (sym shown) log_ranges_lem;
        votes = votes_ranges_lem;
        membership = membership_ranges_lem;
        noted_length = numbers_length 4 c.servers b (place_of c the_noted);
        noted = noted_bound;
        white = white_said_lem c h b;
        once = subst (λ (l : Log). (d : Id) → held_count d l ≤ 1) (sym shown) (differ_once _ differ);
        within = subst (λ (l : Log). (d : Id) → 1 ≤ held_count d l → d.index ≤ cut (log_said c h b) d.creator) (sym shown) held_within;
        places = subst (PlacesFit c.servers c.quota c.self (white_said c h b)) (sym shown) places_fit_lem;
        own_list = own_list;
        mode = mode_is.0;
      }
