-- Where the bytes hold the image of the well-formed state that they say, the code's tests hold.
use Prim.Native.Nat.{ℕ, ◌+◌, ◌*◌, ◌≤◌, ◌<◌, ◌^◌}
use mathlib.Core.Path.{◌≡◌, refl, sym, ap, subst, ◌∙◌}
use mathlib.Core.Bool.{true}
use mathlib.Core.List.{List}
use mathlib.Core.Option.{Option, none, some, none-ne-some}
use native.Mathlib.Nat.{zero-add, one-le-pow}
use native.Mathlib.Omega.{arith}
use lib.ListN.{get_or}
use Rattle.base.proofs.TestLaws.{not_both, both_yes, le_yes, lt_yes, eq_yes, eq_holds}
use Rattle.base.specs.Tests.{◌=?◌, ◌<?◌}
use Rattle.base.specs.Bytes.{part_at}
use Rattle.base.proofs.Entries.{every_number}
use Rattle.base.proofs.ListLaws.{each_all, bounded_each, there}
use Rattle.base.specs.Sets.{in_set, inside}
use Rattle.base.proofs.SetLaws.{members_inside}
use Rattle.format.specs.Limits.{most_index_limit, most_length_limit}
use Rattle.format.specs.Types.{State as Record, Context}
use Rattle.format.specs.Range.{context_ok, length_ok, index_ok, status_ok, ids_ok}
use Rattle.format.proofs.Ranges.{ContextRange, context_range}
use Rattle.format.proofs.Writing.{ids_number}
use Rattle.record.specs.Context.{last_of}
use Rattle.record.specs.Values.{primary_of}
use Rattle.record.specs.declared.State.{State}
use Rattle.replication.specs.Machine.Types.{Configuration}
use Rattle.replication.specs.Machine.Colours.{cut}
use Rattle.replication.specs.Machine.Rules.{member_of, is_of}
use Rattle.replication.specs.Machine.Step.{planned_now, here_set, the_set, collected}
use Rattle.replication.specs.Machine.WellFormedFacts.{Configured}
use Rattle.replication.proofs.WellFormed.Clauses.{WellFormed}
use Rattle.replication.proofs.WellFormed.Ids.{once_differ}
use Rattle.replication.proofs.WellFormed.Ranges.{sizes_ok_lem, length_ok_lem, set_ok_lem, primary_ok_lem, mark_ok_lem, ids_ok_lem, state_ok_lem, own_set_facts}
use Rattle.image.specs.Layout.{state_size, the_noted, the_states, the_yellow, sections, section_size}
use Rattle.image.specs.Image.{states_over, section, parts}
use Rattle.image.specs.Decode.{mode_named, regular_of, transitional_in}
use Rattle.image.specs.Header.{header_of, mode_number}
use Rattle.image.specs.Holding.{Holds}
use Rattle.image.proofs.InPlace.{holds_section}
use Rattle.image.proofs.Slots.{senders_below}
use Rattle.state_check.specs.Slots.{noted_at, noted_fit}
use Rattle.state_check.specs.Numbers.{regular_ok, transitional_ok}
use Rattle.state_check.specs.Collected.{planned_in, collected_ok}
use Rattle.state_check.specs.Checks.{place_of, exchange_ok, mode_test, mode_ok}
use Rattle.state_check.proofs.Rooms.{states_room}
use Rattle.state_check.proofs.StateLists.{Collected, states_out}
use Rattle.state_check.proofs.Configurations.{Regular, absent, there as one_there, regular, regular_ok_lem, transitional_ok_lem, last_set}
use Rattle.state_check.proofs.Modes.{mode_out, in_states, all_in_inside}
use Rattle.state_check.proofs.Checked.{Checked}
use Rattle.state_check.proofs.LogBack.{actions_few, greens_few, few_held, quotas_test, own_next_lem, own_room, own_test, queue_ids_test, queue_test}
use Rattle.state_check.proofs.Said.{said}

module _ (c : Context) (h : State) (b : List ℕ) (f : WellFormed (said c h b)) (holds_it : Holds (said c h b) b) (same : h ≡ header_of (said c h b))
    (last_is : c.last ≡ last_of h.configuration_status h.configuration_set) where
  context_ok_lem : context_ok c ≡ true
  context_ok_lem = sizes_ok_lem c f.sizes

  context_in_lem : ContextRange c
  context_in_lem = context_range c context_ok_lem

  -- ---- configurations

  regular_test : regular_ok c h ≡ true
  unfolding header_of
  regular_test =
      regular_ok_lem c h (regular_of h) refl (ap (λ (x : State). x.configuration_status) same) (ap (λ (x : State). x.configuration_id) same)
      (ap (λ (x : State). x.configuration_set) same) f.membership.configuration

  regular_in : Regular c h
  regular_in = regular c h regular_test

  transitional_test : transitional_ok c h ≡ true
  unfolding header_of
  transitional_test =
      transitional_ok_lem c h (regular_of h) (transitional_in h) (last_set c h last_is regular_in) (ap (λ (x : State). x.transitional_status) same)
      (ap (λ (x : State). x.transitional_set) same) f.membership.transitional

  -- ---- senders of States

  senders_small : h.states < 2 ^ c.servers
  unfolding header_of
  senders_small =
      subst (λ (x : ℕ). x < 2 ^ c.servers) (sym (ap (λ (x : State). x.states) same))
      (senders_below c.servers 0 (said c h b).membership.states (omega (arith, f.membership.states_length)))

  -- The State of a sender is there.
  sent : (j : ℕ) → j < c.servers → in_set j h.states ≡ true → (x : Record) × (get_or (said c h b).membership.states j none ≡ some x)
  sent j l m =
      there _ (in_states c.servers c.quota h.states b (place_of c the_states) j l ∙ m)

  member_in : Regular c h → (j : ℕ) → member_of (regular_of h) j ≡ true → in_set j h.configuration_set ≡ true
  unfolding member_of
  member_in (absent s i t e) j m = not_both (ap (λ (d : Option Configuration). member_of d j) (sym e) ∙ m)
  member_in (one_there s o e) j m = ap (λ (d : Option Configuration). member_of d j) (sym e) ∙ m

  members_test : inside h.states h.configuration_set ≡ true
  members_test =
      members_inside c.servers h.states h.configuration_set senders_small
      (λ j l m. let x = sent j l m in member_in regular_in j (f.membership.states j x.0 x.1).member)

  -- ---- what occurs where

  states_here_lem : states_over (state_size c.servers c.quota) (said c h b).membership.states (part_at (c.servers * state_size c.servers c.quota) b (place_of c the_states))
      ≡ part_at (c.servers * state_size c.servers c.quota) b (place_of c the_states)
  unfolding parts section section_size sections place_of
  states_here_lem = sym (holds_section (said c h b) b holds_it the_states (omega arith))

  -- ---- the other lists

  noted_test : noted_fit c b (place_of c the_noted) ≡ true
  unfolding noted_fit noted_at
  noted_test =
      every_number length_ok 4 c.servers b (place_of c the_noted)
      ∙ each_all length_ok (λ l. l ≤ most_length_limit) length_ok_lem (said c h b).noted (bounded_each (most_length_limit) (said c h b).noted f.noted)

  ids_few : h.yellow_count ≤ c.servers * c.quota
  ids_few =
      omega (arith, f.votes.yellow.few, ids_number h.yellow_count b (place_of c the_yellow))

  -- ---- collected States

  of_configuration : Regular c h → (i : ℕ) → is_of (regular_of h) i ≡ true → i ≡ h.configuration_id
  unfolding is_of
  of_configuration (absent s j t e) i m = not_both (ap (λ (d : Option Configuration). is_of d i) (sym e) ∙ m)
  of_configuration (one_there s o e) i m = eq_holds _ _ (ap (λ (d : Option Configuration). is_of d i) (sym e) ∙ m)

  collected_here : (j : ℕ) (x : Record) → get_or (said c h b).membership.states j none ≡ some x → Collected c h.configuration_id (0 + j) x
  collected_here j x e =
      let r = f.membership.states j x e in
      record { fits = state_ok_lem c x r.fits; sender = r.sender ∙ sym (zero-add j); configuration = of_configuration regular_in x.configuration r.configuration }

  collected_test : collected_ok c h.states h.configuration_id c.servers 0 b (place_of c the_states) ≡ true
  unfolding place_of
  collected_test =
      states_out c context_in_lem context_ok_lem b h.states h.configuration_id c.servers 0 (place_of c the_states)
      (states_room c.servers c.quota b holds_it.long) collected_here states_here_lem

  -- ---- the state's name

  configured : Regular c h → Configured (said c h b) → (h.configuration_status =? 1) ≡ true
  configured (absent s i t e) p = absurd (none-ne-some p.0 (sym e ∙ p.1))
  configured (one_there s o e) p = eq_yes _ _ s

  here_set_lem : Regular c h → here_set (said c h b) ≡ h.configuration_set
  unfolding here_set the_set
  here_set_lem (absent s i t e) = ap the_set e ∙ sym t
  here_set_lem (one_there s o e) = ap the_set e

  set_small : Regular c h → h.configuration_set < 2 ^ c.servers
  set_small (absent s i t e) = omega (arith, t, one-le-pow c.servers 2 (omega arith))
  set_small (one_there s o e) = (own_set_facts c h.configuration_set o).below

  mode_test_lem : mode_ok c h b ≡ true
  unfolding mode_ok exchange_ok planned_in planned_now collected primary_of header_of
  mode_test_lem =
      let here = here_set_lem regular_in in
      let number : h.mode ≡ mode_number (mode_named h.mode) = ap (λ (x : State). x.mode) same in
      let test = mode_out (said c h b) (h.configuration_status =? 1) (exchange_ok c h b) (h.last.index.0 <? most_index_limit) (configured regular_in)
      (λ ins come. both_yes _ _ (ap (λ (x : ℕ). inside x h.states) (sym here) ∙ all_in_inside (said c h b) c.quota h.states b (place_of c the_states) refl (omega (arith, here, set_small regular_in)) ins) (lt_yes _ _ come))
      (λ l. lt_yes _ _ l) (mode_named h.mode) f.mode in
      ap (λ (x : ℕ). mode_test x (h.configuration_status =? 1) (exchange_ok c h b) (h.last.index.0 <? most_index_limit)) number ∙ test

  -- ---- all tests

  pub all_checked : Checked c h b
  unfolding header_of index_ok status_ok ids_ok cut
  all_checked =
      record {
        context = context_ok_lem;
        layout = ap (λ (x : State). x.layout) same;
        regular = regular_test;
        transitional = transitional_test;
        senders = set_ok_lem c h.states senders_small;
        members = members_test;
        cpcs = set_ok_lem c h.cpcs f.membership.cpcs;
        come = f.membership.come;
        few_actions = actions_few c h b f holds_it same;
        few_greens = greens_few c h b f holds_it same;
        few_own = omega (arith, own_next_lem c h b f holds_it same, own_room c h b f holds_it same);
        sent = f.log.sent;
        few_ids = ids_few;
        attempt = le_yes _ _ f.votes.attempt;
        last = primary_ok_lem c _ f.votes.last;
        mark = mark_ok_lem c _ f.votes.mark;
        status = le_yes _ _ f.votes.yellow.status;
        few_held = few_held c h b f holds_it same;
        own_next_lem = own_next_lem c h b f holds_it same;
        noted = noted_test;
        ids = both_yes _ _ (ids_ok_lem c _ f.votes.yellow.ids) (once_differ _ f.votes.yellow.once);
        own = own_test c h b f holds_it same;
        queue_ids = queue_ids_test c h b f holds_it same;
        queue = queue_test c h b f holds_it same;
        quotas = quotas_test c h b f holds_it same;
        own_room = own_room c h b f holds_it same;
        collected = collected_test;
        mode = mode_test_lem;
      }
