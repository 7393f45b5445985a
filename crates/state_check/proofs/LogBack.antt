-- Where the bytes hold the image of the well-formed state that they say, the code's tests of its log hold.
use Prim.Native.Nat.{ℕ, ◌+◌, ◌*◌, ◌-◌, ◌≤◌, ◌<◌}
use mathlib.Core.Path.{◌≡◌, sym, ap, subst, ◌∙◌}
use mathlib.Core.Bool.{true}
use mathlib.Core.List.{List, []}
use native.Mathlib.Omega.{arith}
use lib.ListN.{length, get_or, length-append, length-map, take-append-drop}
use Rattle.base.proofs.TestLaws.{both_yes}
use Rattle.base.specs.Bytes.{over}
use Rattle.base.proofs.BytesLaws.{numbers_at_lem}
use Rattle.base.specs.Lists.{every_at, all, above, sum, Each}
use Rattle.base.proofs.ListLaws.{each_all, each_append, each_implied, above_length}
use Rattle.base.proofs.Occurs.{Occurs, occurs_first}
use Rattle.format.specs.Types.{Id, Action, Context}
use Rattle.format.specs.Range.{action_ok, ids_in_range, ids_differ, ids_ok}
use Rattle.format.proofs.Ranges.{ContextRange, context_range}
use Rattle.record.specs.Values.{ids_by}
use Rattle.record.specs.declared.State.{State}
use Rattle.replication.specs.Machine.Types.{Log}
use Rattle.replication.specs.Machine.Colours.{cut, of_creator}
use Rattle.replication.specs.Machine.WellFormed.{ids_in, queue}
use Rattle.replication.specs.Machine.WellFormedRanges.{id_count, ActionFits}
use Rattle.replication.proofs.WellFormed.Clauses.{LogRanges, PlacesFit, held_count, WellFormed}
use Rattle.replication.proofs.WellFormed.Ids.{each_counted, once_differ}
use Rattle.replication.proofs.WellFormed.Ranges.{sizes_ok_lem, action_ok_lem}
use Rattle.image.specs.Layout.{slot_size, the_cuts, the_own, the_queue, offset, section_count}
use Rattle.image.specs.Image.{action_slots, parts}
use Rattle.image.specs.Decode.{actions_at}
use Rattle.image.specs.Header.{shown_log, header_of}
use Rattle.image.proofs.InRange.{in_range}
use Rattle.image.proofs.Fit.{well_formed_fits}
use Rattle.image.proofs.Decoded.{image_part}
use Rattle.image.specs.Holding.{Holds}
use Rattle.state_check.specs.Slots.{slot_fits, queue_slots_fit, own_fits}
use Rattle.state_check.specs.Tally.{quotas_fit}
use Rattle.state_check.specs.Checks.{place_of, own_cut, queue_in}
use Rattle.state_check.proofs.Quotas.{held_quota}
use Rattle.state_check.proofs.SlotLists.{ids_by_number, ids_of_actions, actions_out}
use Rattle.state_check.proofs.IdLists.{WithinCuts, queue_out, own_out, run}
use Rattle.state_check.proofs.Said.{white_said, shown_said, shown_said_lem, said}

module _ (c : Context) (h : State) (b : List ℕ) (f : WellFormed (said c h b)) (holds_it : Holds (said c h b) b) (same : h ≡ header_of (said c h b)) where
  context_in_lem : ContextRange c
  context_in_lem = context_range c (sizes_ok_lem c f.sizes)

  -- ---- what has a place

  shown_is : shown_log (said c h b) ≡ shown_said c h b
  shown_is = shown_said_lem c h b

  log_in_lem : LogRanges c.servers c.quota (shown_said c h b)
  log_in_lem = subst (LogRanges c.servers c.quota) shown_is f.log

  places_in : PlacesFit c.servers c.quota c.self (white_said c h b) (shown_said c h b)
  places_in = subst (PlacesFit c.servers c.quota c.self (white_said c h b)) shown_is f.places

  queue_count_lem : h.queue_length ≡ length (queue (shown_said c h b))
  unfolding header_of
  queue_count_lem = ap (λ (x : State). x.queue_length) same ∙ ap (λ (l : Log). length (queue l)) shown_is

  whole_queue : queue (shown_said c h b) ≡ actions_at h.queue_length b (place_of c the_queue)
  unfolding queue
  whole_queue = take-append-drop h.green_count (actions_at h.queue_length b (place_of c the_queue))

  pub actions_few : h.queue_length ≤ c.servers * c.quota
  unfolding header_of
  actions_few =
      omega (arith, ap (λ (x : State). x.queue_length) same, (in_range (said c h b) holds_it.formed).queue_count)

  pub greens_few : h.green_count ≤ h.queue_length
  unfolding header_of queue
  greens_few =
      omega (arith, ap (λ (x : State). x.green_count) same, ap (λ (l : Log). length l.green) shown_is, queue_count_lem, length-append (shown_said c h b).green (shown_said c h b).red)

  -- ---- where it stands

  part_here : (j : ℕ) → j < section_count → Occurs (get_or (parts c.servers c.quota (said c h b) b) j []) b (place_of c j)
  unfolding place_of
  part_here j l =
      subst (λ (e : List ℕ). Occurs (get_or (parts c.servers c.quota (said c h b) b) j []) e (offset c.servers c.quota j)) holds_it.written
      (image_part (said c h b) (well_formed_fits (said c h b) holds_it.formed) b holds_it.long j l)

  own_here : Occurs (action_slots (said c h b).log.own) b (place_of c the_own)
  unfolding parts over
  own_here = occurs_first (action_slots (said c h b).log.own) _ b (place_of c the_own) (part_here the_own (omega arith))

  queue_here : Occurs (action_slots (actions_at h.queue_length b (place_of c the_queue))) b (place_of c the_queue)
  unfolding parts over
  queue_here =
      subst (λ (l : List Action). Occurs (action_slots l) b (place_of c the_queue)) (ap queue shown_is ∙ whole_queue)
      (occurs_first (action_slots (queue (shown_log (said c h b)))) _ b (place_of c the_queue) (part_here the_queue (omega arith)))

  -- ---- lists of actions

  actions_test : (l : List Action) → Each (ActionFits c.servers c.quota) l → all (action_ok c) l ≡ true
  actions_test l e = each_all (action_ok c) (ActionFits c.servers c.quota) (action_ok_lem c) l e

  queue_fits_lem : Each (ActionFits c.servers c.quota) (actions_at h.queue_length b (place_of c the_queue))
  unfolding queue
  queue_fits_lem = subst (Each (ActionFits c.servers c.quota)) whole_queue (each_append (ActionFits c.servers c.quota) (shown_said c h b).green (shown_said c h b).red log_in_lem.green log_in_lem.red)

  queue_parts : (ids_in_range c (ids_by slot_size h.queue_length b (place_of c the_queue)) ≡ true) × (every_at (slot_fits b) slot_size h.queue_length (place_of c the_queue) ≡ true)
  queue_parts = actions_out c b context_in_lem h.queue_length (place_of c the_queue) (actions_test _ queue_fits_lem) queue_here

  own_parts : (ids_in_range c (ids_by slot_size h.own_count b (place_of c the_own)) ≡ true) × (every_at (slot_fits b) slot_size h.own_count (place_of c the_own) ≡ true)
  own_parts = actions_out c b context_in_lem h.own_count (place_of c the_own) (actions_test _ log_in_lem.own) own_here

  queue_ids : ids_in (queue (shown_said c h b)) ≡ ids_by slot_size h.queue_length b (place_of c the_queue)
  queue_ids = ap ids_in whole_queue ∙ ids_of_actions h.queue_length b (place_of c the_queue)

  differ : ids_differ (ids_in (queue (shown_said c h b))) ≡ true
  differ = once_differ _ (subst (λ (l : Log). (d : Id) → held_count d l ≤ 1) shown_is f.once)

  within : Each (WithinCuts (said c h b).log.cuts) (ids_in (queue (shown_said c h b)))
  unfolding cut
  within =
      let ids : List Id = ids_in (queue (shown_said c h b)) in
      each_implied (λ d. 1 ≤ id_count d ids) (WithinCuts (said c h b).log.cuts)
      (subst (λ (l : Log). (d : Id) → 1 ≤ held_count d l → d.index ≤ cut (said c h b).log d.creator) shown_is f.within) ids (each_counted ids)

  pub few_held : h.queue_length ≤ sum (said c h b).log.cuts
  few_held = omega (arith, queue_count_lem, places_in.counted)

  -- Each creator's actions that have a place, and the own list.
  pub quotas_test : quotas_fit c.servers c.quota (queue_in c h.queue_length b) ≡ true
  quotas_test =
      held_quota c.servers c.quota (queue_in c h.queue_length b)
      (λ j l. subst (λ (xs : List Action). of_creator j xs ≤ c.quota) whole_queue (places_in.unwhites j l))

  own_cut_lem : cut (said c h b).log c.self ≡ own_cut c b
  unfolding cut own_cut
  own_cut_lem = numbers_at_lem 2 c.servers b (place_of c the_cuts) c.self context_in_lem.own

  pub own_room : of_creator c.self (queue_in c h.queue_length b) + h.numbered ≤ c.quota + own_cut c b
  unfolding cut
  own_room =
      subst (λ (xs : List Action). of_creator c.self xs + h.numbered ≤ c.quota + own_cut c b) whole_queue (omega (arith, places_in.own_room, own_cut_lem))

  own_count_lem : h.numbered - own_cut c b ≡ h.own_count
  own_count_lem =
      let me : ℕ = c.self in
      let low : ℕ = cut (said c h b).log me in
      let ids = ap length f.own_list.ids in
      omega (arith, ids, own_cut_lem, length-map {B = Id} (above low h.numbered) (λ (i : ℕ). record { creator = me; index = i }), above_length low h.numbered, ap length (ids_of_actions h.own_count b (place_of c the_own)), ids_by_number slot_size h.own_count b (place_of c the_own))

  pub own_next_lem : own_cut c b + h.own_count ≡ h.numbered
  own_next_lem = omega (arith, own_count_lem, own_cut_lem, f.own_list.numbered)

  own_run : ids_by slot_size h.own_count b (place_of c the_own) ≡ run c.self (own_cut c b) h.own_count
  unfolding above
  own_run =
      let count : h.numbered - cut (said c h b).log c.self ≡ h.own_count = ap (λ (i : ℕ). h.numbered - i) own_cut_lem ∙ own_count_lem in
      sym (ids_of_actions h.own_count b (place_of c the_own)) ∙ f.own_list.ids ∙ λ i. run c.self (own_cut_lem i) (count i)

  -- ---- tests

  pub own_test : own_fits c (own_cut c b) h.own_count b (place_of c the_own) ≡ true
  own_test = own_out c b (own_cut c b) h.own_count (place_of c the_own) own_run own_parts.1

  pub queue_ids_test : ids_ok c (ids_by slot_size h.queue_length b (place_of c the_queue)) ≡ true
  unfolding ids_ok
  queue_ids_test = both_yes _ _ queue_parts.0 (ap ids_differ (sym queue_ids) ∙ differ)

  pub queue_test : queue_slots_fit (place_of c the_cuts) h.queue_length b (place_of c the_queue) ≡ true
  queue_test =
      queue_out c b (place_of c the_cuts) h.queue_length (place_of c the_queue) queue_parts.0 (subst (Each (WithinCuts (said c h b).log.cuts)) queue_ids within)
      queue_parts.1
