-- Where the code's tests hold, the state that the bytes say, written over them, leaves them as they are.
use Prim.Native.Nat.{ℕ, zero, suc, ◌+◌, ◌*◌, ◌≤◌, ◌<◌, ◌^◌}
use mathlib.Core.Path.{◌≡◌, refl, sym, ap, ◌∙◌}
use mathlib.Core.List.{List, []}
use native.Mathlib.Omega.{arith}
use lib.ListN.{length}
use lib.Seq.{length-take-le}
use Rattle.base.proofs.TestLaws.{lt_holds}
use Rattle.base.specs.Bytes.{Bytes, bytes_of, numbers_at, part_at, over}
use Rattle.base.proofs.BytesLaws.{numbers_length}
use Rattle.base.specs.Lists.{sum, Each}
use Rattle.base.proofs.ListLaws.{each_implied}
use Rattle.base.proofs.Occurs.{Occurs, occurs_nil, occurs_append, number_occurs}
use Rattle.base.proofs.Sections.{patched_all}
use Rattle.format.specs.Limits.{most_number_limit}
use Rattle.format.specs.Types.{Action, Context}
use Rattle.format.specs.Range.{set_ok}
use Rattle.format.specs.Read.{ids_at}
use Rattle.format.specs.Write.{cuts_bytes, ids_bytes}
use Rattle.format.proofs.Lengths.{cuts_length, ids_length}
use Rattle.format.proofs.Ranges.{PayloadRange, context_range}
use Rattle.format.proofs.Writing.{cuts_written, ids_written, ids_number}
use Rattle.record.specs.Context.{last_of}
use Rattle.record.specs.Values.{primary_of, mark_of, last_of as last_numbers}
use Rattle.record.specs.declared.State.{State}
use Rattle.replication.specs.Machine.Types.{Log}
use Rattle.replication.specs.Machine.WellFormed.{queue}
use Rattle.replication.specs.Machine.WellFormedRanges.{ActionFits}
use Rattle.replication.proofs.WellFormed.Facts.{facts_well_formed}
use Rattle.image.specs.Layout.{state_size, the_header, the_cuts, the_noted, the_states, the_yellow, the_own, the_queue, sections, section_size, offset, state_length, header_size}
use Rattle.image.specs.Image.{header_bytes, noted_bytes, action_slots, states_over, section, parts, image}
use Rattle.image.specs.Decode.{actions_at, regular_of, transitional_in}
use Rattle.image.specs.Header.{shown_log, status_of, id_of, set_of, transitional_of, mark_numbers, header_of, header_written}
use Rattle.image.proofs.Used.{action_slots_length, noted_length, header_length}
use Rattle.image.proofs.Fit.{SectionsFit, well_formed_fits}
use Rattle.image.proofs.HeaderLaws.{header_written_lem}
use Rattle.image.proofs.InPlace.{image_patched, same_but}
use Rattle.image.proofs.Slots.{actions_count}
use Rattle.state_check.specs.Checks.{place_of}
use Rattle.state_check.proofs.Over.{occurs_over}
use Rattle.state_check.proofs.Rooms.{cuts_room, noted_room, states_room, ids_room}
use Rattle.state_check.proofs.StateLists.{states_same}
use Rattle.state_check.proofs.Configurations.{Regular, absent, there, regular, Transitional, transitional}
use Rattle.state_check.proofs.Modes.{senders_are}
use Rattle.state_check.proofs.Checked.{Checked}
use Rattle.state_check.proofs.Said.{shown_said_lem, said}
use Rattle.state_check.proofs.Formed.{queue_in_lem, own_in_lem, whole_queue, mode_is, formed}

pub noted_written : (m : ℕ) (e : List ℕ) (at : ℕ) → Bytes e → at + 4 * m ≤ length e → Occurs (noted_bytes (numbers_at 4 m e at)) e at
unfolding noted_bytes numbers_at bytes_of
noted_written zero e at b h = occurs_nil e at
noted_written (suc m) e at b h =
    occurs_append _ (noted_bytes (numbers_at 4 m e (at + 4))) e at (at + 4) refl (number_occurs 4 e at refl b (omega arith)) (noted_written m e (at + 4) b (omega arith))

-- A used part y that occurs where the section begins.
used : (n q j : ℕ) (y b : List ℕ) → length y ≤ section_size n q j → Occurs y b (offset n q j) → section n q j b ≡ over y (section n q j b)
unfolding section
used n q j y b h o = sym (occurs_over (section_size n q j) y b (offset n q j) h o)

payloads_fit : (n q : ℕ) (l : List Action) → Each (ActionFits n q) l → Each (λ a. PayloadRange a.payload) l
payloads_fit n q l f = each_implied (ActionFits n q) (λ a. PayloadRange a.payload) (λ a r. record { most = r.payload.most; bytes = r.payload.bytes }) l f

-- The numbers that are written of it are those that it was read by.
module _ (c : Context) (h : State) where
  regular_numbers : Regular c h → (status_of (regular_of h) ≡ h.configuration_status) × (id_of (regular_of h) ≡ h.configuration_id) × (set_of (regular_of h) ≡ h.configuration_set)
  unfolding status_of id_of set_of
  regular_numbers (absent s i t e) = (ap status_of e ∙ sym s, ap id_of e ∙ sym i, ap set_of e ∙ sym t)
  regular_numbers (there s o e) = (ap status_of e ∙ sym s, ap id_of e, ap set_of e)

  transitional_numbers : Transitional c h → (status_of (transitional_in h) ≡ h.transitional_status) × (transitional_of (transitional_in h) ≡ h.transitional_set)
  unfolding status_of transitional_of
  transitional_numbers (absent s z e) = (ap status_of e ∙ sym s, ap transitional_of e ∙ sym z)
  transitional_numbers (there s o l e) = (ap status_of e ∙ sym s, ap transitional_of e)

module _ (c : Context) (h : State) (b : List ℕ) (k : Checked c h b) (bytes : Bytes b) (long : state_length c.servers c.quota ≤ length b)
    (small : h.configuration_id < 2 ^ 32) (number_small : h.numbered ≤ most_number_limit) (last_is : c.last ≡ last_of h.configuration_status h.configuration_set)
    (n-is : c.servers ≡ h.servers) (q-is : c.quota ≡ h.quota) (me_is : c.self ≡ h.me) where
  numbers_same : header_of (said c h b) ≡ h
  unfolding header_of last_numbers mark_numbers primary_of mark_of set_ok
  numbers_same =
      let r = regular_numbers c h (regular c h k.regular) in
      let t = transitional_numbers c h (transitional c h k.transitional) in
      let states = senders_are c.servers c.quota h.states b (place_of c the_states) (lt_holds _ _ k.senders) in
      let shown = shown_said_lem c h b in
      let actions : length (queue (shown_log (said c h b))) ≡ h.queue_length =
      ap (λ (l : Log). length (queue l)) shown ∙ ap length (whole_queue c h b k bytes long small number_small last_is) ∙ actions_count h.queue_length b (place_of c the_queue) in
      let greens : length (shown_log (said c h b)).green ≡ h.green_count =
      ap (λ (l : Log). length l.green) shown
      ∙ length-take-le h.green_count (actions_at h.queue_length b (place_of c the_queue)) (omega (arith, k.few_greens, actions_count h.queue_length b (place_of c the_queue))) in
      λ i. record {
        layout = sym k.layout i;
        servers = n-is i;
        quota = q-is i;
        me = me_is i;
        mode = (mode_is c h b k bytes long small number_small last_is).1 i;
        configuration_status = r.0 i;
        configuration_id = r.1 i;
        configuration_set = r.2 i;
        transitional_status = t.0 i;
        transitional_set = t.1 i;
        states = states i;
        cpcs = h.cpcs;
        come = h.come;
        queue_length = actions i;
        green_count = greens i;
        numbered = h.numbered;
        own_count = actions_count h.own_count b (place_of c the_own) i;
        sent = h.sent;
        attempt = h.attempt;
        last = h.last;
        mark = h.mark;
        yellow_status = h.yellow_status;
        yellow_count = ids_number h.yellow_count b (place_of c the_yellow) i;
      }

  -- ---- section by section

  header_same : Occurs (header_written h) b 0 → section c.servers c.quota the_header b ≡ header_bytes (said c h b)
  unfolding section section_size offset sections sum
  header_same kept =
      let written : header_bytes (said c h b) ≡ header_written h = sym (header_written_lem (said c h b)) ∙ ap header_written numbers_same in
      let size : length (header_written h) ≡ header_size = ap length (sym written) ∙ header_length (said c h b) in
      ap (λ (m : ℕ). part_at m b 0) (sym size) ∙ kept.part ∙ sym written

  cuts_same : section c.servers c.quota the_cuts b ≡ over (cuts_bytes (said c h b).log.cuts) (section c.servers c.quota the_cuts b)
  unfolding section_size sections place_of
  cuts_same =
      let l : List ℕ = numbers_at 2 c.servers b (place_of c the_cuts) in
      used c.servers c.quota the_cuts (cuts_bytes l) b (omega (arith, cuts_length l, numbers_length 2 c.servers b (place_of c the_cuts)))
      (cuts_written c.servers b (place_of c the_cuts) bytes (cuts_room c.servers c.quota b long))

  noted_same : section c.servers c.quota the_noted b ≡ over (noted_bytes (said c h b).noted) (section c.servers c.quota the_noted b)
  unfolding section_size sections place_of
  noted_same =
      let l : List ℕ = numbers_at 4 c.servers b (place_of c the_noted) in
      used c.servers c.quota the_noted (noted_bytes l) b (omega (arith, noted_length l, numbers_length 4 c.servers b (place_of c the_noted)))
      (noted_written c.servers b (place_of c the_noted) bytes (noted_room c.servers c.quota b long))

  states_kept : section c.servers c.quota the_states b
      ≡ states_over (state_size c.servers c.quota) (said c h b).membership.states (section c.servers c.quota the_states b)
  unfolding section section_size sections place_of
  states_kept =
      sym (states_same c (context_range c k.context) k.context b bytes h.states h.configuration_id c.servers 0 (place_of c the_states)
      (states_room c.servers c.quota b long) k.collected)

  ids_same : section c.servers c.quota the_yellow b ≡ over (ids_bytes (said c h b).votes.yellow.ids) (section c.servers c.quota the_yellow b)
  unfolding section_size sections place_of
  ids_same =
      let m : ℕ = h.yellow_count in
      used c.servers c.quota the_yellow (ids_bytes (ids_at m b (place_of c the_yellow))) b
      (omega (arith, ids_length (ids_at m b (place_of c the_yellow)), ids_number m b (place_of c the_yellow), k.few_ids))
      (ids_written m b (place_of c the_yellow) bytes (ids_room c.servers c.quota b long m k.few_ids))

  own_same : section c.servers c.quota the_own b ≡ over (action_slots (said c h b).log.own) (section c.servers c.quota the_own b)
  unfolding section_size sections place_of
  own_same =
      let l : List Action = actions_at h.own_count b (place_of c the_own) in
      let r = own_in_lem c h b k bytes long small number_small last_is in
      used c.servers c.quota the_own (action_slots l) b
      (omega (arith, action_slots_length l (payloads_fit c.servers c.quota l r.0), actions_count h.own_count b (place_of c the_own), k.few_own)) r.1

  queue_same : section c.servers c.quota the_queue b ≡ over (action_slots (queue (shown_log (said c h b)))) (section c.servers c.quota the_queue b)
  unfolding section_size sections place_of
  queue_same =
      let l : List Action = actions_at h.queue_length b (place_of c the_queue) in
      let r = queue_in_lem c h b k bytes long small number_small last_is in
      used c.servers c.quota the_queue (action_slots l) b
      (omega (arith, action_slots_length l (payloads_fit c.servers c.quota l r.0), actions_count h.queue_length b (place_of c the_queue), k.few_actions)) r.1
      ∙ ap (λ (x : List Action). over (action_slots x) (section c.servers c.quota the_queue b)) (sym (ap queue (shown_said_lem c h b) ∙ whole_queue c h b k bytes long small number_small last_is))

  pub rewritten : Occurs (header_written h) b 0 → image (said c h b) b ≡ b
  unfolding parts patched_all
  rewritten kept =
      let s = said c h b in
      let fits : SectionsFit s = well_formed_fits s (facts_well_formed s (formed c h b k bytes long small number_small last_is)) in
      image_patched s fits b long [] tt
      (same_but [] s b (λ z. header_same kept) (λ z. cuts_same) (λ z. noted_same) (λ z. states_kept) (λ z. ids_same) (λ z. own_same) (λ z. queue_same))
