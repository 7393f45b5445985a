-- The buffer after an action was entered is the image of the new state.
use Prim.Native.Nat.{ℕ, suc, ◌+◌, ◌*◌, ◌-◌, ◌≤◌, ◌<◌}
use mathlib.Core.Path.{◌≡◌, refl, sym, ap, ap₂, subst, ◌∙◌}
use mathlib.Core.Bool.{true}
use mathlib.Core.List.{List, [], ◌∷◌, map}
use native.Mathlib.Omega.{arith}
use lib.ListN.{length, take, drop}
use lib.Seq.{drop_at, take-take}
use Rattle.base.specs.Bytes.{bytes_of, number_at, part_at, over, slot}
use Rattle.base.proofs.BytesLaws.{bytes_length}
use Rattle.base.specs.Lists.{sum, above, Each}
use Rattle.base.proofs.ListLaws.{above_next}
use Rattle.base.specs.Patched.{patched}
use Rattle.base.proofs.TestLaws.{eq_yes}
use Rattle.base.proofs.Sections.{laid_part}
use Rattle.format.specs.Types.{Id, Action}
use Rattle.format.specs.Write.{cuts_bytes, ids_bytes, action_bytes}
use Rattle.replication.specs.Machine.Types.{Server, with_log}
use Rattle.replication.specs.Machine.Colours.{cut, next_index, remove, is_next, enter, places_of, unwhite}
use Rattle.replication.specs.Machine.WellFormed.{ids_in, queue, well_formed}
use Rattle.replication.proofs.Step.Logs.{next_index_lem, red_entered}
use Rattle.replication.proofs.WellFormed.Logs.{HasPlace, LogFits, own_id, red_fits}
use Rattle.image.specs.Layout.{slot_size, state_size, the_header, the_cuts, the_noted, the_states, the_yellow, the_own, the_queue, sections, offset, header_size, at_me, at_queue_length, at_own_count}
use Rattle.image.specs.Header.{shown_log}
use Rattle.image.specs.Image.{header_bytes, noted_bytes, states_over, action_slots, section, parts, image}
use Rattle.image.proofs.InRange.{in_range}
use Rattle.image.proofs.Used.{ActionFits, action_slot_length, action_slots_length}
use Rattle.image.proofs.Fit.{well_formed_fits}
use Rattle.image.specs.Holding.{Holds}
use Rattle.image.proofs.InPlace.{holds_section}
use Rattle.record.specs.declared.ActionHead.{ActionHead}
use Rattle.record.specs.Values.{id_of, action_of}
use Rattle.queue.specs.Queue.{Placed, appended, queued, popped, RoomFor}
use Rattle.base.proofs.Over.{over_front, over_take}
use Rattle.queue.proofs.Inside.{Changed, changed_at}
use Rattle.queue.proofs.SlotLaws.{slots_cons}
use Rattle.queue.proofs.Holding.{log_formed, log_fits, holds_changed, log_image}
use Rattle.queue.proofs.EnterLaws.{one_more_lem, header_entered, header_left, queue_entered, cuts_entered, others_stay, first_leaves}
use Rattle.image.specs.Counts.{place}
use Rattle.image.proofs.Counts.{numbers, holds_counts, holds_place}

own_here : (s : Server) (b : List ℕ) → Holds s b
    → section s.servers s.quota the_own b ≡ over (action_slots s.log.own) (section s.servers s.quota the_own b)
unfolding parts
own_here s b r = holds_section s b r the_own (omega arith)

heads : {A : Type 0} {x y : A} {xs ys : List A} → x ∷ xs ≡ y ∷ ys → x ≡ y
heads e = cc

nothing_leaves : (d : Id) → remove d [] ≡ []
unfolding remove
nothing_leaves d = refl

pub has_place : (s : Server) (a : Action) → Placed s a → HasPlace s.quota s.white a s.log
unfolding is_next next_index unwhite places_of queue
has_place s a d e = d.room (eq_yes _ _ e)

module _ (s : Server) (a : Action) (b : List ℕ) (r : Holds s b) (d : Placed s a) (next : is_next s.log a ≡ true) where
  entered_fits : LogFits s.servers s.quota s.me s.white (enter a s.log)
  entered_fits =
      subst (LogFits s.servers s.quota s.me s.white) (red_entered a s.log next)
      (red_fits s.servers s.quota s.me s.white a s.log (log_fits s r.formed) d.delivered.fits d.delivered.own (has_place s a d))

  pub entered_formed : well_formed (with_log (enter a s.log) s) ≡ true
  unfolding enter
  entered_formed = log_formed s (enter a s.log) r.formed entered_fits

  entered_room : length (queue (shown_log s)) + 1 ≤ s.servers * s.quota
  unfolding enter
  entered_room =
      let more : length (queue (shown_log (with_log (enter a s.log) s))) ≡ length (queue (shown_log s)) + 1 = one_more_lem a (shown_log s) in
      omega (arith, (in_range (with_log (enter a s.log) s) entered_formed).queue_count)

  pub room_for : RoomFor a.id.creator (length a.payload) b
  room_for =
      let m = numbers s b r in
      record {
        counts = holds_counts s b r;
        creator = rw m.servers d.delivered.fits.creator;
        short = d.delivered.fits.payload.most;
        room = rw (m.servers, m.quota, m.queue) (omega (arith, entered_room));
      }

  -- ---- the bytes

  abbrev slotted : List ℕ
  slotted = patched (offset s.servers s.quota the_queue + slot_size * length (queue (shown_log s))) (slot slot_size (action_bytes a)) b

  abbrev counted : List ℕ
  counted = patched at_queue_length (bytes_of 4 (length (queue (shown_log s)) + 1)) slotted

  all_but_own : queued a b ≡ patched (header_size + 2 * a.id.creator) (bytes_of 2 a.id.index) counted
  unfolding queued appended
  all_but_own =
      let m = numbers s b r in
      λ i.
      patched (header_size + 2 * a.id.creator) (bytes_of 2 a.id.index)
      (patched at_queue_length (bytes_of 4 (m.queue i + 1))
      (patched (holds_place s b r the_queue i + slot_size * m.queue i) (slot slot_size (action_bytes a)) b))

  queued_changed : Changed (sections s.servers s.quota)
      (patched at_queue_length (bytes_of 4 (length (queue (shown_log s)) + 1)) (header_bytes s)
      ∷ patched (2 * a.id.creator) (bytes_of 2 a.id.index) (over (cuts_bytes s.log.cuts) (section s.servers s.quota the_cuts b))
      ∷ over (noted_bytes s.noted) (section s.servers s.quota the_noted b)
      ∷ states_over (state_size s.servers s.quota) s.membership.states (section s.servers s.quota the_states b)
      ∷ over (ids_bytes s.votes.yellow.ids) (section s.servers s.quota the_yellow b)
      ∷ over (action_slots s.log.own) (section s.servers s.quota the_own b)
      ∷ patched (slot_size * length (queue (shown_log s))) (slot slot_size (action_bytes a)) (over (action_slots (queue (shown_log s))) (section s.servers s.quota the_queue b))
      ∷ [])
      b (queued a b)
  unfolding parts sections offset sum
  queued_changed =
      let ws : List ℕ = sections s.servers s.quota in
      let size : length (slot slot_size (action_bytes a)) ≡ slot_size = action_slot_length a (record { most = d.delivered.fits.payload.most; bytes = d.delivered.fits.payload.bytes }) in
      let c₁ = changed_at ws _ b b (holds_changed s b r) the_queue (slot_size * length (queue (shown_log s))) _ (slot slot_size (action_bytes a)) refl (omega arith) (omega (arith, entered_room)) in
      let c₂ = changed_at ws _ b slotted c₁ the_header at_queue_length at_queue_length (bytes_of 4 (length (queue (shown_log s)) + 1)) refl (omega arith) (omega (arith, bytes_length 4 (length (queue (shown_log s)) + 1))) in
      let c₃ = changed_at ws _ b counted c₂ the_cuts (2 * a.id.creator) (header_size + 2 * a.id.creator) (bytes_of 2 a.id.index) refl (omega arith) (omega (arith, bytes_length 2 a.id.index, d.delivered.fits.creator)) in
      rw all_but_own c₃

  cuts_room : a.id.creator < length s.log.cuts
  cuts_room = omega (arith, (log_fits s r.formed).shows.ranges.cuts_length, d.delivered.fits.creator)

  -- The own list stays.
  entered_other : remove a.id s.log.own ≡ s.log.own → queued a b ≡ image (with_log (enter a s.log) s) b
  unfolding enter
  entered_other e =
      log_image s (enter a s.log) b (queued a b) _ _ _ _ queued_changed (header_entered s a (ap length e)) (cuts_entered a s.log _ cuts_room)
      (ap (λ (l : List Action). over (action_slots l) (section s.servers s.quota the_own b)) (sym e))
      (queue_entered a (shown_log s) _ _ (well_formed_fits s r.formed).actions refl)

  -- The own list's part of the buffer.
  own_part_lem : part_at (slot_size * length s.log.own) (queued a b) (offset s.servers s.quota the_own) ≡ action_slots s.log.own
  unfolding part_at offset sections sum
  own_part_lem =
      let f = well_formed_fits s r.formed in
      let y : List ℕ = action_slots s.log.own in
      let size : length y ≡ slot_size * length s.log.own = action_slots_length s.log.own f.own in
      let whole = laid_part (sections s.servers s.quota) _ (queued a b) queued_changed.laid the_own (omega arith) in
      sym (take-take (slot_size * length s.log.own) (slot_size * s.quota) _ (omega (arith, f.own_count_of)))
      ∙ ap (take (slot_size * length s.log.own)) whole
      ∙ over_take y _ (slot_size * length s.log.own) size

  -- Its first action leaves it.
  entered_own : (x : Action) (rest : List Action) → s.log.own ≡ x ∷ rest → remove a.id s.log.own ≡ rest
      → popped (offset s.servers s.quota the_own) (length s.log.own) (queued a b) ≡ image (with_log (enter a s.log) s) b
  unfolding popped enter sections offset sum
  entered_own x rest e g =
      let f = well_formed_fits s r.formed in
      let ws : List ℕ = sections s.servers s.quota in
      let m : ℕ = length s.log.own in
      let at : ℕ = offset s.servers s.quota the_own in
      let z : List ℕ = drop slot_size (part_at (slot_size * m) (queued a b) at) in
      let fits : Each ActionFits (x ∷ rest) = subst (λ (l : List Action). Each ActionFits l) e f.own in
      let left : z ≡ action_slots rest = ap (drop slot_size) (own_part_lem ∙ ap action_slots e ∙ slots_cons x rest) ∙ drop_at (slot slot_size (action_bytes x)) (action_slots rest) slot_size (action_slot_length x fits.0) in
      let less : suc (length rest) ≡ m = ap length (sym e) in
      let short : length z ≡ slot_size * length rest = ap length left ∙ action_slots_length rest fits.1 in
      let c₁ = changed_at ws _ b (queued a b) queued_changed the_own 0 at z (omega arith) (omega arith) (omega (arith, f.own_count_of)) in
      let c₂ = changed_at ws _ b (patched at z (queued a b)) c₁ the_header at_own_count at_own_count (bytes_of 2 (m - 1)) refl (omega arith) (omega (arith, bytes_length 2 (m - 1))) in
      let over_own : over (action_slots s.log.own) (section s.servers s.quota the_own b) ≡ section s.servers s.quota the_own b = sym (own_here s b r) in
      log_image s (enter a s.log) b _ _ _ _ _ c₂ (header_left s a (m - 1) (omega (arith, ap length g))) (cuts_entered a s.log _ cuts_room)
      (ap₂ {A = List ℕ} {B = List ℕ} {C = List ℕ} (λ u v. patched 0 u v) (left ∙ ap action_slots (sym g)) over_own
      ∙ over_front (action_slots (remove a.id s.log.own)) (section s.servers s.quota the_own b))
      (queue_entered a (shown_log s) _ _ f.actions refl)

  -- The first of the own list is this action, if it is an own one.
  first_own : (x : Action) (rest : List Action) → s.log.own ≡ x ∷ rest → a.id.creator ≡ s.me → x.id ≡ a.id
  unfolding ids_in cut
  first_own x rest e c =
      let f = log_fits s r.formed in
      let k : cut s.log s.me + 1 ≡ a.id.index = omega (arith, ap (cut s.log) c, next_index_lem s.log a next) in
      let ids : ids_in (x ∷ rest) ≡ own_id s.me (cut s.log s.me + 1) ∷ map (own_id s.me) (above (cut s.log s.me + 1) s.log.numbered) =
      ap ids_in (sym e)
      ∙ f.shows.own_list.ids
      ∙ ap (map (own_id s.me)) (above_next (cut s.log s.me) s.log.numbered (omega (arith, d.delivered.own c))) in
      let first : x.id ≡ own_id s.me (cut s.log s.me + 1) = heads ids in
      first ∙ (λ i. record { creator = sym c i; index = k i })

-- ---- as the code makes it

module _ (h : ActionHead) (p b : List ℕ) where
  pub enter_other : (me : ℕ) (c : List ℕ) → me ≡ number_at 1 b at_me → (h.creator ≡ me → ⊥) → c ≡ queued (action_of h p) b
      → (s : Server) → Holds s b → Placed s (action_of h p) → is_next s.log (action_of h p) ≡ true → c ≡ image (with_log (enter (action_of h p) s.log) s) b
  unfolding action_of id_of
  enter_other me c e n f s r d next =
      f ∙ entered_other s (action_of h p) b r d next
      (others_stay s.me (action_of h p) (shown_log s) (log_fits s r.formed).shows.own_list (λ g. n (g ∙ sym (numbers s b r).me ∙ sym e)))

  pub enter_none : (own : ℕ) (c : List ℕ) → own ≡ number_at 2 b at_own_count → own ≤ 0 → c ≡ queued (action_of h p) b
      → (s : Server) → Holds s b → Placed s (action_of h p) → is_next s.log (action_of h p) ≡ true → c ≡ image (with_log (enter (action_of h p) s.log) s) b
  enter_none own c e n f s r d next = f ∙ go s.log.own refl
    where
      go : (l : List Action) → s.log.own ≡ l → queued (action_of h p) b ≡ image (with_log (enter (action_of h p) s.log) s) b
      go [] g = entered_other s (action_of h p) b r d next (ap (remove (action_of h p).id) g ∙ nothing_leaves (action_of h p).id ∙ sym g)
      go (x ∷ rest) g = absurd (omega (arith, (numbers s b r).own, ap length g))

  pub enter_own : (me own at : ℕ) (c₁ c₂ : List ℕ) → me ≡ number_at 1 b at_me → own ≡ number_at 2 b at_own_count → at ≡ place the_own b → (h.creator ≡ me) → 0 < own
      → c₁ ≡ queued (action_of h p) b → c₂ ≡ popped at own c₁
      → (s : Server) → Holds s b → Placed s (action_of h p) → is_next s.log (action_of h p) ≡ true → c₂ ≡ image (with_log (enter (action_of h p) s.log) s) b
  unfolding action_of id_of
  enter_own me own at c₁ c₂ e o k m n f g s r d next = go s.log.own refl
    where
      go : (l : List Action) → s.log.own ≡ l → c₂ ≡ image (with_log (enter (action_of h p) s.log) s) b
      go [] q = absurd (omega (arith, o, (numbers s b r).own, ap length q))
      go (x ∷ rest) q =
          let i = numbers s b r in
          let first : x.id ≡ (action_of h p).id = first_own s (action_of h p) b r d next x rest q (m ∙ e ∙ i.me) in
          g
          ∙ ap (popped at own) f
          ∙ (λ j. popped ((k ∙ holds_place s b r the_own) j) ((o ∙ i.own) j) (queued (action_of h p) b))
          ∙ entered_own s (action_of h p) b r d next x rest q (ap (remove (action_of h p).id) q ∙ first_leaves (action_of h p).id x rest first)
