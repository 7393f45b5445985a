-- The buffer after actions turned white is the image of the new state.
use Prim.Native.Nat.{ℕ, ◌+◌, ◌*◌, ◌-◌, ◌≤◌, ◌<◌, max, min}
use mathlib.Core.Path.{◌≡◌, refl, sym, ap, ap₂, subst, ◌∙◌}
use mathlib.Core.List.{List, ◌++◌}
use native.Mathlib.Omega.{arith}
use lib.ListN.{length, take, drop, length-append, length-drop, take-append-drop}
use lib.Seq.{drop_at, drop-drop, drop-append-le, length-take-le}
use Rattle.base.specs.Bytes.{bytes_of, number_at, part_at, over}
use Rattle.base.proofs.BytesLaws.{bytes_length}
use Rattle.base.specs.Lists.{sum, Each}
use Rattle.base.proofs.ListLaws.{each_first}
use Rattle.base.proofs.Over.{over_front}
use Rattle.base.specs.Patched.{patched}
use Rattle.format.specs.Types.{Action}
use Rattle.replication.specs.Machine.Types.{Server, with_white}
use Rattle.replication.specs.Machine.Colours.{cut, next_index, is_next, places_of, unwhite}
use Rattle.replication.specs.Machine.WellFormed.{queue}
use Rattle.replication.proofs.WellFormed.Facts.{well_formed_facts}
use Rattle.replication.proofs.WellFormed.Stages.{raise_formed}
use Rattle.image.specs.Layout.{slot_size, the_header, the_queue, sections, offset, at_queue_length, at_green_count}
use Rattle.image.specs.Header.{shown_log}
use Rattle.image.specs.Image.{header_bytes, action_slots, section, parts, image}
use Rattle.image.specs.Holding.{Holds, blanked, Computes}
use Rattle.image.specs.Counts.{place}
use Rattle.image.proofs.Blanks.{behind_blanks}
use Rattle.image.proofs.Counts.{numbers, holds_place}
use Rattle.image.proofs.Fields.{opened_header}
use Rattle.image.proofs.Fit.{well_formed_fits}
use Rattle.image.proofs.InPlace.{holds_section}
use Rattle.image.proofs.Taken.{image_held}
use Rattle.image.proofs.Used.{ActionFits, action_slots_length, slots_append}
use Rattle.queue.specs.Queue.{Placed, shifted}
use Rattle.queue.proofs.Inside.{changed_at}
use Rattle.queue.proofs.Holding.{holds_changed, places_image}
use Rattle.queue.proofs.ReadLaws.{slots_there}

-- The slots behind the first k.
slots_drop : (k : ℕ) (l : List Action) → k ≤ length l → Each ActionFits l → drop (slot_size * k) (action_slots l) ≡ action_slots (drop k l)
slots_drop k l h f =
    let two : Each ActionFits (take k l ++ drop k l) = subst (Each ActionFits) (sym (take-append-drop k l)) f in
    let size : length (action_slots (take k l)) ≡ slot_size * k =
    action_slots_length (take k l) (each_first ActionFits (take k l) (drop k l) two) ∙ ap (λ (m : ℕ). slot_size * m) (length-take-le k l h) in
    ap (λ (m : List Action). drop (slot_size * k) (action_slots m)) (sym (take-append-drop k l))
    ∙ ap (drop (slot_size * k)) (slots_append (take k l) (drop k l))
    ∙ drop_at (action_slots (take k l)) (action_slots (drop k l)) (slot_size * k) size

-- ---- from s, k more of whose actions turn white

module _ (s : Server) (b : List ℕ) (r : Holds s b) (k : ℕ) (few : k ≤ length (shown_log s).green) where
  abbrev t : Server
  t = with_white (s.white + k) s

  queue_left_lem : drop k (queue (shown_log s)) ≡ queue (shown_log t)
  unfolding queue
  queue_left_lem =
      drop-append-le k (shown_log s).green s.log.red few
      ∙ ap (λ (l : List Action). l ++ s.log.red) (drop-drop k s.white s.log.green)

  green_left : length (shown_log s).green - k ≡ length (shown_log t).green
  green_left = omega (arith, length-drop s.white s.log.green, length-drop (s.white + k) s.log.green)

  in_queue : k ≤ length (queue (shown_log s))
  unfolding queue
  in_queue = omega (arith, length-append (shown_log s).green s.log.red)

  count_left : length (queue (shown_log s)) - k ≡ length (queue (shown_log t))
  count_left = sym (length-drop k (queue (shown_log s))) ∙ ap length queue_left_lem

  header_shifted : patched at_green_count (bytes_of 4 (length (shown_log s).green - k)) (patched at_queue_length (bytes_of 4 (length (queue (shown_log s)) - k)) (header_bytes s))
      ≡ header_bytes t
  unfolding opened_header
  header_shifted =
      ap₂ {A = ℕ} {B = ℕ} {C = List ℕ} (λ i j. patched at_green_count (bytes_of 4 i) (patched at_queue_length (bytes_of 4 j) (header_bytes s))) green_left count_left

  abbrev left : List ℕ
  left = drop (slot_size * k) (part_at (slot_size * length (queue (shown_log s))) b (offset s.servers s.quota the_queue))

  slots_left : left ≡ action_slots (queue (shown_log t))
  slots_left =
      let f = (well_formed_fits s r.formed).actions in
      let y : List ℕ = action_slots (queue (shown_log s)) in
      ap (drop (slot_size * k))
      ((λ i. part_at (sym (action_slots_length (queue (shown_log s)) f) i) b (sym (holds_place s b r the_queue) i)) ∙ (slots_there s b r).part)
      ∙ slots_drop k (queue (shown_log s)) in_queue f
      ∙ ap action_slots queue_left_lem

  queue_here : over (action_slots (queue (shown_log s))) (section s.servers s.quota the_queue b) ≡ section s.servers s.quota the_queue b
  unfolding parts
  queue_here = sym (holds_section s b r the_queue (omega arith))

  queue_shifted : patched 0 left (over (action_slots (queue (shown_log s))) (section s.servers s.quota the_queue b))
      ≡ over (action_slots (queue (shown_log t))) (section s.servers s.quota the_queue b)
  queue_shifted =
      ap₂ {A = List ℕ} {B = List ℕ} {C = List ℕ} (λ u v. patched 0 u v) slots_left queue_here
      ∙ over_front (action_slots (queue (shown_log t))) (section s.servers s.quota the_queue b)

  left_size : length left ≤ slot_size * (s.servers * s.quota)
  left_size =
      let f = well_formed_fits s r.formed in
      omega (
        arith,
        ap length (sym (slots_drop k (queue (shown_log s)) in_queue f.actions)),
        ap length slots_left,
        ap (λ (l : List Action). length (action_slots l)) queue_left_lem,
        length-drop (slot_size * k) (action_slots (queue (shown_log s))),
        action_slots_length (queue (shown_log s)) f.actions,
        f.queue_count,
      )

  shifted_image : patched at_green_count (bytes_of 4 (length (shown_log s).green - k)) (shifted (offset s.servers s.quota the_queue) (length (queue (shown_log s))) k b)
      ≡ image t b
  unfolding shifted parts sections offset sum
  shifted_image =
      let ws : List ℕ = sections s.servers s.quota in
      let at : ℕ = offset s.servers s.quota the_queue in
      let m : ℕ = length (queue (shown_log s)) - k in
      let g : ℕ = length (shown_log s).green - k in
      let c₁ = changed_at ws _ b b (holds_changed s b r) the_queue 0 at left (omega arith) (omega arith) (omega (arith, left_size)) in
      let c₂ = changed_at ws _ b (patched at left b) c₁ the_header at_queue_length at_queue_length (bytes_of 4 m) refl (omega arith) (omega (arith, bytes_length 4 m)) in
      let c₃ = changed_at ws _ b (patched at_queue_length (bytes_of 4 m) (patched at left b)) c₂ the_header at_green_count at_green_count (bytes_of 4 g) refl (omega arith) (omega (arith, bytes_length 4 g)) in
      places_image s s.log (s.white + k) b _ _ _ _ _ c₃ header_shifted refl refl queue_shifted

-- ---- as the code makes it

pub shift_made : (b c e : List ℕ) (count green at k : ℕ) → count ≡ number_at 4 b at_queue_length → green ≡ number_at 4 b at_green_count → at ≡ place the_queue b
    → k ≤ number_at 4 b at_green_count → c ≡ shifted at count k b → e ≡ patched at_green_count (bytes_of 4 (green - k)) c
    → (s : Server) → Holds s b → e ≡ image (with_white (s.white + k) s) b
shift_made b c e count green at k f g h few i j s r =
    let n = numbers s b r in
    let there : at ≡ offset s.servers s.quota the_queue = h ∙ holds_place s b r the_queue in
    let all : count ≡ length (queue (shown_log s)) = f ∙ n.queue in
    let greens : green ≡ length (shown_log s).green = g ∙ n.green in
    j
    ∙ ap (patched at_green_count (bytes_of 4 (green - k))) i
    ∙ (λ x. patched at_green_count (bytes_of 4 (greens x - k)) (shifted (there x) (all x) k b))
    ∙ shifted_image s b r k (omega (arith, n.green))

module _ (b : List ℕ) (white to : ℕ) (e : Computes (λ s. s.white) b white) where
  -- As many turn white as are missing, if so many are green.
  pub raise_least : (green m : ℕ) → green ≡ number_at 4 b at_green_count → white < to → m ≡ min green (to - white) → (c : List ℕ)
      → ((s : Server) → Holds s b → c ≡ image (with_white (s.white + m) s) b) → (s : Server) → Holds s b → c ≡ image (with_white (max s.white (min (length s.log.green) to)) s) b
  raise_least green m g h k c f s r =
      let low = (well_formed_facts s r.formed).white in
      let same : s.white + m ≡ max s.white (min (length s.log.green) to) =
      omega (arith, e s r, (numbers s b r).green, length-drop s.white s.log.green) in
      f s r ∙ ap (λ (w : ℕ). image (with_white w s) b) same

-- ---- for a caller

-- What the buffer holds afterwards.
pub raised_holds : (s : Server) (b c : List ℕ) (w : ℕ) → Holds s b → s.white ≤ w → w ≤ length s.log.green → c ≡ image (with_white w s) b
    → Holds (blanked (with_white w s)) c
raised_holds s b c w r h low e =
    subst (Holds (blanked (with_white w s))) (sym e) (image_held (with_white w s) b (raise_formed s (well_formed_facts s r.formed) w h low) r.long)

pub shift_holds : (s : Server) (b c : List ℕ) (k : ℕ) → Holds s b → k ≤ number_at 4 b at_green_count → c ≡ image (with_white (s.white + k) s) b
    → Holds (blanked (with_white (s.white + k) s)) c
shift_holds s b c k r few e =
    let low = (well_formed_facts s r.formed).white in
    raised_holds s b c (s.white + k) r (omega arith) (omega (arith, (numbers s b r).green, length-drop s.white s.log.green)) e

pub raise_holds : (s : Server) (b c : List ℕ) (to : ℕ) → Holds s b → c ≡ image (with_white (max s.white (min (length s.log.green) to)) s) b
    → Holds (blanked (with_white (max s.white (min (length s.log.green) to)) s)) c
raise_holds s b c to r e =
    let low = (well_formed_facts s r.formed).white in
    raised_holds s b c (max s.white (min (length s.log.green) to)) r (omega arith) (omega arith) e

-- An action that has a place has one in the buffer's state too.
pub placed_blanked : (s : Server) (a : Action) → Placed s a → Placed (blanked s) a
unfolding blanked is_next next_index cut unwhite places_of
placed_blanked s a p = record {
  delivered = record { fits = p.delivered.fits; own = p.delivered.own };
  room = λ e. rw (behind_blanks s.white (drop s.white s.log.green)) (p.room e);
}
