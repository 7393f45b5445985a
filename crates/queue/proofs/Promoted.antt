-- The buffer after an action turned green is the image of the new state.
use Prim.Native.Nat.{ℕ, ◌+◌, ◌*◌, ◌-◌, ◌≤◌, ◌<◌}
use mathlib.Core.Path.{◌≡◌, refl, sym, ap, ap₂, subst, ◌∙◌}
use mathlib.Core.List.{List, [], ◌∷◌, ◌++◌, append_assoc}
use mathlib.Core.Option.{Option, none}
use native.Mathlib.Omega.{arith}
use lib.ListN.{length, drop, length-append}
use lib.Seq.{take_at, drop_at, drop-append-le}
use Rattle.base.specs.Bytes.{bytes_of, number_at, part_at, over, slot}
use Rattle.base.proofs.BytesLaws.{bytes_length}
use Rattle.base.specs.Lists.{sum, Each}
use Rattle.base.proofs.ListLaws.{each_first, each_second}
use Rattle.base.proofs.Occurs.{Occurs, occurs_first, occurs_second}
use Rattle.base.specs.Patched.{patched}
use Rattle.format.specs.Types.{Id, Action}
use Rattle.format.specs.Write.{action_bytes}
use Rattle.replication.specs.Machine.Types.{Log, Server, with_log}
use Rattle.replication.specs.Machine.Colours.{find, remove, promote, promote_found, green_id, shown}
use Rattle.replication.specs.Machine.WellFormed.{queue}
use Rattle.replication.proofs.WellFormed.Facts.{well_formed_facts}
use Rattle.image.specs.Layout.{slot_size, the_header, the_queue, sections, offset, at_queue_length, at_green_count}
use Rattle.image.specs.Header.{shown_log}
use Rattle.image.specs.Image.{header_bytes, action_slots, section, parts, image}
use Rattle.image.specs.Decode.{actions_at, decoded_as, decoded}
use Rattle.image.proofs.InRange.{in_range}
use Rattle.image.proofs.Used.{ActionFits, action_slot_length, action_slots_length, slots_append}
use Rattle.image.proofs.Fit.{well_formed_fits}
use Rattle.image.proofs.Slots.{actions_count}
use Rattle.image.proofs.Decoded.{image_part}
use Rattle.image.specs.Holding.{Holds}
use Rattle.image.proofs.InPlace.{holds_decoded}
use Rattle.std.specs.Prelude as code
use Rattle.std.specs.Prelude.{Some, None}
use Rattle.queue.specs.Queue.{position, first_with, reds_in, promoted, SlotIn}
use Rattle.queue.proofs.FindLaws.{some_found, none_found}
use Rattle.base.proofs.Over.{over_changed, used_part}
use Rattle.queue.proofs.Inside.{changed_at}
use Rattle.image.proofs.Fields.{opened_header}
use Rattle.queue.proofs.SlotLaws.{slots_one, slots_cons}
use Rattle.queue.proofs.Positions.{Stands, position_found, position_none, actions_drop}
use Rattle.queue.proofs.Holding.{holds_changed, log_image}
use Rattle.image.specs.Counts.{place, CountsIn}
use Rattle.image.proofs.Counts.{numbers, holds_counts, holds_place}

-- ---- lists

pub patched_middle : (g y z v : List ℕ) → length y ≡ length z → patched (length g) y (g ++ (z ++ v)) ≡ g ++ (y ++ v)
unfolding patched
patched_middle g y z v e =
    let m : length (g ++ z) ≡ length g + length y = length-append g z ∙ omega arith in
    ap₂ {A = List ℕ} {B = List ℕ} {C = List ℕ} (λ u w. u ++ (y ++ w)) (take_at g (z ++ v) (length g) refl)
    (ap (drop (length g + length y)) (sym (append_assoc g z v)) ∙ drop_at (g ++ z) v (length g + length y) m)

-- ---- the header

-- Turning green and showing.
pub shown_promote : (w : ℕ) (x : Action) (l : Log) → w ≤ length l.green → promote x (shown w l) ≡ shown w (promote x l)
unfolding promote
shown_promote w x l h = λ i. record {
  green = sym (drop-append-le w l.green (x ∷ []) h) i;
  red = remove x.id l.red;
  cuts = l.cuts;
  own = l.own;
  numbered = l.numbered;
  sent = l.sent;
}

header_promoted : (s : Server) (x : Action) → s.white ≤ length s.log.green → length (queue (promote x (shown_log s))) ≡ length (queue (shown_log s))
    → patched at_green_count (bytes_of 4 (length (shown_log s).green + 1)) (header_bytes s) ≡ header_bytes (with_log (promote x s.log) s)
unfolding promote opened_header
header_promoted s x h e =
    let same = shown_promote s.white x s.log h in
    ap₂ {A = ℕ} {B = ℕ} {C = List ℕ} (λ i j. patched at_green_count (bytes_of 4 i) (patched at_queue_length (bytes_of 4 j) (header_bytes s)))
    (sym (length-append (shown_log s).green (x ∷ [])) ∙ ap (λ (l : Log). length l.green) same) (sym e ∙ ap (λ (l : Log). length (queue l)) same)

-- ---- the queue's section

module _ (s : Server) (b : List ℕ) (r : Holds s b) (d : Id) (k : ℕ) (k-th : Stands d s.log.red k) where
  abbrev greens : List ℕ
  greens = action_slots (shown_log s).green

  abbrev before : List ℕ
  before = action_slots k-th.before

  abbrev it : List ℕ
  it = slot slot_size (action_bytes k-th.it)

  abbrev behind : List ℕ
  behind = action_slots k-th.behind

  queue_slots : action_slots (queue (shown_log s)) ≡ greens ++ (before ++ (it ++ behind))
  unfolding queue
  queue_slots =
      slots_append (shown_log s).green s.log.red
      ∙ ap (λ (l : List ℕ). greens ++ l) (ap action_slots k-th.whole ∙ slots_append k-th.before (k-th.it ∷ k-th.behind) ∙ ap (λ (l : List ℕ). before ++ l) (slots_cons k-th.it k-th.behind))

  queue_slots_after : greens ++ ((it ++ before) ++ behind) ≡ action_slots (queue (promote k-th.it (shown_log s)))
  unfolding queue promote
  queue_slots_after =
      let rest : remove k-th.it.id s.log.red ≡ k-th.before ++ k-th.behind = ap (λ (e : Id). remove e s.log.red) (sym k-th.named) ∙ k-th.left in
      sym
      (slots_append ((shown_log s).green ++ (k-th.it ∷ [])) (remove k-th.it.id s.log.red)
      ∙ ap₂ {A = List ℕ} {B = List ℕ} {C = List ℕ} (λ g l. g ++ l) (slots_append (shown_log s).green (k-th.it ∷ []) ∙ ap (λ (l : List ℕ). greens ++ l) (slots_one k-th.it))
      (ap action_slots rest ∙ slots_append k-th.before k-th.behind)
      ∙ append_assoc greens it (before ++ behind)
      ∙ ap (λ (l : List ℕ). greens ++ l) (sym (append_assoc it before behind)))

  red_fits : Each ActionFits (k-th.before ++ (k-th.it ∷ k-th.behind))
  unfolding queue
  red_fits = subst (λ (l : List Action). Each ActionFits l) k-th.whole (each_second ActionFits (shown_log s).green s.log.red (well_formed_fits s r.formed).actions)

  green_size : length greens ≡ slot_size * length (shown_log s).green
  unfolding queue
  green_size = action_slots_length (shown_log s).green (each_first ActionFits (shown_log s).green s.log.red (well_formed_fits s r.formed).actions)

  before_size : length before ≡ slot_size * k
  before_size = action_slots_length k-th.before (each_first ActionFits k-th.before (k-th.it ∷ k-th.behind) red_fits) ∙ ap (λ (m : ℕ). slot_size * m) k-th.count

  it_size : length it ≡ slot_size
  it_size = action_slot_length k-th.it (each_second ActionFits k-th.before (k-th.it ∷ k-th.behind) red_fits).0

  same_count : length (queue (promote k-th.it (shown_log s))) ≡ length (queue (shown_log s))
  unfolding queue promote
  same_count =
      let rest : remove k-th.it.id s.log.red ≡ k-th.before ++ k-th.behind = ap (λ (e : Id). remove e s.log.red) (sym k-th.named) ∙ k-th.left in
      length-append ((shown_log s).green ++ (k-th.it ∷ [])) (remove k-th.it.id s.log.red)
      ∙ omega (
        arith,
        length-append (shown_log s).green (k-th.it ∷ []),
        ap length rest,
        length-append k-th.before k-th.behind,
        length-append (shown_log s).green s.log.red,
        ap length k-th.whole,
        length-append k-th.before (k-th.it ∷ k-th.behind),
      )

  -- The slots in the buffer.
  queue_occurs : Occurs (greens ++ (before ++ (it ++ behind))) b (offset s.servers s.quota the_queue)
  unfolding parts
  queue_occurs =
      let at : ℕ = offset s.servers s.quota the_queue in
      let there = subst (λ (c : List ℕ). Occurs (over (action_slots (queue (shown_log s))) (section s.servers s.quota the_queue b)) c at) r.written (image_part s (well_formed_fits s r.formed) b r.long the_queue (omega arith)) in
      subst (λ (y : List ℕ). Occurs y b at) queue_slots (used_part (action_slots (queue (shown_log s))) _ b at there)

  abbrev green_end : ℕ
  green_end = offset s.servers s.quota the_queue + slot_size * length (shown_log s).green

  reds_occur : Occurs (before ++ (it ++ behind)) b green_end
  reds_occur = occurs_second greens (before ++ (it ++ behind)) b (offset s.servers s.quota the_queue) green_end (omega (arith, green_size)) queue_occurs

  before_part : part_at (slot_size * k) b green_end ≡ before
  before_part = ap (λ (m : ℕ). part_at m b green_end) (sym before_size) ∙ (occurs_first before (it ++ behind) b green_end reds_occur).part

  it_part : part_at slot_size b (green_end + slot_size * k) ≡ it
  it_part =
      let o = occurs_second before (it ++ behind) b green_end (green_end + slot_size * k) (omega (arith, before_size)) reds_occur in
      ap (λ (m : ℕ). part_at m b (green_end + slot_size * k)) (sym it_size) ∙ (occurs_first it behind b (green_end + slot_size * k) o).part

  moved_size : length (it ++ before) ≡ slot_size + slot_size * k
  moved_size = length-append it before ∙ omega (arith, it_size, before_size)

  moved_room : length (shown_log s).green + (k + 1) ≤ length (queue (shown_log s))
  unfolding queue
  moved_room =
      omega (
        arith,
        length-append (shown_log s).green s.log.red,
        ap length k-th.whole,
        length-append k-th.before (k-th.it ∷ k-th.behind),
        k-th.count,
      )

  queue_promoted : (l : List ℕ)
      → patched (slot_size * length (shown_log s).green) (it ++ before) (over (action_slots (queue (shown_log s))) l) ≡ over (action_slots (queue (promote k-th.it (shown_log s)))) l
  queue_promoted l =
      let f = well_formed_fits s r.formed in
      over_changed (action_slots (queue (shown_log s))) (it ++ before) l (slot_size * length (shown_log s).green)
      (omega (arith, moved_size, moved_room, action_slots_length (queue (shown_log s)) f.actions))
      ∙ ap (λ (y : List ℕ). over y l)
      (ap₂ {A = ℕ} {B = List ℕ} {C = List ℕ} (λ m y. patched m (it ++ before) y) (sym green_size) (queue_slots ∙ ap (λ (y : List ℕ). greens ++ y) (sym (append_assoc before it behind)))
      ∙ patched_middle greens (it ++ before) (before ++ it) behind (length-append it before ∙ omega (arith, length-append before it))
      ∙ queue_slots_after)

  pub promoted_image : promoted green_end k (length (shown_log s).green + 1) b ≡ image (with_log (promote k-th.it s.log) s) b
  unfolding promoted promote parts sections offset sum
  promoted_image =
      let ws : List ℕ = sections s.servers s.quota in
      let y : List ℕ = it ++ before in
      let room : length (queue (shown_log s)) ≤ s.servers * s.quota = (in_range s r.formed).queue_count in
      let low : s.white ≤ length s.log.green = (well_formed_facts s r.formed).white in
      let c₁ = changed_at ws _ b b (holds_changed s b r) the_queue (slot_size * length (shown_log s).green) green_end y refl (omega arith) (omega (arith, moved_size, moved_room)) in
      let c₂ = changed_at ws _ b (patched green_end y b) c₁ the_header at_green_count at_green_count (bytes_of 4 (length (shown_log s).green + 1)) refl (omega arith) (omega (arith, bytes_length 4 (length (shown_log s).green + 1))) in
      ap₂ {A = List ℕ} {B = List ℕ} {C = List ℕ} (λ u v. patched at_green_count (bytes_of 4 (length (shown_log s).green + 1)) (patched green_end (u ++ v) b)) it_part before_part
      ∙ log_image s (promote k-th.it s.log) b _ _ _ _ _ c₂ (header_promoted s k-th.it low same_count) refl refl
      (queue_promoted (section s.servers s.quota the_queue b)
      ∙ ap (λ (l : Log). over (action_slots (queue l)) (section s.servers s.quota the_queue b)) (shown_promote s.white k-th.it s.log low))

-- ---- as the code makes it

pub reds_made : (b : List ℕ) (d : Id) (count green at : ℕ) (k : code.Option ℕ) → count ≡ number_at 4 b at_queue_length - number_at 4 b at_green_count → green ≡ number_at 4 b at_green_count → at ≡ place the_queue b
    → k ≡ first_with d (actions_at count b (at + slot_size * green)) → k ≡ first_with d (reds_in b)
unfolding reds_in
reds_made b d count green at k e f g j = j ∙ (λ i. first_with d (actions_at (e i) b (g i + slot_size * f i)))

-- The red actions, as they are read from the buffer.
pub reds_read : (s : Server) (b : List ℕ) → Holds s b → reds_in b ≡ s.log.red
unfolding reds_in decoded decoded_as place
reds_read s b r =
    sym (actions_drop (number_at 4 b at_green_count) (number_at 4 b at_queue_length) b (place the_queue b) (holds_counts s b r).green) ∙ ap (λ (t : Server). t.log.red) (holds_decoded s b r)

module _ (b : List ℕ) (d : Id) where
  -- Where it is found among the red ones.
  module _ (k : ℕ) (j : Some k ≡ first_with d (reds_in b)) where
    k_known : (k ≡ position d (reds_in b)) × (k < length (reds_in b))
    k_known = some_found d (reds_in b) k j

    pub slot_known : CountsIn b → (green at : ℕ) → green ≡ number_at 4 b at_green_count → at ≡ place the_queue b → SlotIn (at + slot_size * green) k b
    unfolding reds_in
    slot_known n green at f g =
        let size = actions_count (number_at 4 b at_queue_length - number_at 4 b at_green_count) b (place the_queue b + slot_size * number_at 4 b at_green_count) in
        record { header = omega (arith, n.cuts); inside = omega (arith, size, k_known, f, g, n.queue_end, n.green) }

    pub green_taken : (green at : ℕ) (c : List ℕ) → green ≡ number_at 4 b at_green_count → at ≡ place the_queue b → c ≡ promoted (at + slot_size * green) k (green + 1) b
        → (s : Server) → Holds s b → c ≡ image (with_log (green_id d s.log) s) b
    unfolding green_id promote_found
    green_taken green at c f g n s r =
        let red = reds_read s b r in
        let p : k ≡ position d s.log.red = k_known.0 ∙ ap (position d) red in
        let x = position_found d s.log.red (omega (arith, k_known.1, p, ap length red)) in
        let i = numbers s b r in
        let there : at ≡ offset s.servers s.quota the_queue = g ∙ holds_place s b r the_queue in
        let greens : green ≡ length (shown_log s).green = f ∙ i.green in
        n
        ∙ (λ t. promoted (there t + slot_size * greens t) (p t) (greens t + 1) b)
        ∙ promoted_image s b r d (position d s.log.red) x
        ∙ ap (λ (o : Option Action). image (with_log (promote_found o s.log) s) b) (sym x.found)

  -- Where it is not.
  pub green_passed : None ≡ first_with d (reds_in b) → (s : Server) → Holds s b → b ≡ image (with_log (green_id d s.log) s) b
  unfolding green_id promote_found
  green_passed h s r =
      let red = reds_read s b r in
      let absent : find d s.log.red ≡ none = position_none d s.log.red (omega (arith, none_found d (reds_in b) h, ap (position d) red, ap length red)) in
      sym (rw absent r.written)
