-- The buffer after an action turned green by a swap is the image of the new state.
use Prim.Native.Nat.{ℕ, zero, suc, ◌+◌, ◌*◌, ◌≤◌, ◌<◌}
use mathlib.Core.Path.{◌≡◌, refl, sym, ap, ap₂, subst, ◌∙◌}
use mathlib.Core.List.{List, [], ◌∷◌, ◌++◌, append_assoc}
use mathlib.Core.Option.{Option, some}
use native.Mathlib.Omega.{arith}
use native.Mathlib.Nat.{add-zero}
use lib.ListN.{length, take, drop, set, length-append, length-set}
use lib.Seq.{set-append_seam, take-append-add, drop-append-add}
use Rattle.base.proofs.AtLaws.{none_some, some_same, at_low}
use Rattle.base.specs.Bytes.{bytes_of, number_at, part_at, over, slot}
use Rattle.base.proofs.BytesLaws.{bytes_length}
use Rattle.base.specs.Lists.{sum, at, Each}
use Rattle.base.proofs.Gathered.{at_second}
use Rattle.base.proofs.ListLaws.{each_at, each_set}
use Rattle.base.proofs.Occurs.{Occurs, occurs_first, occurs_second}
use Rattle.base.specs.Patched.{patched}
use Rattle.format.specs.Types.{Id, Action}
use Rattle.format.specs.Write.{action_bytes}
use Rattle.replication.specs.Machine.Types.{Log, Server, with_log}
use Rattle.replication.specs.Machine.Colours.{shown}
use Rattle.replication.specs.Machine.WellFormed.{queue}
use Rattle.replication.proofs.WellFormed.Facts.{well_formed_facts}
use Rattle.image.specs.Layout.{slot_size, the_header, the_queue, sections, offset, at_green_count, at_queue_length}
use Rattle.image.specs.Header.{shown_log}
use Rattle.image.specs.Image.{header_bytes, action_slots, section, parts, image}
use Rattle.image.proofs.InRange.{in_range}
use Rattle.image.proofs.Used.{ActionFits, action_slot_length, action_slots_length}
use Rattle.image.proofs.Fit.{well_formed_fits}
use Rattle.image.proofs.Decoded.{image_part}
use Rattle.image.specs.Holding.{Holds}
use Rattle.queue.specs.Queue.{position}
use Rattle.install.specs.Swaps.{swap_out, green_found, green_swap, exchanged, green_at}
use Rattle.install.proofs.SwapFits.{shown_found}
use Rattle.base.proofs.Over.{over_changed, used_part}
use Rattle.queue.proofs.Inside.{changed_at}
use Rattle.image.proofs.Fields.{opened_header}
use Rattle.queue.proofs.SlotLaws.{slots_cons}
use Rattle.queue.proofs.Positions.{Stands}
use Rattle.queue.proofs.Promoted.{patched_middle}
use Rattle.queue.proofs.Holding.{holds_changed, log_image}
use Rattle.image.specs.Counts.{place}
use Rattle.image.proofs.Counts.{numbers, holds_place}

-- ---- lists

set_behind : {A : Type 0} (x y : List A) (n : ℕ) (a : A) → set (x ++ y) (length x + n) a ≡ x ++ set y n a
set_behind [] y n a = let e : 0 + n ≡ n = omega arith in rw e
set_behind (z ∷ x) y n a = let e : suc (length x) + n ≡ suc (length x + n) = omega arith in rw e (ap (λ l. z ∷ l) (set_behind x y n a))

patched_behind_of : (x : List ℕ) (i : ℕ) (y l : List ℕ) → patched (length x + i) y (x ++ l) ≡ x ++ patched i y l
unfolding patched
patched_behind_of x i y l =
    let e : length x + i + length y ≡ length x + (i + length y) = omega arith in
    ap₂ {A = List ℕ} {B = List ℕ} {C = List ℕ} (λ u v. u ++ (y ++ v)) (take-append-add x l i) (ap (λ (m : ℕ). drop m (x ++ l)) e ∙ drop-append-add x l (i + length y))
    ∙ append_assoc x (take i l) (y ++ drop (i + length y) l)

-- A slot written anew.
slots_set : (l : List Action) (j : ℕ) (a : Action) → Each ActionFits l → ActionFits a → j < length l
    → patched (slot_size * j) (slot slot_size (action_bytes a)) (action_slots l) ≡ action_slots (set l j a)
slots_set [] j a f g h = absurd (omega arith)
slots_set (x ∷ l) zero a f g h =
    ap (patched 0 (slot slot_size (action_bytes a))) (slots_cons x l)
    ∙ patched_middle [] (slot slot_size (action_bytes a)) (slot slot_size (action_bytes x)) (action_slots l) (action_slot_length a g ∙ sym (action_slot_length x f.0))
    ∙ sym (slots_cons a l)
slots_set (x ∷ l) (suc j) a f g h =
    let w : List ℕ = slot slot_size (action_bytes x) in
    let e : slot_size * suc j ≡ length w + slot_size * j = omega (arith, action_slot_length x f.0) in
    ap₂ {A = ℕ} {B = List ℕ} {C = List ℕ} (λ i y. patched i (slot slot_size (action_bytes a)) y) e (slots_cons x l)
    ∙ patched_behind_of w (slot_size * j) (slot slot_size (action_bytes a)) (action_slots l)
    ∙ ap (λ (y : List ℕ). w ++ y) (slots_set l j a f.1 g (omega arith))
    ∙ sym (slots_cons x (set l j a))

-- The slot of the action at j.
slot_occurs : (l : List Action) (b : List ℕ) (p j : ℕ) (a : Action) → Each ActionFits l → at l j ≡ some a → Occurs (action_slots l) b p
    → Occurs (slot slot_size (action_bytes a)) b (p + slot_size * j)
unfolding at
slot_occurs [] b p j a f e o = none_some e
slot_occurs (x ∷ l) b p zero a f e o =
    let k : p ≡ p + slot_size * 0 = omega arith in
    let w : List ℕ = slot slot_size (action_bytes x) in
    let here = occurs_first w (action_slots l) b p (subst (λ (y : List ℕ). Occurs y b p) (slots_cons x l) o) in
    subst (λ (y : Action). Occurs (slot slot_size (action_bytes y)) b (p + slot_size * 0)) (some_same e) (subst (Occurs w b) k here)
slot_occurs (x ∷ l) b p (suc j) a f e o =
    let w : List ℕ = slot slot_size (action_bytes x) in
    let k : p + slot_size + slot_size * j ≡ p + slot_size * suc j = omega arith in
    let there = occurs_second w (action_slots l) b p (p + slot_size) (ap (λ (m : ℕ). p + m) (action_slot_length x f.0)) (subst (λ (y : List ℕ). Occurs y b p) (slots_cons x l) o) in
    subst (Occurs (slot slot_size (action_bytes a)) b) k (slot_occurs l b (p + slot_size) j a f.1 e there)

at_first : (u : List Action) (x : Action) (v : List Action) → at (u ++ (x ∷ v)) (length u) ≡ some x
unfolding at
at_first [] x v = refl
at_first (z ∷ u) x v = at_first u x v

-- The lowest red action, where x is the first one behind those of u.
unfoldable pub lowest : List Action → Action → Action
lowest [] x = x
lowest (z ∷ w) x = z

lowest_at : (u : List Action) (x : Action) (v : List Action) → at (u ++ (x ∷ v)) 0 ≡ some (lowest u x)
unfolding at lowest
lowest_at [] x v = refl
lowest_at (z ∷ w) x v = refl

swapped_queue : (green u : List Action) (x : Action) (v : List Action)
    → (green ++ (x ∷ [])) ++ swap_out (length u) (u ++ (x ∷ v)) ≡ set (set (green ++ (u ++ (x ∷ v))) (length green) x) (length green + length u) (lowest u x)
unfolding swap_out lowest
swapped_queue green [] x v =
    append_assoc green (x ∷ []) v
    ∙ sym
    (ap₂ {A = List Action} {B = ℕ} {C = List Action} (λ l i. set l i x) (set-append_seam green x v x) (add-zero (length green)) ∙ set-append_seam green x v x)
swapped_queue green (z ∷ w) x v =
    append_assoc green (x ∷ []) (set (w ++ (x ∷ v)) (length w) z)
    ∙ sym
    (ap (λ (l : List Action). set l (length green + suc (length w)) z) (set-append_seam green z (w ++ (x ∷ v)) x)
    ∙ set_behind green (x ∷ (w ++ (x ∷ v))) (suc (length w)) z)

module _ (s : Server) (b : List ℕ) (r : Holds s b) (d : Id) (k : Stands d s.log.red (position d s.log.red)) where
  abbrev pub x : Action
  x = k.it

  abbrev pub y : Action
  y = lowest k.before k.it

  abbrev pub swapped_log : Log
  swapped_log = green_found (some x) (position d s.log.red) s.log

  -- What the slots show of it.
  abbrev pub swapped_slots : Log
  swapped_slots = green_found (some x) (position d s.log.red) (shown_log s)

  slots_show : swapped_slots ≡ shown s.white swapped_log
  slots_show = shown_found s.white (some x) (position d s.log.red) s.log (well_formed_facts s r.formed).white

  abbrev pub stands : ℕ
  stands = length (shown_log s).green + position d s.log.red

  swap_as : green_swap d s.log ≡ swapped_log
  unfolding green_swap
  swap_as = ap (λ (o : Option Action). green_found o (position d s.log.red) s.log) k.found

  x_at : at (queue (shown_log s)) stands ≡ some x
  unfolding queue
  x_at =
      at_second (shown_log s).green s.log.red (position d s.log.red)
      ∙ ap₂ {A = List Action} {B = ℕ} {C = Option Action} (λ l i. at l i) k.whole (sym k.count)
      ∙ at_first k.before x k.behind

  pub y_at : at (queue (shown_log s)) (length (shown_log s).green) ≡ some y
  unfolding queue
  y_at =
      let e : length (shown_log s).green ≡ length (shown_log s).green + 0 = omega arith in
      ap (at ((shown_log s).green ++ s.log.red)) e
      ∙ at_second (shown_log s).green s.log.red 0
      ∙ ap (λ (l : List Action). at l 0) k.whole
      ∙ lowest_at k.before x k.behind

  pub queue_after : queue swapped_slots ≡ set (set (queue (shown_log s)) (length (shown_log s).green) x) stands y
  unfolding queue green_found
  queue_after =
      ap₂ {A = ℕ} {B = List Action} {C = List Action} (λ i l. ((shown_log s).green ++ (x ∷ [])) ++ swap_out i l) (sym k.count) k.whole
      ∙ swapped_queue (shown_log s).green k.before x k.behind
      ∙ ap₂ {A = ℕ} {B = List Action} {C = List Action} (λ i l. set (set ((shown_log s).green ++ l) (length (shown_log s).green) x) (length (shown_log s).green + i) y) k.count
      (sym k.whole)

  same_length : length (queue swapped_slots) ≡ length (queue (shown_log s))
  same_length = ap length queue_after ∙ length-set (set (queue (shown_log s)) (length (shown_log s).green) x) stands y ∙ length-set (queue (shown_log s)) (length (shown_log s).green) x

  header_after : patched at_green_count (bytes_of 4 (length (shown_log s).green + 1)) (header_bytes s) ≡ header_bytes (with_log swapped_log s)
  unfolding green_found opened_header
  header_after =
      ap₂ {A = ℕ} {B = ℕ} {C = List ℕ} (λ i j. patched at_green_count (bytes_of 4 i) (patched at_queue_length (bytes_of 4 j) (header_bytes s)))
      (sym (length-append (shown_log s).green (x ∷ [])) ∙ ap (λ (l : Log). length l.green) slots_show)
      (sym same_length ∙ ap (λ (l : Log). length (queue l)) slots_show)

  fits : Each ActionFits (queue (shown_log s))
  fits = (well_formed_fits s r.formed).actions

  x_fits : ActionFits x
  x_fits = each_at ActionFits (queue (shown_log s)) stands x fits x_at

  y_fits : ActionFits y
  y_fits = each_at ActionFits (queue (shown_log s)) (length (shown_log s).green) y fits y_at

  pub x_low : stands < length (queue (shown_log s))
  x_low = at_low (queue (shown_log s)) stands x x_at

  y_low : length (shown_log s).green < length (queue (shown_log s))
  y_low = at_low (queue (shown_log s)) (length (shown_log s).green) y y_at

  abbrev once_set : List Action
  once_set = set (queue (shown_log s)) (length (shown_log s).green) x

  once_fits : Each ActionFits once_set
  once_fits = each_set ActionFits (queue (shown_log s)) (length (shown_log s).green) x fits x_fits

  section_after : (l : List ℕ)
      → patched (slot_size * stands) (slot slot_size (action_bytes y)) (patched (slot_size * length (shown_log s).green) (slot slot_size (action_bytes x)) (over (action_slots (queue (shown_log s))) l))
      ≡ over (action_slots (queue (shown s.white swapped_log))) l
  section_after l =
      let a : List ℕ = slot slot_size (action_bytes x) in
      let c : List ℕ = slot slot_size (action_bytes y) in
      let i : ℕ = slot_size * length (shown_log s).green in
      let size : length (action_slots (queue (shown_log s))) ≡ slot_size * length (queue (shown_log s)) = action_slots_length (queue (shown_log s)) fits in
      let size_set : length (action_slots once_set) ≡ slot_size * length (queue (shown_log s)) = action_slots_length once_set once_fits ∙ ap (λ (m : ℕ). slot_size * m) (length-set (queue (shown_log s)) (length (shown_log s).green) x) in
      let first : patched i a (over (action_slots (queue (shown_log s))) l) ≡ over (action_slots once_set) l =
      over_changed (action_slots (queue (shown_log s))) a l i (omega (arith, action_slot_length x x_fits, y_low))
      ∙ ap (λ (z : List ℕ). over z l) (slots_set (queue (shown_log s)) (length (shown_log s).green) x fits x_fits y_low) in
      ap (patched (slot_size * stands) c) first
      ∙ over_changed (action_slots once_set) c l (slot_size * stands) (omega (arith, action_slot_length y y_fits, x_low))
      ∙ ap (λ (z : List ℕ). over z l)
      (slots_set once_set stands y once_fits y_fits (omega (arith, length-set (queue (shown_log s)) (length (shown_log s).green) x, x_low)) ∙ ap action_slots (sym queue_after ∙ ap queue slots_show))

  -- The slots in the buffer.
  queue_occurs : Occurs (action_slots (queue (shown_log s))) b (offset s.servers s.quota the_queue)
  unfolding parts
  queue_occurs =
      let p : ℕ = offset s.servers s.quota the_queue in
      let there = subst (λ (c : List ℕ). Occurs (over (action_slots (queue (shown_log s))) (section s.servers s.quota the_queue b)) c p) r.written (image_part s (well_formed_fits s r.formed) b r.long the_queue (omega arith)) in
      used_part (action_slots (queue (shown_log s))) _ b p there

  slot_part : (j : ℕ) (a : Action) → ActionFits a → at (queue (shown_log s)) j ≡ some a
      → part_at slot_size b (offset s.servers s.quota the_queue + slot_size * j) ≡ slot slot_size (action_bytes a)
  slot_part j a f e =
      let o = slot_occurs (queue (shown_log s)) b (offset s.servers s.quota the_queue) j a fits e queue_occurs in
      ap (λ (m : ℕ). part_at m b (offset s.servers s.quota the_queue + slot_size * j)) (sym (action_slot_length a f)) ∙ o.part

  pub swap_image : green_at stands b ≡ image (with_log (green_swap d s.log) s) b
  unfolding green_at exchanged parts sections offset sum green_found
  swap_image =
      let ws : List ℕ = sections s.servers s.quota in
      let n = numbers s b r in
      let p : ℕ = offset s.servers s.quota the_queue in
      let g : ℕ = length (shown_log s).green in
      let a : List ℕ = slot slot_size (action_bytes x) in
      let c : List ℕ = slot slot_size (action_bytes y) in
      let room : length (queue (shown_log s)) ≤ s.servers * s.quota = (in_range s r.formed).queue_count in
      let c₁ = changed_at ws _ b b (holds_changed s b r) the_queue (slot_size * g) (p + slot_size * g) a refl (omega arith) (omega (arith, action_slot_length x x_fits, y_low)) in
      let c₂ = changed_at ws _ b (patched (p + slot_size * g) a b) c₁ the_queue (slot_size * stands) (p + slot_size * stands) c refl (omega arith) (omega (arith, action_slot_length y y_fits, x_low)) in
      let c₃ = changed_at ws _ b (patched (p + slot_size * stands) c (patched (p + slot_size * g) a b)) c₂ the_header at_green_count at_green_count (bytes_of 4 (g + 1)) refl (omega arith) (omega (arith, bytes_length 4 (g + 1))) in
      (λ i. patched at_green_count (bytes_of 4 (n.green i + 1)) (exchanged (holds_place s b r the_queue i + slot_size * n.green i) (holds_place s b r the_queue i + slot_size * stands) b))
      ∙ ap₂ {A = List ℕ} {B = List ℕ} {C = List ℕ} (λ u v. patched at_green_count (bytes_of 4 (g + 1)) (patched (p + slot_size * stands) u (patched (p + slot_size * g) v b))) (slot_part g y y_fits y_at)
      (slot_part stands x x_fits x_at)
      ∙ log_image s swapped_log b _ _ _ _ _ c₃ header_after refl refl (section_after (section s.servers s.quota the_queue b))
      ∙ ap (λ (l : Log). image (with_log l s) b) (sym swap_as)

-- ---- as the code makes it

pub exchange_made : (s x y s₁ s₂ : List ℕ) (i j : ℕ) → x ≡ part_at slot_size s i → y ≡ part_at slot_size s j → s₁ ≡ patched i y s → s₂ ≡ patched j x s₁ → s₂ ≡ exchanged i j s
unfolding exchanged
exchange_made s x y s₁ s₂ i j e f g h = h ∙ (λ t. patched j (e t) (g t)) ∙ (λ t. patched j (part_at slot_size s i) (patched i (f t) s))

pub green_at_made : (s s₁ s₂ : List ℕ) (green p k : ℕ) → green ≡ number_at 4 s at_green_count → p ≡ place the_queue s → s₁ ≡ exchanged (p + slot_size * green) (p + slot_size * k) s
    → s₂ ≡ patched at_green_count (bytes_of 4 (green + 1)) s₁ → s₂ ≡ green_at k s
unfolding green_at
green_at_made s s₁ s₂ green p k e f g h =
    h ∙ ap (patched at_green_count (bytes_of 4 (green + 1))) g ∙ (λ t. patched at_green_count (bytes_of 4 (e t + 1)) (exchanged (f t + slot_size * e t) (f t + slot_size * k) s))
