-- Actions read from the slots of a buffer that holds a state.
use Prim.Native.Nat.{ℕ, zero, suc, ◌+◌, ◌*◌, ◌≤◌, ◌<◌}
use mathlib.Core.Path.{◌≡◌, refl, sym, ap, subst, ◌∙◌}
use mathlib.Core.List.{List, [], ◌∷◌, ◌++◌}
use mathlib.Core.Option.{some}
use native.Mathlib.Omega.{arith}
use native.Mathlib.Nat.{add_assoc}
use lib.ListN.{length, take, drop, take-append-drop}
use Rattle.base.specs.Bytes.{number_at, joined, over, slot}
use Rattle.base.specs.Lists.{at, sum, Each}
use Rattle.base.proofs.Occurs.{Occurs, occurs_first, occurs_second}
use Rattle.base.specs.Tests.{pick}
use Rattle.base.proofs.TestLaws.{Known, holds, fails, known}
use Rattle.format.specs.Limits.{most_payload_limit}
use Rattle.format.specs.Places.{action_payload_at}
use Rattle.format.specs.Types.{Id, Action, Context}
use Rattle.format.specs.Range.{same_id}
use Rattle.format.specs.Read.{id_at, payload_at, action_at}
use Rattle.format.specs.Write.{action_bytes}
use Rattle.format.proofs.Fields.{action_read}
use Rattle.format.proofs.Ranges.{ContextRange, ActionRange}
use Rattle.record.specs.Events.{action_in, action_from}
use Rattle.record.specs.Values.{id_of, action_of}
use Rattle.replication.specs.Machine.Types.{Server, context_of}
use Rattle.replication.specs.Machine.Colours.{find}
use Rattle.replication.specs.Machine.WellFormed.{queue}
use Rattle.image.specs.Layout.{slot_size, the_queue, offset}
use Rattle.image.specs.Header.{shown_log}
use Rattle.image.specs.Image.{action_slots, image, parts}
use Rattle.image.specs.Decode.{actions_at, decoded_as, decoded}
use Rattle.image.proofs.Blanks.{behind_blanks}
use Rattle.image.specs.Holding.{Holds}
use Rattle.image.proofs.InPlace.{holds_decoded}
use Rattle.image.proofs.InRange.{in_range}
use Rattle.image.proofs.Decoded.{image_part}
use Rattle.image.proofs.Fit.{well_formed_fits}
use Rattle.image.proofs.Used.{action_slot_length}
use Rattle.image.proofs.Counts.{numbers, holds_counts, holds_place}
use Rattle.queue.specs.Queue.{position, slot_place, QueueIn}
use Rattle.image.specs.Counts.{queue_count, green_count, place}

-- ---- the lists

-- The green actions that have a slot.
pub greens_shown : (b : List ℕ) → (shown_log (decoded b)).green ≡ take (green_count b) (actions_at (queue_count b) b (place the_queue b))
unfolding decoded decoded_as place
greens_shown b = behind_blanks (decoded b).white (take (green_count b) (actions_at (queue_count b) b (place the_queue b)))

pub queue_read : (s : Server) (b : List ℕ) → Holds s b → actions_at (queue_count b) b (place the_queue b) ≡ queue (shown_log s)
unfolding queue decoded decoded_as place
queue_read s b r =
    let l : List Action = actions_at (queue_count b) b (place the_queue b) in
    sym (take-append-drop (green_count b) l)
    ∙ ap (λ (g : List Action). g ++ drop (green_count b) l) (sym (greens_shown b))
    ∙ ap (λ (t : Server). queue (shown_log t)) (holds_decoded s b r)

-- ---- one slot

pub actions_at_lem : (m : ℕ) (b : List ℕ) (p k : ℕ) → k < m → at (actions_at m b p) k ≡ some (action_at b (p + slot_size * k))
unfolding actions_at at
actions_at_lem zero b p k h = absurd (omega arith)
actions_at_lem (suc m) b p zero h = let e : p ≡ p + slot_size * 0 = omega arith in ap (λ (i : ℕ). some (action_at b i)) e
actions_at_lem (suc m) b p (suc k) h =
    let e : p + slot_size + slot_size * k ≡ p + slot_size * suc k = omega arith in
    actions_at_lem m b (p + slot_size) k (omega arith) ∙ ap (λ (i : ℕ). some (action_at b i)) e

-- The numbers that the code reads of a slot are those of its action.
pub slot_read : (b : List ℕ) (p : ℕ) → action_from (action_in b p) b ≡ action_at b p
unfolding action_from action_of action_in action_at id_at payload_at id_of
slot_read b p = rw (add_assoc p action_payload_at 1)

-- The payload's length of the slot k.
pub slot_payload : (c : Context) (l : List Action) (e : List ℕ) (p k : ℕ) → ContextRange c → Each (ActionRange c) l
    → Occurs (action_slots l) e p → k < length l → number_at 1 e (p + slot_size * k + action_payload_at) ≤ most_payload_limit
unfolding action_slots joined slot
slot_payload c [] e p k s r o h = absurd (omega arith)
slot_payload c (a ∷ l) e p zero s r o h =
    let first = (action_read c a e p s r.0
    (occurs_first (action_bytes a) _ e p (occurs_first (slot slot_size (action_bytes a)) (action_slots l) e p o))).0 in
    let here : p + action_payload_at ≡ p + slot_size * 0 + action_payload_at = omega arith in
    omega (arith, first, ap (number_at 1 e) here, r.0.payload.most)
slot_payload c (a ∷ l) e p (suc k) s r o h =
    let place : p + length (slot slot_size (action_bytes a)) ≡ p + slot_size = ap (λ (m : ℕ). p + m) (action_slot_length a r.0.payload) in
    let there : p + slot_size + slot_size * k + action_payload_at ≡ p + slot_size * suc k + action_payload_at = omega arith in
    let rest = slot_payload c l e (p + slot_size) k s r.1
    (occurs_second (slot slot_size (action_bytes a)) (action_slots l) e p (p + slot_size) place o) (omega arith) in
    subst (λ (m : ℕ). number_at 1 e m ≤ most_payload_limit) there rest

module _ (s : Server) (b : List ℕ) (r : Holds s b) where
  pub slots_there : Occurs (action_slots (queue (shown_log s))) b (place the_queue b)
  unfolding parts over
  slots_there =
      let o = image_part s (well_formed_fits s r.formed) b r.long the_queue (omega arith) in
      let u = occurs_first (action_slots (queue (shown_log s))) _ (image s b) (offset s.servers s.quota the_queue) o in
      subst (λ (c : List ℕ). Occurs (action_slots (queue (shown_log s))) c (place the_queue b)) r.written
      (subst (Occurs (action_slots (queue (shown_log s))) (image s b)) (sym (holds_place s b r the_queue)) u)

  pub holds_queue : QueueIn b
  unfolding slot_place
  holds_queue =
      let i = in_range s r.formed in
      record {
        counts = holds_counts s b r;
        entered = omega (arith, (numbers s b r).queue, i.counted, ap (λ (t : Server). sum t.log.cuts) (holds_decoded s b r));
        payloads = λ k h.
            slot_payload (context_of s) (queue (shown_log s)) b (place the_queue b) k i.context i.actions slots_there
            (omega (arith, (numbers s b r).queue));
      }

-- ---- by id

-- What the machine finds stands at the place of the id.
pub find_at : (d : Id) (l : List Action) → find d l ≡ at l (position d l)
unfolding find position at pick
find_at d [] = refl
find_at d (a ∷ l) = go (known (same_id d a.id)) (find_at d l)
  where
    go : Known (same_id d a.id) → find d l ≡ at l (position d l) → pick (same_id d a.id) (some a) (find d l) ≡ at (a ∷ l) (pick (same_id d a.id) 0 (suc (position d l)))
    go (holds t) e = rw t
    go (fails t) e = rw t e
