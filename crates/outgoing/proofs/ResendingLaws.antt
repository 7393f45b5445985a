-- Records of actions written one after another.
use Prim.Native.Nat.{ℕ, ◌+◌, ◌*◌, ◌-◌, ◌^◌, ◌≤◌, ◌<◌}
use mathlib.Core.Path.{◌≡◌, refl, sym, ap, ap₂, subst, ◌∙◌}
use mathlib.Core.List.{List, [], ◌∷◌, ◌++◌}
use mathlib.Core.Option.{Option, none, some}
use Rattle.std.specs.Prelude.{Option as Maybe, Some, None}
use Rattle.std.specs.Option.{unwrap_or}
use native.Mathlib.Omega.{arith}
use mir.Syntax.{w64}
use mir.Val.{Fits}
use lib.ListN.{length, take, drop, length-append, length-take, length-drop}
use lib.Seq.{take-length}
use Rattle.base.proofs.AtLaws.{at_past_take}
use Rattle.base.specs.Bytes.{part_at, joined, over}
use Rattle.base.proofs.Comparable.{gather_append}
use Rattle.base.specs.Lists.{at, at_front, gather, after, above}
use Rattle.base.proofs.ListLaws.{above_more}
use Rattle.base.specs.Patched.{patched}
use Rattle.base.proofs.TestLaws.{pick_le, pick_gt}
use Rattle.base.proofs.PatchedLaws.{patched_length, patched_next, patched_none}
use Rattle.format.specs.Read.{action_at}
use Rattle.format.specs.Types.{Action, Record, action, retransmission}
use Rattle.format.specs.Write.{write, length_of, record_bytes}
use Rattle.format.proofs.Lengths.{write_length}
use Rattle.record.specs.declared.events.ActionAt.{ActionAt}
use Rattle.record.specs.Events.{action_in, action_from}
use Rattle.record.specs.Values.{action_of}
use Rattle.writer.specs.Written.{put, put_of}
use Rattle.replication.specs.Machine.Plan.{resent, held_at}
use Rattle.image.specs.Layout.{slot_size, the_queue}
use Rattle.queue.proofs.ReadLaws.{actions_at_lem, slot_read}
use Rattle.outgoing.specs.Resending.{queue_in, from_place, at_position, one_of, Sends, PositionsIn}
use Rattle.outgoing.proofs.LentLaws.{put_room, put_done, one_record, records_append}
use Rattle.base.proofs.Over.{over_front, rest_whole, rest_back}
use Rattle.format.specs.Places.{most_retransmission}
use Rattle.image.specs.Counts.{queue_count, green_count, place}
use Rattle.queue.specs.Queue.{slot_place, green_slot, QueueIn}
use Rattle.queue.proofs.GreenHistory.{greens_in_count, green_low, greens_in_at}
use Rattle.image.specs.Decode.{decoded, greens_in, white_in}
use Rattle.format.specs.Limits.{most_payload_limit}

-- ---- none, one, and more

pub sends_none : (m : ℕ) (o : List ℕ) → Sends m [] o o 0
unfolding record_bytes joined
sends_none m o =
    record { count = refl; most = omega arith; inside = omega arith; size = refl; bytes = sym (patched_none 0 o) ∙ over_front [] o }

-- What is lent of the buffer o behind the first p bytes, and the buffer once that is back as y.
abbrev pub rest : (p : ℕ) (o : List ℕ) → List ℕ
rest p o = take (length o - p) (drop p o)

abbrev pub restored : (p : ℕ) (o y : List ℕ) → List ℕ
restored p o y = take p o ++ (y ++ drop (length o - p) (drop p o))

pub rest_length : (p : ℕ) (o : List ℕ) → length (rest p o) ≡ length o - p
rest_length p o = ap length (rest_whole o p) ∙ length-drop p o

pub sends_next : (m k p r : ℕ) (xs ys : List Record) (o o₁ y : List ℕ) → Sends m xs o o₁ p → Sends k ys (rest p o₁) y r
    → Sends (m + k) (xs ++ ys) o (restored p o₁ y) (p + r)
sends_next m k p r xs ys o o₁ y a b =
    let x : List ℕ = record_bytes xs in
    let z : List ℕ = record_bytes ys in
    let both : length (record_bytes (xs ++ ys)) ≡ length x + length z = ap length (records_append xs ys) ∙ length-append x z in
    let long : length (rest p o₁) ≡ length o₁ - p = rest_length p o₁ in
    let front : p ≡ 0 + length x = omega (arith, a.count) in
    let filled : restored p o₁ y ≡ patched p z o₁ =
    ap (λ (l : List ℕ). restored p o₁ l) (b.bytes ∙ ap (over z) (rest_whole o₁ p)) ∙ rest_back p z o₁ in
    record {
      count = omega (arith, a.count, b.count, both);
      most = omega (arith, a.most, b.most);
      inside = omega (arith, a.inside, a.size, b.inside, long);
      size = ap length filled ∙ patched_length p z o₁ (omega (arith, a.inside, a.size, b.inside, b.count, long)) ∙ a.size;
      bytes =
          filled
          ∙ ap₂ {A = ℕ} {B = List ℕ} {C = List ℕ} (λ i l. patched i z l) front (a.bytes ∙ sym (over_front x o))
          ∙ patched_next 0 x z o (omega arith)
          ∙ over_front (x ++ z) o
          ∙ ap (λ (l : List ℕ). over l o) (sym (records_append xs ys));
    }

pub sent_inside : (m p : ℕ) (xs : List Record) (o o₁ : List ℕ) → Sends m xs o o₁ p → p ≤ length o₁
sent_inside m p xs o o₁ a = omega (arith, a.inside, a.size)

pub sent_fits : (m k p r : ℕ) (xs ys : List Record) (o o₁ y : List ℕ) → length o < 2 ^ 64 → Sends m xs o o₁ p → Sends k ys (rest p o₁) y r → Fits w64 (p + r)
sent_fits m k p r xs ys o o₁ y h a b = let long = rest_length p o₁ in record { fits = omega (arith, a.inside, a.size, b.inside, long) }

-- ---- one record made of an action

-- What a record made of an action is no longer than.
abbrev Short : (Action → Record) → Type 0
Short made = (x : Action) → length x.payload ≤ most_payload_limit → length (write (made x)) ≤ most_retransmission

-- w is what the writer of such a record says, lent o, and o₁ is what it leaves.
module _ (made : Action → Record) (least : Short made) (a : ActionAt) (b payload o o₁ : List ℕ) (w : Maybe ℕ) (h : a.payload_length ≤ most_payload_limit)
    (l : most_retransmission ≤ length o) (f : payload ≡ part_at a.payload_length b a.payload_at)
    (e : put_of w o₁ ≡ put (write (made (action_of a.head payload))) o) where
  abbrev x : List ℕ
  x = write (made (action_from a b))

  short : length x ≤ most_retransmission
  unfolding action_from action_of part_at
  short =
      let m : length (take a.payload_length (drop a.payload_at b)) ≤ a.payload_length = simp length-take (omega arith) in
      least (action_from a b) (omega arith)

  answer : put_of w o₁ ≡ put x o
  unfolding action_from
  answer = e ∙ ap (λ (l₁ : List ℕ). put (write (made (action_of a.head l₁))) o) f

  made_sent : (r : ℕ) → r ≡ unwrap_or w 0 → Sends 1 (made (action_from a b) ∷ []) o o₁ r
  made_sent r is-r = go w refl
    where
      go : (v : Maybe ℕ) → w ≡ v → Sends 1 (made (action_from a b) ∷ []) o o₁ r
      go None g = put_room x o o₁ w answer (omega (arith, short)) g
      go (Some n) g =
          let d = put_done x o o₁ w answer n g in
          let is-n : r ≡ n = is-r ∙ ap (λ (v : Maybe ℕ). unwrap_or v 0) g in
          let one : record_bytes (made (action_from a b) ∷ []) ≡ x = one_record (made (action_from a b)) in
          record {
            count = is-n ∙ d.sized ∙ ap length (sym one);
            most = omega (arith, is-n, d.sized, short);
            inside = omega (arith, is-n, d.sized, d.room);
            size = ap length (d.filled ∙ sym (over_front x o)) ∙ patched_length 0 x o (omega (arith, d.room));
            bytes = d.filled ∙ ap (λ (z : List ℕ). over z o) (sym one);
          }

retransmission_short : (me position : ℕ) → Short (retransmission me position)
unfolding length_of
retransmission_short me position x h = omega (arith, write_length (retransmission me position x))

action_short : Short action
unfolding length_of
action_short x h = omega (arith, write_length (action x))

module _ (a : ActionAt) (b payload o o₁ : List ℕ) (w : Maybe ℕ) (h : a.payload_length ≤ most_payload_limit) (l : most_retransmission ≤ length o)
    (f : payload ≡ part_at a.payload_length b a.payload_at) where
  retransmission_sent : (me position : ℕ) → put_of w o₁ ≡ put (write (retransmission me position (action_of a.head payload))) o
      → (r : ℕ) → r ≡ unwrap_or w 0 → Sends 1 (retransmission me position (action_from a b) ∷ []) o o₁ r
  retransmission_sent me position e = made_sent (retransmission me position) (retransmission_short me position) a b payload o o₁ w h l f e

  pub own_action_sent : put_of w o₁ ≡ put (write (action (action_of a.head payload))) o
      → (r : ℕ) → r ≡ unwrap_or w 0 → Sends 1 (action (action_from a b) ∷ []) o o₁ r
  own_action_sent e = made_sent action action_short a b payload o o₁ w h l f e

-- ---- the slot k

module _ (b : List ℕ) (k p : ℕ) (a : ActionAt) (q : QueueIn b) (h : k < queue_count b) (e : p ≡ place the_queue b)
    (f : a ≡ action_in b (p + slot_size * k)) where
  read : a ≡ action_in b (slot_place b k)
  unfolding slot_place
  read = f ∙ ap (λ (m : ℕ). action_in b (m + slot_size * k)) e

  pub slot_short : a.payload_length ≤ most_payload_limit
  unfolding action_in
  slot_short = omega (arith, ap (λ (x : ActionAt). x.payload_length) read, q.payloads k h)

  pub slot_inside : a.payload_at + a.payload_length ≤ length b
  unfolding action_in slot_place
  slot_inside = omega (arith, ap (λ (x : ActionAt). x.payload_at) read, slot_short, q.counts.queue_end, q.counts.queue)

  slot_action : at (queue_in b) k ≡ some (action_from a b)
  unfolding queue_in slot_place
  slot_action =
      actions_at_lem (queue_count b) b (place the_queue b) k h
      ∙ ap some (sym (slot_read b (place the_queue b + slot_size * k)) ∙ ap (λ (x : ActionAt). action_from x b) (sym read))

  pub slot_sent : (me position r : ℕ) (payload o o₁ : List ℕ) (w : Maybe ℕ) → most_retransmission ≤ length o
      → payload ≡ part_at a.payload_length b a.payload_at
      → put_of w o₁ ≡ put (write (retransmission me position (action_of a.head payload))) o
      → r ≡ unwrap_or w 0 → Sends 1 (one_of (from_place me position (queue_in b) k)) o o₁ r
  unfolding one_of from_place resent at_front
  slot_sent me position r payload o o₁ w l g s is-r =
      subst (λ (x : Option Action). Sends 1 (one_of (resent me position x)) o o₁ r) (sym slot_action)
      (retransmission_sent a b payload o o₁ w slot_short l g me position s r is-r)

-- ---- a position

module _ (b : List ℕ) (q : QueueIn b) (p : ℕ) where
  -- Neither a white one nor one past the green list is held.
  pub position_white : p ≤ white_in b → held_at (white_in b) (decoded b).log p ≡ none
  unfolding held_at
  position_white h = sym (pick_le p (white_in b) none none (at (decoded b).log.green (p - 1)) h refl)

  held_green : white_in b < p → at (greens_in b) (p - 1) ≡ held_at (white_in b) (decoded b).log p
  unfolding held_at greens_in
  held_green h = pick_gt p (white_in b) (at (greens_in b) (p - 1)) none (at (decoded b).log.green (p - 1)) h refl

  pub position_past : length (greens_in b) < p → held_at (white_in b) (decoded b).log p ≡ none
  position_past h =
      sym (held_green (omega (arith, greens_in_count b q)))
      ∙ ap (λ (l : List Action). at l (p - 1)) (sym (take-length (greens_in b)))
      ∙ at_past_take (length (greens_in b)) (greens_in b) (p - 1) (omega arith)

  module _ (low : white_in b < p) (high : p ≤ length (greens_in b)) where
    pub position_there : held_at (white_in b) (decoded b).log p ≡ some (action_at b (slot_place b (green_slot b (p - 1))))
    position_there = sym (held_green low) ∙ greens_in_at b q (p - 1) (omega arith) (omega (arith, greens_in_count b q))

    position_slot : (k : ℕ) → k ≡ green_slot b (p - 1) → at (queue_in b) k ≡ held_at (white_in b) (decoded b).log p
    unfolding queue_in slot_place
    position_slot k is-k =
        ap (at (queue_in b)) is-k
        ∙ actions_at_lem (queue_count b) b (place the_queue b) (green_slot b (p - 1)) (green_low b q (p - 1) (omega arith) (omega (arith, greens_in_count b q)))
        ∙ sym position_there

pub position_end : (b : List ℕ) (p : ℕ) → PositionsIn (p - 1) p b → 1 ≤ p → p - 1 < white_in b + green_count b
position_end b p s h = omega (arith, s.green, greens_in_count b s.queue)

pub position_sent : (b : List ℕ) (me p k r : ℕ) (o o₁ : List ℕ) → PositionsIn (p - 1) p b → 1 ≤ p → k ≡ green_slot b (p - 1)
    → Sends 1 (one_of (from_place me p (queue_in b) k)) o o₁ r → Sends 1 (one_of (at_position me b p)) o o₁ r
unfolding at_position from_place
position_sent b me p k r o o₁ s h is-k a =
    subst (λ (x : Option Action). Sends 1 (one_of (resent me p x)) o o₁ r)
    (position_slot b s.queue p (omega (arith, s.unwhite)) s.green k is-k) a

-- ---- all from `low` to `high`

module _ (f : ℕ → Option Record) where
  gather_next : (low p : ℕ) → low ≤ p → gather f (above low (p + 1)) ≡ gather f (above low p) ++ one_of (f (p + 1))
  unfolding gather after one_of
  gather_next low p h = ap (gather f) (above_more low p 1 h) ∙ gather_append f (above low p) (after p 1)

  pub all_start : (low : ℕ) (o : List ℕ) → Sends (low - low) (gather f (above low low)) o o 0
  unfolding gather above after
  all_start low o = let e : low - low ≡ 0 = omega arith in rw e (sends_none 0 o)

  pub all_room : (low high p q : ℕ) (o o₁ : List ℕ) → low ≤ p → p < high → most_retransmission * (high - low) ≤ length o
      → Sends (p - low) (gather f (above low p)) o o₁ q → most_retransmission ≤ length (rest q o₁)
  all_room low high p q o o₁ h l room a = let long = rest_length q o₁ in omega (arith, a.most, a.size, long)

  pub all_again : (low p q r : ℕ) (o o₁ y : List ℕ) → low ≤ p → Sends (p - low) (gather f (above low p)) o o₁ q
      → Sends 1 (one_of (f (p + 1))) (rest q o₁) y r → Sends (p + 1 - low) (gather f (above low (p + 1))) o (restored q o₁ y) (q + r)
  all_again low p q r o o₁ y h a b =
      let e : p - low + 1 ≡ p + 1 - low = omega arith in
      subst (λ (m : ℕ). Sends m (gather f (above low (p + 1))) o (restored q o₁ y) (q + r)) e
      (subst (λ (xs : List Record). Sends (p - low + 1) xs o (restored q o₁ y) (q + r)) (sym (gather_next low p h))
      (sends_next (p - low) 1 q r (gather f (above low p)) (one_of (f (p + 1))) o o₁ y a b))

  pub all_end : (low high p r : ℕ) (o o₁ : List ℕ) → low ≤ p → p - low ≤ high - low → high ≤ p → Sends (p - low) (gather f (above low p)) o o₁ r
      → Sends (high - low) (gather f (above low high)) o o₁ r
  unfolding above
  all_end low high p r o o₁ h l m a = subst (λ (k : ℕ). Sends k (gather f (after low k)) o o₁ r) (omega arith) a
