-- The green list of a buffer, by the slots that its actions lie in.
use Prim.Native.Nat.{ℕ, zero, suc, ◌+◌, ◌-◌, ◌≤◌, ◌<◌}
use mathlib.Core.Path.{◌≡◌, sym, ap, ◌∙◌}
use mathlib.Core.List.{List, [], ◌∷◌}
use mathlib.Core.Option.{some}
use native.Mathlib.Omega.{arith}
use lib.ListN.{length, take, drop, length-append, length-replicate}
use lib.Seq.{length-take-le}
use Rattle.base.specs.Lists.{at}
use Rattle.base.proofs.AtLaws.{none_some, some_same, at_take}
use Rattle.base.proofs.QuantifierLaws.{at_drop}
use Rattle.format.specs.Types.{Action}
use Rattle.format.specs.Read.{action_at}
use Rattle.image.specs.Layout.{the_queue}
use Rattle.image.specs.Decode.{actions_at, blank, blanks, decoded_as, decoded, greens_in, white_in}
use Rattle.image.specs.Counts.{queue_count, green_count, place}
use Rattle.image.proofs.Slots.{actions_count}
use Rattle.queue.specs.Queue.{slot_place, green_slot, QueueIn}
use Rattle.queue.proofs.ReadLaws.{greens_shown, actions_at_lem}

drop_next : {A : Type 0} (l : List A) (p : ℕ) (x : A) → at l p ≡ some x → drop p l ≡ x ∷ drop (suc p) l
unfolding at
drop_next [] p x e = none_some e
drop_next (y ∷ l) zero x e = ap (λ z. z ∷ l) (some_same e)
drop_next (y ∷ l) (suc p) x e = drop_next l p x e

module _ (b : List ℕ) (q : QueueIn b) where
  abbrev queued : List Action
  queued = actions_at (queue_count b) b (place the_queue b)

  greens_count : length (take (green_count b) queued) ≡ green_count b
  greens_count = length-take-le (green_count b) queued (omega (arith, actions_count (queue_count b) b (place the_queue b), q.counts.green))

  pub greens_in_count : length (greens_in b) ≡ white_in b + green_count b
  unfolding greens_in white_in decoded decoded_as blanks place
  greens_in_count =
      length-append (blanks (white_in b)) (take (green_count b) queued) ∙ omega (arith, length-replicate (white_in b) blank, greens_count)

  module _ (k : ℕ) (low : white_in b ≤ k) (h : k < white_in b + green_count b) where
    pub green_low : green_slot b k < queue_count b
    unfolding green_slot
    green_low = omega (arith, q.counts.green)

    -- The action at the position k lies in its slot.
    pub greens_in_at : at (greens_in b) k ≡ some (action_at b (slot_place b (green_slot b k)))
    unfolding slot_place green_slot greens_in white_in
    greens_in_at =
        let e : white_in b + (k - white_in b) ≡ k = omega arith in
        ap (at (greens_in b)) (sym e)
        ∙ sym (at_drop (white_in b) (greens_in b) (k - white_in b))
        ∙ ap (λ (l : List Action). at l (k - white_in b)) (greens_shown b)
        ∙ at_take (green_count b) queued (k - white_in b) (omega arith)
        ∙ actions_at_lem (queue_count b) b (place the_queue b) (k - white_in b) (omega (arith, q.counts.green))

    pub greens_in_next : drop k (greens_in b) ≡ action_at b (slot_place b (green_slot b k)) ∷ drop (suc k) (greens_in b)
    greens_in_next = drop_next (greens_in b) k (action_at b (slot_place b (green_slot b k))) greens_in_at
