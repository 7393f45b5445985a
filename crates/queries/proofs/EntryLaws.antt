-- The bytes of entries, and those of them that fit.
use Prim.Native.Nat.{ℕ, ◌+◌, ◌-◌, ◌≤◌, ◌<◌}
use mathlib.Core.Path.{◌≡◌, refl, sym, ap, ◌∙◌}
use mathlib.Core.List.{List, [], ◌∷◌, ◌++◌, append-nil, map, map-append}
use native.Mathlib.Omega.{arith}
use lib.ListN.{length, take, drop, length-append}
use Rattle.base.specs.Bytes.{Bytes, number_at, part_at, joined}
use Rattle.base.proofs.BytesLaws.{joined_append, part_length}
use Rattle.base.specs.Patched.{patched}
use Rattle.base.proofs.PatchedLaws.{patched_next}
use Rattle.base.specs.Tests.{◌≤?◌}
use Rattle.base.proofs.TestLaws.{pick_le, pick_gt, Known, holds, fails, known, le_holds, le_fails}
use Rattle.format.specs.Places.{id_size, action_payload_at, action_head_size}
use Rattle.format.specs.Types.{Action}
use Rattle.format.specs.Read.{payload_at, id_at, action_at}
use Rattle.format.specs.Write.{id_bytes, payload_bytes}
use Rattle.format.proofs.Lengths.{payload_length, id_length}
use Rattle.format.proofs.Writing.{payload_written, id_written}
use Rattle.queries.specs.Queries.{entry_bytes, entries_bytes, entry_head_size, fitting}

-- ---- one entry

entry_parts : (a : Action) → entry_bytes a ≡ id_bytes a.id ++ payload_bytes a.payload
unfolding entry_bytes joined
entry_parts a = ap (λ (l : List ℕ). id_bytes a.id ++ l) (append-nil (payload_bytes a.payload))

pub entry_length : (a : Action) → length (entry_bytes a) ≡ entry_head_size + length a.payload
entry_length a =
    ap length (entry_parts a) ∙ length-append (id_bytes a.id) (payload_bytes a.payload) ∙ omega (arith, id_length a.id, payload_length a.payload)

-- The entry of a slot, whose payload has m bytes.
module _ (b : List ℕ) (p m : ℕ) (is_m : m ≡ number_at 1 b (p + action_payload_at)) (room : p + action_head_size + m ≤ length b) where
  slot_payload : length (payload_at b (p + action_payload_at)) ≡ m
  unfolding payload_at
  slot_payload =
      part_length (number_at 1 b (p + action_payload_at)) b (p + action_payload_at + 1) (omega arith) ∙ sym is_m

  pub slot_entry_length : length (entry_bytes (action_at b p)) ≡ entry_head_size + m
  unfolding action_at
  slot_entry_length = entry_length (action_at b p) ∙ ap (λ (n : ℕ). entry_head_size + n) slot_payload

  module _ (bytes : Bytes b) where
    -- Its bytes are those of the slot: the id's, and from the payload's length on.
    slot_entry : entry_bytes (action_at b p) ≡ part_at id_size b p ++ part_at (1 + m) b (p + action_payload_at)
    unfolding action_at
    slot_entry =
        let id : part_at id_size b p ≡ id_bytes (id_at b p) = ap (λ (n : ℕ). part_at n b p) (sym (id_length (id_at b p))) ∙ (id_written b p bytes (omega arith)).part in
        let long : 1 + m ≡ length (payload_bytes (payload_at b (p + action_payload_at))) =
        sym (payload_length (payload_at b (p + action_payload_at)) ∙ ap (λ (n : ℕ). 1 + n) slot_payload) in
        let payload : part_at (1 + m) b (p + action_payload_at) ≡ payload_bytes (payload_at b (p + action_payload_at)) =
        ap (λ (n : ℕ). part_at n b (p + action_payload_at)) long ∙ (payload_written b (p + action_payload_at) bytes (omega arith)).part in
        entry_parts (action_at b p) ∙ sym (λ i. id i ++ payload i)

    -- As the code copies it.
    pub entry_put : (o o₁ o₂ : List ℕ) (at : ℕ) → at + (entry_head_size + m) ≤ length o → o₁ ≡ patched at (take (p + id_size - p) (drop p b)) o
        → o₂ ≡ patched (at + id_size) (take (p + action_payload_at + 1 + m - (p + action_payload_at)) (drop (p + action_payload_at) b)) o₁
        → o₂ ≡ patched at (entry_bytes (action_at b p)) o
    unfolding part_at
    entry_put o o₁ o₂ at l h k =
        let first : p + id_size - p ≡ id_size = omega arith in
        let second : p + action_payload_at + 1 + m - (p + action_payload_at) ≡ 1 + m = omega arith in
        let x : List ℕ = take id_size (drop p b) in
        let y : List ℕ = take (1 + m) (drop (p + action_payload_at) b) in
        let size : id_size ≡ length x = sym (part_length id_size b p (omega arith)) in
        k
        ∙ (λ i. patched (at + size i) (take (second i) (drop (p + action_payload_at) b)) (h i))
        ∙ ap (λ (n : ℕ). patched (at + length x) y (patched at (take n (drop p b)) o)) first
        ∙ patched_next at x y o (omega arith)
        ∙ ap (λ (z : List ℕ). patched at z o) (sym slot_entry)

-- ---- entries

pub entries_append : (x y : List Action) → entries_bytes (x ++ y) ≡ entries_bytes x ++ entries_bytes y
unfolding entries_bytes
entries_append x y = ap joined (map-append entry_bytes x y) ∙ joined_append (map entry_bytes x) (map entry_bytes y)

pub one_entry : (a : Action) → entries_bytes (a ∷ []) ≡ entry_bytes a
unfolding entries_bytes joined
one_entry a = append-nil (entry_bytes a)

-- ---- those that fit

module _ (r : ℕ) (a : Action) (l : List Action) where
  pub first_fits : length (entry_bytes a) ≤ r → fitting r (a ∷ l) ≡ a ∷ fitting (r - length (entry_bytes a)) l
  unfolding fitting
  first_fits h = sym (pick_le (length (entry_bytes a)) r _ _ _ h refl)

  pub first_too_long : r < length (entry_bytes a) → fitting r (a ∷ l) ≡ []
  unfolding fitting
  first_too_long h = sym (pick_gt (length (entry_bytes a)) r _ _ _ h refl)

pub none_to_fit : (r : ℕ) → fitting r [] ≡ []
unfolding fitting
none_to_fit r = refl

-- They are the first ones of the list.
pub fitting_taken : (r : ℕ) (l : List Action) → (length (fitting r l) ≤ length l) × (fitting r l ≡ take (length (fitting r l)) l)
fitting_taken r [] = (omega (arith, ap length (none_to_fit r)), none_to_fit r ∙ ap (λ (x : List Action). take (length x) []) (sym (none_to_fit r)))
fitting_taken r (a ∷ l) = go (known (length (entry_bytes a) ≤? r)) (λ q. fitting_taken q l)
  where
    go : Known (length (entry_bytes a) ≤? r) → ((q : ℕ) → (length (fitting q l) ≤ length l) × (fitting q l ≡ take (length (fitting q l)) l))
        → (length (fitting r (a ∷ l)) ≤ length (a ∷ l)) × (fitting r (a ∷ l) ≡ take (length (fitting r (a ∷ l))) (a ∷ l))
    go (holds h) next =
        let e = first_fits r a l (le_holds (length (entry_bytes a)) r h) in
        let n = next (r - length (entry_bytes a)) in (
          omega (arith, ap length e, n.0),
          e ∙ ap (λ (x : List Action). a ∷ x) n.1 ∙ ap (λ (x : List Action). take (length x) (a ∷ l)) (sym e),
        )
    go (fails h) next =
        let e = first_too_long r a l (le_fails (length (entry_bytes a)) r h) in
        (omega (arith, ap length e), e ∙ ap (λ (x : List Action). take (length x) (a ∷ l)) (sym e))
