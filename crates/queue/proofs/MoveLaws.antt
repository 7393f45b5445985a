-- Slots written and moved: what they come to.
use Prim.Native.Nat.{ℕ, ◌+◌, ◌-◌, ◌≤◌}
use mathlib.Core.Path.{◌≡◌, sym, ap, ap₂, ◌∙◌}
use mathlib.Core.List.{List, ◌++◌}
use native.Mathlib.Omega.{arith}
use lib.ListN.{length, take, drop, length-drop, replicate}
use lib.Seq.{drop_at, length-take-le, take_all}
use Rattle.std.specs.List.{slice_range}
use Rattle.base.specs.Bytes.{part_at, zeros, slot}
use Rattle.base.specs.Patched.{patched}
use Rattle.base.proofs.PatchedLaws.{patched_next}
use Rattle.base.proofs.Shifts.{patched_front_part}
use Rattle.format.specs.Write.{action_bytes}
use Rattle.format.proofs.Lengths.{action_length}
use Rattle.record.specs.declared.ActionHead.{ActionHead}
use Rattle.record.specs.Values.{action_of}
use Rattle.image.specs.Layout.{slot_size}
use Rattle.format.specs.Limits.{most_payload_limit}
use Rattle.format.specs.Places.{action_head_size}

-- ---- the last slot to the front

pub to_front : (s x s₁ s₂ : List ℕ) → slot_size ≤ length s → x ≡ part_at slot_size s (length s - slot_size)
    → s₁ ≡ take slot_size s ++ take (length s - slot_size) s → s₂ ≡ patched 0 x s₁
    → s₂ ≡ drop (length s - slot_size) s ++ take (length s - slot_size) s
unfolding part_at
to_front s x s₁ s₂ h e f g =
    let d : List ℕ = drop (length s - slot_size) s in
    let m : length d ≡ slot_size = simp length-drop (omega arith) in
    let whole : x ≡ d = e ∙ take_all slot_size d (omega arith) in
    g ∙ patched_front_part x s₁
    ∙ ap₂ {A = List ℕ} {B = List ℕ} {C = List ℕ} (λ y r. y ++ drop (length y) r) whole f
    ∙ ap (λ (k : ℕ). d ++ drop k (take slot_size s ++ take (length s - slot_size) s)) m
    ∙ ap (λ (r : List ℕ). d ++ r) (drop_at (take slot_size s) (take (length s - slot_size) s) slot_size (length-take-le slot_size s h))

-- ---- a slot written

pub slot_put_lem : (h : ActionHead) (p s s₁ s₂ : List ℕ) (at : ℕ) → length p ≤ most_payload_limit → at + slot_size ≤ length s → s₁ ≡ patched at (action_bytes (action_of h p)) s
    → s₂ ≡ patched (at + (action_head_size + length p)) (replicate {A = ℕ} (slot_size - (action_head_size + length p)) 0) s₁ → s₂ ≡ patched at (slot slot_size (action_bytes (action_of h p))) s
unfolding slot zeros action_of
slot_put_lem h p s s₁ s₂ at l r e f =
    let y : List ℕ = action_bytes (action_of h p) in
    let size : length y ≡ action_head_size + length p = action_length (action_of h p) in
    let left : slot_size - (action_head_size + length p) ≡ slot_size - length y = omega arith in
    f ∙ ap₂ {A = ℕ} {B = ℕ} {C = List ℕ} (λ k m. patched (at + k) (zeros m) s₁) (sym size) left
    ∙ ap (patched (at + length y) (zeros (slot_size - length y))) e
    ∙ patched_next at y (zeros (slot_size - length y)) s (omega arith)

pub slot_read : (s : List ℕ) (at : ℕ) (x : List ℕ) → x ≡ slice_range s at (at + slot_size) → x ≡ part_at slot_size s at
unfolding part_at
slot_read s at x e = let size : at + slot_size - at ≡ slot_size = omega arith in e ∙ ap (λ (m : ℕ). take m (drop at s)) size
