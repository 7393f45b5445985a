-- Bytes laid over others, and filled up.
use Prim.Native.Nat.{ℕ, ◌+◌, ◌-◌, ◌≤◌}
use mathlib.Core.Path.{◌≡◌, refl, sym, ap, ◌∙◌}
use mathlib.Core.List.{List, [], ◌++◌, append_assoc, append-nil}
use native.Mathlib.Nat.{zero-add}
use native.Mathlib.Omega.{arith}
use lib.ListN.{length, take, drop, length-append, length-drop, length-replicate, drop_of_length-le}
use lib.Seq.{take_all, take_at, drop_at, drop-drop}
use Rattle.base.specs.Bytes.{over, zeros, slot}
use Rattle.base.specs.Patched.{patched}
use Rattle.base.proofs.Occurs.{Occurs, occurs_first}
use Rattle.base.proofs.PatchedLaws.{patched_length}
use Rattle.base.proofs.Sections.{patched_front}

pub over_length : (y l : List ℕ) → length y ≤ length l → length (over y l) ≡ length l
unfolding over
over_length y l h = simp (length-append, length-drop) (omega arith)

pub over_again : (y l : List ℕ) → over y (over y l) ≡ over y l
unfolding over
over_again y l = ap (λ (r : List ℕ). y ++ r) (drop_at y (drop (length y) l) (length y) refl)

pub slot_length : (size : ℕ) (y : List ℕ) → length y ≤ size → length (slot size y) ≡ size
unfolding slot zeros
slot_length size y h = simp (length-append, length-replicate) (omega arith)

pub zeros_length : (m : ℕ) → length (zeros m) ≡ m
unfolding zeros
zeros_length m = length-replicate {A = ℕ} m 0

-- ---- changes of a used part

-- It is in front.
pub over_take : (y l : List ℕ) (m : ℕ) → length y ≡ m → take m (over y l) ≡ y
unfolding over
over_take y l m e = take_at y (drop (length y) l) m e

pub used_part : (y l e : List ℕ) (at : ℕ) → Occurs (over y l) e at → Occurs y e at
unfolding over
used_part y l e at o = occurs_first y (drop (length y) l) e at o

-- More behind it.
pub over_extended : (y x l : List ℕ) → patched (length y) x (over y l) ≡ over (y ++ x) l
unfolding over patched
over_extended y x l =
    let front : take (length y) (y ++ drop (length y) l) ≡ y = take_at y (drop (length y) l) (length y) refl in
    let back : drop (length y + length x) (y ++ drop (length y) l) ≡ drop (length (y ++ x)) l =
    sym (drop-drop (length x) (length y) (y ++ drop (length y) l))
    ∙ ap (λ (m : List ℕ). drop (length x) m) (drop_at y (drop (length y) l) (length y) refl)
    ∙ drop-drop (length x) (length y) l
    ∙ ap (λ (m : ℕ). drop m l) (sym (length-append y x)) in
    rw (front, back) (sym (append_assoc y x (drop (length (y ++ x)) l)))

-- Inside it.
pub over_changed : (y x l : List ℕ) (i : ℕ) → i + length x ≤ length y → patched i x (over y l) ≡ over (patched i x y) l
unfolding over
over_changed y x l i h =
    patched_front i x y (drop (length y) l) h ∙ ap (λ (m : ℕ). patched i x y ++ drop m l) (sym (patched_length i x y h))

-- Only y in front is used from now on.
pub over_front : (y l : List ℕ) → patched 0 y l ≡ over y l
unfolding over patched
over_front y l = ap (λ (m : ℕ). y ++ drop m l) (zero-add (length y))

-- ---- the rest of a list from `at` on, lent

-- It is all that is behind `at`.
pub rest_whole : (l : List ℕ) (at : ℕ) → take (length l - at) (drop at l) ≡ drop at l
rest_whole l at = take_all (length l - at) (drop at l) (omega (arith, length-drop at l))

-- It is back, with y at its front.
pub rest_back : (at : ℕ) (y l : List ℕ) → take at l ++ (over y (drop at l) ++ drop (length l - at) (drop at l)) ≡ patched at y l
unfolding over patched
rest_back at y l =
    let none : drop (length l - at) (drop at l) ≡ [] = drop_of_length-le (drop at l) {i = length l - at} (omega (arith, length-drop at l)) in
    rw (none, append-nil, drop-drop)
