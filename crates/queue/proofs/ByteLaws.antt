-- The changes of the bytes, as the code makes them.
use Prim.Native.Nat.{ℕ, ◌+◌, ◌*◌, ◌-◌, ◌≤◌}
use mathlib.Core.Path.{◌≡◌, sym, ap, ap₂, ◌∙◌}
use mathlib.Core.List.{List, ◌++◌}
use native.Mathlib.Omega.{arith}
use native.Mathlib.Nat.{add-zero}
use lib.ListN.{length, take, drop, length-append, length-drop}
use lib.Seq.{drop_at, drop-drop, length-take-le, take-add, take-take}
use Rattle.base.specs.Bytes.{bytes_of, number_at, part_at, slot}
use Rattle.base.proofs.BytesLaws.{part_length}
use Rattle.base.specs.Patched.{patched}
use Rattle.base.proofs.PatchedLaws.{patched_length, lent_patched}
use Rattle.base.proofs.Sections.{patched_inside}
use Rattle.format.specs.Write.{action_bytes}
use Rattle.record.specs.declared.ActionHead.{ActionHead}
use Rattle.record.specs.Values.{id_of, action_of}
use Rattle.image.specs.Layout.{slot_size, header_size, at_queue_length, at_green_count, at_own_count, the_queue}
use Rattle.queue.specs.Queue.{appended, queued, popped, shifted, promoted}
use Rattle.image.specs.Counts.{place}

pub appended_made : (h : ActionHead) (p s s₁ s₂ : List ℕ) (count r : ℕ) → count ≡ number_at 4 s at_queue_length → r ≡ place the_queue s
    → s₁ ≡ patched (r + slot_size * count) (slot slot_size (action_bytes (action_of h p))) s → s₂ ≡ patched at_queue_length (bytes_of 4 (count + 1)) s₁
    → s₂ ≡ appended (action_of h p) s
unfolding appended
appended_made h p s s₁ s₂ count r e f g k =
    let x : List ℕ = slot slot_size (action_bytes (action_of h p)) in
    k ∙ ap (patched at_queue_length (bytes_of 4 (count + 1))) g
    ∙ ap₂ {A = ℕ} {B = ℕ} {C = List ℕ} (λ m i. patched at_queue_length (bytes_of 4 (m + 1)) (patched (i + slot_size * m) x s)) e f

pub queued_made : (h : ActionHead) (p s s₁ s₂ : List ℕ) → s₁ ≡ appended (action_of h p) s → s₂ ≡ patched (header_size + 2 * h.creator) (bytes_of 2 h.index) s₁
    → s₂ ≡ queued (action_of h p) s
unfolding queued action_of id_of
queued_made h p s s₁ s₂ e f = f ∙ ap (patched (header_size + 2 * h.creator) (bytes_of 2 h.index)) e

made_of : (s y : List ℕ) (a v w d : ℕ) → v ≡ w → y ≡ patched 0 (drop d (take v (drop a s))) (take v (drop a s))
    → y ≡ patched 0 (drop d (part_at w s a)) (part_at w s a)
unfolding part_at
made_of s y a v w d m n = n ∙ ap (λ (i : ℕ). patched 0 (drop d (take i (drop a s))) (take i (drop a s))) m

-- The w bytes from a on, moved down by d.
moved_down : (s y : List ℕ) (a e w d : ℕ) → a + w ≤ length s → e ≡ a + w → y ≡ patched 0 (drop d (take (e - a) (drop a s))) (take (e - a) (drop a s))
    → take a s ++ (y ++ drop (e - a) (drop a s)) ≡ patched a (drop d (part_at w s a)) s
moved_down s y a e w d h f g =
    let size : e - a ≡ w = omega arith in
    let p : List ℕ = part_at w s a in
    let x : List ℕ = drop d p in
    let long : length p ≡ w = part_length w s a h in
    let short : length x ≡ w - d = length-drop d p ∙ omega arith in
    let made : y ≡ patched 0 x p = made_of s y a (e - a) w d size g in
    let same : length y ≡ w = ap length made ∙ patched_length 0 x p (omega arith) ∙ long in
    ap (λ (m : ℕ). take a s ++ (y ++ drop m (drop a s))) size
    ∙ lent_patched a w y s same
    ∙ ap (λ (z : List ℕ). patched a z s) made
    ∙ sym (patched_inside a 0 w x s (omega arith) h)
    ∙ ap (λ (m : ℕ). patched m x s) (add-zero a)

pub popped_made : (s y s₂ : List ℕ) (a e own : ℕ) → a + slot_size * own ≤ length s → e ≡ a + slot_size * own
    → y ≡ patched 0 (drop slot_size (take (e - a) (drop a s))) (take (e - a) (drop a s))
    → s₂ ≡ patched at_own_count (bytes_of 2 (own - 1)) (take a s ++ (y ++ drop (e - a) (drop a s))) → s₂ ≡ popped a own s
unfolding popped
popped_made s y s₂ a e own h f g k = k ∙ ap (patched at_own_count (bytes_of 2 (own - 1))) (moved_down s y a e (slot_size * own) slot_size h f g)

pub shifted_made : (s y s₂ : List ℕ) (a e m k : ℕ) → a + slot_size * m ≤ length s → e ≡ a + slot_size * m
    → y ≡ patched 0 (drop (slot_size * k) (take (e - a) (drop a s))) (take (e - a) (drop a s))
    → s₂ ≡ patched at_queue_length (bytes_of 4 (m - k)) (take a s ++ (y ++ drop (e - a) (drop a s))) → s₂ ≡ shifted a m k s
unfolding shifted
shifted_made s y s₂ a e m k h f g j = j ∙ ap (patched at_queue_length (bytes_of 4 (m - k))) (moved_down s y a e (slot_size * m) (slot_size * k) h f g)

drop_take : (m n : ℕ) (l : List ℕ) → m ≤ length l → drop m (take (m + n) l) ≡ take n (drop m l)
drop_take m n l h = ap (drop m) (take-add m n l) ∙ drop_at (take m l) (take n (drop m l)) m (length-take-le m l h)

front_made : (s y : List ℕ) (a k w : ℕ) → a + (slot_size * k + slot_size) ≤ length s → w ≡ slot_size * k + slot_size
    → y ≡ drop (length (take w (drop a s)) - slot_size) (take w (drop a s)) ++ take (length (take w (drop a s)) - slot_size) (take w (drop a s))
    → y ≡ part_at slot_size s (a + slot_size * k) ++ part_at (slot_size * k) s a
unfolding part_at
front_made s y a k w h f g =
    let l : List ℕ = drop a s in
    let room : slot_size * k + slot_size ≤ length l = simp length-drop (omega arith) in
    let size : length (take w l) - slot_size ≡ slot_size * k = ap (λ (m : ℕ). m - slot_size) (length-take-le w l (omega arith)) ∙ omega arith in
    let last : drop (slot_size * k) (take w l) ≡ take slot_size (drop (a + slot_size * k) s) =
    ap (λ (m : ℕ). drop (slot_size * k) (take m l)) f ∙ drop_take (slot_size * k) slot_size l (omega arith) ∙ ap (take slot_size) (drop-drop (slot_size * k) a s) in
    let first : take (slot_size * k) (take w l) ≡ take (slot_size * k) l = take-take (slot_size * k) w l (omega arith) in
    g ∙ ap (λ (m : ℕ). drop m (take w l) ++ take m (take w l)) size ∙ ap₂ {A = List ℕ} {B = List ℕ} {C = List ℕ} (λ u v. u ++ v) last first

pub promoted_made : (s y s₂ : List ℕ) (a e k g : ℕ) → a + (slot_size * k + slot_size) ≤ length s → e ≡ a + (slot_size * k + slot_size)
    → y ≡ drop (length (take (e - a) (drop a s)) - slot_size) (take (e - a) (drop a s)) ++ take (length (take (e - a) (drop a s)) - slot_size) (take (e - a) (drop a s))
    → s₂ ≡ patched at_green_count (bytes_of 4 g) (take a s ++ (y ++ drop (e - a) (drop a s))) → s₂ ≡ promoted a k g s
unfolding promoted
promoted_made s y s₂ a e k g h f made j =
    let w : ℕ = slot_size * k + slot_size in
    let size : e - a ≡ w = omega arith in
    let x : List ℕ = part_at slot_size s (a + slot_size * k) ++ part_at (slot_size * k) s a in
    let same : y ≡ x = front_made s y a k (e - a) h size made in
    let long : length x ≡ w =
    length-append (part_at slot_size s (a + slot_size * k)) (part_at (slot_size * k) s a)
    ∙ omega (arith, part_length slot_size s (a + slot_size * k) (omega arith), part_length (slot_size * k) s a (omega arith)) in
    j ∙ ap (patched at_green_count (bytes_of 4 g))
    (ap₂ {A = List ℕ} {B = ℕ} {C = List ℕ} (λ z m. take a s ++ (z ++ drop m (drop a s))) same size ∙ lent_patched a w x s long)
