-- The changes of the bytes, as the code makes them.
use Prim.Native.Nat.{ℕ, ◌+◌, ◌*◌, ◌-◌, ◌≤◌}
use mathlib.Core.Path.{◌≡◌, sym, ap, ap₂, ◌∙◌}
use mathlib.Core.List.{List, [], ◌++◌, append_assoc, append-nil}
use native.Mathlib.Omega.{arith}
use native.Mathlib.Nat.{add-zero}
use lib.ListN.{length, take, drop, replicate, length-append, length-drop, length-replicate}
use lib.Seq.{drop_at, drop-drop, length-take-le, take-add, take-take}
use Rattle.base.specs.Bytes.{bytes_of, part_at, joined, zeros, slot}
use Rattle.base.proofs.BytesLaws.{bytes_length}
use Rattle.base.specs.Patched.{patched}
use Rattle.base.proofs.PatchedLaws.{patched_length, patched_next, lent_patched}
use Rattle.base.proofs.Sections.{patched_inside}
use Rattle.base.proofs.Stores.{two_blocks}
use Rattle.octets.specs.Counted.{counted}
use Rattle.pegs.specs.Operations.{most_name, coordinate_size, place_size}
use Rattle.pegs.specs.Image.{count_size, at_place, peg_size}
use Rattle.register_check.specs.Slots.{slot_at}
use Rattle.register.specs.Payloads.{placed}
use Rattle.register.specs.declared.payload.Place.{Place as Given}
use Rattle.register.specs.Changes.{RoomFor, SlotsIn, named_bytes, place_bytes, slot_bytes, widened, inserted, removed, replaced}

-- ---- a slot

named_filled : (m : List ℕ) → counted m ++ zeros (most_name - length m) ≡ named_bytes m
unfolding named_bytes joined slot
named_filled m =
    let z : List ℕ = zeros (most_name - length m) in
    append_assoc (bytes_of 1 (length m)) (m ++ []) z ∙ ap (λ (l : List ℕ). bytes_of 1 (length m) ++ l) (ap (λ (l : List ℕ). l ++ z) (append-nil m) ∙ sym (append-nil (m ++ z)))

counted_size : (m : List ℕ) → length (counted m) ≡ 1 + length m
unfolding joined
counted_size m = length-append (bytes_of 1 (length m)) (m ++ []) ∙ omega (arith, bytes_length 1 (length m), ap length (append-nil m))

pub named_size : (m : List ℕ) → length m ≤ most_name → length (named_bytes m) ≡ at_place
unfolding zeros
named_size m h =
    ap length (sym (named_filled m))
    ∙ length-append (counted m) (zeros (most_name - length m))
    ∙ omega (arith, counted_size m, length-replicate {A = ℕ} (most_name - length m) 0)

pub name_put : (m s s₁ s₂ : List ℕ) (at : ℕ) → length m ≤ most_name → at + at_place ≤ length s → s₁ ≡ patched at (counted m) s
    → s₂ ≡ patched (at + (1 + length m)) (replicate {A = ℕ} (most_name - length m) 0) s₁ → s₂ ≡ patched at (named_bytes m) s
unfolding zeros
name_put m s s₁ s₂ at l h e f =
    let z : List ℕ = zeros (most_name - length m) in
    f ∙ ap (λ (k : ℕ). patched (at + k) z s₁) (sym (counted_size m))
    ∙ ap (patched (at + length (counted m)) z) e
    ∙ patched_next at (counted m) z s (omega arith)
    ∙ ap (λ (y : List ℕ). patched at y s) (named_filled m)

pub place_put : (p : Given) (s s₁ s₂ : List ℕ) (at : ℕ) → at + place_size ≤ length s → s₁ ≡ patched at (bytes_of coordinate_size p.easting) s
    → s₂ ≡ patched (at + coordinate_size) (bytes_of coordinate_size p.northing) s₁ → s₂ ≡ patched at (place_bytes (placed p)) s
place_put p s s₁ s₂ at h e f =
    f ∙ ap₂ {A = ℕ} {B = List ℕ} {C = List ℕ} (λ k x. patched (at + k) (bytes_of coordinate_size p.northing) x) (sym (bytes_length coordinate_size p.easting)) e
    ∙ patched_next at (bytes_of coordinate_size p.easting) (bytes_of coordinate_size p.northing) s (omega arith)

pub slot_put_lem : (m p s s₁ s₂ : List ℕ) (at : ℕ) → length m ≤ most_name → at + peg_size ≤ length s → s₁ ≡ patched at (named_bytes m) s
    → s₂ ≡ patched (at + at_place) p s₁ → s₂ ≡ patched at (slot_bytes m p) s
unfolding slot_bytes
slot_put_lem m p s s₁ s₂ at l h e f = two_blocks at at_place peg_size (named_bytes m) p s s₁ s₂ h e f (named_size m l)

-- ---- the slots from `at` on moved up, and those behind it moved down

-- y is what a shift by one slot makes of the w bytes from a on.
moved_up : (s y : List ℕ) (a w m : ℕ) → a + (peg_size + m) ≤ length s → w ≡ peg_size + m
    → y ≡ take peg_size (take w (drop a s)) ++ take (length (take w (drop a s)) - peg_size) (take w (drop a s))
    → take a s ++ (y ++ drop w (drop a s)) ≡ patched (a + peg_size) (part_at m s a) s
unfolding patched part_at
moved_up s y a w m h e f =
    let l : List ℕ = drop a s in
    let room : w ≤ length l = simp length-drop (omega arith) in
    let size : length (take w l) - peg_size ≡ m = ap (λ (k : ℕ). k - peg_size) (length-take-le w l room) ∙ omega arith in
    let short : length (take m l) ≡ m = length-take-le m l (omega arith) in
    let first : take peg_size (take w l) ≡ take peg_size l = take-take peg_size w l (omega arith) in
    let second : take (length (take w l) - peg_size) (take w l) ≡ take m l = ap (λ (k : ℕ). take k (take w l)) size ∙ take-take m w l (omega arith) in
    let behind : a + w ≡ a + peg_size + length (take m l) = omega arith in
    ap₂ {A = List ℕ} {B = List ℕ} {C = List ℕ} (λ u v. take a s ++ (u ++ v)) (f ∙ ap₂ {A = List ℕ} {B = List ℕ} {C = List ℕ} (λ u v. u ++ v) first second) (drop-drop w a s ∙ ap (λ (k : ℕ). drop k s) behind)
    ∙ ap (λ (u : List ℕ). take a s ++ u) (append_assoc (take peg_size l) (take m l) (drop (a + peg_size + length (take m l)) s))
    ∙ sym (append_assoc (take a s) (take peg_size l) (take m l ++ drop (a + peg_size + length (take m l)) s))
    ∙ ap (λ (u : List ℕ). u ++ (take m l ++ drop (a + peg_size + length (take m l)) s)) (sym (take-add a peg_size s))

pub widened_made : (s y s₂ : List ℕ) (a e i n : ℕ) → RoomFor i n s → a ≡ count_size + peg_size * i → e ≡ count_size + peg_size * (n + 1)
    → y ≡ take peg_size (take (e - a) (drop a s)) ++ take (length (take (e - a) (drop a s)) - peg_size) (take (e - a) (drop a s))
    → s₂ ≡ patched 0 (bytes_of count_size (n + 1)) (take a s ++ (y ++ drop (e - a) (drop a s))) → s₂ ≡ widened i n s
unfolding widened
widened_made s y s₂ a e i n r f g k j =
    let p = r.place in
    let q = r.room in
    let l = r.long in
    j ∙ ap (patched 0 (bytes_of count_size (n + 1)))
    (moved_up s y a (e - a) (peg_size * (n - i)) (omega arith) (omega arith) k
    ∙ ap (λ (b : ℕ). patched (b + peg_size) (part_at (peg_size * (n - i)) s b) s) f)

pub inserted_made : (m p s s₁ s₂ : List ℕ) (i n : ℕ) → s₁ ≡ widened i n s → s₂ ≡ patched (count_size + peg_size * i) (slot_bytes m p) s₁ → s₂ ≡ inserted i n m p s
unfolding inserted
inserted_made m p s s₁ s₂ i n e f = f ∙ ap (patched (slot_at i) (slot_bytes m p)) e

-- y is what a shift down by one slot makes of the w bytes from a on.
moved_down : (s y : List ℕ) (a w m : ℕ) → a + (peg_size + m) ≤ length s → w ≡ peg_size + m
    → y ≡ patched 0 (drop peg_size (take w (drop a s))) (take w (drop a s))
    → take a s ++ (y ++ drop w (drop a s)) ≡ patched a (part_at m s (a + peg_size)) s
unfolding part_at
moved_down s y a w m h e f =
    let l : List ℕ = drop a s in
    let room : w ≤ length l = simp length-drop (omega arith) in
    let long : length (take w l) ≡ w = length-take-le w l room in
    let x : List ℕ = drop peg_size (take w l) in
    let size : length x ≡ w - peg_size = length-drop peg_size (take w l) ∙ omega arith in
    let there : x ≡ take m (drop (a + peg_size) s) =
    ap (λ (k : ℕ). drop peg_size (take k l)) e
    ∙ ap (drop peg_size) (take-add peg_size m l)
    ∙ drop_at (take peg_size l) (take m (drop peg_size l)) peg_size (length-take-le peg_size l (omega arith))
    ∙ ap (take m) (drop-drop peg_size a s) in
    lent_patched a w y s (ap length f ∙ patched_length 0 x (take w l) (omega arith) ∙ long)
    ∙ ap (λ (z : List ℕ). patched a z s) f
    ∙ sym (patched_inside a 0 w x s (omega arith) (omega (arith, length-drop a s)))
    ∙ ap₂ {A = ℕ} {B = List ℕ} {C = List ℕ} (λ k z. patched k z s) (add-zero a) there

pub removed_made : (s y s₂ : List ℕ) (a e i n : ℕ) → SlotsIn i n s → a ≡ count_size + peg_size * i → e ≡ count_size + peg_size * n
    → y ≡ patched 0 (drop peg_size (take (e - a) (drop a s))) (take (e - a) (drop a s))
    → s₂ ≡ patched 0 (bytes_of count_size (n - 1)) (take a s ++ (y ++ drop (e - a) (drop a s))) → s₂ ≡ removed i n s
unfolding removed
removed_made s y s₂ a e i n r f g k j =
    let p = r.place in
    let q = r.most in
    let l = r.long in
    j ∙ ap (patched 0 (bytes_of count_size (n - 1)))
    (moved_down s y a (e - a) (peg_size * (n - (i + 1))) (omega arith) (omega arith) k
    ∙ ap (λ (b : ℕ). patched b (part_at (peg_size * (n - (i + 1))) s (b + peg_size)) s) f)

pub replaced_made : (p s s₁ : List ℕ) (i : ℕ) → s₁ ≡ patched (count_size + peg_size * i + at_place) p s → s₁ ≡ replaced i p s
unfolding replaced
replaced_made p s s₁ i e = e
