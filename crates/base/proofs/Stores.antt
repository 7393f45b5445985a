-- A list after stores and copies as code makes them: parts of it replaced.
use Prim.Native.Nat.{ℕ, ◌+◌, ◌≤◌, ◌<◌}
use mathlib.Core.Path.{◌≡◌, refl, sym, ap, ap₂, subst, ◌∙◌}
use mathlib.Core.List.{List, [], ◌∷◌, ◌++◌, append-nil, append_assoc}
use native.Mathlib.Nat.{zero-add}
use native.Mathlib.Omega.{arith}
use native.Mathlib.Numerals.{add-one}
use lib.ListN.{length, get_or, take, drop, set, replicate, length-append, length-drop, length-replicate, take-append-drop}
use lib.Seq.{take_all, get_or-drop, length-take-le}
use Rattle.base.specs.Bytes.{part_at, joined}
use Rattle.base.specs.Patched.{patched}
use Rattle.base.proofs.PatchedLaws.{patched_more, patched_next, patched_whole, patched_element}

-- ---- a copy in a loop: a turn, and the end

pub copy_more : (s t b : List ℕ) (at j : ℕ) → at + length b ≤ length s → j < length b → t ≡ patched at (take j b) s
    → set t (at + j) (get_or b j 0) ≡ patched at (take (j + 1) b) s
copy_more s t b at j h k e = rw (e, add-one) (patched_more at j b s 0 (omega arith) k)

pub copy_all : (s t b : List ℕ) (at j : ℕ) → length b ≤ j → t ≡ patched at (take j b) s → t ≡ patched at b s
copy_all s t b at j k e = e ∙ ap (λ (l : List ℕ). patched at l s) (take_all j b k)

-- ---- a part read into an array of w zeros in a loop: a turn, and the end

pub read_more : (w : ℕ) (s x : List ℕ) (at j : ℕ) → at + w ≤ length s → j < w → x ≡ patched 0 (take j (drop at s)) (replicate {A = ℕ} w 0)
    → set x j (get_or s (at + j) 0) ≡ patched 0 (take (j + 1) (drop at s)) (replicate {A = ℕ} w 0)
read_more w s x at j h l e =
    let z : List ℕ = replicate {A = ℕ} w 0 in
    let b : List ℕ = drop at s in
    let size : length z ≡ w = length-replicate {A = ℕ} w 0 in
    ap₂ {A = List ℕ} {B = ℕ} {C = List ℕ} (λ y v. set y j v) e (sym (get_or-drop at s j 0))
    ∙ ap (λ (k : ℕ). set (patched 0 (take j b) z) k (get_or b j 0)) (sym (zero-add j))
    ∙ patched_more 0 j b z 0 (omega arith) (simp length-drop (omega arith))
    ∙ ap (λ (k : ℕ). patched 0 (take k b) z) (sym (add-one j))

pub read_all : (w : ℕ) (s x : List ℕ) (at j : ℕ) → at + w ≤ length s → j ≤ w → w ≤ j
    → x ≡ patched 0 (take j (drop at s)) (replicate {A = ℕ} w 0) → x ≡ part_at w s at
unfolding part_at
read_all w s x at j h l m e =
    let z : List ℕ = replicate {A = ℕ} w 0 in
    let k : j ≡ w = omega arith in
    let y : List ℕ = take w (drop at s) in
    let size : length y ≡ w = length-take-le w (drop at s) (simp length-drop (omega arith)) in
    e ∙ ap (λ (i : ℕ). patched 0 (take i (drop at s)) z) k ∙ patched_whole y z (size ∙ sym (length-replicate {A = ℕ} w 0))

-- ---- a copy to a place behind, in a loop: a turn, and the end

pub up_more : (s t : List ℕ) (from to m j : ℕ) → from + m ≤ to → to + m ≤ length s → j < m → t ≡ patched to (take j (drop from s)) s
    → set t (to + j) (get_or t (from + j) 0) ≡ patched to (take (j + 1) (drop from s)) s
up_more s t from to m j h l k e =
    let b : List ℕ = drop from s in
    let same : get_or t (from + j) 0 ≡ get_or b j 0 =
    ap (λ (z : List ℕ). get_or z (from + j) 0) e ∙ patched_element to (take j b) s (from + j) 0 (omega arith) (omega arith) ∙ sym (get_or-drop from s j 0) in
    ap₂ {A = List ℕ} {B = ℕ} {C = List ℕ} (λ z v. set z (to + j) v) e same
    ∙ patched_more to j b s 0 (omega arith) (simp length-drop (omega arith))
    ∙ ap (λ (i : ℕ). patched to (take i b) s) (sym (add-one j))

pub up_all : (s t : List ℕ) (from to m j : ℕ) → j ≤ m → m ≤ j → t ≡ patched to (take j (drop from s)) s → t ≡ patched to (part_at m s from) s
unfolding part_at
up_all s t from to m j h l e = let k : j ≡ m = omega arith in e ∙ ap (λ (i : ℕ). patched to (take i (drop from s)) s) k

-- ---- one block of bytes after another

-- b, and c next after it
pub next_block : (at m : ℕ) (b c s s₁ s₂ : List ℕ) → at ≤ length s → s₁ ≡ patched at b s → s₂ ≡ patched m c s₁ → m ≡ at + length b → s₂ ≡ patched at (b ++ c) s
next_block at m b c s s₁ s₂ h e f g = f ∙ rw (e, g) (patched_next at b c s h)

-- the same in a room of k
pub two_blocks : (at m k : ℕ) (b c s s₁ s₂ : List ℕ) → at + k ≤ length s → s₁ ≡ patched at b s → s₂ ≡ patched (at + m) c s₁ → length b ≡ m
    → s₂ ≡ patched at (joined (b ∷ c ∷ [])) s
unfolding joined
two_blocks at m k b c s s₁ s₂ h e f g =
    next_block at (at + m) b c s s₁ s₂ (omega arith) e f (omega arith) ∙ rw append-nil

-- Blocks one after another: each is written at its place.
abbrev pub written : List ℕ → List (List ℕ) → List ℕ → List ℕ
written [] bs s = s
written (k ∷ ks) [] s = s
written (k ∷ ks) (b ∷ bs) s = written ks bs (patched k b s)

-- The first place is `at`, and each other one is where the block before it ends.
abbrev pub Next : ℕ → List ℕ → List (List ℕ) → Type 0
Next at [] [] = Unit {0}
Next at [] (b ∷ bs) = ⊥
Next at (k ∷ ks) [] = ⊥
Next at (k ∷ ks) (b ∷ bs) = (k ≡ at) × Next (k + length b) ks bs

-- They are one block, behind a that was written before.
written_behind : (at : ℕ) (a : List ℕ) (ks : List ℕ) (bs : List (List ℕ)) (s : List ℕ) → at ≤ length s → Next (at + length a) ks bs
    → written ks bs (patched at a s) ≡ patched at (a ++ joined bs) s
unfolding joined
written_behind at a [] [] s h n = ap (λ (l : List ℕ). patched at l s) (sym (append-nil a))
written_behind at a [] (b ∷ bs) s h n = absurd n
written_behind at a (k ∷ ks) [] s h n = absurd n
written_behind at a (k ∷ ks) (b ∷ bs) s h n =
    let place : k + length b ≡ at + length (a ++ b) = omega (arith, n.0, length-append a b) in
    ap (λ (t : List ℕ). written ks bs t) (next_block at k a b s (patched at a s) (patched k b (patched at a s)) h refl refl n.0)
    ∙ written_behind at (a ++ b) ks bs s h (subst (λ (m : ℕ). Next m ks bs) place n.1)
    ∙ ap (λ (l : List ℕ). patched at l s) (append_assoc a b (joined bs))

-- The law of n blocks: written one after another they are written as one.
pub blocks_joined : (at : ℕ) (ks : List ℕ) (bs : List (List ℕ)) (s : List ℕ) → at ≤ length s → Next at ks bs → written ks bs s ≡ patched at (joined bs) s
unfolding joined patched
blocks_joined at [] [] s h n = let e : at + 0 ≡ at = omega arith in rw e (sym (take-append-drop at s))
blocks_joined at [] (b ∷ bs) s h n = absurd n
blocks_joined at (k ∷ ks) [] s h n = absurd n
blocks_joined at (k ∷ ks) (b ∷ bs) s h n =
    ap (λ (m : ℕ). written ks bs (patched m b s)) n.0
    ∙ written_behind at b ks bs s h (subst (λ (m : ℕ). Next (m + length b) ks bs) n.0 n.1)
