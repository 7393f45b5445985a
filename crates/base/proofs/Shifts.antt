-- Elements moved up or down inside a list: the turns of the loops and what they come to.
use Prim.Native.Nat.{ℕ, suc, ◌+◌, ◌-◌, ◌≤◌, ◌<◌}
use mathlib.Core.Path.{◌≡◌, sym, ap, ap₂, ◌∙◌}
use mathlib.Core.List.{List, ◌∷◌, ◌++◌, append-nil}
use native.Mathlib.Omega.{arith}
use native.Mathlib.Numerals.{add-one}
use native.Mathlib.Nat.{add-suc, add-zero, zero-add}
use lib.ListN.{length, get_or, take, drop, set, length-take, length-drop, get_or-append, drop_of_length-le}
use lib.Seq.{take-length, take-suc, drop-cons, set_at, get_or-take, get_or-drop, get_or-append-add, append_snoc, length-take-le, take_all}
use Rattle.base.specs.Patched.{patched}
use Rattle.base.proofs.PatchedLaws.{patched_more}

-- ---- down

pub patched_front_part : (b s : List ℕ) → patched 0 b s ≡ b ++ drop (length b) s
unfolding patched
patched_front_part b s = ap (λ (m : ℕ). b ++ drop m s) (zero-add (length b))

pub down_turn : (s t : List ℕ) (w n i : ℕ) → w ≤ length s → n ≡ length s - w → i < n → t ≡ patched 0 (take i (drop w s)) s
    → set t i (get_or t (w + i) 0) ≡ patched 0 (take (i + 1) (drop w s)) s
down_turn s t w n i h m l e =
    let b : List ℕ = drop w s in
    let x : List ℕ = take i b in
    let size : length x ≡ i = length-take-le i b (simp length-drop (omega arith)) in
    let place : w + i ≡ length x + w = omega arith in
    let there : length x + w ≡ w + i = omega arith in
    let same : get_or t (w + i) 0 ≡ get_or b i 0 =
    ap₂ {A = List ℕ} {B = ℕ} {C = ℕ} (λ z k. get_or z k 0) (e ∙ patched_front_part x s) place
    ∙ get_or-append-add x (drop (length x) s) w 0
    ∙ get_or-drop (length x) s w 0
    ∙ ap (λ (k : ℕ). get_or s k 0) there
    ∙ sym (get_or-drop w s i 0) in
    ap₂ {A = List ℕ} {B = ℕ} {C = List ℕ} (λ z v. set z i v) e same
    ∙ ap (λ (k : ℕ). set (patched 0 x s) k (get_or b i 0)) (sym (zero-add i))
    ∙ patched_more 0 i b s 0 (omega arith) (simp length-drop (omega arith))
    ∙ ap (λ (k : ℕ). patched 0 (take k b) s) (sym (add-one i))

pub down_end : (s t : List ℕ) (w n i : ℕ) → n ≡ length s - w → n ≤ i → t ≡ patched 0 (take i (drop w s)) s → t ≡ patched 0 (drop w s) s
down_end s t w n i m h e = e ∙ ap (λ (b : List ℕ). patched 0 b s) (take_all i (drop w s) (simp length-drop (omega arith)))

-- ---- up

-- What a shift by w has made of s once the elements from i on are moved.
abbrev pub shifted : List ℕ → ℕ → ℕ → List ℕ
shifted s w i = take (w + i) s ++ drop i (take (length s - w) s)

pub up_turn : (s₀ s : List ℕ) (w i : ℕ) → w + i < length s₀ → s ≡ shifted s₀ w (suc i) → set s (w + i) (get_or s i 0) ≡ shifted s₀ w i
up_turn s₀ s w i h e =
    let n : ℕ = length s₀ - w in
    let rest : List ℕ = drop (suc i) (take n s₀) in
    let long : length (take (w + suc i) s₀) ≡ w + suc i = length-take-le (w + suc i) s₀ (omega arith) in
    let i<n : i < n = omega arith in
    let in_take : i < length (take n s₀) = simp length-take (omega arith) in
    let same : get_or s i 0 ≡ get_or s₀ i 0 =
    rw e (get_or-append (take (w + suc i) s₀) rest 0 i (omega arith) ∙ get_or-take (w + suc i) s₀ i 0 (omega arith)) in
    let cons : drop i (take n s₀) ≡ get_or s₀ i 0 ∷ rest =
    drop-cons (take n s₀) i 0 in_take ∙ ap (λ (x : ℕ). x ∷ rest) (get_or-take n s₀ i 0 i<n) in
    let open_it : s ≡ take (w + i) s₀ ++ (get_or s₀ (w + i) 0 ∷ rest) =
    e ∙ ap (λ (k : ℕ). take k s₀ ++ rest) (add-suc w i) ∙ ap (λ (l : List ℕ). l ++ rest) (take-suc s₀ (w + i) 0 h)
    ∙ append_snoc (take (w + i) s₀) (get_or s₀ (w + i) 0) rest in
    ap (λ (v : ℕ). set s (w + i) v) same
    ∙ ap (λ (l : List ℕ). set l (w + i) (get_or s₀ i 0)) open_it
    ∙ set_at (take (w + i) s₀) (get_or s₀ (w + i) 0) rest (get_or s₀ i 0) (w + i) (length-take-le (w + i) s₀ (omega arith))
    ∙ ap (λ (l : List ℕ). take (w + i) s₀ ++ l) (sym cons)

pub up_start : (s : List ℕ) (w : ℕ) → w ≤ length s → s ≡ shifted s w (length s - w)
up_start s w h =
    let n : ℕ = length s - w in
    let e : w + n ≡ length s = omega arith in
    sym (rw (e, take-length, drop_of_length-le (take n s) {i = n} (simp length-take (omega arith)), append-nil))

pub up_end : (s : List ℕ) (w : ℕ) → shifted s w 0 ≡ take w s ++ take (length s - w) s
up_end s w = rw add-zero
