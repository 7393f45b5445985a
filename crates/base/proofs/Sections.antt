-- Bytes laid out in sections of given sizes: one law for every section, by its number.
use Prim.Native.Nat.{ℕ, zero, suc, ◌+◌, ◌≤◌, ◌<◌}
use mathlib.Core.Path.{◌≡◌, refl, sym, ap, ap₂, ◌∙◌}
use mathlib.Core.List.{List, [], ◌∷◌, ◌++◌, append_assoc}
use native.Mathlib.Omega.{arith}
use native.Mathlib.Decide.{ℕ_discrete}
use native.Mathlib.Nat.{zero-add, add-zero}
use lib.ListN.{length, get_or, take, drop, set, length-append, length-take, length-drop, take-append-drop}
use lib.Seq.{get_or-set_same, get_or-set_other, ext_get_or, take_at, drop_at, drop-drop, take-append-add, drop-append-add, drop-append-le, take-append-le, take-add, take-take}
use Rattle.base.specs.Bytes.{part_at, joined}
use Rattle.base.proofs.BytesLaws.{part_length, part_behind}
use Rattle.base.specs.Lists.{sum, Each}
use Rattle.base.specs.Patched.{patched}
use Rattle.base.proofs.PatchedLaws.{patched_length}

-- The parts have these sizes.
abbrev pub Sized : List ℕ → List (List ℕ) → Type 0
Sized [] [] = Unit {0}
Sized [] (x ∷ xs) = ⊥
Sized (w ∷ ws) [] = ⊥
Sized (w ∷ ws) (x ∷ xs) = (length x ≡ w) × Sized ws xs

-- Where the section k begins.
abbrev pub begin : List ℕ → ℕ → ℕ
begin ws k = sum (take k ws)

-- The bytes b are these parts, and more behind them.
pub record Laid (ws : List ℕ) (ps : List (List ℕ)) (b : List ℕ) : Type 0 where
  pub sized : Sized ws ps
  pub whole : b ≡ joined ps ++ drop (sum ws) b

-- The sections of b from `at` on.
unfoldable pub cut_by : List ℕ → ℕ → List ℕ → List (List ℕ)
cut_by [] at b = []
cut_by (w ∷ ws) at b = part_at w b at ∷ cut_by ws (at + w) b

-- ---- parts of given sizes

pub sized_count : (ws : List ℕ) (ps : List (List ℕ)) → Sized ws ps → length ps ≡ length ws
sized_count [] [] f = refl
sized_count [] (x ∷ xs) f = absurd f
sized_count (w ∷ ws) [] f = absurd f
sized_count (w ∷ ws) (x ∷ xs) f = ap suc (sized_count ws xs f.1)

pub sized_at : (ws : List ℕ) (ps : List (List ℕ)) (k : ℕ) → Sized ws ps → length (get_or ps k []) ≡ get_or ws k 0
sized_at [] [] k f = refl
sized_at [] (x ∷ xs) k f = absurd f
sized_at (w ∷ ws) [] k f = absurd f
sized_at (w ∷ ws) (x ∷ xs) zero f = f.0
sized_at (w ∷ ws) (x ∷ xs) (suc k) f = sized_at ws xs k f.1

pub sized_set : (ws : List ℕ) (ps : List (List ℕ)) (k : ℕ) (y : List ℕ) → Sized ws ps → length y ≡ get_or ws k 0 → Sized ws (set ps k y)
sized_set [] [] k y f e = tt
sized_set [] (x ∷ xs) k y f e = absurd f
sized_set (w ∷ ws) [] k y f e = absurd f
sized_set (w ∷ ws) (x ∷ xs) zero y f e = (e, f.1)
sized_set (w ∷ ws) (x ∷ xs) (suc k) y f e = (f.0, sized_set ws xs k y f.1 e)

pub sized_length : (ws : List ℕ) (ps : List (List ℕ)) → Sized ws ps → length (joined ps) ≡ sum ws
unfolding joined sum
sized_length [] [] f = refl
sized_length [] (x ∷ xs) f = absurd f
sized_length (w ∷ ws) [] f = absurd f
sized_length (w ∷ ws) (x ∷ xs) f = length-append x (joined xs) ∙ ap₂ {A = ℕ} {B = ℕ} {C = ℕ} (λ m n. m + n) f.0 (sized_length ws xs f.1)

pub sized_rest : (ws : List ℕ) (ps : List (List ℕ)) (r : List ℕ) → Sized ws ps → drop (sum ws) (joined ps ++ r) ≡ r
sized_rest ws ps r f = drop_at (joined ps) r (sum ws) (sized_length ws ps f)

-- Behind a first part x of the size w.
part_past : (x t : List ℕ) (w m n : ℕ) → length x ≡ w → part_at n (x ++ t) (w + m) ≡ part_at n t m
part_past x t w m n e = ap (λ (k : ℕ). part_at n (x ++ t) (k + m)) (sym e) ∙ part_behind n x t m

patched_past : (x t y : List ℕ) (w m : ℕ) → length x ≡ w → patched (w + m) y (x ++ t) ≡ x ++ patched m y t
unfolding patched
patched_past x t y w m e =
    let low : take (w + m) (x ++ t) ≡ x ++ take m t = ap (λ (k : ℕ). take (k + m) (x ++ t)) (sym e) ∙ take-append-add x t m in
    let k : w + m + length y ≡ length x + (m + length y) = omega arith in
    let high : drop (w + m + length y) (x ++ t) ≡ drop (m + length y) t = ap (λ (j : ℕ). drop j (x ++ t)) k ∙ drop-append-add x t (m + length y) in
    ap₂ (λ (a b : List ℕ). a ++ (y ++ b)) low high ∙ append_assoc x (take m t) (y ++ drop (m + length y) t)

patched_first : (x t y : List ℕ) → length y ≡ length x → patched 0 y (x ++ t) ≡ y ++ t
unfolding patched
patched_first x t y e = ap (λ (l : List ℕ). y ++ l) (drop_at x t (0 + length y) (sym e ∙ sym (zero-add (length y))))

part_first : (x t : List ℕ) (w : ℕ) → length x ≡ w → part_at w (x ++ t) 0 ≡ x
unfolding part_at
part_first x t w e = take_at x t w e

pub sized_part : (ws : List ℕ) (ps : List (List ℕ)) (k : ℕ) (r : List ℕ) → Sized ws ps → k < length ws
    → part_at (get_or ws k 0) (joined ps ++ r) (begin ws k) ≡ get_or ps k []
unfolding joined sum
sized_part [] ps k r f h = absurd (omega arith)
sized_part (w ∷ ws) [] k r f h = absurd f
sized_part (w ∷ ws) (x ∷ xs) zero r f h = ap (λ (l : List ℕ). part_at w l 0) (append_assoc x (joined xs) r) ∙ part_first x (joined xs ++ r) w f.0
sized_part (w ∷ ws) (x ∷ xs) (suc k) r f h =
    ap (λ (l : List ℕ). part_at (get_or ws k 0) l (w + begin ws k)) (append_assoc x (joined xs) r)
    ∙ part_past x (joined xs ++ r) w (begin ws k) (get_or ws k 0) f.0
    ∙ sized_part ws xs k r f.1 (omega arith)

pub sized_patched : (ws : List ℕ) (ps : List (List ℕ)) (k : ℕ) (y r : List ℕ) → Sized ws ps → k < length ws → length y ≡ get_or ws k 0
    → patched (begin ws k) y (joined ps ++ r) ≡ joined (set ps k y) ++ r
unfolding joined sum
sized_patched [] ps k y r f h e = absurd (omega arith)
sized_patched (w ∷ ws) [] k y r f h e = absurd f
sized_patched (w ∷ ws) (x ∷ xs) zero y r f h e =
    ap (λ (l : List ℕ). patched 0 y l) (append_assoc x (joined xs) r)
    ∙ patched_first x (joined xs ++ r) y (e ∙ sym f.0)
    ∙ sym (append_assoc y (joined xs) r)
sized_patched (w ∷ ws) (x ∷ xs) (suc k) y r f h e =
    ap (λ (l : List ℕ). patched (w + begin ws k) y l) (append_assoc x (joined xs) r)
    ∙ patched_past x (joined xs ++ r) y w (begin ws k) f.0
    ∙ ap (λ (l : List ℕ). x ++ l) (sized_patched ws xs k y r f.1 (omega arith) e)
    ∙ sym (append_assoc x (joined (set xs k y)) r)

pub begin_end : (ws : List ℕ) (k : ℕ) → begin ws k + get_or ws k 0 ≤ sum ws
unfolding sum
begin_end [] zero = omega arith
begin_end [] (suc k) = omega arith
begin_end (w ∷ ws) zero = omega arith
begin_end (w ∷ ws) (suc k) = omega (arith, begin_end ws k)

-- ---- bytes that are laid out

module _ (ws : List ℕ) (ps : List (List ℕ)) (b : List ℕ) (l : Laid ws ps b) where
  pub laid_part : (k : ℕ) → k < length ws → part_at (get_or ws k 0) b (begin ws k) ≡ get_or ps k []
  laid_part k h =
      ap (λ (c : List ℕ). part_at (get_or ws k 0) c (begin ws k)) l.whole ∙ sized_part ws ps k (drop (sum ws) b) l.sized h

  -- The section k written anew.
  pub laid_patched : (k : ℕ) (y : List ℕ) → k < length ws → length y ≡ get_or ws k 0
      → patched (begin ws k) y b ≡ joined (set ps k y) ++ drop (sum ws) b
  laid_patched k y h e =
      ap (λ (c : List ℕ). patched (begin ws k) y c) l.whole ∙ sized_patched ws ps k y (drop (sum ws) b) l.sized h e

  pub laid_rest : (k : ℕ) (y : List ℕ) → k < length ws → length y ≡ get_or ws k 0 → drop (sum ws) (patched (begin ws k) y b) ≡ drop (sum ws) b
  laid_rest k y h e =
      ap (λ (c : List ℕ). drop (sum ws) c) (laid_patched k y h e)
      ∙ sized_rest ws (set ps k y) (drop (sum ws) b) (sized_set ws ps k y l.sized e)

  pub laid_set : (k : ℕ) (y : List ℕ) → k < length ws → length y ≡ get_or ws k 0 → Laid ws (set ps k y) (patched (begin ws k) y b)
  laid_set k y h e =
      record {
        sized = sized_set ws ps k y l.sized e;
        whole = laid_patched k y h e ∙ ap (λ (r : List ℕ). joined (set ps k y) ++ r) (sym (laid_rest k y h e));
      }

-- ---- a store inside a part

drop_taken : (m w : ℕ) (l : List ℕ) → m ≤ length (take w l) → drop m (take w l) ++ drop w l ≡ drop m l
drop_taken m w l h = sym (drop-append-le m (take w l) (drop w l) h) ∙ ap (λ (k : List ℕ). drop m k) (take-append-drop w l)

pub patched_front : (i : ℕ) (x y r : List ℕ) → i + length x ≤ length y → patched i x (y ++ r) ≡ patched i x y ++ r
unfolding patched
patched_front i x y r h =
    let low : take i (y ++ r) ≡ take i y = take-append-le i y r (omega arith) in
    let high : drop (i + length x) (y ++ r) ≡ drop (i + length x) y ++ r = drop-append-le (i + length x) y r h in
    rw (low, high, append_assoc (take i y) (x ++ drop (i + length x) y) r, append_assoc x (drop (i + length x) y) r)

pub patched_inside : (at i w : ℕ) (x b : List ℕ) → i + length x ≤ w → at + w ≤ length b → patched (at + i) x b ≡ patched at (patched i x (part_at w b at)) b
unfolding patched part_at
patched_inside at i w x b h k =
    let l : List ℕ = drop at b in
    let p : List ℕ = take w l in
    let long : length p ≡ w = simp (length-take, length-drop) (omega arith) in
    let end : at + length (take i p ++ (x ++ drop (i + length x) p)) ≡ at + w = ap (λ (n : ℕ). at + n) (patched_length i x p (omega arith) ∙ long) in
    let there : at + (i + length x) ≡ at + i + length x = omega arith in
    let behind : drop (i + length x) p ++ drop (at + w) b ≡ drop (at + i + length x) b =
    ap (λ (r : List ℕ). drop (i + length x) p ++ r) (sym (drop-drop w at b))
    ∙ drop_taken (i + length x) w l (omega arith)
    ∙ drop-drop (i + length x) at b
    ∙ ap (λ (n : ℕ). drop n b) there in
    let before : take (at + i) b ≡ take at b ++ take i p = take-add at i b ∙ ap (λ (r : List ℕ). take at b ++ r) (sym (take-take i w l (omega arith))) in
    rw (end, append_assoc (take i p) (x ++ drop (i + length x) p) (drop (at + w) b), append_assoc x (drop (i + length x) p) (drop (at + w) b), behind, before, append_assoc (take at b) (take i p) (x ++ drop (at + i + length x) b))

-- ---- every long enough list of bytes is laid out

cut_sized : (ws : List ℕ) (at : ℕ) (b : List ℕ) → at + sum ws ≤ length b → Sized ws (cut_by ws at b)
unfolding cut_by sum
cut_sized [] at b h = tt
cut_sized (w ∷ ws) at b h = (part_length w b at (omega arith), cut_sized ws (at + w) b (omega arith))

cut_whole : (ws : List ℕ) (at : ℕ) (b : List ℕ) → joined (cut_by ws at b) ++ drop (at + sum ws) b ≡ drop at b
unfolding cut_by sum joined part_at
cut_whole [] at b = rw add-zero
cut_whole (w ∷ ws) at b =
    let e : at + (w + sum ws) ≡ at + w + sum ws = omega arith in
    append_assoc (take w (drop at b)) (joined (cut_by ws (at + w) b)) (drop (at + (w + sum ws)) b)
    ∙ ap (λ (k : ℕ). take w (drop at b) ++ (joined (cut_by ws (at + w) b) ++ drop k b)) e
    ∙ ap (λ (l : List ℕ). take w (drop at b) ++ l) (cut_whole ws (at + w) b ∙ sym (drop-drop w at b))
    ∙ take-append-drop w (drop at b)

pub laid_cut : (ws : List ℕ) (b : List ℕ) → sum ws ≤ length b → Laid ws (cut_by ws 0 b) b
laid_cut ws b h =
    let e : 0 + sum ws ≡ sum ws = zero-add (sum ws) in
    record { sized = cut_sized ws 0 b (omega arith); whole = sym (ap (λ (k : ℕ). joined (cut_by ws 0 b) ++ drop k b) (sym e) ∙ cut_whole ws 0 b) }

-- ---- several sections written anew, one after the other

-- b with the sections of these numbers replaced by those of `ts`.
unfoldable pub patched_all : List ℕ → List ℕ → List (List ℕ) → List ℕ → List ℕ
patched_all ws [] ts b = b
patched_all ws (k ∷ ks) ts b = patched_all ws ks ts (patched (begin ws k) (get_or ts k []) b)

-- The number j is none of these.
abbrev pub NoneOf : List ℕ → ℕ → Type 0
NoneOf ks j = Each (λ k. j ≡ k → ⊥) ks

set_agrees : (m : ℕ) (ps ts : List (List ℕ)) (k : ℕ) (ks : List ℕ) → k < length ps
    → ((j : ℕ) → j < m → NoneOf (k ∷ ks) j → get_or ps j [] ≡ get_or ts j [])
    → (j : ℕ) → j < m → NoneOf ks j → get_or (set ps k (get_or ts k [])) j [] ≡ get_or ts j []
set_agrees m ps ts k ks h agree j l none_of = go (ℕ_discrete j k)
  where
    go : Dec (j ≡ k) → get_or (set ps k (get_or ts k [])) j [] ≡ get_or ts j []
    go (yes e) = rw e (get_or-set_same ps k (get_or ts k []) [] h)
    go (no e) = get_or-set_other ps k j (get_or ts k []) [] e ∙ agree j l (e, none_of)

-- Where all other sections are already those of `ts`, the result is laid out in `ts`.
pub all_patched : (ws ks : List ℕ) (ps ts : List (List ℕ)) (b : List ℕ) → Laid ws ps b → Sized ws ts → Each (λ k. k < length ws) ks
    → ((j : ℕ) → j < length ws → NoneOf ks j → get_or ps j [] ≡ get_or ts j []) → patched_all ws ks ts b ≡ joined ts ++ drop (sum ws) b
unfolding patched_all
all_patched ws [] ps ts b l f h agree =
    let count : length ps ≡ length ws = sized_count ws ps l.sized in
    let same : ps ≡ ts = ext_get_or [] ps ts (count ∙ sym (sized_count ws ts f)) (λ i k. agree i (omega arith) tt) in
    l.whole ∙ ap (λ (xs : List (List ℕ)). joined xs ++ drop (sum ws) b) same
all_patched ws (k ∷ ks) ps ts b l f h agree =
    let y : List ℕ = get_or ts k [] in
    let size : length y ≡ get_or ws k 0 = sized_at ws ts k f in
    let inside : k < length ps = omega (arith, h.0, sized_count ws ps l.sized) in
    all_patched ws ks (set ps k y) ts (patched (begin ws k) y b) (laid_set ws ps b l k y h.0 size) f h.1 (set_agrees (length ws) ps ts k ks inside agree)
    ∙ ap (λ (r : List ℕ). joined ts ++ r) (laid_rest ws ps b l k y h.0 size)

-- The sections of b by their numbers.
pub cut_at : (ws : List ℕ) (at : ℕ) (b : List ℕ) (k : ℕ) → k < length ws → get_or (cut_by ws at b) k [] ≡ part_at (get_or ws k 0) b (at + begin ws k)
unfolding cut_by sum
cut_at [] at b k h = absurd (omega arith)
cut_at (w ∷ ws) at b zero h = rw add-zero
cut_at (w ∷ ws) at b (suc k) h =
    let there : at + w + begin ws k ≡ at + (w + begin ws k) = omega arith in
    cut_at ws (at + w) b k (omega arith) ∙ ap (λ (m : ℕ). part_at (get_or ws k 0) b m) there
