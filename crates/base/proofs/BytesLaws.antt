-- Laws of the numbers in bytes, over every width.
use Prim.Native.Nat.{ℕ, zero, suc, ◌+◌, ◌*◌, ◌/◌, ◌%◌, ◌^◌, ◌≤◌, ◌<◌}
use mathlib.Core.Path.{◌≡◌, refl, sym, ap, ap₂, ◌∙◌}
use mathlib.Core.Bool.{true}
use mathlib.Core.List.{List, [], ◌∷◌, ◌++◌, append_assoc}
use native.Mathlib.Nat.{add_assoc, add-zero, zero-add, pow-suc, div-lt_iff_lt-mul, mul-le-mul_right}
use native.Mathlib.Omega.{arith}
use lib.ListN.{length, get_or, take, drop, length-append, length-take, length-drop, get_or-append}
use lib.Seq.{drop-drop, take-add, get_or-append-add, get_or_at, get_or-take, get_or-drop, take-suc, drop-append-add}
use mir.Syntax.{w8}
use mir.Val.{Fits}
use Rattle.base.specs.Tests.{◌<?◌}
use Rattle.base.proofs.TestLaws.{lt_holds, lt_yes, and_holds, both_yes}
use Rattle.base.specs.Bytes.{Bytes, are_bytes, bytes_of, number_at, numbers_at, part_at, joined}

-- ---- length

pub bytes_length : (w v : ℕ) → length (bytes_of w v) ≡ w
unfolding bytes_of
bytes_length zero v = refl
bytes_length (suc w) v = length-append (bytes_of w (v / 256)) (v % 256 ∷ []) ∙ omega (arith, bytes_length w (v / 256))

pub part_length : (m : ℕ) (e : List ℕ) (at : ℕ) → at + m ≤ length e → length (part_at m e at) ≡ m
unfolding part_at
part_length m e at h = simp (length-take, length-drop) (omega arith)

pub numbers_length : (w m : ℕ) (e : List ℕ) (at : ℕ) → length (numbers_at w m e at) ≡ m
unfolding numbers_at
numbers_length w zero e at = refl
numbers_length w (suc m) e at = ap suc (numbers_length w m e (at + w))

pub numbers_at_lem : (w m : ℕ) (e : List ℕ) (at k : ℕ) → k < m → get_or (numbers_at w m e at) k 0 ≡ number_at w e (at + w * k)
unfolding numbers_at
numbers_at_lem w zero e at k h = absurd (omega arith)
numbers_at_lem w (suc m) e at zero h = let f : at ≡ at + w * 0 = omega arith in ap (number_at w e) f
numbers_at_lem w (suc m) e at (suc k) h =
    let f : at + w + w * k ≡ at + w * suc k = omega arith in
    numbers_at_lem w m e (at + w) k (omega arith) ∙ ap (number_at w e) f

pub joined_append : {A : Type 0} (xs ys : List (List A)) → joined (xs ++ ys) ≡ joined xs ++ joined ys
unfolding joined
joined_append [] ys = refl
joined_append (x ∷ xs) ys = ap (λ (l : List _). x ++ l) (joined_append xs ys) ∙ sym (append_assoc x (joined xs) (joined ys))

-- ---- parts of parts

pub part_append : (m k : ℕ) (e : List ℕ) (at : ℕ) → part_at (m + k) e at ≡ part_at m e at ++ part_at k e (at + m)
unfolding part_at
part_append m k e at = take-add m k (drop at e) ∙ ap (λ (l : List ℕ). take m (drop at e) ++ take k l) (drop-drop m at e)

pub number_front : (w : ℕ) (x r : List ℕ) (at : ℕ) → at + w ≤ length x → number_at w (x ++ r) at ≡ number_at w x at
unfolding number_at
number_front zero x r at h = refl
number_front (suc w) x r at h =
    ap₂ {A = ℕ} {B = ℕ} {C = ℕ} (λ n b. n * 256 + b) (number_front w x r at (omega arith)) (get_or-append x r 0 (at + w) (omega arith))

-- ---- what lies behind a prefix is read as if it began there

pub number_behind : (w : ℕ) (p e : List ℕ) (at : ℕ) → number_at w (p ++ e) (length p + at) ≡ number_at w e at
unfolding number_at
number_behind zero p e at = refl
number_behind (suc w) p e at =
    ap₂ {A = ℕ} {B = ℕ} {C = ℕ} (λ n b. n * 256 + b) (number_behind w p e at)
    (ap (λ (k : ℕ). get_or (p ++ e) k 0) (add_assoc (length p) at w) ∙ get_or-append-add p e (at + w) 0)

pub number_drop : (w : ℕ) (e : List ℕ) (p at : ℕ) → number_at w (drop p e) at ≡ number_at w e (p + at)
unfolding number_at
number_drop zero e p at = refl
number_drop (suc w) e p at =
    ap₂ {A = ℕ} {B = ℕ} {C = ℕ} (λ n b. n * 256 + b) (number_drop w e p at)
    (get_or-drop p e (at + w) 0 ∙ ap (λ (k : ℕ). get_or e k 0) (sym (add_assoc p at w)))

pub part_behind : (m : ℕ) (p e : List ℕ) (at : ℕ) → part_at m (p ++ e) (length p + at) ≡ part_at m e at
unfolding part_at
part_behind m p e at = ap (take m) (drop-append-add p e at)

-- A number depends on its own bytes only.
pub number_part : (w : ℕ) (e : List ℕ) (at m : ℕ) → w ≤ m → number_at w (part_at m e at) 0 ≡ number_at w e at
unfolding number_at part_at
number_part zero e at m h = refl
number_part (suc w) e at m h =
    let inside : 0 + w < m = omega arith in
    ap₂ {A = ℕ} {B = ℕ} {C = ℕ} (λ n b. n * 256 + b) (number_part w e at m (omega arith))
    (get_or-take m (drop at e) (0 + w) 0 inside ∙ get_or-drop at e (0 + w) 0 ∙ rw zero-add)

-- ---- a number, to its bytes and back

number_first : (w v : ℕ) (r : List ℕ) → v < 256 ^ w → number_at w (bytes_of w v ++ r) 0 ≡ v
unfolding bytes_of number_at
number_first zero v r h = omega arith
number_first (suc w) v r h =
    let below : v / 256 < 256 ^ w = (div-lt_iff_lt-mul {k = 256} {x = v} {y = 256 ^ w} (omega arith)).1 (rw pow-suc at h) in
    let n : number_at w (bytes_of w (v / 256) ++ (v % 256 ∷ r)) 0 ≡ v / 256 = number_first w (v / 256) (v % 256 ∷ r) below in
    let b : get_or (bytes_of w (v / 256) ++ (v % 256 ∷ r)) (0 + w) 0 ≡ v % 256 =
    get_or_at (bytes_of w (v / 256)) (v % 256) r 0 (0 + w) (omega (arith, bytes_length w (v / 256))) in
    rw (append_assoc (bytes_of w (v / 256)) (v % 256 ∷ []) r, n, b) (omega arith)

pub number_bytes : (w v : ℕ) → v < 256 ^ w → (p r : List ℕ) (at : ℕ) → length p ≡ at → number_at w (p ++ (bytes_of w v ++ r)) at ≡ v
number_bytes w v h p r at e =
    let a : at ≡ length p + 0 = omega arith in
    ap (number_at w (p ++ (bytes_of w v ++ r))) a ∙ number_behind w p (bytes_of w v ++ r) 0 ∙ number_first w v r h

pub number_lt : (w : ℕ) (e : List ℕ) (at : ℕ) → Bytes e → number_at w e at < 256 ^ w
unfolding number_at
number_lt zero e at b = omega arith
number_lt (suc w) e at b =
    let n : suc (number_at w e at) * 256 ≤ 256 ^ w * 256 = mul-le-mul_right 256 (number_lt w e at b) in
    rw pow-suc (omega (arith, b (at + w)))

pub bytes_number : (w : ℕ) (e : List ℕ) (at : ℕ) → Bytes e → at + w ≤ length e → bytes_of w (number_at w e at) ≡ part_at w e at
unfolding bytes_of number_at part_at
bytes_number zero e at b h = refl
bytes_number (suc w) e at b h =
    let n : ℕ = number_at w e at in
    let x : ℕ = get_or e (at + w) 0 in
    let small : x < 256 = b (at + w) in
    let high : (n * 256 + x) / 256 ≡ n = omega arith in
    let low : (n * 256 + x) % 256 ≡ x = omega arith in
    let inside : w < length (drop at e) = simp length-drop (omega arith) in
    let last : get_or (drop at e) w 0 ≡ x = get_or-drop at e w 0 in
    rw (high, low, bytes_number w e at b (omega arith), take-suc (drop at e) w 0 inside, last)

-- ---- bytes

pub are_bytes_lem : (e : List ℕ) → are_bytes e ≡ true → Bytes e
unfolding are_bytes
are_bytes_lem [] h i = omega arith
are_bytes_lem (b ∷ e) h zero = lt_holds b 256 (and_holds _ _ h).0
are_bytes_lem (b ∷ e) h (suc i) = are_bytes_lem e (and_holds _ _ h).1 i

pub bytes_are : (e : List ℕ) → Bytes e → are_bytes e ≡ true
unfolding are_bytes
bytes_are [] h = refl
bytes_are (b ∷ e) h = both_yes (b <? 256) (are_bytes e) (lt_yes b 256 (h 0)) (bytes_are e (λ i. h (suc i)))

-- What the checker gives of a slice of the code.
pub given_bytes_lem : (e : List ℕ) → ((i : ℕ) → Fits w8 (get_or e i 0)) → Bytes e
given_bytes_lem e h i = omega (arith, h i)

pub bytes_nil : Bytes []
bytes_nil i = omega arith

pub bytes_cons : (b : ℕ) (e : List ℕ) → b < 256 → Bytes e → Bytes (b ∷ e)
bytes_cons b e h k zero = h
bytes_cons b e h k (suc i) = k i

pub bytes_take : (m : ℕ) (e : List ℕ) → Bytes e → Bytes (take m e)
bytes_take zero e h = bytes_nil
bytes_take (suc m) [] h = bytes_nil
bytes_take (suc m) (b ∷ e) h = bytes_cons b (take m e) (h 0) (bytes_take m e (λ i. h (suc i)))

pub bytes_drop : (m : ℕ) (e : List ℕ) → Bytes e → Bytes (drop m e)
bytes_drop m e h i = rw get_or-drop (h (m + i))

pub bytes_part : (m : ℕ) (e : List ℕ) (at : ℕ) → Bytes e → Bytes (part_at m e at)
unfolding part_at
bytes_part m e at h = bytes_take m (drop at e) (bytes_drop at e h)

pub part_are_bytes : (m : ℕ) (e : List ℕ) (at : ℕ) → Bytes e → are_bytes (part_at m e at) ≡ true
part_are_bytes m e at h = bytes_are (part_at m e at) (bytes_part m e at h)

-- ---- at the widths that the code has

pub number1 : (e : List ℕ) (at : ℕ) → number_at 1 e at ≡ get_or e at 0
unfolding number_at
number1 e at = rw add-zero (omega arith)

pub number2 : (e : List ℕ) (at : ℕ) → number_at 2 e at ≡ get_or e at 0 * 256 + get_or e (at + 1) 0
unfolding number_at
number2 e at = rw add-zero (omega arith)

pub number4 : (e : List ℕ) (at : ℕ)
    → number_at 4 e at ≡ get_or e at 0 * 16777216 + get_or e (at + 1) 0 * 65536 + get_or e (at + 2) 0 * 256 + get_or e (at + 3) 0
unfolding number_at
number4 e at = rw add-zero (omega arith)

pub bytes1 : (v : ℕ) → bytes_of 1 v ≡ v % 256 ∷ []
unfolding bytes_of
bytes1 v = refl

pub bytes2 : (v : ℕ) → bytes_of 2 v ≡ v / 256 % 256 ∷ v % 256 ∷ []
unfolding bytes_of
bytes2 v = refl

pub bytes4 : (v : ℕ) → bytes_of 4 v ≡ v / 16777216 % 256 ∷ v / 65536 % 256 ∷ v / 256 % 256 ∷ v % 256 ∷ []
unfolding bytes_of
bytes4 v =
    let a : v / 256 / 256 / 256 ≡ v / 16777216 = omega arith in
    let b : v / 256 / 256 ≡ v / 65536 = omega arith in
    rw (a, b)
