-- A part of a list written anew is the list patched there.
use Prim.Native.Nat.{ℕ, zero, suc, ◌+◌, ◌-◌, ◌≤◌, ◌<◌}
use mathlib.Core.Path.{◌≡◌, refl, sym, ap, ◌∙◌}
use mathlib.Core.List.{List, [], ◌∷◌, ◌++◌}
use native.Mathlib.Nat.{mod-eq_of_lt}
use native.Mathlib.Omega.{arith}
use lib.ListN.{length, take, drop, set, length-drop}
use lib.Seq.{drop-drop, length-take-le}
use borrow.Rule.Slice.PartMut.{put_mid}
use Rattle.std.proofs.lemmas.Slice.{between_is}
use Rattle.base.specs.Bytes.{bytes_of, part_at}
use Rattle.base.specs.Patched.{patched}
use Rattle.base.proofs.BytesLaws.{bytes1}
use Rattle.base.proofs.PatchedLaws.{sets_patched}

pub put_patched : (a k : ℕ) (xs ys zs : List ℕ) → ys ≡ zs → length zs ≡ k → put_mid a k xs ys ≡ patched a zs xs
unfolding patched
put_patched a k xs ys zs e h =
    ap (λ (l : List ℕ). take a xs ++ (l ++ drop k (drop a xs))) e
    ∙ ap (λ (l : List ℕ). take a xs ++ (zs ++ l)) (drop-drop k a xs ∙ ap (λ (m : ℕ). drop (a + m) xs) (sym h))

-- One element.
pub byte_patched : (at v : ℕ) (s : List ℕ) → at + 1 ≤ length s → v < 256 → set s at v ≡ patched at (bytes_of 1 v) s
byte_patched at v s h f =
    let e : v ∷ [] ≡ bytes_of 1 v = ap (λ (n : ℕ). n ∷ []) (sym (mod-eq_of_lt f)) ∙ sym (bytes1 v) in
    sets_patched at (v ∷ []) s h ∙ ap (λ (b : List ℕ). patched at b s) e

take_take : (s : List ℕ) (k n : ℕ) → k ≤ n → take k (take n s) ≡ take k s
take_take s zero n h = refl
take_take s (suc k) zero h = absurd (omega arith)
take_take [] (suc k) (suc n) h = refl
take_take (x ∷ s) (suc k) (suc n) h = ap (λ (l : List ℕ). x ∷ l) (take_take s k n (omega arith))

between_front : (s f : List ℕ) (from to m : ℕ) → from + m ≤ to → f ≡ take to s → take (from + m - from) (drop from f) ≡ take m (drop from s)
between_front s f from to m h i =
    let n : from + m - from ≡ m = omega arith in
    between_is f from (from + m) ∙ ap (λ (l : List ℕ). drop from (take (from + m) l)) i ∙ ap (drop from) (take_take s (from + m) to h)
    ∙ sym (between_is s from (from + m)) ∙ ap (λ (k : ℕ). take k (drop from s)) n

-- The list cut at `to` into f and b, the front of b written from f.
pub up_patched : (s f b y : List ℕ) (from to m : ℕ) → from + m ≤ to → to + m ≤ length s → f ≡ take to s → b ≡ drop to s → y ≡ take (from + m - from) (drop from f)
    → f ++ (y ++ drop m b) ≡ patched to (part_at m s from) s
unfolding patched part_at
up_patched s f b y from to m h l i j e =
    let part : y ≡ take m (drop from s) = e ∙ between_front s f from to m h i in
    let size : length (take m (drop from s)) ≡ m = length-take-le m (drop from s) (simp length-drop (omega arith)) in
    (λ k. i k ++ (part k ++ drop m (j k))) ∙ ap (λ (r : List ℕ). take to s ++ (take m (drop from s) ++ r)) (drop-drop m to s ∙ ap (λ (n : ℕ). drop (to + n) s) (sym size))
