-- A used part over a part of the buffer leaves it as it is exactly if it occurs at its beginning.
use Prim.Native.Nat.{ℕ, ◌≤◌}
use mathlib.Core.Path.{◌≡◌, refl, sym, ap, ◌∙◌}
use mathlib.Core.List.{List, ◌++◌}
use lib.ListN.{length, take, drop, take-append-drop}
use lib.Seq.{take_at, drop_at, take-take}
use Rattle.base.specs.Bytes.{part_at, over}
use Rattle.base.proofs.Occurs.{Occurs}

pub occurs_over : (size : ℕ) (y b : List ℕ) (at : ℕ) → length y ≤ size → Occurs y b at → over y (part_at size b at) ≡ part_at size b at
unfolding over part_at
occurs_over size y b at h o =
    let first : take (length y) (take size (drop at b)) ≡ y = take-take (length y) size (drop at b) h ∙ o.part in
    ap (λ (l : List ℕ). l ++ drop (length y) (take size (drop at b))) (sym first) ∙ take-append-drop (length y) (take size (drop at b))

pub over_occurs : (size : ℕ) (y b : List ℕ) (at : ℕ) → length y ≤ size → over y (part_at size b at) ≡ part_at size b at → Occurs y b at
unfolding over part_at
over_occurs size y b at h e =
    record { part = sym (take-take (length y) size (drop at b) h) ∙ ap (take (length y)) (sym e) ∙ take_at y (drop (length y) (take size (drop at b))) (length y) refl }

-- Two lists in one: the first parts are as long.
pub first_same : (k : ℕ) (x y u v : List ℕ) → length x ≡ k → length u ≡ k → x ++ y ≡ u ++ v → x ≡ u
first_same k x y u v h l e = sym (take_at x y k h) ∙ ap (take k) e ∙ take_at u v k l

pub second_same : (k : ℕ) (x y u v : List ℕ) → length x ≡ k → length u ≡ k → x ++ y ≡ u ++ v → y ≡ v
second_same k x y u v h l e = sym (drop_at x y k h) ∙ ap (drop k) e ∙ drop_at u v k l
