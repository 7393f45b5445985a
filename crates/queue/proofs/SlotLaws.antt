-- Slots of actions as bytes: joined lists, moved slots, cuts.
use Prim.Native.Nat.{ℕ, zero, suc, ◌+◌, ◌*◌, ◌/◌, ◌%◌, ◌<◌}
use mathlib.Core.Path.{◌≡◌, refl, sym, ap, ◌∙◌}
use mathlib.Core.List.{List, [], ◌∷◌, ◌++◌, append-nil}
use native.Mathlib.Omega.{arith}
use lib.ListN.{length, set}
use Rattle.base.specs.Bytes.{bytes_of, joined, slot}
use Rattle.base.specs.Patched.{patched}
use Rattle.format.specs.Types.{Action}
use Rattle.format.specs.Write.{cuts_bytes, action_bytes}
use Rattle.image.specs.Layout.{slot_size}
use Rattle.image.specs.Image.{action_slots}

pub slots_one : (a : Action) → action_slots (a ∷ []) ≡ slot slot_size (action_bytes a)
unfolding action_slots joined
slots_one a = append-nil (slot slot_size (action_bytes a))

pub slots_cons : (a : Action) (l : List Action) → action_slots (a ∷ l) ≡ slot slot_size (action_bytes a) ++ action_slots l
unfolding action_slots joined
slots_cons a l = refl

-- ---- a cut

-- Behind the first two elements.
patched_two : (m u v : ℕ) (y l : List ℕ) → patched (suc (suc m)) y (u ∷ v ∷ l) ≡ u ∷ v ∷ patched m y l
unfolding patched
patched_two m u v y l = let e : suc (suc m) + length y ≡ suc (suc (m + length y)) = omega arith in rw e

patched_first : (u v x y : ℕ) (l : List ℕ) → patched 0 (u ∷ v ∷ []) (x ∷ y ∷ l) ≡ u ∷ v ∷ l
unfolding patched
patched_first u v x y l = refl

pub cut_set : (cuts : List ℕ) (c v : ℕ) → c < length cuts → patched (2 * c) (bytes_of 2 v) (cuts_bytes cuts) ≡ cuts_bytes (set cuts c v)
unfolding cuts_bytes joined bytes_of
cut_set [] c v h = absurd (omega arith)
cut_set (x ∷ xs) zero v h = patched_first _ _ _ _ _
cut_set (x ∷ xs) (suc c) v h =
    let e : 2 * suc c ≡ suc (suc (2 * c)) = omega arith in
    ap (λ (m : ℕ). patched m (bytes_of 2 v) (cuts_bytes (x ∷ xs))) e
    ∙ patched_two (2 * c) (x / 256 % 256) (x % 256) (bytes_of 2 v) (cuts_bytes xs ++ [])
    ∙ ap (λ (l : List ℕ). x / 256 % 256 ∷ x % 256 ∷ l)
    (ap (patched (2 * c) (bytes_of 2 v)) (append-nil (cuts_bytes xs)) ∙ cut_set xs c v (omega arith) ∙ sym (append-nil (cuts_bytes (set xs c v))))
