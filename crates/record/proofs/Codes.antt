-- The byte of a kind of record.
use Prim.Native.Nat.{ℕ}
use mathlib.Core.Path.{◌≡◌, refl, sym}
use mathlib.Core.Option.{none}
use Rattle.base.proofs.TestLaws.{pick_ne}
use Rattle.format.specs.Types.{kind_number}
use Rattle.format.specs.Read.{kind_named}

-- A byte that is none of the eight names none.
pub unnamed : (x : ℕ) → (x ≡ 1 → ⊥) → (x ≡ 2 → ⊥) → (x ≡ 3 → ⊥) → (x ≡ 4 → ⊥) → (x ≡ 5 → ⊥) → (x ≡ 6 → ⊥) → (x ≡ 7 → ⊥) → (x ≡ 8 → ⊥) → kind_named x ≡ none
unfolding kind_named kind_number
unnamed x a b c d e f g h =
    sym
    (pick_ne x 1 _ _ _ a
    (pick_ne x 2 _ _ _ b
    (pick_ne x 3 _ _ _ c
    (pick_ne x 4 _ _ _ d (pick_ne x 5 _ _ _ e (pick_ne x 6 _ _ _ f (pick_ne x 7 _ _ _ g (pick_ne x 8 _ _ _ h refl))))))))
