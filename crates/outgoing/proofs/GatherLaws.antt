-- What is made of the numbers above one up to another, in parts.
use Prim.Native.Nat.{ℕ, zero, suc, ◌+◌, ◌-◌, ◌≤◌, ◌<◌}
use mathlib.Core.Path.{◌≡◌, refl, sym, ap, ◌∙◌}
use mathlib.Core.List.{[], ◌++◌, append-nil}
use mathlib.Core.Option.{Option, none}
use native.Mathlib.Decide.{dec_le}
use native.Mathlib.Omega.{arith}
use lib.ListN.{length, length-append}
use Rattle.base.proofs.Comparable.{gather_append}
use Rattle.base.proofs.ListLaws.{above_more}
use Rattle.base.specs.Lists.{at_front, gather, after, above}

module _ {B : Type 0} (f : ℕ → Option B) where
  -- Nothing is made of those above i up to m.
  abbrev pub Nothing : (i m : ℕ) → Type 0
  Nothing i m = (p : ℕ) → i < p → p ≤ m → f p ≡ none

  none_after : (i n : ℕ) → Nothing i (i + n) → gather f (after i n) ≡ []
  unfolding gather after at_front
  none_after i zero h = refl
  none_after i (suc n) h = rw (h (i + 1) (omega arith) (omega arith)) (none_after (i + 1) n (λ p over most. h p (omega arith) (omega arith)))

  pub none_above : (i m : ℕ) → Nothing i m → gather f (above i m) ≡ []
  unfolding above
  none_above i m h = none_after i (m - i) (λ p over most. h p over (omega arith))

  pub one_above : (i m : ℕ) → m - i ≡ 1 → gather f (above i m) ≡ at_front (f (i + 1)) []
  unfolding gather above after
  one_above i m e = ap (λ n. gather f (after i n)) e

  pub more_above : (i j m : ℕ) → i ≤ j → j ≤ m → gather f (above i m) ≡ gather f (above i j) ++ gather f (above j m)
  unfolding above
  more_above i j m l h =
      let whole : m ≡ j + (m - j) = omega arith in
      ap (λ z. gather f (above i z)) whole ∙ ap (gather f) (above_more i j (m - j) l) ∙ gather_append f (above i j) (after j (m - j))

  pub more_count : (i j m : ℕ) → i ≤ j → j ≤ m → length (gather f (above i m)) ≡ length (gather f (above i j)) + length (gather f (above j m))
  more_count i j m l h = ap length (more_above i j m l h) ∙ length-append (gather f (above i j)) (gather f (above j m))

  -- Where nothing is made of the first ones they may be left out,
  pub without_first : (low l high : ℕ) → low ≤ l → Nothing low l → gather f (above low high) ≡ gather f (above l high)
  without_first low l high h n = go (dec_le l high)
    where
      go : Dec (l ≤ high) → gather f (above low high) ≡ gather f (above l high)
      go (yes a) = more_above low l high h a ∙ ap (λ xs. xs ++ gather f (above l high)) (none_above low l n)
      go (no a) = none_above low high (λ p over most. n p over (omega arith)) ∙ sym (none_above l high (λ p over most. absurd (omega arith)))

  -- and the last ones.
  pub without_last : (low h high : ℕ) → h ≤ high → Nothing h high → gather f (above low high) ≡ gather f (above low h)
  without_last low h high l n = go (dec_le low h)
    where
      go : Dec (low ≤ h) → gather f (above low high) ≡ gather f (above low h)
      go (yes a) = more_above low h high a l ∙ ap (λ xs. gather f (above low h) ++ xs) (none_above h high n) ∙ append-nil (gather f (above low h))
      go (no a) = none_above low high (λ p over most. n p (omega arith) most) ∙ sym (none_above low h (λ p over most. absurd (omega arith)))
