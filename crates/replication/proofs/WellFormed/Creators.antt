-- How many actions of a creator a list has; sums of lists.
use Prim.Native.Nat.{ℕ, zero, suc, ◌+◌, ◌≤◌, ◌<◌}
use mathlib.Core.Path.{◌≡◌, sym, ap, ◌∙◌}
use mathlib.Core.Bool.{Bool, true, false}
use mathlib.Core.List.{List, [], ◌∷◌, ◌++◌}
use native.Mathlib.Omega.{arith}
use lib.ListN.{length, take, drop, set, get_or, take-append-drop}
use Rattle.base.specs.Tests.{◌=?◌, pick}
use Rattle.base.specs.Lists.{sum}
use Rattle.format.specs.Types.{Action}
use Rattle.replication.specs.Machine.Colours.{of_creator}

-- ---- sums

pub of_append : (c : ℕ) (xs ys : List Action) → of_creator c (xs ++ ys) ≡ of_creator c xs + of_creator c ys
unfolding of_creator pick
of_append c [] ys = omega arith
of_append c (x ∷ xs) ys = go (x.id.creator =? c) (of_append c xs ys)
  where
    go : (b : Bool) → of_creator c (xs ++ ys) ≡ of_creator c xs + of_creator c ys
        → pick b (suc (of_creator c (xs ++ ys))) (of_creator c (xs ++ ys)) ≡ pick b (suc (of_creator c xs)) (of_creator c xs) + of_creator c ys
    go true h = omega arith
    go false h = h

-- What is white and what is not are all.
pub of_split : (c w : ℕ) (xs : List Action) → of_creator c (take w xs) + of_creator c (drop w xs) ≡ of_creator c xs
of_split c w xs = sym (of_append c (take w xs) (drop w xs)) ∙ ap (of_creator c) (take-append-drop w xs)

-- A longer beginning holds no fewer.
pub of_more : (c v w : ℕ) (xs : List Action) → v ≤ w → of_creator c (take v xs) ≤ of_creator c (take w xs)
unfolding of_creator pick
of_more c zero w xs h = omega arith
of_more c (suc v) zero xs h = absurd (omega arith)
of_more c (suc v) (suc w) [] h = omega arith
of_more c (suc v) (suc w) (x ∷ xs) h = go (x.id.creator =? c) (of_more c v w xs (omega arith))
  where
    go : (b : Bool) → of_creator c (take v xs) ≤ of_creator c (take w xs)
        → pick b (suc (of_creator c (take v xs))) (of_creator c (take v xs)) ≤ pick b (suc (of_creator c (take w xs))) (of_creator c (take w xs))
    go true k = omega arith
    go false k = k

-- A number of the list set to another.
pub sum_set : (xs : List ℕ) (i v : ℕ) → i < length xs → sum (set xs i v) + get_or xs i 0 ≡ sum xs + v
unfolding sum
sum_set [] i v h = absurd (omega arith)
sum_set (x ∷ xs) zero v h = omega arith
sum_set (x ∷ xs) (suc i) v h = omega (arith, sum_set xs i v (omega arith))
