-- Tests of each two elements of a list, elements by a number of theirs, and the test that two options are the same.
use Rattle.std.specs.Prelude.{ℕ, Bool, true, false, List, [], ◌∷◌}
use Rattle.std.proofs.Math.Option.{Option, none, some}
use Rattle.base.specs.Tests.{◌and◌, ◌=?◌, pick}
use Rattle.base.specs.Lists.{all, any, filter}

infixr 25 ◌implies◌
unfoldable pub ◌implies◌ : Bool → Bool → Bool
true implies b = b
false implies b = true

-- Each two elements, the earlier one first, pass the test.
unfoldable pub pairs : {A : Type 0} → (A → A → Bool) → List A → Bool
pairs t [] = true
pairs t (x ∷ xs) = all (t x) xs and pairs t xs

-- The number in front, unless it is there.
unfoldable pub add_new : ℕ → List ℕ → List ℕ
add_new k ks = pick (any (λ x. x =? k) ks) ks (k ∷ ks)

-- The numbers of a list, each once.
unfoldable pub each_once : List ℕ → List ℕ
each_once [] = []
each_once (k ∷ ks) = add_new k (each_once ks)

-- The elements whose number is k.
unfoldable pub with_number : {A : Type 0} → (A → ℕ) → ℕ → List A → List A
with_number f k xs = filter (λ x. f x =? k) xs

-- Both are there and the same by the test, or neither is there.
unfoldable pub same_option : {A : Type 0} → (A → A → Bool) → Option A → Option A → Bool
same_option t none none = true
same_option t none (some y) = false
same_option t (some x) none = false
same_option t (some x) (some y) = t x y
