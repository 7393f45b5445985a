-- How many elements of a list pass a test.
use Rattle.std.specs.Prelude.{ℕ, ◌+◌, Bool, true, false, List, [], ◌∷◌}

-- 1 where the test holds.
unfoldable pub one : Bool → ℕ
one true = 1
one false = 0

-- How many elements pass the test.
unfoldable pub count : {A : Type 0} → (A → Bool) → List A → ℕ
count t [] = 0
count t (x ∷ xs) = one (t x) + count t xs
