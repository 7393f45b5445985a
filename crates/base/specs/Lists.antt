-- Lists: tests on every element, filters, runs of numbers.
use Rattle.std.specs.Prelude.{ℕ, zero, suc, ◌+◌, ◌-◌, Bool, true, false, List, [], ◌∷◌, ◌++◌, ◌≡◌}
use Rattle.std.proofs.Math.Option.{Option, none, some}
use Rattle.base.specs.Tests.{◌and◌, ◌or◌, ◌=?◌, pick}

-- Every element passes the test.
unfoldable pub all : {A : Type 0} → (A → Bool) → List A → Bool
all t [] = true
all t (x ∷ xs) = t x and all t xs

-- Some element passes the test.
unfoldable pub any : {A : Type 0} → (A → Bool) → List A → Bool
any t [] = false
any t (x ∷ xs) = t x or any t xs

-- The elements that pass the test, in order.
unfoldable pub filter : {A : Type 0} → (A → Bool) → List A → List A
filter t [] = []
filter t (x ∷ xs) = pick (t x) (x ∷ filter t xs) (filter t xs)

-- In front of the list, if there.
unfoldable pub at_front : {A : Type 0} → Option A → List A → List A
at_front none xs = xs
at_front (some x) xs = x ∷ xs

-- The values that are there, in order.
unfoldable pub present : {A : Type 0} → List (Option A) → List A
present [] = []
present (x ∷ xs) = at_front x (present xs)

-- What f makes of the elements, in order, where it makes something.
unfoldable pub gather : {A B : Type 0} → (A → Option B) → List A → List B
gather f [] = []
gather f (x ∷ xs) = at_front (f x) (gather f xs)

-- What f makes of the elements, one after another.
unfoldable pub gather_all : {A B : Type 0} → (A → List B) → List A → List B
gather_all f [] = []
gather_all f (x ∷ xs) = f x ++ gather_all f xs

-- The m numbers after k: k + 1, .., k + m.
unfoldable pub after : ℕ → ℕ → List ℕ
after k zero = []
after k (suc m) = (k + 1) ∷ after (k + 1) m

-- The numbers above `low` up to `high`.
unfoldable pub above : ℕ → ℕ → List ℕ
above low high = after low (high - low)

-- The numbers below n.
unfoldable pub below : ℕ → List ℕ
below zero = []
below (suc n) = below n ++ (n ∷ [])

unfoldable pub is_there : {A : Type 0} → Option A → Bool
is_there none = false
is_there (some x) = true

-- The element at i, if there.
unfoldable pub at : {A : Type 0} → List A → ℕ → Option A
at [] i = none
at (x ∷ xs) zero = some x
at (x ∷ xs) (suc i) = at xs i

-- Where the first element that passes the test stands, counted from k.
unfoldable pub first_from : {A : Type 0} → (A → Bool) → (k : ℕ) → List A → Option ℕ
first_from t k [] = none
first_from t k (x ∷ xs) = pick (t x) (some k) (first_from t (suc k) xs)

unfoldable pub sum : List ℕ → ℕ
sum [] = 0
sum (x ∷ xs) = x + sum xs

-- The two lists are the same.
unfoldable pub same : List ℕ → List ℕ → Bool
same [] [] = true
same [] (y ∷ ys) = false
same (x ∷ xs) [] = false
same (x ∷ xs) (y ∷ ys) = x =? y and same xs ys

-- The map f with v at i.
unfoldable pub upd : {A : Type 0} → (ℕ → A) → ℕ → A → ℕ → A
upd f i v j = pick (j =? i) v (f j)

-- x begins y.
unfoldable pub Begins : {A : Type 0} → List A → List A → Type 0
Begins {A} x y = (t : List A) × (y ≡ x ++ t)

-- A fact of every element.
abbrev pub Each : {A : Type 0} → (A → Type 0) → List A → Type 0
Each P [] = Unit {0}
Each P (x ∷ xs) = P x × Each P xs

-- The test holds at the place of each of the m entries of w bytes from `at` on.
unfoldable pub every_at : (ℕ → Bool) → (w m at : ℕ) → Bool
every_at t w zero at = true
every_at t w (suc m) at = t at and every_at t w m (at + w)
