-- What is made of the States that are meant by a closure, which is called with their slots.
use Rattle.std.specs.Prelude.{ℕ, ◌+◌, ◌<◌, ◌≡◌, Bool, true, List, [], ◌∷◌, Option, Some, None}
use Rattle.base.specs.Lists.{filter}
use Rattle.base.specs.Sets.{in_set}
use Rattle.format.specs.Types.{State}
use Rattle.exchange.specs.declared.slots.Slots.{Slots}
use Rattle.exchange.specs.Slots.{with_here, state_in, states_of, states_left}

-- P holds of each slot, meant or not.
abbrev pub AtEach : Slots → (ℕ → Type 0) → Type 0
AtEach v P = (k : ℕ) → k < v.servers → P k

-- The calls R, of a slot with an answer, tell t of the State in each slot that is meant.
unfoldable pub Tells : {A : Type 0} → (ℕ → A → Type 0) → (State → A) → Slots → List ℕ → Type 0
Tells {A} R t v b = (k : ℕ) (r : A) → k < v.servers → in_set k v.here ≡ true → R k r → r ≡ t (state_in v b k)

-- The calls R, of what was made so far and a slot, make one step more by the State in it.
unfoldable pub Steps : {A : Type 0} → (A → ℕ → A → Type 0) → (A → State → A) → Slots → List ℕ → Type 0
Steps {A} R step v b = (a : A) (k : ℕ) (r : A) → k < v.servers → in_set k v.here ≡ true → R a k r → r ≡ step a (state_in v b k)

unfoldable pub folded : {A : Type 0} → (A → State → A) → A → List State → A
folded step a [] = a
folded step a (x ∷ xs) = folded step (step a x) xs

-- The first State that passes the test t is that in the slot k.
pub record FoundAt (t : State → Bool) (v : Slots) (b : List ℕ) (k : ℕ) : Type 0 where
  pub low : k < v.servers
  pub meant : in_set k v.here ≡ true
  pub passes : t (state_in v b k) ≡ true
  pub states : filter t (states_of v b) ≡ state_in v b k ∷ filter t (states_left v b (k + 1))

abbrev pub Found : (State → Bool) → Slots → List ℕ → Option ℕ → Type 0
Found t v b None = filter t (states_of v b) ≡ []
Found t v b (Some k) = FoundAt t v b k

-- A slot that was found is one of them.
abbrev pub Within : Slots → Option ℕ → Type 0
Within v None = Unit {0}
Within v (Some k) = k < v.servers

-- The first State is that in the slot k.
pub record FirstAt (v : Slots) (b : List ℕ) (k : ℕ) : Type 0 where
  pub low : k < v.servers
  pub meant : in_set k v.here ≡ true
  pub states : states_of v b ≡ state_in v b k ∷ states_left v b (k + 1)

abbrev pub First : Slots → List ℕ → Option ℕ → Type 0
First v b None = states_of v b ≡ []
First v b (Some k) = FirstAt v b k

-- The slots w in the bytes c are those of v in b whose State passes the test.
pub record Those (t : State → Bool) (v : Slots) (b : List ℕ) (w : Slots) (c : List ℕ) : Type 0 where
  pub slots : w ≡ with_here w.here v
  pub bytes : c ≡ b
  pub states : states_of w c ≡ filter t (states_of v b)
  pub among : (k : ℕ) → k < v.servers → in_set k w.here ≡ true → in_set k v.here ≡ true
