-- Document 01, 'Plan': who resends what, from the collected States alone, in the order of their senders.
use Rattle.std.specs.Prelude.{ℕ, ◌+◌, ◌-◌, max, min, Bool, false, List, [], ◌∷◌, ◌++◌, map, length, get_or}
use Rattle.std.proofs.Math.Option.{Option, none, some}
use Rattle.base.specs.Tests.{◌=?◌, ◌≤?◌, pick}
use Rattle.base.specs.Lists.{gather, gather_all, above, below, at, sum}
use Rattle.format.specs.Types.{Action, State, Record, retransmission}
use Rattle.replication.specs.Machine.Types.{Log}
use Rattle.replication.specs.Machine.Colours.{find, places_of}

-- ---- the numbers of the plan: f is the green length, or the cut of one creator

unfoldable pub highest : (State → ℕ) → List State → ℕ
highest f [] = 0
highest f (x ∷ xs) = max (f x) (highest f xs)

unfoldable pub lowest_from : (State → ℕ) → ℕ → List State → ℕ
lowest_from f m [] = m
lowest_from f m (x ∷ xs) = lowest_from f (min m (f x)) xs

unfoldable pub lowest : (State → ℕ) → List State → ℕ
lowest f [] = 0
lowest f (x ∷ xs) = lowest_from f (f x) xs

-- "Lowest number wins ties."
unfoldable pub first_with : (State → ℕ) → ℕ → List State → Option ℕ
first_with f v [] = none
first_with f v (x ∷ xs) = pick (f x =? v) (some x.sender) (first_with f v xs)

-- Who resends: the server with the highest.
unfoldable pub resender : (State → ℕ) → List State → Option ℕ
resender f xs = first_with f (highest f xs) xs

-- What is resent: "from the shortest length + 1 to its own", "from the lowest cut + 1 to it".
unfoldable pub missing : (State → ℕ) → List State → List ℕ
missing f xs = above (lowest f xs) (highest f xs)

unfoldable pub cut_in : ℕ → State → ℕ
cut_in c x = get_or x.cuts c 0

unfoldable pub green_in : State → ℕ
green_in x = x.green_length

-- How many retransmissions are planned, those left out too.
unfoldable pub planned : ℕ → List State → ℕ
planned n xs = length (missing green_in xs) + sum (map (λ c. length (missing (cut_in c) xs)) (below n))

-- ---- one's part

unfoldable pub is_me : ℕ → Option ℕ → Bool
is_me me none = false
is_me me (some k) = k =? me

unfoldable pub resent : ℕ → ℕ → Option Action → Option Record
resent me position none = none
resent me position (some a) = some (retransmission me position a)

-- The green action at the position p, of those that are not white: w are. A white action is left out.
unfoldable pub held_at : ℕ → Log → ℕ → Option Action
held_at w l p = pick (p ≤? w) none (at l.green (p - 1))

-- "the server with the longest green list resends positions from the shortest length + 1 to its own."
unfoldable pub resend_green : (me w : ℕ) → Log → List State → List Record
resend_green me w l xs = pick (is_me me (resender green_in xs)) (gather (λ p. resent me p (held_at w l p)) (missing green_in xs)) []

-- "Then for each creator the server with the highest cut resends from the lowest cut + 1 to it, as red." "An action that the resender does not
-- hold is left out, yet counts as planned."
unfoldable pub resend_red : (me w : ℕ) → Log → List State → ℕ → List Record
resend_red me w l xs c =
    pick (is_me me (resender (cut_in c) xs))
    (gather (λ i. resent me 0 (find (record { creator = c; index = i }) (places_of w l))) (missing (cut_in c) xs))
    []

unfoldable pub own_part : (n me w : ℕ) → Log → List State → List Record
own_part n me w l xs = resend_green me w l xs ++ gather_all (resend_red me w l xs) (below n)
