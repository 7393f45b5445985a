-- The numbers of the plan, as folds over the States.
use Prim.Native.Nat.{ℕ, ◌-◌, max, min}
use mathlib.Core.Path.{◌≡◌, refl, sym, ap, ◌∙◌}
use mathlib.Core.Bool.{Bool, true, false}
use mathlib.Core.List.{List, [], ◌∷◌}
use mathlib.Core.Option.{Option, none, some}
use native.Mathlib.Omega.{arith}
use lib.ListN.{length}
use lib.Dec.{eqb}
use Rattle.base.specs.Tests.{◌=?◌, pick}
use Rattle.base.proofs.Branches.{told_eq}
use Rattle.base.proofs.ListLaws.{above_length}
use Rattle.base.specs.Lists.{filter}
use Rattle.format.specs.Types.{State}
use Rattle.record.specs.Values.{state_of}
use Rattle.record.specs.declared.events.StateHead.{StateHead}
use Rattle.replication.specs.Machine.Plan.{highest, lowest_from, lowest, first_with, resender, is_me, missing}
use Rattle.exchange.specs.declared.slots.Slots.{Slots}
use Rattle.exchange.specs.Slots.{state_in, states_of, head_of}
use Rattle.exchange.specs.Folds.{folded, FoundAt, FirstAt}
use Rattle.exchange.proofs.ReadLaws.{state_stands}

-- ---- the highest and the lowest

highest_folded : (f : State → ℕ) (xs : List State) (a : ℕ) → folded (λ high x. max (f x) high) a xs ≡ max a (highest f xs)
unfolding folded highest
highest_folded f [] a = omega arith
highest_folded f (x ∷ xs) a = highest_folded f xs (max (f x) a) ∙ omega arith

pub highest_made : (f : State → ℕ) (xs : List State) → folded (λ high x. max (f x) high) 0 xs ≡ highest f xs
highest_made f xs = highest_folded f xs 0 ∙ omega arith

lowest_folded : (f : State → ℕ) (xs : List State) (a : ℕ) → folded (λ low x. min low (f x)) a xs ≡ lowest_from f a xs
unfolding folded lowest_from
lowest_folded f [] a = refl
lowest_folded f (x ∷ xs) a = lowest_folded f xs (min a (f x))

lowest_twice : (f : State → ℕ) (x : State) (xs : List State) → folded (λ low x. min low (f x)) (f x) (x ∷ xs) ≡ lowest f (x ∷ xs)
unfolding folded lowest
lowest_twice f x xs =
    let z : min (f x) (f x) ≡ f x = omega arith in
    lowest_folded f xs (min (f x) (f x)) ∙ ap (λ (m : ℕ). lowest_from f m xs) z

pub lowest_made : (f : State → ℕ) (v : Slots) (b : List ℕ) (k a : ℕ) → FirstAt v b k → a ≡ f (state_in v b k)
    → folded (λ low x. min low (f x)) a (states_of v b) ≡ lowest f (states_of v b)
lowest_made f v b k a s e =
    (λ i. folded (λ low x. min low (f x)) (e i) (s.states i)) ∙ lowest_twice f (state_in v b k) _ ∙ ap (lowest f) (sym s.states)

pub lowest_none : (f : State → ℕ) (v : Slots) (b : List ℕ) → states_of v b ≡ [] → 0 ≡ lowest f (states_of v b)
unfolding lowest
lowest_none f v b e = sym (ap (lowest f) e)

pub missing_made : (f : State → ℕ) (xs : List State) (low high : ℕ) → low ≡ lowest f xs → high ≡ highest f xs → high - low ≡ length (missing f xs)
unfolding missing
missing_made f xs low high e i = omega (arith, above_length (lowest f xs) (highest f xs), e, i)

-- ---- who resends

unfoldable sender_of : List State → Option ℕ
sender_of [] = none
sender_of (x ∷ xs) = some x.sender

sender_pick : (t : Bool) (x : State) (xs : List State) → sender_of (pick t (x ∷ xs) xs) ≡ pick t (some x.sender) (sender_of xs)
unfolding pick sender_of
sender_pick true x xs = refl
sender_pick false x xs = refl

first_sender : (f : State → ℕ) (h : ℕ) (xs : List State) → first_with f h xs ≡ sender_of (filter (λ x. f x =? h) xs)
unfolding first_with filter sender_of
first_sender f h [] = refl
first_sender f h (x ∷ xs) =
    ap (pick (f x =? h) (some x.sender)) (first_sender f h xs) ∙ sym (sender_pick (f x =? h) x (filter (λ y. f y =? h) xs))

resender_from : (f : State → ℕ) (h me : ℕ) (xs : List State) → h ≡ highest f xs → is_me me (resender f xs) ≡ is_me me (sender_of (filter (λ x. f x =? h) xs))
unfolding resender
resender_from f h me xs e = ap (λ (n : ℕ). is_me me (first_with f n xs)) (sym e) ∙ ap (is_me me) (first_sender f h xs)

pub resends_none : (f : State → ℕ) (v : Slots) (b : List ℕ) (h me : ℕ) → h ≡ highest f (states_of v b)
    → filter (λ x. f x =? h) (states_of v b) ≡ [] → false ≡ is_me me (resender f (states_of v b))
unfolding is_me sender_of
resends_none f v b h me e i = sym (resender_from f h me (states_of v b) e ∙ ap (λ (l : List State). is_me me (sender_of l)) i)

pub resends_told : (f : State → ℕ) (v : Slots) (b : List ℕ) (h me k : ℕ) (x : StateHead) → h ≡ highest f (states_of v b)
    → FoundAt (λ x. f x =? h) v b k → x ≡ head_of v b k → eqb x.sender me ≡ is_me me (resender f (states_of v b))
unfolding is_me state_of sender_of
resends_told f v b h me k x e s r =
    told_eq x.sender me
    ∙ ap (λ (y : State). y.sender =? me) (state_stands v b k x r)
    ∙ sym (resender_from f h me (states_of v b) e ∙ ap (λ (l : List State). is_me me (sender_of l)) s.states)
