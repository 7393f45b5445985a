-- Laws of lists: a fact of every element, counts, runs of numbers, elements by place, what is behind a place.
use Prim.Native.Nat.{ℕ, zero, suc, ◌+◌, ◌-◌, ◌*◌, ◌≤◌, ◌<◌}
use mathlib.Core.Path.{◌≡◌, refl, sym, ap, ◌∙◌}
use mathlib.Core.Bool.{Bool, true, false}
use mathlib.Core.List.{List, [], ◌∷◌, ◌++◌, map}
use mathlib.Core.Option.{Option, none, some}
use native.Mathlib.Omega.{arith}
use native.Mathlib.Decide.{ℕ_discrete}
use lib.ListN.{length, get_or, set, drop, replicate, length-append}
use lib.Seq.{drop-drop}
use Rattle.base.specs.Tests.{pick}
use Rattle.base.proofs.TestLaws.{not_both, and_holds, both_yes}
use Rattle.base.specs.Lists.{Each, all, filter, at_front, present, gather, gather_all, after, above, below, is_there, at, sum}

-- ---- a fact of every element

module _ {A : Type 0} where
  pub each_append : (P : A → Type 0) (xs ys : List A) → Each P xs → Each P ys → Each P (xs ++ ys)
  each_append P [] ys h k = k
  each_append P (x ∷ xs) ys h k = (h.0, each_append P xs ys h.1 k)

  pub each_first : (P : A → Type 0) (xs ys : List A) → Each P (xs ++ ys) → Each P xs
  each_first P [] ys h = tt
  each_first P (x ∷ xs) ys h = (h.0, each_first P xs ys h.1)

  pub each_second : (P : A → Type 0) (xs ys : List A) → Each P (xs ++ ys) → Each P ys
  each_second P [] ys h = h
  each_second P (x ∷ xs) ys h = each_second P xs ys h.1

  pub each_implied : (P Q : A → Type 0) → ((x : A) → P x → Q x) → (xs : List A) → Each P xs → Each Q xs
  each_implied P Q f [] h = tt
  each_implied P Q f (x ∷ xs) h = (f x h.0, each_implied P Q f xs h.1)

  pub each_both : (P Q : A → Type 0) (xs : List A) → Each P xs → Each Q xs → Each (λ x. P x × Q x) xs
  each_both P Q [] h k = tt
  each_both P Q (x ∷ xs) h k = ((h.0, k.0), each_both P Q xs h.1 k.1)

  pub each_always : (P : A → Type 0) → ((x : A) → P x) → (xs : List A) → Each P xs
  each_always P f [] = tt
  each_always P f (x ∷ xs) = (f x, each_always P f xs)

  pub all_each : (t : A → Bool) (P : A → Type 0) → ((x : A) → t x ≡ true → P x) → (xs : List A) → all t xs ≡ true → Each P xs
  unfolding all
  all_each t P f [] h = tt
  all_each t P f (x ∷ xs) h = let b = and_holds _ _ h in (f x b.0, all_each t P f xs b.1)

  pub each_all : (t : A → Bool) (P : A → Type 0) → ((x : A) → P x → t x ≡ true) → (xs : List A) → Each P xs → all t xs ≡ true
  unfolding all
  each_all t P f [] h = refl
  each_all t P f (x ∷ xs) h = both_yes _ _ (f x h.0) (each_all t P f xs h.1)

  each_picked : (P : A → Type 0) (t : Bool) (xs ys : List A) → Each P xs → Each P ys → Each P (pick t xs ys)
  unfolding pick
  each_picked P true xs ys h k = h
  each_picked P false xs ys h k = k

  pub each_filter : (P : A → Type 0) (t : A → Bool) (xs : List A) → Each P xs → Each P (filter t xs)
  unfolding filter
  each_filter P t [] h = tt
  each_filter P t (x ∷ xs) h =
      let rest = each_filter P t xs h.1 in
      each_picked P (t x) (x ∷ filter t xs) (filter t xs) (h.0, rest) rest

  each_front : (P : A → Type 0) (x : Option A) (xs : List A) → ((y : A) → x ≡ some y → P y) → Each P xs → Each P (at_front x xs)
  unfolding at_front
  each_front P none xs f h = h
  each_front P (some y) xs f h = (f y refl, h)

  pub each_present : (P : A → Type 0) (xs : List (Option A)) → ((k : ℕ) (x : A) → get_or xs k none ≡ some x → P x) → Each P (present xs)
  unfolding present
  each_present P [] f = tt
  each_present P (x ∷ xs) f = each_front P x (present xs) (f 0) (each_present P xs (λ k. f (suc k)))

  pub each_at : (P : A → Type 0) (xs : List A) (i : ℕ) (x : A) → Each P xs → at xs i ≡ some x → P x
  unfolding at
  each_at P [] i x h e = let z : ◌≡◌ {A = ℕ} 0 1 = cc in absurd (omega arith)
  each_at P (y ∷ ys) zero x h e = let f : y ≡ x = cc in rw (← f) h.0
  each_at P (y ∷ ys) (suc i) x h e = each_at P ys i x h.1 e

  pub at_each : (P : A → Type 0) (xs : List A) → ((i : ℕ) (x : A) → at xs i ≡ some x → P x) → Each P xs
  unfolding at
  at_each P [] h = tt
  at_each P (x ∷ xs) h = (h 0 x refl, at_each P xs (λ i. h (suc i)))

  pub each_there : (P : A → Type 0) (xs : List A) (d : A) (k : ℕ) → k < length xs → Each P xs → P (get_or xs k d)
  each_there P [] d k h e = absurd (omega arith)
  each_there P (x ∷ xs) d zero h e = e.0
  each_there P (x ∷ xs) d (suc k) h e = each_there P xs d k (omega arith) e.1

  pub each_set : (P : A → Type 0) (xs : List A) (i : ℕ) (x : A) → Each P xs → P x → Each P (set xs i x)
  each_set P [] i x h k = tt
  each_set P (y ∷ xs) zero x h k = (k, h.1)
  each_set P (y ∷ xs) (suc i) x h k = (h.0, each_set P xs i x h.1 k)

  front_length : (x : Option A) (xs : List A) → length (at_front x xs) ≤ suc (length xs)
  unfolding at_front
  front_length none xs = omega arith
  front_length (some y) xs = omega arith

module _ {A B : Type 0} where
  pub each_map : (P : B → Type 0) (f : A → B) (xs : List A) → Each (λ x. P (f x)) xs → Each P (map f xs)
  each_map P f [] h = tt
  each_map P f (x ∷ xs) h = (h.0, each_map P f xs h.1)

  pub map_each : (P : B → Type 0) (f : A → B) (xs : List A) → Each P (map f xs) → Each (λ x. P (f x)) xs
  map_each P f [] h = tt
  map_each P f (x ∷ xs) h = (h.0, map_each P f xs h.1)

  pub each_gather : (P : A → Type 0) (Q : B → Type 0) (f : A → Option B) → ((x : A) (y : B) → P x → f x ≡ some y → Q y) → (xs : List A)
      → Each P xs → Each Q (gather f xs)
  unfolding gather
  each_gather P Q f g [] h = tt
  each_gather P Q f g (x ∷ xs) h = each_front Q (f x) (gather f xs) (λ y. g x y h.0) (each_gather P Q f g xs h.1)

  pub each_gather_all : (P : A → Type 0) (Q : B → Type 0) (f : A → List B) → ((x : A) → P x → Each Q (f x)) → (xs : List A)
      → Each P xs → Each Q (gather_all f xs)
  unfolding gather_all
  each_gather_all P Q f g [] h = tt
  each_gather_all P Q f g (x ∷ xs) h = each_append Q (f x) (gather_all f xs) (g x h.0) (each_gather_all P Q f g xs h.1)

  pub gather_length : (f : A → Option B) (xs : List A) → length (gather f xs) ≤ length xs
  unfolding gather
  gather_length f [] = omega arith
  gather_length f (x ∷ xs) = omega (arith, front_length (f x) (gather f xs), gather_length f xs)

  pub gather_all_length : (f : A → List B) (g : A → ℕ) → ((x : A) → length (f x) ≤ g x) → (xs : List A) → length (gather_all f xs) ≤ sum (map g xs)
  unfolding gather_all sum
  gather_all_length f g h [] = omega arith
  gather_all_length f g h (x ∷ xs) = omega (arith, length-append (f x) (gather_all f xs), h x, gather_all_length f g h xs)

-- ---- one value at every place

-- With the value itself beyond the end.
pub replicate_at : {A : Type 0} (x : A) (n k : ℕ) → get_or (replicate n x) k x ≡ x
replicate_at x zero k = refl
replicate_at x (suc n) zero = refl
replicate_at x (suc n) (suc k) = replicate_at x n k

-- ---- a value that is there

pub there : {A : Type 0} (o : Option A) → is_there o ≡ true → (x : A) × (o ≡ some x)
unfolding is_there
there none h = not_both h
there (some x) h = (x, refl)

pub is_there_lem : {A : Type 0} (o : Option A) (x : A) → o ≡ some x → is_there o ≡ true
unfolding is_there
is_there_lem o x e = rw e

-- ---- runs of numbers

pub after_length : (k m : ℕ) → length (after k m) ≡ m
unfolding after
after_length k zero = refl
after_length k (suc m) = ap suc (after_length (k + 1) m)

pub after_between : (k m : ℕ) → Each (λ i. (k < i) × (i ≤ k + m)) (after k m)
unfolding after
after_between k zero = tt
after_between k (suc m) =
    (omega arith, each_implied (λ i. (k + 1 < i) × (i ≤ k + 1 + m)) (λ i. (k < i) × (i ≤ k + suc m)) (λ i h. omega arith) (after (k + 1) m) (after_between (k + 1) m))

-- What holds of every number of a run holds of each number between.
pub after_each : (P : ℕ → Type 0) (k m : ℕ) → Each P (after k m) → (i : ℕ) → k < i → i ≤ k + m → P i
unfolding after
after_each P k zero h i l b = absurd (omega arith)
after_each P k (suc m) h i l b = go (ℕ_discrete i (k + 1)) (λ g. after_each P (k + 1) m h.1 i g (omega arith))
  where
    go : Dec (i ≡ k + 1) → (k + 1 < i → P i) → P i
    go (yes e) more = rw e h.0
    go (no e) more = more (omega arith)

pub after_add : (k m j : ℕ) → after k (m + j) ≡ after k m ++ after (k + m) j
unfolding after
after_add k zero j = let e : 0 + j ≡ j = omega arith in let f : k + 0 ≡ k = omega arith in rw (e, f)
after_add k (suc m) j =
    let e : suc m + j ≡ suc (m + j) = omega arith in
    let f : k + suc m ≡ k + 1 + m = omega arith in
    rw (e, f) (ap (λ l. (k + 1) ∷ l) (after_add (k + 1) m j))

pub above_length : (low high : ℕ) → length (above low high) ≡ high - low
unfolding above
above_length low high = after_length low (high - low)

pub above_between : (low high : ℕ) → Each (λ i. (low < i) × (i ≤ high)) (above low high)
unfolding above
above_between low high =
    each_implied (λ i. (low < i) × (i ≤ low + (high - low))) (λ i. (low < i) × (i ≤ high)) (λ i h. omega arith) (after low (high - low)) (after_between low (high - low))

pub above_each : (P : ℕ → Type 0) (low high : ℕ) → Each P (above low high) → (i : ℕ) → low < i → i ≤ high → P i
unfolding above
above_each P low high h i l b = after_each P low (high - low) h i l (omega arith)

-- With the next number at the front.
pub above_next : (low high : ℕ) → low < high → above low high ≡ (low + 1) ∷ above (low + 1) high
unfolding above after
above_next low high h = let e : high - low ≡ suc (high - (low + 1)) = omega arith in rw e

-- With more at the end.
pub above_more : (low high m : ℕ) → low ≤ high → above low (high + m) ≡ above low high ++ after high m
unfolding above
above_more low high m h =
    let e : high + m - low ≡ high - low + m = omega arith in
    let f : low + (high - low) ≡ high = omega arith in
    rw (e, after_add low (high - low) m, f)

pub below_length : (n : ℕ) → length (below n) ≡ n
unfolding below
below_length zero = refl
below_length (suc n) = omega (arith, length-append (below n) (n ∷ []), below_length n)

pub below_each : (n : ℕ) → Each (λ i. i < n) (below n)
unfolding below
below_each zero = tt
below_each (suc n) =
    each_append (λ i. i < suc n) (below n) (n ∷ []) (each_implied (λ i. i < n) (λ i. i < suc n) (λ i h. omega arith) (below n) (below_each n)) (omega arith, tt)

pub sum_bound : (b : ℕ) (xs : List ℕ) → Each (λ x. x ≤ b) xs → sum xs ≤ length xs * b
unfolding sum
sum_bound b [] h = omega arith
sum_bound b (x ∷ xs) h = omega (arith, sum_bound b xs h.1)

-- ---- elements by place

pub each_bounded : (b : ℕ) (xs : List ℕ) → Each (λ x. x ≤ b) xs → (c : ℕ) → get_or xs c 0 ≤ b
each_bounded b [] h c = omega arith
each_bounded b (x ∷ xs) h zero = h.0
each_bounded b (x ∷ xs) h (suc c) = each_bounded b xs h.1 c

pub bounded_each : (b : ℕ) (xs : List ℕ) → ((c : ℕ) → get_or xs c 0 ≤ b) → Each (λ x. x ≤ b) xs
bounded_each b [] h = tt
bounded_each b (x ∷ xs) h = (h 0, bounded_each b xs (λ c. h (suc c)))

pub bounded_set : (l : List ℕ) (i v b : ℕ) → ((c : ℕ) → get_or l c 0 ≤ b) → v ≤ b → (c : ℕ) → get_or (set l i v) c 0 ≤ b
bounded_set [] i v b h k c = h c
bounded_set (x ∷ xs) zero v b h k zero = k
bounded_set (x ∷ xs) zero v b h k (suc c) = h (suc c)
bounded_set (x ∷ xs) (suc i) v b h k zero = h 0
bounded_set (x ∷ xs) (suc i) v b h k (suc c) = bounded_set xs i v b (λ j. h (suc j)) k c

-- ---- what is behind a place

module _ {A : Type 0} where
  pub drop_more : (v w : ℕ) (xs : List A) → v ≤ w → drop (w - v) (drop v xs) ≡ drop w xs
  drop_more v w xs h = let e : v + (w - v) ≡ w = omega arith in drop-drop (w - v) v xs ∙ ap (λ k. drop k xs) e

  -- Lists that are the same behind a place are so behind a later one.
  pub drop_same : (v w : ℕ) (xs ys : List A) → v ≤ w → drop v xs ≡ drop v ys → drop w xs ≡ drop w ys
  drop_same v w xs ys h e = sym (drop_more v w xs h) ∙ ap (drop (w - v)) e ∙ drop_more v w ys h
