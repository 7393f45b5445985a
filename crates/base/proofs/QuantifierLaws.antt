-- What the tests of all, some and each two elements of a list say of its places, and where filters and gathered lists keep elements.
use Prim.Native.Nat.{ℕ, zero, suc, ◌+◌, ◌<◌}
use mathlib.Core.Path.{◌≡◌, refl, sym, ap, subst, ◌∙◌}
use mathlib.Core.Bool.{Bool, true, false}
use mathlib.Core.List.{List, [], ◌∷◌, ◌++◌, map}
use mathlib.Core.Option.{Option, none, some}
use native.Mathlib.Nat.{zero-add, suc-add}
use native.Mathlib.Omega.{arith}
use lib.ListN.{drop}
use Rattle.base.specs.Tests.{◌or◌, ◌<?◌, ◌=?◌, pick}
use Rattle.base.proofs.TestLaws.{eq_yes, eq_holds, not_both, and_holds, lt_holds, lt_fails, Known, holds, fails, known}
use Rattle.base.specs.Lists.{all, any, filter, at_front, gather, gather_all, below, at}
use Rattle.base.proofs.AtLaws.{none_some, some_same}
use Rattle.base.specs.Quantifiers.{◌implies◌, pairs, add_new, each_once, with_number}

pub implied : (t u : Bool) → (t implies u) ≡ true → t ≡ true → u ≡ true
unfolding ◌implies◌
implied true u h e = h
implied false u h e = not_both e

-- x stands in the list.
pub record Among {A : Type 0} (x : A) (xs : List A) : Type 0 where
  pub place : ℕ
  pub there : at xs place ≡ some x

-- Which of two numbers is the lower.
data Compared (m n : ℕ) : Type 0 where
  lower : m < n → Compared m n
  level : m ≡ n → Compared m n
  higher : n < m → Compared m n

compared : (m n : ℕ) → Compared m n
compared m n = go (known (m <? n)) (known (n <? m))
  where
    go : Known (m <? n) → Known (n <? m) → Compared m n
    go (holds h) k = lower (lt_holds m n h)
    go (fails h) (holds k) = higher (lt_holds n m k)
    go (fails h) (fails k) = level (omega (arith, lt_fails m n h, lt_fails n m k))

module _ {A : Type 0} where
  pub among_first : {x y : A} (xs : List A) → y ≡ x → Among x (y ∷ xs)
  unfolding at
  among_first xs e = record { place = 0; there = ap some e }

  pub among_later : {x : A} (y : A) {xs : List A} → Among x xs → Among x (y ∷ xs)
  unfolding at
  among_later y m = record { place = suc m.place; there = m.there }

  pub at_drop : (k : ℕ) (xs : List A) (p : ℕ) → at (drop k xs) p ≡ at xs (k + p)
  unfolding at
  at_drop zero xs p = ap (at xs) (sym (zero-add p))
  at_drop (suc k) [] p = refl
  at_drop (suc k) (x ∷ xs) p = at_drop k xs p ∙ ap (at (x ∷ xs)) (sym (suc-add k p))

  filter_at : (t : A → Bool) (xs : List A) (p : ℕ) (x : A) → at xs p ≡ some x → t x ≡ true → Among x (filter t xs)
  unfolding filter at pick
  filter_at t [] p x e h = none_some e
  filter_at t (y ∷ xs) zero x e h = let f : y ≡ x = cc in rw (ap t f, h) (among_first (filter t xs) f)
  filter_at t (y ∷ xs) (suc p) x e h = go (known (t y)) (filter_at t xs p x e h)
    where
      go : Known (t y) → Among x (filter t xs) → Among x (filter t (y ∷ xs))
      go (holds k) r = rw k (among_later y r)
      go (fails k) r = rw k r

  at_filter : (t : A → Bool) (xs : List A) (p : ℕ) (x : A) → at (filter t xs) p ≡ some x → Among x xs × (t x ≡ true)
  unfolding filter at pick
  at_filter t [] p x e = none_some e
  at_filter t (y ∷ xs) p x e = go (known (t y)) p e (λ r h. at_filter t xs r x h)
    where
      Later : Type 0
      Later = (r : ℕ) → at (filter t xs) r ≡ some x → Among x xs × (t x ≡ true)

      go : Known (t y) → (r : ℕ) → at (filter t (y ∷ xs)) r ≡ some x → Later → Among x (y ∷ xs) × (t x ≡ true)
      go (holds k) zero h later =
          let f : y ≡ x = some_same (rw k at h) in (among_first xs f, subst (λ z. t z ≡ true) f k)
      go (holds k) (suc r) h later = let m = later r (rw k at h) in (among_later y m.0, m.1)
      go (fails k) r h later = let m = later r (rw k at h) in (among_later y m.0, m.1)

  -- ---- all, any, each two

  pub all_at : (t : A → Bool) (xs : List A) → all t xs ≡ true → (p : ℕ) (x : A) → at xs p ≡ some x → t x ≡ true
  unfolding all at
  all_at t [] h p x e = none_some e
  all_at t (y ∷ xs) h zero x e = let f : y ≡ x = cc in subst (λ z. t z ≡ true) f (and_holds (t y) (all t xs) h).0
  all_at t (y ∷ xs) h (suc p) x e = all_at t xs (and_holds (t y) (all t xs) h).1 p x e

  pub all_among_lem : (t : A → Bool) {x : A} {xs : List A} → Among x xs → all t xs ≡ true → t x ≡ true
  all_among_lem t {x} {xs} m h = all_at t xs h m.place x m.there

  pub any_among : (t : A → Bool) (xs : List A) → any t xs ≡ true → (x : A) × Among x xs × (t x ≡ true)
  unfolding any ◌or◌
  any_among t [] h = not_both h
  any_among t (y ∷ xs) h = go (known (t y)) (λ k. any_among t xs k)
    where
      go : Known (t y) → (any t xs ≡ true → (x : A) × Among x xs × (t x ≡ true)) → (x : A) × Among x (y ∷ xs) × (t x ≡ true)
      go (holds e) k = (y, among_first xs refl, e)
      go (fails e) k = let r = k (rw e at h) in (r.0, among_later y r.1, r.2)

  any_at : (t : A → Bool) (xs : List A) (p : ℕ) (x : A) → at xs p ≡ some x → t x ≡ true → any t xs ≡ true
  unfolding any at ◌or◌
  any_at t [] p x e h = none_some e
  any_at t (y ∷ xs) zero x e h = let f : y ≡ x = cc in rw (ap t f, h)
  any_at t (y ∷ xs) (suc p) x e h = go (known (t y)) (any_at t xs p x e h)
    where
      go : Known (t y) → any t xs ≡ true → any t (y ∷ xs) ≡ true
      go (holds k) r = rw k
      go (fails k) r = rw k r

  pub among_any : (t : A → Bool) {x : A} {xs : List A} → Among x xs → t x ≡ true → any t xs ≡ true
  among_any t {x} {xs} m h = any_at t xs m.place x m.there h

  pub pairs_at : (t : A → A → Bool) (xs : List A) → pairs t xs ≡ true
      → (p r : ℕ) (x y : A) → p < r → at xs p ≡ some x → at xs r ≡ some y → t x y ≡ true
  unfolding pairs at
  pairs_at t [] h p r x y l e f = none_some e
  pairs_at t (z ∷ xs) h p zero x y l e f = absurd (omega arith)
  pairs_at t (z ∷ xs) h zero (suc r) x y l e f =
      let same : z ≡ x = cc in subst (λ w. t w y ≡ true) same (all_at (t z) xs (and_holds (all (t z) xs) (pairs t xs) h).0 r y f)
  pairs_at t (z ∷ xs) h (suc p) (suc r) x y l e f = pairs_at t xs (and_holds (all (t z) xs) (pairs t xs) h).1 p r x y (omega arith) e f

  -- A symmetric relation between each two, and of each with itself, is one between any two.
  pub each_two : (t : A → A → Bool) (R : A → A → Type 0) → ((x : A) → R x x) → ((x y : A) → R x y → R y x) → ((x y : A) → t x y ≡ true → R x y)
      → {x y : A} {xs : List A} → pairs t xs ≡ true → Among x xs → Among y xs → R x y
  each_two t R itself back says {x} {y} {xs} h m k = go (compared m.place k.place)
    where
      go : Compared m.place k.place → R x y
      go (lower l) = says x y (pairs_at t xs h m.place k.place x y l m.there k.there)
      go (higher l) = back y x (says y x (pairs_at t xs h k.place m.place y x l k.there m.there))
      go (level e) = let f : x ≡ y = some_same (sym m.there ∙ ap (at xs) e ∙ k.there) in subst (R x) f (itself x)

  -- ---- filters

  pub among_filter : (t : A → Bool) {x : A} {xs : List A} → Among x xs → t x ≡ true → Among x (filter t xs)
  among_filter t {x} {xs} m h = filter_at t xs m.place x m.there h

  pub filter_among : (t : A → Bool) (xs : List A) {x : A} → Among x (filter t xs) → Among x xs × (t x ≡ true)
  filter_among t xs m = at_filter t xs m.place _ m.there

  -- ---- numbers below a bound, lists one after another

  at_left : (xs ys : List A) (p : ℕ) (x : A) → at xs p ≡ some x → at (xs ++ ys) p ≡ some x
  unfolding at
  at_left [] ys p x e = none_some e
  at_left (y ∷ xs) ys zero x e = e
  at_left (y ∷ xs) ys (suc p) x e = at_left xs ys p x e

  pub among_left : {x : A} {xs : List A} (ys : List A) → Among x xs → Among x (xs ++ ys)
  among_left {x} {xs} ys m = record { place = m.place; there = at_left xs ys m.place x m.there }

  pub among_right : {x : A} (xs : List A) {ys : List A} → Among x ys → Among x (xs ++ ys)
  among_right [] m = m
  among_right (y ∷ xs) m = among_later y (among_right xs m)

-- ---- numbers

among_new : (j k : ℕ) (ks : List ℕ) → Among j ks → Among j (add_new k ks)
unfolding add_new pick
among_new j k ks m = go (known (any (λ x. x =? k) ks))
  where
    go : Known (any (λ x. x =? k) ks) → Among j (add_new k ks)
    go (holds h) = rw h m
    go (fails h) = rw h (among_later k m)

new_among : (k : ℕ) (ks : List ℕ) → Among k (add_new k ks)
unfolding add_new pick
new_among k ks = go (known (any (λ x. x =? k) ks))
  where
    go : Known (any (λ x. x =? k) ks) → Among k (add_new k ks)
    go (holds h) = let f = any_among (λ x. x =? k) ks h in rw h (subst (λ x. Among x ks) (eq_holds f.0 k f.2) f.1)
    go (fails h) = rw h (among_first ks refl)

once_at : (ks : List ℕ) (p k : ℕ) → at ks p ≡ some k → Among k (each_once ks)
unfolding each_once at
once_at [] p k e = none_some e
once_at (j ∷ ks) zero k e = subst (λ x. Among x (add_new j (each_once ks))) (some_same e) (new_among j (each_once ks))
once_at (j ∷ ks) (suc p) k e = among_new k j (each_once ks) (once_at ks p k e)

pub among_once : {k : ℕ} {ks : List ℕ} → Among k ks → Among k (each_once ks)
among_once {k} {ks} m = once_at ks m.place k m.there

pub among_number : {A : Type 0} (f : A → ℕ) (k : ℕ) {x : A} {xs : List A} → Among x xs → f x ≡ k → Among x (with_number f k xs)
unfolding with_number
among_number f k {x} m e = among_filter (λ y. f y =? k) m (eq_yes (f x) k e)

pub number_among : {A : Type 0} (f : A → ℕ) (k : ℕ) {x : A} (xs : List A) → Among x (with_number f k xs) → Among x xs
unfolding with_number
number_among f k xs m = (filter_among (λ y. f y =? k) xs m).0

pub among_below : (n k : ℕ) → k < n → Among k (below n)
unfolding below
among_below zero k h = absurd (omega arith)
among_below (suc n) k h = go (compared k n) (λ l. among_below n k l)
  where
    go : Compared k n → (k < n → Among k (below n)) → Among k (below n ++ (n ∷ []))
    go (lower l) r = among_left (n ∷ []) (r l)
    go (level e) r = among_right (below n) (among_first [] (sym e))
    go (higher l) r = absurd (omega arith)

module _ {A B : Type 0} where
  map_at : (f : A → B) (xs : List A) (p : ℕ) (x : A) → at xs p ≡ some x → at (map f xs) p ≡ some (f x)
  unfolding at
  map_at f [] p x e = none_some e
  map_at f (y ∷ xs) zero x e = ap (λ z. some (f z)) (some_same e)
  map_at f (y ∷ xs) (suc p) x e = map_at f xs p x e

  pub among_map : (f : A → B) {x : A} {xs : List A} → Among x xs → Among (f x) (map f xs)
  among_map f {x} {xs} m = record { place = m.place; there = map_at f xs m.place x m.there }

  -- ---- what f makes of the elements

  gather_at : (f : A → Option B) (xs : List A) (p : ℕ) (x : A) (y : B) → at xs p ≡ some x → f x ≡ some y → Among y (gather f xs)
  unfolding gather at at_front
  gather_at f [] p x y e h = none_some e
  gather_at f (z ∷ xs) zero x y e h = let g : f z ≡ some y = ap f (some_same e) ∙ h in rw g (among_first (gather f xs) refl)
  gather_at f (z ∷ xs) (suc p) x y e h = go (f z) (gather_at f xs p x y e h)
    where
      go : (o : Option B) → Among y (gather f xs) → Among y (at_front o (gather f xs))
      go none r = r
      go (some w) r = among_later w r

  pub among_gather : (f : A → Option B) {x : A} {y : B} {xs : List A} → Among x xs → f x ≡ some y → Among y (gather f xs)
  among_gather f {x} {y} {xs} m h = gather_at f xs m.place x y m.there h

  at_gather : (f : A → Option B) (xs : List A) (p : ℕ) (y : B) → at (gather f xs) p ≡ some y → (x : A) × Among x xs × (f x ≡ some y)
  unfolding gather at at_front
  at_gather f [] p y e = none_some e
  at_gather f (x ∷ xs) p y e = go (f x) refl p e (λ r h. at_gather f xs r y h)
    where
      go : (o : Option B) → f x ≡ o → (r : ℕ) → at (at_front o (gather f xs)) r ≡ some y
          → ((k : ℕ) → at (gather f xs) k ≡ some y → (z : A) × Among z xs × (f z ≡ some y)) → (z : A) × Among z (x ∷ xs) × (f z ≡ some y)
      go none k r h later = let m = later r h in (m.0, among_later x m.1, m.2)
      go (some w) k zero h later = (x, among_first xs refl, k ∙ h)
      go (some w) k (suc r) h later = let m = later r h in (m.0, among_later x m.1, m.2)

  pub gather_among : (f : A → Option B) (xs : List A) {y : B} → Among y (gather f xs) → (x : A) × Among x xs × (f x ≡ some y)
  gather_among f xs {y} m = at_gather f xs m.place y m.there

  gather_all_at : (f : A → List B) (xs : List A) (p : ℕ) (x : A) {y : B} → at xs p ≡ some x → Among y (f x) → Among y (gather_all f xs)
  unfolding gather_all at
  gather_all_at f [] p x e m = none_some e
  gather_all_at f (z ∷ xs) zero x {y} e m = among_left (gather_all f xs) (subst (λ w. Among y (f w)) (sym (some_same e)) m)
  gather_all_at f (z ∷ xs) (suc p) x e m = among_right (f z) (gather_all_at f xs p x e m)

  pub among_gather_all : (f : A → List B) {x : A} {y : B} {xs : List A} → Among x xs → Among y (f x) → Among y (gather_all f xs)
  among_gather_all f {x} {y} {xs} m k = gather_all_at f xs m.place x m.there k
