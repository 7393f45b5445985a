-- Lists without repetition: how long they are.
use Prim.Native.Nat.{ℕ, zero, suc, ◌≤◌, ◌<◌}
use mathlib.Core.Path.{◌≡◌, refl, sym, ap, subst}
use mathlib.Core.List.Memᴰ
use mathlib.Core.List.{List, [], ◌∷◌, ◌++◌, map, Memᴰ}
use mathlib.Core.Logic.{◌⊎◌, inl, inr, ⊎_elim}
use native.Mathlib.Omega.{arith}
use native.Mathlib.Decide.{dec_lt, ℕ_discrete}
use lib.ListN.{length, length-append, length-map}
use Rattle.base.specs.Lists.{below}
use Rattle.base.proofs.ListLaws.{below_length}

abbrev pub Distinct : {A : Type 0} → List A → Type 0
Distinct [] = Unit {0}
Distinct (x ∷ xs) = (Memᴰ x xs → ⊥) × Distinct xs

module _ {A : Type 0} where
  -- A list with an element in it: what stands before and behind that.
  pub record Split (x : A) (ys : List A) : Type 0 where
    pub front : List A
    pub back : List A
    pub whole : ys ≡ front ++ x ∷ back

  pub split : {x : A} {ys : List A} → Memᴰ x ys → Split x ys
  split {x} (Memᴰ.head {xs = ys} e) = record { front = []; back = ys; whole = λ j. sym e j ∷ ys }
  split {x} (Memᴰ.tail {x = y} m) = let s = split m in record { front = y ∷ s.front; back = s.back; whole = ap (λ z. y ∷ z) s.whole }

  -- An element of a list that is another than x is in what is left without x.
  pub without : (x z : A) (front back : List A) → (z ≡ x → ⊥) → Memᴰ z (front ++ x ∷ back) → Memᴰ z (front ++ back)
  without x z front back d m = go (Memᴰ.append_cases front m)
    where
      behind : (z ≡ x) ⊎ Memᴰ z back → Memᴰ z (front ++ back)
      behind (inl e) = absurd (d e)
      behind (inr k) = Memᴰ.append_right front k

      go : Memᴰ z front ⊎ Memᴰ z (x ∷ back) → Memᴰ z (front ++ back)
      go (inl k) = Memᴰ.append_left back k
      go (inr k) = behind (Memᴰ.cases_cons k)

  -- A list without repetition that lies in another is no longer than that.
  pub included_length : (xs ys : List A) → Distinct xs → ((x : A) → Memᴰ x xs → Memᴰ x ys) → length xs ≤ length ys
  included_length [] ys d f = omega arith
  included_length (x ∷ xs) ys d f =
      let s = split (f x (Memᴰ.head refl)) in
      let h =
      included_length xs (s.front ++ s.back) d.1
      (λ z m. without x z s.front s.back (λ e. d.0 (Memᴰ.cast (sym e) m)) (subst (Memᴰ z) s.whole (f z (Memᴰ.tail m))))
      in
      omega (arith, h, length-append s.front s.back, ap length s.whole, length-append s.front (x ∷ s.back))

-- Images under a map that tells the elements apart.
pub distinct_map : {A B : Type 0} (f : A → B) (xs : List A) → ((a b : A) → Memᴰ a xs → Memᴰ b xs → f a ≡ f b → a ≡ b) → Distinct xs → Distinct (map f xs)
distinct_map f [] h d = tt
distinct_map {A} f (x ∷ xs) h d = (
  λ m. let k = Memᴰ.of_map f xs m in d.0 (Memᴰ.cast (sym (h k.0 x (Memᴰ.tail k.1) (Memᴰ.head refl) k.2)) k.1),
  distinct_map f xs (λ a b p q. h a b (Memᴰ.tail p) (Memᴰ.tail q)) d.1,
)

pub below_has : (n k : ℕ) → k < n → Memᴰ k (below n)
unfolding below
below_has zero k h = absurd (omega arith)
below_has (suc n) k h = go (dec_lt k n) (below_has n k)
  where
    go : Dec (k < n) → (k < n → Memᴰ k (below n)) → Memᴰ k (below n ++ (n ∷ []))
    go (yes a) f = Memᴰ.append_left (n ∷ []) (f a)
    go (no a) f = let e : k ≡ n = omega arith in Memᴰ.append_right (below n) (Memᴰ.head e)

-- Whether a number is in a list.
among? : (y : ℕ) (xs : List ℕ) → Dec (Memᴰ y xs)
among? y [] = no (λ m. Memᴰ.not-nil m)
among? y (x ∷ xs) = go (ℕ_discrete y x) (among? y xs)
  where
    go : Dec (y ≡ x) → Dec (Memᴰ y xs) → Dec (Memᴰ y (x ∷ xs))
    go (yes e) r = yes (Memᴰ.head e)
    go (no e) (yes m) = yes (Memᴰ.tail m)
    go (no e) (no m) = no (λ w. ⊎_elim (λ p. e p) (λ p. m p) (Memᴰ.cases_cons w))

-- Numbers below m that a list tells apart are at most m.
pub numbered_length : {A : Type 0} (f : A → ℕ) (m : ℕ) (xs : List A) → ((a b : A) → Memᴰ a xs → Memᴰ b xs → f a ≡ f b → a ≡ b)
    → ((a : A) → Memᴰ a xs → f a < m) → Distinct xs → length xs ≤ m
numbered_length f m xs h k d =
    let z =
    included_length (map f xs) (below m) (distinct_map f xs h d)
    (λ b i. let a = Memᴰ.of_map f xs i in subst (λ y. Memᴰ y (below m)) a.2 (below_has m (f a.0) (k a.0 a.1)))
    in
    omega (arith, z, length-map xs f, below_length m)

-- If a list tells apart as many numbers below m as there are, each is the number of an element.
pub numbered_onto : {A : Type 0} (f : A → ℕ) (m : ℕ) (xs : List A) → ((a b : A) → Memᴰ a xs → Memᴰ b xs → f a ≡ f b → a ≡ b)
    → ((a : A) → Memᴰ a xs → f a < m) → Distinct xs → m ≤ length xs → (y : ℕ) → y < m → (a : A) × Memᴰ a xs × (f a ≡ y)
numbered_onto {A} f m xs h k d g y b = go (among? y (map f xs))
  where
    go : Dec (Memᴰ y (map f xs)) → (a : A) × Memᴰ a xs × (f a ≡ y)
    go (yes i) = let a = Memᴰ.of_map f xs i in (a.0, a.1, a.2)
    go (no i) =
        let z =
        included_length (y ∷ map f xs) (below m) (i, distinct_map f xs h d)
        (λ u w. has u (Memᴰ.cases_cons w))
        in
        absurd (omega (arith, z, length-map xs f, below_length m))
      where
        has : (u : ℕ) → (u ≡ y) ⊎ Memᴰ u (map f xs) → Memᴰ u (below m)
        has u (inl e) = below_has m u (omega arith)
        has u (inr w) = let a = Memᴰ.of_map f xs w in subst (λ v. Memᴰ v (below m)) a.2 (below_has m (f a.0) (k a.0 a.1))
