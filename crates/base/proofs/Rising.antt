-- Lists that rise by a number of their elements, compared by labels: each an initial part of one order.
use Prim.Native.Nat.{ℕ, ◌≤◌, ◌<◌}
use mathlib.Core.Path.{◌≡◌, refl, sym, ap, ◌∙◌}
use mathlib.Core.List.Memᴰ
use mathlib.Core.List.{List, [], ◌∷◌, ◌++◌, map, Memᴰ}
use mathlib.Core.Logic.{◌⊎◌, inl, inr}
use native.Mathlib.Omega.{arith}
use native.Mathlib.Decide.{dec_lt}
use Rattle.base.specs.Lists.{Begins}

-- Each element's number is above those of the elements before it.
abbrev pub Rises : {A : Type 0} → (A → ℕ) → List A → Type 0
Rises s [] = Unit {0}
Rises {A} s (a ∷ x) = ((b : A) → Memᴰ b x → s a < s b) × Rises s x

pub rises_more : {A : Type 0} (s : A → ℕ) (x : List A) (a : A) → Rises s x → ((b : A) → Memᴰ b x → s b < s a) → Rises s (x ++ (a ∷ []))
rises_more s [] a h f = (λ b m. absurd (Memᴰ.not-nil m), tt)
rises_more {A} s (c ∷ x) a h f = (λ b m. go b x (λ y k. h.0 y k) m, rises_more s x a h.1 (λ b m. f b (Memᴰ.tail m)))
  where
    go : (b : A) (x : List A) → ((y : A) → Memᴰ y x → s c < s y) → Memᴰ b (x ++ (a ∷ [])) → s c < s b
    go b [] k (Memᴰ.head e) = omega (arith, f c (Memᴰ.head refl), ap s e)
    go b [] k (Memᴰ.tail m) = absurd (Memᴰ.not-nil m)
    go b (y ∷ x) k (Memᴰ.head e) = omega (arith, k y (Memᴰ.head refl), ap s e)
    go b (y ∷ x) k (Memᴰ.tail m) = go b x (λ z w. k z (Memᴰ.tail w)) m

module _ {A L : Type 0} (f : A → L) (s : A → ℕ) where
  -- Some element of x has the label m.
  pub record Labelled (x : List A) (m : L) : Type 0 where
    pub element : A
    pub among : Memᴰ element x
    pub label : f element ≡ m

  -- In x and y equal labels have equal numbers, and equal numbers equal labels.
  pub record Alike (x y : List A) : Type 0 where
    pub numbers : (a b : A) → Memᴰ a x → Memᴰ b y → f a ≡ f b → s a ≡ s b
    pub labels : (a b : A) → Memᴰ a x → Memᴰ b y → s a ≡ s b → f a ≡ f b

  -- What y has below an element of x, x has too.
  abbrev pub Initial : List A → List A → Type 0
  Initial x y = (a b : A) → Memᴰ a x → Memᴰ b y → s b < s a → Labelled x (f b)

  alike_tails : (a b : A) (x y : List A) → Alike (a ∷ x) (b ∷ y) → Alike x y
  alike_tails a b x y h = record {
    numbers = λ c d m k. h.numbers c d (Memᴰ.tail m) (Memᴰ.tail k);
    labels = λ c d m k. h.labels c d (Memᴰ.tail m) (Memᴰ.tail k);
  }

  -- Where the heads are equal, tails are initial if the lists are.
  initial_tails : (a b : A) (x y : List A) → ((c : A) → Memᴰ c y → s b < s c) → ((c : A) → Memᴰ c (b ∷ y) → f a ≡ f c → s a ≡ s c) → s a ≡ s b
      → Initial (a ∷ x) (b ∷ y) → Initial x y
  initial_tails a b x y r n e h c d m k l = go (h c d (Memᴰ.tail m) (Memᴰ.tail k) l)
    where
      go : Labelled (a ∷ x) (f d) → Labelled x (f d)
      go w = at (Memᴰ.cases_cons w.among)
        where
          at : (w.element ≡ a) ⊎ Memᴰ w.element x → Labelled x (f d)
          at (inl u) = absurd (omega (arith, r d k, n d (Memᴰ.tail k) (ap f (sym u) ∙ w.label)))
          at (inr u) = record { element = w.element; among = u; label = w.label }

  least : (b : A) (y : List A) → ((c : A) → Memᴰ c y → s b < s c) → (c : A) → Memᴰ c (b ∷ y) → s b ≤ s c
  least b y r c (Memᴰ.head e) = omega (arith, ap s e)
  least b y r c (Memᴰ.tail m) = omega (arith, r c m)

  begins_cons : (m k : L) (x y : List L) → m ≡ k → Begins x y → Begins (m ∷ x) (k ∷ y)
  unfolding Begins
  begins_cons m k x y e h = (h.0, λ j. sym e j ∷ h.1 j)

  begins_nil : (y : List L) → Begins [] y
  unfolding Begins
  begins_nil y = (y, refl)

  -- x is initial in y and all of its labels are in y: x's labels begin y's.
  pub included_begins : (x y : List A) → Rises s x → Rises s y → Alike x y → Initial x y → ((a : A) → Memᴰ a x → Labelled y (f a))
      → Begins (map f x) (map f y)
  included_begins [] y p q h i k = begins_nil (map f y)
  included_begins (a ∷ x) [] p q h i k = absurd (Memᴰ.not-nil (k a (Memᴰ.head refl)).among)
  included_begins (a ∷ x) (b ∷ y) p q h i k = go (dec_lt (s a) (s b)) (dec_lt (s b) (s a)) (included_begins x y p.1 q.1 (alike_tails a b x y h))
    where
      go : Dec (s a < s b) → Dec (s b < s a) → (Initial x y → ((c : A) → Memᴰ c x → Labelled y (f c)) → Begins (map f x) (map f y))
          → Begins (map f (a ∷ x)) (map f (b ∷ y))
      go (yes u) v w =
          let z = k a (Memᴰ.head refl) in
          absurd (omega (arith, least b y q.0 _ z.among, h.numbers a _ (Memᴰ.head refl) z.among (sym z.label)))
      go (no u) (yes v) w =
          let z = i a b (Memᴰ.head refl) (Memᴰ.head refl) v in
          absurd (omega (arith, least a x p.0 _ z.among, h.numbers _ b z.among (Memᴰ.head refl) z.label))
      go (no u) (no v) w =
          let e : s a ≡ s b = omega arith in
          begins_cons _ _ _ _ (h.labels a b (Memᴰ.head refl) (Memᴰ.head refl) e)
          (w (initial_tails a b x y q.0 (λ c m. h.numbers a c (Memᴰ.head refl) m) e i) (λ c m. below c m (k c (Memᴰ.tail m))))
        where
          below : (c : A) → Memᴰ c x → Labelled (b ∷ y) (f c) → Labelled y (f c)
          below c m z = at (Memᴰ.cases_cons z.among)
            where
              at : (z.element ≡ b) ⊎ Memᴰ z.element y → Labelled y (f c)
              at (inl g) =
                  absurd (omega (arith, p.0 c m, h.numbers c _ (Memᴰ.tail m) z.among (sym z.label), ap s g))
              at (inr g) = record { element = z.element; among = g; label = z.label }

  -- Each is initial in the other: one begins the other.
  pub comparable : (x y : List A) → Rises s x → Rises s y → Alike x y → Initial x y → Initial y x → Begins (map f x) (map f y) ⊎ Begins (map f y) (map f x)
  comparable [] y p q h i k = inl (begins_nil (map f y))
  comparable (a ∷ x) [] p q h i k = inr (begins_nil (map f (a ∷ x)))
  comparable (a ∷ x) (b ∷ y) p q h i k = go (dec_lt (s a) (s b)) (dec_lt (s b) (s a)) (comparable x y p.1 q.1 (alike_tails a b x y h))
    where
      joined : f a ≡ f b → Begins (map f x) (map f y) ⊎ Begins (map f y) (map f x)
          → Begins (map f (a ∷ x)) (map f (b ∷ y)) ⊎ Begins (map f (b ∷ y)) (map f (a ∷ x))
      joined e (inl z) = inl (begins_cons _ _ _ _ e z)
      joined e (inr z) = inr (begins_cons _ _ _ _ (sym e) z)

      go : Dec (s a < s b) → Dec (s b < s a) → (Initial x y → Initial y x → Begins (map f x) (map f y) ⊎ Begins (map f y) (map f x))
          → Begins (map f (a ∷ x)) (map f (b ∷ y)) ⊎ Begins (map f (b ∷ y)) (map f (a ∷ x))
      go (yes u) v w =
          let z = k b a (Memᴰ.head refl) (Memᴰ.head refl) u in
          absurd (omega (arith, least b y q.0 _ z.among, h.numbers a _ (Memᴰ.head refl) z.among (sym z.label)))
      go (no u) (yes v) w =
          let z = i a b (Memᴰ.head refl) (Memᴰ.head refl) v in
          absurd (omega (arith, least a x p.0 _ z.among, h.numbers _ b z.among (Memᴰ.head refl) z.label))
      go (no u) (no v) w =
          let e : s a ≡ s b = omega arith in
          joined (h.labels a b (Memᴰ.head refl) (Memᴰ.head refl) e)
          (w (initial_tails a b x y q.0 (λ c m. h.numbers a c (Memᴰ.head refl) m) e i)
          (initial_tails b a y x p.0 (λ c m g. sym (h.numbers c b m (Memᴰ.head refl) (sym g))) (sym e) k))
