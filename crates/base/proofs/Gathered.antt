-- Where the elements of joined and gathered lists stand.
use Prim.Native.Nat.{ℕ, zero, suc, ◌+◌, ◌-◌, ◌≤◌, ◌<◌}
use mathlib.Core.Path.{◌≡◌, refl, sym, ap, ◌∙◌}
use mathlib.Core.List.{List, [], ◌∷◌, ◌++◌, Memᴰ}
use mathlib.Core.Logic.{◌⊎◌, inl, inr}
use mathlib.Core.Option.{Option, none, some}
use native.Mathlib.Omega.{arith}
use native.Mathlib.Decide.{ℕ_discrete}
use lib.ListN.{length}
use Rattle.base.specs.Lists.{at, at_front, gather, gather_all, after, above, below}
use Rattle.base.proofs.AtLaws.{none_some, at_single}
use Rattle.base.proofs.ListLaws.{below_length}

module _ {A : Type 0} where
  -- ---- one list behind another

  pub at_first : (xs ys : List A) (j : ℕ) (x : A) → at xs j ≡ some x → at (xs ++ ys) j ≡ some x
  unfolding at
  at_first [] ys j x e = none_some e
  at_first (y ∷ xs) ys zero x e = e
  at_first (y ∷ xs) ys (suc j) x e = at_first xs ys j x e

  pub at_second : (xs ys : List A) (j : ℕ) → at (xs ++ ys) (length xs + j) ≡ at ys j
  unfolding at
  at_second [] ys j = let e : 0 + j ≡ j = omega arith in ap (at ys) e
  at_second (y ∷ xs) ys j = let e : length (y ∷ xs) + j ≡ suc (length xs + j) = omega arith in ap (at (y ∷ xs ++ ys)) e ∙ at_second xs ys j

  pub at_either : (xs ys : List A) (j : ℕ) (x : A) → at (xs ++ ys) j ≡ some x
      → (at xs j ≡ some x) ⊎ ((k : ℕ) × (j ≡ length xs + k) × (at ys k ≡ some x))
  unfolding at
  at_either [] ys j x e = inr (j, omega arith, e)
  at_either (y ∷ xs) ys zero x e = inl e
  at_either (y ∷ xs) ys (suc j) x e = go (at_either xs ys j x e)
    where
      go : (at xs j ≡ some x) ⊎ ((k : ℕ) × (j ≡ length xs + k) × (at ys k ≡ some x))
          → (at xs j ≡ some x) ⊎ ((k : ℕ) × (suc j ≡ length (y ∷ xs) + k) × (at ys k ≡ some x))
      go (inl h) = inl h
      go (inr h) = inr (h.0, omega (arith, h.1), h.2)

module _ {B : Type 0} (f : ℕ → Option B) where
  -- What is gathered of the numbers after k, at j: of the number i; what f makes of a lower number stands before it.
  pub record GatheredAt (k h : ℕ) (ys : List B) (j : ℕ) (y : B) : Type 0 where
    pub of : ℕ
    pub low : k < of
    pub high : of ≤ h
    pub made : f of ≡ some y
    pub lower : (i : ℕ) (z : B) → k < i → i < of → f i ≡ some z → (u : ℕ) × (u < j) × (at ys u ≡ some z)

  pub gathered_after : (k m j : ℕ) (y : B) → at (gather f (after k m)) j ≡ some y → GatheredAt k (k + m) (gather f (after k m)) j y
  unfolding gather after at_front at
  gathered_after k zero j y e = none_some e
  gathered_after k (suc m) j y e = go (f (k + 1)) refl j e (λ u h. gathered_after (k + 1) m u y h)
    where
      rest : List B
      rest = gather f (after (k + 1) m)

      passed : f (k + 1) ≡ none → (j : ℕ) → GatheredAt (k + 1) (k + 1 + m) rest j y → GatheredAt k (k + suc m) rest j y
      passed g j x = record { of = x.of; low = omega (arith, x.low); high = omega (arith, x.high); made = x.made; lower = λ i z a b w. lower i z a b w (ℕ_discrete i (k + 1)) }
        where
          lower : (i : ℕ) (z : B) → k < i → i < x.of → f i ≡ some z → Dec (i ≡ k + 1) → (u : ℕ) × (u < j) × (at rest u ≡ some z)
          lower i z a b w (yes d) = none_some (sym g ∙ ap f (sym d) ∙ w)
          lower i z a b w (no d) = x.lower i z (omega arith) b w

      behind : (y' : B) → f (k + 1) ≡ some y' → (j : ℕ) → GatheredAt (k + 1) (k + 1 + m) rest j y → GatheredAt k (k + suc m) (y' ∷ rest) (suc j) y
      behind y' g j x = record { of = x.of; low = omega (arith, x.low); high = omega (arith, x.high); made = x.made; lower = λ i z a b w. lower i z a b w (ℕ_discrete i (k + 1)) }
        where
          lower : (i : ℕ) (z : B) → k < i → i < x.of → f i ≡ some z → Dec (i ≡ k + 1) → (u : ℕ) × (u < suc j) × (at (y' ∷ rest) u ≡ some z)
          lower i z a b w (yes d) = (0, omega arith, sym g ∙ ap f (sym d) ∙ w)
          lower i z a b w (no d) = let h = x.lower i z (omega arith) b w in (suc h.0, omega (arith, h.1), h.2)

      go : (o : Option B) → f (k + 1) ≡ o → (j : ℕ) → at (at_front o rest) j ≡ some y
          → ((u : ℕ) → at rest u ≡ some y → GatheredAt (k + 1) (k + 1 + m) rest u y) → GatheredAt k (k + suc m) (at_front o rest) j y
      go none g j e r = passed g j (r j e)
      go (some y') g zero e r = record { of = k + 1; low = omega arith; high = omega arith; made = g ∙ e; lower = λ i z a b w. absurd (omega arith) }
      go (some y') g (suc j) e r = behind y' g j (r j e)

  pub gathered_above : (k h j : ℕ) (y : B) → at (gather f (above k h)) j ≡ some y → GatheredAt k h (gather f (above k h)) j y
  unfolding above
  gathered_above k h j y e =
      let x = gathered_after k (h - k) j y e in
      record { of = x.of; low = x.low; high = omega (arith, x.low, x.high); made = x.made; lower = x.lower }

  -- What f makes of a number is gathered.
  pub after_gathered : (k m i : ℕ) (y : B) → k < i → i ≤ k + m → f i ≡ some y → (j : ℕ) × (at (gather f (after k m)) j ≡ some y)
  unfolding gather after at_front at
  after_gathered k zero i y a b e = absurd (omega arith)
  after_gathered k (suc m) i y a b e = go (f (k + 1)) refl (ℕ_discrete i (k + 1)) (λ c d. after_gathered (k + 1) m i y c d e)
    where
      rest : List B
      rest = gather f (after (k + 1) m)

      go : (o : Option B) → f (k + 1) ≡ o → Dec (i ≡ k + 1) → (k + 1 < i → i ≤ k + 1 + m → (j : ℕ) × (at rest j ≡ some y))
          → (j : ℕ) × (at (at_front o rest) j ≡ some y)
      go none g (yes d) r = none_some (sym g ∙ ap f (sym d) ∙ e)
      go none g (no d) r = r (omega arith) (omega arith)
      go (some z) g (yes d) r = (0, sym g ∙ ap f (sym d) ∙ e)
      go (some z) g (no d) r = let h = r (omega arith) (omega arith) in (suc h.0, h.1)

  pub above_gathered : (k h i : ℕ) (y : B) → k < i → i ≤ h → f i ≡ some y → (j : ℕ) × (at (gather f (above k h)) j ≡ some y)
  unfolding above
  above_gathered k h i y a b e = after_gathered k (h - k) i y a (omega arith) e

module _ {A B : Type 0} (f : A → List B) where
  -- What is gathered at j: of the element a, whose part begins at `from`.
  pub record PartAt (xs : List A) (ys : List B) (j : ℕ) (y : B) : Type 0 where
    pub of : A
    pub among : Memᴰ of xs
    pub from : ℕ
    pub number : ℕ
    pub here : j ≡ from + number
    pub there : at (f of) number ≡ some y
    pub whole : (u : ℕ) (z : B) → at (f of) u ≡ some z → at ys (from + u) ≡ some z

  pub gathered_part : (xs : List A) (j : ℕ) (y : B) → at (gather_all f xs) j ≡ some y → PartAt xs (gather_all f xs) j y
  unfolding gather_all at
  gathered_part [] j y e = none_some e
  gathered_part (x ∷ xs) j y e = go (at_either (f x) (gather_all f xs) j y e) (λ k h. gathered_part xs k y h)
    where
      go : (at (f x) j ≡ some y) ⊎ ((k : ℕ) × (j ≡ length (f x) + k) × (at (gather_all f xs) k ≡ some y))
          → ((k : ℕ) → at (gather_all f xs) k ≡ some y → PartAt xs (gather_all f xs) k y) → PartAt (x ∷ xs) (f x ++ gather_all f xs) j y
      go (inl h) r =
          record {
            of = x;
            among = Memᴰ.head refl;
            from = 0;
            number = j;
            here = omega arith;
            there = h;
            whole = λ u z w. let d : 0 + u ≡ u = omega arith in ap (at (f x ++ gather_all f xs)) d ∙ at_first (f x) (gather_all f xs) u z w;
          }
      go (inr h) g =
          let r = g h.0 h.2 in
          record {
            of = r.of;
            among = Memᴰ.tail r.among;
            from = length (f x) + r.from;
            number = r.number;
            here = omega (arith, h.1, r.here);
            there = r.there;
            whole = λ u z w.
                let d : length (f x) + r.from + u ≡ length (f x) + (r.from + u) = omega arith in
                ap (at (f x ++ gather_all f xs)) d ∙ at_second (f x) (gather_all f xs) (r.from + u) ∙ r.whole u z w;
          }

  pub part_gathered : (xs : List A) (x : A) (y : B) → Memᴰ x xs → (i : ℕ) → at (f x) i ≡ some y → (j : ℕ) × (at (gather_all f xs) j ≡ some y)
  unfolding gather_all
  part_gathered [] x y x4 i h = elim x4 [ ]
  part_gathered (z ∷ xs) x y (Memᴰ.head e) i h = (i, at_first (f z) (gather_all f xs) i y (ap (λ w. at (f w) i) (sym e) ∙ h))
  part_gathered (z ∷ xs) x y (Memᴰ.tail m) i h =
      let r = part_gathered xs x y m i h in
      (length (f z) + r.0, at_second (f z) (gather_all f xs) r.0 ∙ r.1)

-- ---- runs of numbers

pub at_below : (n k x : ℕ) → at (below n) k ≡ some x → (k < n) × (x ≡ k)
unfolding below at
at_below zero k x e = none_some e
at_below (suc n) k x e = go (at_either (below n) (n ∷ []) k x e) (at_below n k x)
  where
    go : (at (below n) k ≡ some x) ⊎ ((j : ℕ) × (k ≡ length (below n) + j) × (at (n ∷ []) j ≡ some x)) → (at (below n) k ≡ some x → (k < n) × (x ≡ k))
        → (k < suc n) × (x ≡ k)
    go (inl h) rest = let r = rest h in (omega (arith, r.0), r.1)
    go (inr h) rest =
        let r = at_single n h.0 x h.2 in
        (omega (arith, r.0, below_length n, h.1), omega (arith, r.0, r.1, below_length n, h.1))
