-- The nearest peg: found along the list, each peg compared with the nearest of those in front of it.
use Prim.Native.Nat.{ℕ, zero, suc, ◌≤◌, ◌<◌}
use mathlib.Core.Path.{◌≡◌, refl, sym, ap, subst, ◌∙◌}
use mathlib.Core.Bool.{true, false}
use mathlib.Core.List.{List, [], ◌∷◌, Memᴰ}
use mathlib.Core.Logic.{◌↔◌}
use mathlib.Core.Option.{Option, none, some}
use native.Mathlib.Omega.{arith}
use native.Mathlib.Nat.{zero-add}
use lib.ListN.{length, take}
use lib.Seq.{take_all}
use Rattle.base.specs.Lists.{at, first_from}
use Rattle.base.specs.Tests.{◌≤?◌, ◌<?◌, ◌=?◌}
use Rattle.base.proofs.AtLaws.{none_some, some_same, at_there, at_take, at_in_take, among_at}
use Rattle.base.proofs.Filters.{all_yes}
use Rattle.base.proofs.FirstLaws.{First, first_found, first_is_lem}
use Rattle.base.proofs.ListLaws.{each_at}
use Rattle.base.proofs.QuantifierLaws.{all_at}
use Rattle.base.proofs.TestLaws.{Known, known, holds, fails, not_both, le_yes, le_holds, le_fails, lt_holds, lt_fails, eq_yes, pick_yes}
use Rattle.plane.specs.declared.Point.{Point}
use Rattle.pegs.specs.Names.{before}
use Rattle.pegs.specs.Operations.{Peg}
use Rattle.pegs.specs.Claim.{Sorted}
use Rattle.pegs.specs.Regions.{distance_to, no_nearer, is_nearest, nearest}
use Rattle.pegs.specs.Image.{pegs_in}
use Rattle.pegs.specs.Outcome.{register_number, Found, not_found, found_if}
use Rattle.pegs.specs.Queries.{found_peg, found_at, nearest_on}
use Rattle.pegs.specs.QueriesClaim.{NearestTheorem}

module _ (p : Point) where
  -- The peg g at k is nearest: none is nearer, and all in front of it are farther.
  pub record Closest (l : List Peg) (k : ℕ) (g : Peg) : Type 0 where
    pub stands : at l k ≡ some g
    pub least : (i : ℕ) (h : Peg) → at l i ≡ some h → distance_to p g ≤ distance_to p h
    pub first : (i : ℕ) (h : Peg) → i < k → at l i ≡ some h → distance_to p g < distance_to p h

  -- ---- it is what the definition gives

  no_nearer_lem : (g h : Peg) → distance_to p g ≤ distance_to p h → no_nearer p g h ≡ true
  unfolding no_nearer
  no_nearer_lem g h e = le_yes _ _ (omega (arith, e))

  as_near : (g h : Peg) → no_nearer p g h ≡ true → distance_to p g ≤ distance_to p h
  unfolding no_nearer
  as_near g h e = omega (arith, le_holds _ _ e)

  pub closest_nearest : (l : List Peg) (k : ℕ) (g : Peg) → Closest l k g → nearest p l ≡ some k
  unfolding nearest is_nearest
  closest_nearest l k g c =
      first_is_lem (is_nearest p l) l 0 k (record { element = g; stands = c.stands; passes = passes; earlier = earlier }) ∙ ap some (zero-add k)
    where
      passes : is_nearest p l g ≡ true
      passes = all_yes (no_nearer p g) l (λ h m. let r = among_at l h m in no_nearer_lem g h (c.least r.0 h r.1))

      earlier : (j : ℕ) (x : Peg) → j < k → at l j ≡ some x → is_nearest p l x ≡ false
      earlier j x h e = go (known (is_nearest p l x))
        where
          go : Known (is_nearest p l x) → is_nearest p l x ≡ false
          go (fails f) = f
          go (holds f) =
              let z = as_near x g (all_at (no_nearer p x) l f k g c.stands) in
              absurd (omega (arith, z, c.first j x h e))

  pub nearest_closest : (l : List Peg) (k : ℕ) → nearest p l ≡ some k → (g : Peg) × Closest l k g
  unfolding nearest is_nearest
  nearest_closest l k e =
      let r = first_found (is_nearest p l) l 0 k e in
      let f : First (is_nearest p l) l k = subst (First (is_nearest p l) l) (sym (r.1 ∙ zero-add r.0)) r.2 in
      let least : (i : ℕ) (h : Peg) → at l i ≡ some h → distance_to p f.element ≤ distance_to p h =
      λ i h s. as_near f.element h (all_at (no_nearer p f.element) l f.passes i h s) in
      (f.element, record { stands = f.stands; least = least; first = farther f least })
    where
      -- One that is as near, in front of it, would be nearest too.
      farther : (f : First (is_nearest p l) l k) → ((i : ℕ) (h : Peg) → at l i ≡ some h → distance_to p f.element ≤ distance_to p h)
          → (i : ℕ) (h : Peg) → i < k → at l i ≡ some h → distance_to p f.element < distance_to p h
      farther f least i h low s = go (known (distance_to p h ≤? distance_to p f.element))
        where
          go : Known (distance_to p h ≤? distance_to p f.element) → distance_to p f.element < distance_to p h
          go (fails b) = le_fails _ _ b
          go (holds b) =
              let near : is_nearest p l h ≡ true =
              all_yes (no_nearer p h) l (λ y m. let r = among_at l y m in no_nearer_lem h y (omega (arith, le_holds _ _ b, least r.0 y r.1))) in
              not_both (sym (f.earlier i h low s) ∙ near)

  -- ---- along the list: of the first peg, then of one more

  pub closest_one : (l : List Peg) (g : Peg) → at l 0 ≡ some g → Closest (take 1 l) 0 g
  closest_one l g e = record {
    stands = at_take 1 l 0 (omega arith) ∙ e;
    least = λ i h s.
        let r = at_in_take 1 l i h s in
        let z : 0 ≡ i = omega (arith, r.0) in
        let same : g ≡ h = some_same (sym e ∙ ap (at l) z ∙ r.1) in
        omega (arith, ap (distance_to p) same);
    first = λ i h low s. absurd (omega arith);
  }

  module _ (l : List Peg) (m k : ℕ) (g h : Peg) (c : Closest (take m l) k g) (next : at l m ≡ some h) where
    low_k : k < m
    low_k = (at_in_take m l k g c.stands).0

    -- A peg of those, or the next one.
    one_of : (x : Peg) → distance_to p x ≤ distance_to p g → distance_to p x ≤ distance_to p h
        → (i : ℕ) (y : Peg) → at (take (suc m) l) i ≡ some y → distance_to p x ≤ distance_to p y
    one_of x near far i y s = go (at_in_take (suc m) l i y s) (known (i <? m))
      where
        go : (i < suc m) × (at l i ≡ some y) → Known (i <? m) → distance_to p x ≤ distance_to p y
        go r (holds t) = omega (arith, c.least i y (at_take m l i (lt_holds i m t) ∙ r.1), near)
        go r (fails t) =
            let z : m ≡ i = omega (arith, lt_fails i m t, r.0) in
            let same : h ≡ y = some_same (sym next ∙ ap (at l) z ∙ r.1) in
            omega (arith, far, ap (distance_to p) same)

    pub closest_nearer : distance_to p h < distance_to p g → Closest (take (suc m) l) m h
    closest_nearer near = record {
      stands = at_take (suc m) l m (omega arith) ∙ next;
      least = one_of h (omega (arith, near)) (omega arith);
      first = λ i y low s. omega (arith, near, c.least i y (at_take m l i low ∙ (at_in_take (suc m) l i y s).1));
    }

    pub closest_still : distance_to p g ≤ distance_to p h → Closest (take (suc m) l) k g
    closest_still far = record {
      stands = at_take (suc m) l k (omega (arith, low_k)) ∙ (at_in_take m l k g c.stands).1;
      least = one_of g (omega arith) far;
      first = λ i y low s. c.first i y low (at_take m l i (omega (arith, low_k)) ∙ (at_in_take (suc m) l i y s).1);
    }

  -- At the end of the list it is the one of all.
  pub closest_all : (l : List Peg) (m k : ℕ) (g : Peg) → length l ≤ m → Closest (take m l) k g → nearest p l ≡ some k
  closest_all l m k g h c = closest_nearest l k g (subst (λ (x : List Peg). Closest x k g) (take_all m l h) c)

  -- ---- there is one in every list that has a peg

  some_closest : (l : List Peg) (m : ℕ) → m < length l → (k : ℕ) × (g : Peg) × Closest (take (suc m) l) k g
  some_closest l zero h = let r = at_there l 0 h in (0, r.0, closest_one l r.0 r.1)
  some_closest l (suc m) h = go (at_there l (suc m) h) (some_closest l m (omega arith))
    where
      go : (x : Peg) × (at l (suc m) ≡ some x) → (k : ℕ) × (g : Peg) × Closest (take (suc m) l) k g → (k : ℕ) × (g : Peg) × Closest (take (suc (suc m)) l) k g
      go r c = by (known (distance_to p c.1 ≤? distance_to p r.0))
        where
          by : Known (distance_to p c.1 ≤? distance_to p r.0) → (k : ℕ) × (g : Peg) × Closest (take (suc (suc m)) l) k g
          by (holds t) = (c.0, c.1, closest_still l (suc m) c.0 c.1 r.0 c.2 r.1 (le_holds _ _ t))
          by (fails t) = (suc m, r.0, closest_nearer l (suc m) c.0 c.1 r.0 c.2 r.1 (le_fails _ _ t))

  pub none_empty : (l : List Peg) → (nearest p l ≡ none) ↔ (l ≡ [])
  unfolding nearest first_from
  none_empty [] = (λ e. refl, λ e. refl)
  none_empty (g ∷ l) = (λ e. none_some (sym e ∙ there), λ e. absurd (omega (arith, ap length e)))
    where
      there : nearest p (g ∷ l) ≡ some (some_closest (g ∷ l) (length l) (omega arith)).0
      there =
          let r = some_closest (g ∷ l) (length l) (omega arith) in
          closest_all (g ∷ l) (suc (length l)) r.0 r.1 (omega arith) r.2

-- ---- the theorem

sorted_at : (l : List Peg) → Sorted l → (i j : ℕ) (g h : Peg) → i < j → at l i ≡ some g → at l j ≡ some h → before g.name h.name ≡ true
unfolding at
sorted_at [] s i j g h low e f = none_some e
sorted_at (x ∷ l) s zero zero g h low e f = absurd (omega arith)
sorted_at (x ∷ l) s zero (suc j) g h low e f =
    ap (λ (y : Peg). before y.name h.name) (sym (some_same e)) ∙ each_at (λ y. before x.name y.name ≡ true) l j h s.0 f
sorted_at (x ∷ l) s (suc i) zero g h low e f = absurd (omega arith)
sorted_at (x ∷ l) s (suc i) (suc j) g h low e f = sorted_at l s.1 i j g h (omega arith) e f

module _ (p : Point) (l : List Peg) (k : ℕ) (e : nearest p l ≡ some k) where
  stands_there : (g : Peg) × (at l k ≡ some g)
  stands_there = let c = nearest_closest p l k e in (c.0, c.1.stands)

  module _ (g h : Peg) (s : at l k ≡ some g) where
    closest : Closest p l k g
    closest =
        let c = nearest_closest p l k e in
        subst (Closest p l k) (some_same (sym c.1.stands ∙ s)) c.1

    none_nearer : Memᴰ h l → distance_to p g ≤ distance_to p h
    none_nearer m = let r = among_at l h m in closest.least r.0 h r.1

    tie_behind : Sorted l → (j : ℕ) → at l j ≡ some h → distance_to p h ≡ distance_to p g → (h ≡ g → ⊥) → before g.name h.name ≡ true
    tie_behind sorted j f d other = go (known (k <? j)) (known (j <? k))
      where
        go : Known (k <? j) → Known (j <? k) → before g.name h.name ≡ true
        go (holds t) u = sorted_at l sorted k j g h (lt_holds k j t) s f
        go (fails t) (holds u) = absurd (omega (arith, closest.first j h (lt_holds j k u) f, d))
        go (fails t) (fails u) =
            let z : j ≡ k = omega (arith, lt_fails k j t, lt_fails j k u) in
            absurd (other (some_same (sym f ∙ ap (at l) z ∙ s)))

-- ---- what is said of it

module _ (r : List ℕ) (p : Point) (ok : register_number r ≡ 0) where
  told : nearest_on r p ≡ found_at (pegs_in r) (nearest p (pegs_in r))
  unfolding nearest_on
  told = sym (pick_yes (register_number r =? 0) _ _ _ (eq_yes _ 0 ok) refl)

  found_as : (o : Option ℕ) → nearest p (pegs_in r) ≡ o → (nearest_on r p).found ≡ (found_at (pegs_in r) o).found
  found_as o e = ap (λ (f : Found). f.found) (told ∙ ap (found_at (pegs_in r)) e)

  found_one : (k : ℕ) → nearest p (pegs_in r) ≡ some k → (nearest_on r p).found ≡ 1
  unfolding found_at found_peg found_if
  found_one k e =
      let c = nearest_closest p (pegs_in r) k e in
      found_as (some k) e ∙ ap (λ (x : Option Peg). (found_peg k x).found) c.1.stands

  said_none : (nearest_on r p).found ≡ 0 → pegs_in r ≡ []
  said_none h = go (nearest p (pegs_in r)) refl
    where
      go : (o : Option ℕ) → nearest p (pegs_in r) ≡ o → pegs_in r ≡ []
      go none e = (none_empty p (pegs_in r)).0 e
      go (some k) e = absurd (omega (arith, h, found_one k e))

  none_said : pegs_in r ≡ [] → (nearest_on r p).found ≡ 0
  unfolding found_at not_found
  none_said e = found_as none ((none_empty p (pegs_in r)).1 e)

pub nearest_theorem : NearestTheorem
nearest_theorem = record {
  none_empty = none_empty;
  said = λ r p ok. (said_none r p ok, none_said r p ok);
  there = stands_there;
  least = λ p l k g h e s m. none_nearer p l k e g h s m;
  tie = λ p l k g h sorted e s m d other. let r = among_at l h m in tie_behind p l k e g h s sorted r.0 r.1 d other;
}
