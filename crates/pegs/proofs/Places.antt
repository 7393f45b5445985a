-- Positions in a sorted register, and what an operation does there.
use Prim.Native.Nat.{ℕ, zero, suc, ◌≤◌, ◌<◌}
use mathlib.Core.Path.{◌≡◌, refl, sym, ap, ◌∙◌}
use mathlib.Core.Bool.{true, false}
use mathlib.Core.List.{List, [], ◌∷◌, ◌++◌}
use mathlib.Core.Option.{Option, none, some}
use native.Mathlib.Omega.{arith}
use lib.ListN.{length, take, drop}
use Rattle.base.specs.Tests.{◌<?◌, pick}
use Rattle.base.specs.Lists.{is_there, same, at, all, Each}
use Rattle.base.proofs.AtLaws.{none_some, some_same, at_low}
use Rattle.base.proofs.ListLaws.{all_each, each_at}
use Rattle.base.proofs.SameLaws.{same_holds}
use Rattle.base.proofs.TestLaws.{Known, known, holds, fails, le_holds, lt_holds, lt_fails, and_holds, both_yes, not_both, pick_yes, pick_no}
use Rattle.pegs.specs.Names.{before}
use Rattle.pegs.specs.Operations.{Place, Peg}
use Rattle.pegs.specs.Register.{most_pegs, find, insert, replace, remove}
use Rattle.pegs.specs.Claim.{Sorted}
use Rattle.pegs.specs.Image.{leads, rising, peg_fits, formed}
use Rattle.pegs.specs.Outcome.{position}
use Rattle.pegs.proofs.Order.{before_trans, before_irrefl, before_total}
use Rattle.pegs.proofs.Numbers.{not_there}
use Rattle.pegs.proofs.Named.{found_here, found_later, same_other}
use Rattle.pegs.proofs.Sorted.{Behind, behind_found, behind_trans}

-- ---- neighbours in order are all in order

behind_led : (m : List ℕ) (l : List Peg) → leads m l ≡ true → Sorted l → Behind m l
unfolding leads
behind_led m [] e s = tt
behind_led m (h ∷ l) e s = (e, behind_trans m h.name l e s.0)

leads_behind : (m : List ℕ) (l : List Peg) → Behind m l → leads m l ≡ true
unfolding leads
leads_behind m [] b = refl
leads_behind m (h ∷ l) b = b.0

pub rising_sorted : (l : List Peg) → rising l ≡ true → Sorted l
unfolding rising
rising_sorted [] e = tt
rising_sorted (g ∷ l) e =
    let t = and_holds (leads g.name l) (rising l) e in
    let s = rising_sorted l t.1 in
    (behind_led g.name l t.0 s, s)

pub sorted_rising : (l : List Peg) → Sorted l → rising l ≡ true
unfolding rising
sorted_rising [] s = refl
sorted_rising (g ∷ l) s = both_yes _ _ (leads_behind g.name l s.0) (sorted_rising l s.1)

module _ (l : List Peg) (ok : formed l ≡ true) where
  pub formed_most : length l ≤ most_pegs
  unfolding formed
  formed_most = le_holds (length l) most_pegs (and_holds _ _ ok).0

  pub formed_all : all peg_fits l ≡ true
  unfolding formed
  formed_all = (and_holds _ _ (and_holds _ _ ok).1).0

  pub formed_fits : Each (λ g. peg_fits g ≡ true) l
  formed_fits = all_each peg_fits (λ g. peg_fits g ≡ true) (λ g h. h) l formed_all

  pub formed_sorted : Sorted l
  unfolding formed
  formed_sorted = rising_sorted l (and_holds _ _ (and_holds _ _ ok).1).1

-- ---- the position of a name

module _ (m : List ℕ) where
  pub position_later : (h : Peg) (l : List Peg) → before h.name m ≡ true → position m (h ∷ l) ≡ suc (position m l)
  unfolding position pick
  position_later h l e = rw e

  pub position_here : (h : Peg) (l : List Peg) → before h.name m ≡ false → position m (h ∷ l) ≡ 0
  unfolding position pick
  position_here h l e = rw e

  pub position_most : (l : List Peg) → position m l ≤ length l
  unfolding position
  position_most [] = omega arith
  position_most (h ∷ l) = go (known (before h.name m)) (position_most l)
    where
      go : Known (before h.name m) → position m l ≤ length l → position m (h ∷ l) ≤ length (h ∷ l)
      go (holds e) i = omega (arith, position_later h l e, i)
      go (fails e) i = omega (arith, position_here h l e)

  -- The names in front of the position stand before m; from there on none does.
  pub position_front : (l : List Peg) (j : ℕ) (g : Peg) → at l j ≡ some g → j < position m l → before g.name m ≡ true
  unfolding at position
  position_front [] j g e k = none_some e
  position_front (h ∷ l) zero g e k = go (known (before h.name m))
    where
      go : Known (before h.name m) → before g.name m ≡ true
      go (holds f) = ap (λ (x : Peg). before x.name m) (sym (some_same e)) ∙ f
      go (fails f) = absurd (omega (arith, position_here h l f))
  position_front (h ∷ l) (suc j) g e k = go (known (before h.name m)) (λ n. position_front l j g e n)
    where
      go : Known (before h.name m) → (j < position m l → before g.name m ≡ true) → before g.name m ≡ true
      go (holds f) i = i (omega (arith, position_later h l f))
      go (fails f) i = absurd (omega (arith, position_here h l f))

  not_passed : (u v : List ℕ) → before u v ≡ true → before u m ≡ false → before v m ≡ false
  not_passed u v e f = go (known (before v m))
    where
      go : Known (before v m) → before v m ≡ false
      go (holds b) = not_both (sym f ∙ before_trans u v m e b)
      go (fails b) = b

  pub position_rest : (l : List Peg) → Sorted l → (j : ℕ) (g : Peg) → at l j ≡ some g → position m l ≤ j → before g.name m ≡ false
  unfolding at
  position_rest [] s j g e k = none_some e
  position_rest (h ∷ l) s zero g e k = go (known (before h.name m))
    where
      go : Known (before h.name m) → before g.name m ≡ false
      go (holds f) = absurd (omega (arith, position_later h l f))
      go (fails f) = ap (λ (x : Peg). before x.name m) (sym (some_same e)) ∙ f
  position_rest (h ∷ l) s (suc j) g e k = go (known (before h.name m)) (λ n. position_rest l s.1 j g e n)
    where
      go : Known (before h.name m) → (position m l ≤ j → before g.name m ≡ false) → before g.name m ≡ false
      go (holds f) i = i (omega (arith, position_later h l f))
      go (fails f) i = not_passed h.name g.name (each_at (λ (x : Peg). before h.name x.name ≡ true) l j g s.0 e) f

  -- So a test of one name tells on which side of it the position is.
  pub position_above : (l : List Peg) → Sorted l → (j : ℕ) (g : Peg) → at l j ≡ some g → before g.name m ≡ true → j < position m l
  position_above l s j g e b = go (known (j <? position m l))
    where
      go : Known (j <? position m l) → j < position m l
      go (holds h) = lt_holds j (position m l) h
      go (fails h) = not_both (sym (position_rest l s j g e (lt_fails j (position m l) h)) ∙ b)

  pub position_below : (l : List Peg) (j : ℕ) (g : Peg) → at l j ≡ some g → before g.name m ≡ false → position m l ≤ j
  position_below l j g e b = go (known (j <? position m l))
    where
      go : Known (j <? position m l) → position m l ≤ j
      go (holds h) = not_both (sym b ∙ position_front l j g e (lt_holds j (position m l) h))
      go (fails h) = lt_fails j (position m l) h

  -- ---- what is found is at the position

  -- What is found where the peg x stands.
  unfoldable pub found_in : Option Peg → Option Place
  found_in none = none
  found_in (some g) = pick (same m g.name) (some g.place) none

  pub before_other : (k : List ℕ) → before k m ≡ true → same m k ≡ false
  before_other k e = go (known (same m k))
    where
      go : Known (same m k) → same m k ≡ false
      go (holds f) = not_both (sym (before_irrefl m) ∙ ap (λ (x : List ℕ). before x m) (same_holds m k f) ∙ e)
      go (fails f) = f

  pub behind_none : (l : List Peg) → Behind m l → find m l ≡ none
  behind_none l b = go (known (is_there (find m l)))
    where
      go : Known (is_there (find m l)) → find m l ≡ none
      go (holds t) = not_both (sym (before_irrefl m) ∙ behind_found m m l b t)
      go (fails t) = not_there (find m l) t

  pub find_at : (l : List Peg) → Sorted l → find m l ≡ found_in (at l (position m l))
  unfolding find at position found_in
  find_at [] s = refl
  find_at (h ∷ l) s = go (known (before h.name m)) (known (same m h.name)) (find_at l s.1)
    where
      go : Known (before h.name m) → Known (same m h.name) → find m l ≡ found_in (at l (position m l)) → find m (h ∷ l) ≡ found_in (at (h ∷ l) (position m (h ∷ l)))
      go (holds b) t i = found_later m h l (before_other h.name b) ∙ i ∙ ap (λ (k : ℕ). found_in (at (h ∷ l) k)) (sym (position_later h l b))
      go (fails b) (holds t) i = found_here m h l t ∙ pick_yes (same m h.name) _ _ none t refl ∙ ap (λ (k : ℕ). found_in (at (h ∷ l) k)) (sym (position_here h l b))
      go (fails b) (fails t) i =
          let f : before m h.name ≡ true = before_total h.name m (same_other m h.name t) b in
          found_later m h l t ∙ behind_none l (behind_trans m h.name l f s.0) ∙ pick_no (same m h.name) _ (some h.place) none t refl
          ∙ ap (λ (k : ℕ). found_in (at (h ∷ l) k)) (sym (position_here h l b))

  pub at_found : (l : List Peg) → Sorted l → (g : Peg) → at l (position m l) ≡ some g → same m g.name ≡ true → find m l ≡ some g.place
  unfolding found_in
  at_found l s g e f = find_at l s ∙ ap found_in e ∙ sym (pick_yes (same m g.name) _ _ none f refl)

  pub at_other : (l : List Peg) → Sorted l → (g : Peg) → at l (position m l) ≡ some g → same m g.name ≡ false → find m l ≡ none
  unfolding found_in
  at_other l s g e f = find_at l s ∙ ap found_in e ∙ sym (pick_no (same m g.name) _ (some g.place) none f refl)

  -- The peg at the position of a name that is there.
  pub record Here (l : List Peg) : Type 0 where
    pub peg : Peg
    pub stands : at l (position m l) ≡ some peg
    pub named : same m peg.name ≡ true
    pub placed : find m l ≡ some peg.place

  in_place : (x : Option Peg) (l : List Peg) → at l (position m l) ≡ x → find m l ≡ found_in x → is_there (find m l) ≡ true → Here l
  unfolding found_in is_there
  in_place none l a e t = not_both (sym (ap is_there e) ∙ t)
  in_place (some g) l a e t = go (known (same m g.name))
    where
      go : Known (same m g.name) → Here l
      go (holds f) = record { peg = g; stands = a; named = f; placed = e ∙ sym (pick_yes (same m g.name) _ _ none f refl) }
      go (fails f) = not_both (sym (ap is_there (e ∙ sym (pick_no (same m g.name) _ (some g.place) none f refl))) ∙ t)

  pub found_at : (l : List Peg) → Sorted l → is_there (find m l) ≡ true → Here l
  found_at l s t = in_place (at l (position m l)) l refl (find_at l s) t

  pub found_low : (l : List Peg) → Sorted l → is_there (find m l) ≡ true → position m l < length l
  found_low l s t = let h = found_at l s t in at_low l (position m l) h.peg h.stands

-- ---- what an operation does is done at the position

pub insert_at : (g : Peg) (l : List Peg) → insert g l ≡ take (position g.name l) l ++ (g ∷ drop (position g.name l) l)
unfolding insert position pick
insert_at g [] = refl
insert_at g (h ∷ l) = go (known (before h.name g.name)) (insert_at g l)
  where
    go : Known (before h.name g.name) → insert g l ≡ take (position g.name l) l ++ (g ∷ drop (position g.name l) l)
        → insert g (h ∷ l) ≡ take (position g.name (h ∷ l)) (h ∷ l) ++ (g ∷ drop (position g.name (h ∷ l)) (h ∷ l))
    go (holds b) i = rw b (ap (λ (x : List Peg). h ∷ x) i)
    go (fails b) i = rw b

-- A name that is there: the first peg has it, or it is further on, and the first stands before it.
data Ahead (m : List ℕ) (h : Peg) (l : List Peg) : Type 0 where
  here : same m h.name ≡ true → before h.name m ≡ false → Ahead m h l
  later : same m h.name ≡ false → before h.name m ≡ true → is_there (find m l) ≡ true → Ahead m h l

ahead : (m : List ℕ) (h : Peg) (l : List Peg) → Sorted (h ∷ l) → is_there (find m (h ∷ l)) ≡ true → Ahead m h l
ahead m h l s t = go (known (same m h.name))
  where
    go : Known (same m h.name) → Ahead m h l
    go (holds f) = here f (ap (λ (x : List ℕ). before x m) (sym (same_holds m h.name f)) ∙ before_irrefl m)
    go (fails f) =
        let n : is_there (find m l) ≡ true = ap is_there (sym (found_later m h l f)) ∙ t in
        later f (behind_found h.name m l s.0 n) n

pub replace_at : (g : Peg) (l : List Peg) → Sorted l → is_there (find g.name l) ≡ true
    → replace g l ≡ take (position g.name l) l ++ (g ∷ drop (suc (position g.name l)) l)
unfolding replace position pick find is_there
replace_at g [] s t = not_both t
replace_at g (h ∷ l) s t = go (ahead g.name h l s t) (λ n. replace_at g l s.1 n)
  where
    go : Ahead g.name h l → (is_there (find g.name l) ≡ true → replace g l ≡ take (position g.name l) l ++ (g ∷ drop (suc (position g.name l)) l))
        → replace g (h ∷ l) ≡ take (position g.name (h ∷ l)) (h ∷ l) ++ (g ∷ drop (suc (position g.name (h ∷ l))) (h ∷ l))
    go (here f b) i = rw (f, b)
    go (later f b n) i = rw (f, b) (ap (λ (x : List Peg). h ∷ x) (i n))

pub remove_at : (m : List ℕ) (l : List Peg) → Sorted l → is_there (find m l) ≡ true → remove m l ≡ take (position m l) l ++ drop (suc (position m l)) l
unfolding remove position pick find is_there
remove_at m [] s t = not_both t
remove_at m (h ∷ l) s t = go (ahead m h l s t) (λ n. remove_at m l s.1 n)
  where
    go : Ahead m h l → (is_there (find m l) ≡ true → remove m l ≡ take (position m l) l ++ drop (suc (position m l)) l)
        → remove m (h ∷ l) ≡ take (position m (h ∷ l)) (h ∷ l) ++ drop (suc (position m (h ∷ l))) (h ∷ l)
    go (here f b) i = rw (f, b)
    go (later f b n) i = rw (f, b) (ap (λ (x : List Peg). h ∷ x) (i n))
