-- A table of the ids that every list has: after r lists the place of an id holds r exactly if each of them has it.
use Prim.Native.Nat.{ℕ, suc, ◌+◌, ◌≤◌, ◌<◌}
use mathlib.Core.Path.{◌≡◌, refl, sym, ap, ◌∙◌}
use mathlib.Core.Bool.{Bool, true, false}
use mathlib.Core.List.{List, [], ◌∷◌}
use native.Mathlib.Omega.{arith}
use native.Mathlib.Nat.{zero-add}
use lib.ListN.{length, get_or, set, length-set}
use lib.Seq.{get_or-set_same, get_or-set_other}
use Rattle.format.specs.Limits.{most_ids}
use Rattle.base.specs.Tests.{◌=?◌, ◌and◌, ◌or◌, pick}
use Rattle.base.proofs.TestLaws.{not_both, pick_yes, pick_no, and_yes, both_yes, and_no, pick_either, lt_yes, eq_yes, eq_no, Known, known, holds, fails}
use Rattle.base.proofs.Branches.{and_true, and_false}
use Rattle.base.specs.Lists.{all}
use Rattle.format.specs.Types.{Id, State}
use Rattle.format.specs.Range.{same_id, has_id}
use Rattle.replication.proofs.WellFormed.Ids.{same_id_yes, same_id_holds}
use Rattle.exchange.specs.Table.{place_in, is_kept, raised, raised_all, raised_lists}
use Rattle.exchange.proofs.PlaceLaws.{place_same, place_other}

same_itself : (x d : Id) → x ≡ d → same_id x d ≡ true
same_itself x d e = same_id_yes x d (ap (λ (y : Id). y.creator) e) (ap (λ (y : Id). y.index) e)

-- ---- one id

raised_now : (l : List Id) (r : ℕ) (t : List ℕ) (d : Id) → is_kept l r t d ≡ true → raised l r t d ≡ set t (place_in d l) (r + 1)
unfolding raised
raised_now l r t d e = sym (pick_yes _ _ _ _ e refl)

raised_not : (l : List Id) (r : ℕ) (t : List ℕ) (d : Id) → is_kept l r t d ≡ false → raised l r t d ≡ t
unfolding raised
raised_not l r t d e = sym (pick_no _ _ _ _ e refl)

-- Of an id that the list has.
kept_value : (l : List Id) (r : ℕ) (t : List ℕ) (x : Id) → place_in x l < length l → is_kept l r t x ≡ (get_or t (place_in x l) 0 =? r)
unfolding is_kept
kept_value l r t x h = sym (and_yes _ _ _ (lt_yes _ _ h) refl)

-- The place of x, at v, after an id or a list that has x or not.
unfoldable lifted : Bool → ℕ → ℕ → ℕ
lifted has r v = pick (has and v =? r) (r + 1) v

lifted_yes : (has : Bool) (r v : ℕ) → has ≡ true → (v =? r) ≡ true → lifted has r v ≡ r + 1
unfolding lifted
lifted_yes has r v h e = sym (pick_yes _ _ _ _ (both_yes _ _ h e) refl)

lifted_not : (has : Bool) (r v : ℕ) → (v =? r) ≡ false → lifted has r v ≡ v
unfolding lifted
lifted_not has r v e = sym (pick_no _ _ _ _ (ap (λ (u : Bool). has and u) e ∙ sym (and_false has)) refl)

lifted_no : (has : Bool) (r v : ℕ) → has ≡ false → lifted has r v ≡ v
unfolding lifted
lifted_no has r v e = sym (pick_no _ _ _ _ (sym (and_no _ _ e)) refl)

module _ (l : List Id) (r : ℕ) (x : Id) (few : length l ≤ most_ids) (there : place_in x l < length l) where
  raised_at : (t : List ℕ) (d : Id) → length t ≡ most_ids → get_or (raised l r t d) (place_in x l) 0 ≡ lifted (same_id x d) r (get_or t (place_in x l) 0)
  raised_at t d m = go (known (same_id x d)) (known (is_kept l r t d))
    where
      read : {u : List ℕ} → raised l r t d ≡ u → get_or (raised l r t d) (place_in x l) 0 ≡ get_or u (place_in x l) 0
      read e = ap (λ (w : List ℕ). get_or w (place_in x l) 0) e

      moved : {u : Bool} → same_id x d ≡ true → is_kept l r t d ≡ u → (get_or t (place_in x l) 0 =? r) ≡ u
      moved e f = sym (kept_value l r t x there) ∙ ap (is_kept l r t) (same_id_holds x d e) ∙ f

      go : Known (same_id x d) → Known (is_kept l r t d) → get_or (raised l r t d) (place_in x l) 0 ≡ lifted (same_id x d) r (get_or t (place_in x l) 0)
      go (holds e) (holds f) =
          read (raised_now l r t d f)
          ∙ ap (λ (p : ℕ). get_or (set t p (r + 1)) (place_in x l) 0) (place_same x d l e)
          ∙ get_or-set_same t (place_in x l) (r + 1) 0 (omega arith)
          ∙ sym (lifted_yes (same_id x d) r _ e (moved e f))
      go (holds e) (fails f) = read (raised_not l r t d f) ∙ sym (lifted_not (same_id x d) r _ (moved e f))
      go (fails e) (holds f) =
          read (raised_now l r t d f)
          ∙ get_or-set_other t (place_in d l) (place_in x l) (r + 1) 0 (λ z. not_both (sym e ∙ same_itself x d (place_other x d l there (sym z))))
          ∙ sym (lifted_no (same_id x d) r _ e)
      go (fails e) (fails f) = read (raised_not l r t d f) ∙ sym (lifted_no (same_id x d) r _ e)

pub raised_length : (l : List Id) (r : ℕ) (t : List ℕ) (d : Id) → length (raised l r t d) ≡ length t
unfolding raised
raised_length l r t d = pick_either (λ u. length u ≡ length t) _ (set t (place_in d l) (r + 1)) t (length-set t (place_in d l) (r + 1)) refl

pub raised_all_length : (l : List Id) (r : ℕ) (t : List ℕ) (ds : List Id) → length (raised_all l r t ds) ≡ length t
unfolding raised_all
raised_all_length l r t [] = refl
raised_all_length l r t (d ∷ ds) = raised_all_length l r (raised l r t d) ds ∙ raised_length l r t d

-- ---- one list

lifted_twice : (has more : Bool) (r v : ℕ) → Known (v =? r) → lifted more r (lifted has r v) ≡ lifted (has or more) r v
unfolding ◌or◌
lifted_twice true more r v (holds e) =
    let up : lifted true r v ≡ r + 1 = lifted_yes true r v refl e in
    ap (lifted more r) up ∙ lifted_not more r (r + 1) (eq_no (r + 1) r (λ z. omega arith)) ∙ sym up
lifted_twice false more r v (holds e) = ap (lifted more r) (lifted_no false r v refl)
lifted_twice has more r v (fails e) = ap (lifted more r) (lifted_not has r v e) ∙ lifted_not more r v e ∙ sym (lifted_not (has or more) r v e)

module _ (l : List Id) (r : ℕ) (x : Id) (few : length l ≤ most_ids) (there : place_in x l < length l) where
  raised_all_at : (t : List ℕ) (ds : List Id) → length t ≡ most_ids → get_or (raised_all l r t ds) (place_in x l) 0 ≡ lifted (has_id x ds) r (get_or t (place_in x l) 0)
  unfolding raised_all has_id
  raised_all_at t [] m = sym (lifted_no false r _ refl)
  raised_all_at t (d ∷ ds) m =
      raised_all_at (raised l r t d) ds (raised_length l r t d ∙ m)
      ∙ ap (lifted (has_id x ds) r) (raised_at l r x few there t d m)
      ∙ lifted_twice (same_id x d) (has_id x ds) r (get_or t (place_in x l) 0) (known (get_or t (place_in x l) 0 =? r))

-- ---- every list

lifted_most : (has : Bool) (r v : ℕ) → v ≤ r → lifted has r v ≤ r + 1
unfolding lifted
lifted_most has r v h = pick_either (λ w. w ≤ r + 1) _ (r + 1) v (omega arith) (omega arith)

lifted_reached : (has : Bool) (r v : ℕ) → v ≤ r → Known (v =? r) → (lifted has r v =? (r + 1)) ≡ (has and v =? r)
lifted_reached true r v h (holds e) = eq_yes _ _ (lifted_yes true r v refl e) ∙ sym (both_yes _ _ refl e)
lifted_reached false r v h (holds e) = eq_no _ _ (λ z. omega (arith, sym (lifted_no false r v refl) ∙ z)) ∙ and_no false (v =? r) refl
lifted_reached has r v h (fails e) = eq_no _ _ (λ z. omega (arith, sym (lifted_not has r v e) ∙ z)) ∙ sym (ap (λ (u : Bool). has and u) e ∙ sym (and_false has))

shuffle : (all has q : Bool) → (all and has and q) ≡ ((has and all) and q)
unfolding ◌and◌
shuffle true true q = refl
shuffle true false q = refl
shuffle false true q = refl
shuffle false false q = refl

module _ (l : List Id) (x : Id) (few : length l ≤ most_ids) (there : place_in x l < length l) where
  raised_lists_at : (r : ℕ) (t : List ℕ) (ys : List State) → length t ≡ most_ids → get_or t (place_in x l) 0 ≤ r
      → (get_or (raised_lists l r t ys) (place_in x l) 0 =? (r + length ys)) ≡ (all (λ y. has_id x y.yellow.ids) ys and get_or t (place_in x l) 0 =? r)
  unfolding raised_lists all ◌and◌
  raised_lists_at r t [] m h = let z : r + 0 ≡ r = omega arith in rw z
  raised_lists_at r t (y ∷ ys) m h =
      let v : ℕ = get_or t (place_in x l) 0 in
      let has : Bool = has_id x y.yellow.ids in
      let up : get_or (raised_all l r t y.yellow.ids) (place_in x l) 0 ≡ lifted has r v = raised_all_at l r x few there t y.yellow.ids m in
      let z : r + suc (length ys) ≡ r + 1 + length ys = omega arith in
      ap (λ (n : ℕ). get_or (raised_lists l (r + 1) (raised_all l r t y.yellow.ids) ys) (place_in x l) 0 =? n) z
      ∙ raised_lists_at (r + 1) (raised_all l r t y.yellow.ids) ys (raised_all_length l r t y.yellow.ids ∙ m) (omega (arith, up, lifted_most has r v h))
      ∙ ap (λ (n : ℕ). all (λ w. has_id x w.yellow.ids) ys and n =? (r + 1)) up
      ∙ ap (λ (u : Bool). all (λ w. has_id x w.yellow.ids) ys and u) (lifted_reached has r v h (known (v =? r)))
      ∙ shuffle (all (λ w. has_id x w.yellow.ids) ys) has (v =? r)

  -- From a table of zeros: each list has x exactly if its place tells their number.
  pub table_decides : (t : List ℕ) (ys : List State) → length t ≡ most_ids → get_or t (place_in x l) 0 ≡ 0
      → is_kept l (length ys) (raised_lists l 0 t ys) x ≡ all (λ y. has_id x y.yellow.ids) ys
  table_decides t ys m h =
      kept_value l (length ys) (raised_lists l 0 t ys) x there
      ∙ ap (λ (n : ℕ). get_or (raised_lists l 0 t ys) (place_in x l) 0 =? n) (sym (zero-add (length ys)))
      ∙ raised_lists_at 0 t ys m (omega arith)
      ∙ ap (λ (u : Bool). all (λ y. has_id x y.yellow.ids) ys and u) (eq_yes _ _ h)
      ∙ sym (and_true (all (λ y. has_id x y.yellow.ids) ys))
