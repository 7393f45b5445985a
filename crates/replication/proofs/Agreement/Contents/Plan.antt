-- What stands where in one's part of the plan: positions rise, and each creator's indexes rise.
use Prim.Native.Nat.{ℕ, ◌+◌, ◌-◌, ◌≤◌, ◌<◌, min}
use mathlib.Core.Path.{◌≡◌, refl, sym, ap, ◌∙◌}
use mathlib.Core.Bool.{true}
use mathlib.Core.List.{List, [], ◌∷◌, ◌++◌, Memᴰ}
use mathlib.Core.Logic.{◌⊎◌, inl, inr}
use mathlib.Core.Option.{Option, none, some}
use native.Mathlib.Omega.{arith}
use native.Mathlib.Decide.{dec_le}
use lib.ListN.{length}
use Rattle.base.specs.Tests.{◌=?◌, pick}
use Rattle.base.proofs.TestLaws.{not_both, eq_holds, eq_yes, Known, holds, fails, known}
use Rattle.base.specs.Lists.{at, gather_all, below}
use Rattle.base.proofs.AtLaws.{none_some, some_same}
use Rattle.base.proofs.Distinct.{below_has}
use Rattle.base.proofs.ListLaws.{below_each}
use Rattle.base.proofs.Gathered.{at_first, at_second, at_either, gathered_above, above_gathered, gathered_part, part_gathered}
use Rattle.format.specs.Types.{Action, State, Record, retransmission}
use Rattle.replication.specs.Machine.Types.{Log}
use Rattle.replication.specs.Machine.Colours.{find}
use Rattle.replication.specs.Machine.Plan.{highest, lowest, lowest_from, first_with, resender, missing, cut_in, green_in, is_me, resent}
use Rattle.replication.proofs.Agreement.Contents.Whole.{whole_green, whole_red, whole_part}
use Rattle.replication.proofs.Runs.LogActions.{each_in}

-- ---- the numbers of the plan

pub is_me_lem : (k : ℕ) (o : Option ℕ) → is_me k o ≡ true → o ≡ some k
unfolding is_me
is_me_lem k none h = not_both h
is_me_lem k (some j) h = ap some (eq_holds j k h)

pub me_is : (k : ℕ) (o : Option ℕ) → o ≡ some k → is_me k o ≡ true
unfolding is_me
me_is k o e = ap (is_me k) e ∙ eq_yes k k refl

module _ (f : State → ℕ) where
  from_low : (m : ℕ) (xs : List State) → lowest_from f m xs ≤ m
  unfolding lowest_from
  from_low m [] = omega arith
  from_low m (x ∷ xs) = omega (arith, from_low (min m (f x)) xs)

  from_covered : (m : ℕ) (x : State) (xs : List State) → Memᴰ x xs → lowest_from f m xs ≤ f x
  unfolding lowest_from
  from_covered m x [] x3 = elim x3 [ ]
  from_covered m x (y ∷ xs) (Memᴰ.head e) = omega (arith, from_low (min m (f y)) xs, ap f e)
  from_covered m x (y ∷ xs) (Memᴰ.tail h) = from_covered (min m (f y)) x xs h

  pub lowest_covered : (x : State) (xs : List State) → Memᴰ x xs → lowest f xs ≤ f x
  unfolding lowest
  lowest_covered x [] x'' = elim x'' [ ]
  lowest_covered x (y ∷ xs) (Memᴰ.head e) = omega (arith, from_low (f y) xs, ap f e)
  lowest_covered x (y ∷ xs) (Memᴰ.tail h) = from_covered (f y) x xs h

  -- Who has a value that someone has.
  first_with_lem : (v : ℕ) (xs : List State) (k : ℕ) → first_with f v xs ≡ some k → (x : State) × Memᴰ x xs × (x.sender ≡ k) × (f x ≡ v)
  unfolding first_with pick
  first_with_lem v [] k h = none_some h
  first_with_lem v (x ∷ xs) k h = go (known (f x =? v)) (λ e. first_with_lem v xs k e)
    where
      go : Known (f x =? v) → (first_with f v xs ≡ some k → (y : State) × Memᴰ y xs × (y.sender ≡ k) × (f y ≡ v))
          → (y : State) × Memᴰ y (x ∷ xs) × (y.sender ≡ k) × (f y ≡ v)
      go (holds e) r = (x, Memᴰ.head refl, some_same (rw e at h), eq_holds _ _ e)
      go (fails e) r = let y = r (rw e at h) in (y.0, Memᴰ.tail y.1, y.2, y.3)

  -- The resender has the highest value.
  pub resender_highest : (xs : List State) (k : ℕ) → resender f xs ≡ some k → (x : State) × Memᴰ x xs × (x.sender ≡ k) × (f x ≡ highest f xs)
  unfolding resender
  resender_highest xs k h = first_with_lem (highest f xs) xs k h

  some_with : (v : ℕ) (xs : List State) (x : State) → Memᴰ x xs → f x ≡ v → (k : ℕ) × (first_with f v xs ≡ some k)
  unfolding first_with pick
  some_with v [] x m e = elim m [ ]
  some_with v (y ∷ xs) x m e = go (known (f y =? v)) m (λ h. some_with v xs x h e)
    where
      go : Known (f y =? v) → Memᴰ x (y ∷ xs) → (Memᴰ x xs → (k : ℕ) × (first_with f v xs ≡ some k)) → (k : ℕ) × (first_with f v (y ∷ xs) ≡ some k)
      go (holds h) m r = (y.sender, rw h)
      go (fails h) (Memᴰ.head d) r = not_both (sym h ∙ eq_yes _ _ (ap f (sym d) ∙ e))
      go (fails h) (Memᴰ.tail d) r = let z = r d in (z.0, rw h z.1)

  highest_is : (x : State) (xs : List State) → (y : State) × Memᴰ y (x ∷ xs) × (f y ≡ highest f (x ∷ xs))
  unfolding highest
  highest_is x [] = (x, Memᴰ.head refl, omega arith)
  highest_is x (z ∷ xs) = go (highest_is z xs) (dec_le (f x) (highest f (z ∷ xs)))
    where
      go : (y : State) × Memᴰ y (z ∷ xs) × (f y ≡ highest f (z ∷ xs)) → Dec (f x ≤ highest f (z ∷ xs))
          → (y : State) × Memᴰ y (x ∷ z ∷ xs) × (f y ≡ highest f (x ∷ z ∷ xs))
      go r (yes h) = (r.0, Memᴰ.tail r.1, omega (arith, r.2))
      go r (no h) = (x, Memᴰ.head refl, omega arith)

  -- Some server is the resender.
  pub someone_resends : (x : State) (xs : List State) → Memᴰ x xs → (k : ℕ) × (resender f xs ≡ some k)
  unfolding resender
  someone_resends x [] m = elim m [ ]
  someone_resends x (y ∷ xs) m = let h = highest_is y xs in some_with _ (y ∷ xs) h.0 h.1 h.2

-- ---- one's part

module _ (n k : ℕ) (l : Log) (xs : List State) where
  abbrev part : List Record
  part = whole_part n k l xs

  -- The record number j of the part: which it is, and what stands before it.
  pub data PartRecord (j : ℕ) (r : Record) : Type 0 where
    by_position : (p : ℕ) (a : Action) → r ≡ retransmission k p a → resender green_in xs ≡ some k → lowest green_in xs < p → p ≤ highest green_in xs
        → at l.green (p - 1) ≡ some a
        → ((i : ℕ) (b : Action) → lowest green_in xs < i → i < p → at l.green (i - 1) ≡ some b → (u : ℕ) × (u < j) × (at part u ≡ some (retransmission k i b)))
        → PartRecord j r
    by_index : (c i : ℕ) (a : Action) → r ≡ retransmission k 0 a → c < n → resender (cut_in c) xs ≡ some k → lowest (cut_in c) xs < i → i ≤ highest (cut_in c) xs
        → find (record { creator = c; index = i }) (l.green ++ l.red) ≡ some a
        → ((h : ℕ) (b : Action) → lowest (cut_in c) xs < h → h < i → find (record { creator = c; index = h }) (l.green ++ l.red) ≡ some b
        → (u : ℕ) × (u < j) × (at part u ≡ some (retransmission k 0 b)))
        → PartRecord j r

  resent_is : (p : ℕ) (o : Option Action) (r : Record) → resent k p o ≡ some r → (a : Action) × (o ≡ some a) × (r ≡ retransmission k p a)
  unfolding resent
  resent_is p none r h = none_some h
  resent_is p (some a) r h = (a, refl, sym (some_same h))

  resent_yes : (p : ℕ) (o : Option Action) (a : Action) → o ≡ some a → resent k p o ≡ some (retransmission k p a)
  unfolding resent
  resent_yes p o a e = ap (resent k p) e

  -- Where it stands in the part, if it stands there by position.
  position_at_lem : (j : ℕ) (r : Record) → at (whole_green k l xs) j ≡ some r → PartRecord j r
  unfolding whole_green pick at missing whole_part
  position_at_lem j r e = go (known (is_me k (resender green_in xs)))
    where
      go : Known (is_me k (resender green_in xs)) → PartRecord j r
      go (holds h) =
          let g = gathered_above (λ p. resent k p (at l.green (p - 1))) (lowest green_in xs) (highest green_in xs) j r (rw h at e) in
          let s = resent_is g.of _ r g.made in
          by_position g.of s.0 s.2 (is_me_lem k _ h) g.low g.high s.1
          (λ i b u v w.
          let x = g.lower i (retransmission k i b) u v (resent_yes i _ b w) in
          (x.0, x.1, at_first (whole_green k l xs) _ x.0 _ (rw h x.2)))
      go (fails h) = none_some (rw h at e)

  index_at : (j u c : ℕ) (r : Record) → c < n → at (whole_red k l xs c) u ≡ some r
      → ((v : ℕ) (z : Record) → v < u → at (whole_red k l xs c) v ≡ some z → (w : ℕ) × (w < j) × (at part w ≡ some z)) → PartRecord j r
  unfolding whole_red pick at missing
  index_at j u c r b e f = go (known (is_me k (resender (cut_in c) xs)))
    where
      go : Known (is_me k (resender (cut_in c) xs)) → PartRecord j r
      go (holds h) =
          let g =
          gathered_above (λ i. resent k 0 (find (record { creator = c; index = i }) (l.green ++ l.red))) (lowest (cut_in c) xs) (highest (cut_in c) xs) u r
          (rw h at e)
          in
          let s = resent_is 0 _ r g.made in
          by_index c g.of s.0 s.2 b (is_me_lem k _ h) g.low g.high s.1
          (λ i d v w x. let y = g.lower i (retransmission k 0 d) v w (resent_yes 0 _ d x) in f y.0 _ y.1 (rw h y.2))
      go (fails h) = none_some (rw h at e)

  pub part_record : (j : ℕ) (r : Record) → at part j ≡ some r → PartRecord j r
  unfolding whole_part
  part_record j r e = go (at_either (whole_green k l xs) (gather_all (whole_red k l xs) (below n)) j r e)
    where
      go : (at (whole_green k l xs) j ≡ some r)
          ⊎ ((i : ℕ) × (j ≡ length (whole_green k l xs) + i) × (at (gather_all (whole_red k l xs) (below n)) i ≡ some r)) → PartRecord j r
      go (inl h) = position_at_lem j r h
      go (inr h) =
          let g = gathered_part (whole_red k l xs) (below n) h.0 r h.2 in
          index_at j g.number g.of r (each_in (λ i. i < n) (below n) (below_each n) g.of g.among) g.there
          (λ v z w x. (
            length (whole_green k l xs) + (g.from + v),
            omega (arith, h.1, g.here),
            at_second (whole_green k l xs) (gather_all (whole_red k l xs) (below n)) (g.from + v) ∙ g.whole v z x,
          ))

  -- What the part has.
  pub part_has_position : (p : ℕ) (a : Action) → resender green_in xs ≡ some k → lowest green_in xs < p → p ≤ highest green_in xs → at l.green (p - 1) ≡ some a
      → (j : ℕ) × (at part j ≡ some (retransmission k p a))
  unfolding whole_green pick missing whole_part
  part_has_position p a e u v h =
      let g =
      above_gathered (λ i. resent k i (at l.green (i - 1))) (lowest green_in xs) (highest green_in xs) p (retransmission k p a) u v (resent_yes p _ a h)
      in
      (g.0, at_first (whole_green k l xs) _ g.0 _ (rw (me_is k _ e) g.1))

  pub part_has_index : (c i : ℕ) (a : Action) → c < n → resender (cut_in c) xs ≡ some k → lowest (cut_in c) xs < i → i ≤ highest (cut_in c) xs
      → find (record { creator = c; index = i }) (l.green ++ l.red) ≡ some a → (j : ℕ) × (at part j ≡ some (retransmission k 0 a))
  unfolding whole_red pick missing whole_part
  part_has_index c i a b e u v h =
      let g =
      above_gathered (λ x. resent k 0 (find (record { creator = c; index = x }) (l.green ++ l.red))) (lowest (cut_in c) xs) (highest (cut_in c) xs) i
      (retransmission k 0 a) u v (resent_yes 0 _ a h)
      in
      let r = part_gathered (whole_red k l xs) (below n) c (retransmission k 0 a) (below_has n c b) g.0 (rw (me_is k _ e) g.1) in
      (length (whole_green k l xs) + r.0, at_second (whole_green k l xs) (gather_all (whole_red k l xs) (below n)) r.0 ∙ r.1)
