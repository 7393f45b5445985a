-- One's part of the plan is no longer than what one holds: of each action that has a place at most one record by position and one by index.
use Prim.Native.Nat.{ℕ, zero, suc, ◌+◌, ◌-◌, ◌≤◌, ◌<◌, max}
use mathlib.Core.Path.{◌≡◌, refl, sym, ap, subst, ◌∙◌}
use mathlib.Core.Bool.{Bool, true, false}
use mathlib.Core.List.{List, [], ◌∷◌}
use mathlib.Core.Option.{Option, none, some, none-ne-some}
use native.Mathlib.Omega.{arith}
use native.Mathlib.Decide.{ℕ_discrete}
use lib.ListN.{length, drop, length-append, length-drop}
use Rattle.base.specs.Tests.{◌=?◌, ◌≤?◌, pick}
use Rattle.base.proofs.TestLaws.{not_both, le_fails, eq_yes, Known, holds, fails, known}
use Rattle.base.specs.Lists.{at, at_front, gather, gather_all, after, above, below}
use Rattle.base.proofs.AtLaws.{at_low}
use Rattle.base.proofs.ListLaws.{gather_all_length}
use Rattle.base.proofs.Totals.{total_sum}
use Rattle.format.specs.Types.{Action, State, Record}
use Rattle.format.specs.Range.{same_id}
use Rattle.replication.specs.Machine.Types.{Log}
use Rattle.replication.specs.Machine.Colours.{find}
use Rattle.replication.specs.Machine.Plan.{resender, missing, lowest, highest, cut_in, green_in, is_me, resent, held_at, resend_green, resend_red, own_part}
use Rattle.replication.specs.Machine.Colours.{of_creator, places_of}
use Rattle.replication.proofs.Step.Parts.{held_stands}
use Rattle.replication.proofs.WellFormed.Ids.{same_id_holds}
use Rattle.replication.proofs.WellFormed.Sums.{creators_at_most}

-- ---- by position

found_front : {A : Type 0} (o : Option A) (xs : List A) → length (at_front o xs) ≤ suc (length xs)
unfolding at_front
found_front none xs = omega arith
found_front (some x) xs = omega arith

module _ (me w : ℕ) (l : Log) where
  held_high : (p : ℕ) (a : Action) → held_at w l p ≡ some a → w < p
  unfolding held_at pick
  held_high p a e = go (known (p ≤? w))
    where
      go : Known (p ≤? w) → w < p
      go (holds h) = absurd (none-ne-some a (sym (ap (λ b. pick b none (at l.green (p - 1))) h) ∙ e))
      go (fails h) = le_fails p w h

  positions : (low k : ℕ) → length (gather (λ p. resent me p (held_at w l p)) (after low k)) ≤ length l.green - max low w
  unfolding gather after at_front resent
  positions low zero = omega arith
  positions low (suc k) = go (held_at w l (low + 1)) refl (positions (low + 1) k)
    where
      go : (o : Option Action) → held_at w l (low + 1) ≡ o → length (gather (λ p. resent me p (held_at w l p)) (after (low + 1) k)) ≤ length l.green - max (low + 1) w
          → length (at_front (resent me (low + 1) o) (gather (λ p. resent me p (held_at w l p)) (after (low + 1) k))) ≤ length l.green - max low w
      go none e h = omega arith
      go (some a) e h = omega (arith, held_high (low + 1) a e, at_low l.green (low + 1 - 1) a (held_stands w l (low + 1) a e))

  pub green_held : (xs : List State) → length (resend_green me w l xs) ≤ length (drop w l.green)
  unfolding resend_green missing above pick
  green_held xs = go (is_me me (resender green_in xs))
    where
      go : (b : Bool) → length (pick b (gather (λ p. resent me p (held_at w l p)) (above (lowest green_in xs) (highest green_in xs))) []) ≤ length (drop w l.green)
      go true = omega (arith, positions (lowest green_in xs) (highest green_in xs - lowest green_in xs), length-drop w l.green)
      go false = omega arith

-- ---- by index

front_low : {A : Type 0} (o : Option A) (xs : List A) → length xs ≤ length (at_front o xs)
unfolding at_front
front_low none xs = omega arith
front_low (some x) xs = omega arith

gather_none : (B : Type 0) (xs : List ℕ) → length (gather {B = B} (λ i. none) xs) ≡ 0
unfolding gather at_front
gather_none B [] = refl
gather_none B (x ∷ xs) = gather_none B xs

module _ {B : Type 0} (f g : ℕ → Option B) (j : ℕ) (alike : (i : ℕ) → (i ≡ j → ⊥) → f i ≡ g i) where
  -- Past the one number where they differ.
  past : (low k : ℕ) → j ≤ low → gather f (after low k) ≡ gather g (after low k)
  unfolding gather after
  past low zero h = refl
  past low (suc k) h = λ z. at_front (alike (low + 1) (λ d. omega arith) z) (past (low + 1) k (omega arith) z)

  one_more_lem : (low k : ℕ) → length (gather g (after low k)) ≤ length (gather f (after low k)) + 1
  unfolding gather after at_front
  one_more_lem low zero = omega arith
  one_more_lem low (suc k) = go (ℕ_discrete (low + 1) j) (λ h. past (low + 1) k h) (one_more_lem (low + 1) k)
    where
      heads : (o : Option B) (xs ys : List B) → length ys ≤ length xs + 1 → length (at_front o ys) ≤ length (at_front o xs) + 1
      heads none xs ys h = h
      heads (some x) xs ys h = omega arith

      go : Dec (low + 1 ≡ j) → (j ≤ low + 1 → gather f (after (low + 1) k) ≡ gather g (after (low + 1) k))
          → length (gather g (after (low + 1) k)) ≤ length (gather f (after (low + 1) k)) + 1
          → length (at_front (g (low + 1)) (gather g (after (low + 1) k))) ≤ length (at_front (f (low + 1)) (gather f (after (low + 1) k))) + 1
      go (yes e) r h =
          omega (arith, found_front (g (low + 1)) (gather g (after (low + 1) k)), front_low (f (low + 1)) (gather f (after (low + 1) k)), ap length (r (omega arith)))
      go (no d) r h =
          subst (λ o. length (at_front o (gather g (after (low + 1) k))) ≤ length (at_front (f (low + 1)) (gather f (after (low + 1) k))) + 1) (alike (low + 1) d)
          (heads (f (low + 1)) _ _ h)

module _ (me c : ℕ) where
  abbrev sent : List Action → ℕ → Option Record
  sent xs i = resent me 0 (find (record { creator = c; index = i }) xs)

  -- Another action is not found.
  passes : (a : Action) (xs : List Action) (i : ℕ) → ((record { creator = c; index = i }) ≡ a.id → ⊥) → sent xs i ≡ sent (a ∷ xs) i
  unfolding find pick
  passes a xs i h = go (known (same_id (record { creator = c; index = i }) a.id))
    where
      go : Known (same_id (record { creator = c; index = i }) a.id)
          → sent xs i ≡ resent me 0 (pick (same_id (record { creator = c; index = i }) a.id) (some a) (find (record { creator = c; index = i }) xs))
      go (holds e) = absurd (h (same_id_holds _ a.id e))
      go (fails e) = ap (λ b. resent me 0 (pick b (some a) (find (record { creator = c; index = i }) xs))) (sym e)

  indexes : (xs : List Action) (low k : ℕ) → length (gather (sent xs) (after low k)) ≤ of_creator c xs
  unfolding of_creator pick find resent
  indexes [] low k = omega (arith, gather_none Record (after low k))
  indexes (a ∷ xs) low k = go (known (a.id.creator =? c)) (indexes xs low k)
    where
      go : Known (a.id.creator =? c) → length (gather (sent xs) (after low k)) ≤ of_creator c xs
          → length (gather (sent (a ∷ xs)) (after low k)) ≤ pick (a.id.creator =? c) (suc (of_creator c xs)) (of_creator c xs)
      go (holds e) h =
          subst (λ b. length (gather (sent (a ∷ xs)) (after low k)) ≤ pick b (suc (of_creator c xs)) (of_creator c xs)) (sym e)
          (omega (arith, one_more_lem (sent xs) (sent (a ∷ xs)) a.id.index (λ i d. passes a xs i (λ z. d (ap (λ y. y.index) z))) low k))
      go (fails e) h =
          subst (λ b. length (gather (sent (a ∷ xs)) (after low k)) ≤ pick b (suc (of_creator c xs)) (of_creator c xs)) (sym e)
          (let same : sent xs ≡ sent (a ∷ xs) = λ z i. passes a xs i (λ y. not_both (sym e ∙ eq_yes _ _ (ap (λ x. x.creator) (sym y)))) z in
          subst (λ f. length (gather f (after low k)) ≤ of_creator c xs) same h)

by_index : (me w : ℕ) (l : Log) (xs : List State) (c : ℕ) → length (resend_red me w l xs c) ≤ of_creator c (places_of w l)
unfolding resend_red missing above pick
by_index me w l xs c = go (is_me me (resender (cut_in c) xs))
  where
    go : (b : Bool) → length (pick b (gather (sent me c (places_of w l)) (above (lowest (cut_in c) xs) (highest (cut_in c) xs))) []) ≤ of_creator c (places_of w l)
    go true = indexes me c (places_of w l) (lowest (cut_in c) xs) (highest (cut_in c) xs - lowest (cut_in c) xs)
    go false = omega arith

-- ---- together

pub part_held : (n me w : ℕ) (l : Log) (xs : List State) → length (own_part n me w l xs) ≤ length (drop w l.green) + length (places_of w l)
unfolding own_part
part_held n me w l xs =
    omega (
      arith,
      length-append (resend_green me w l xs) (gather_all (resend_red me w l xs) (below n)),
      green_held me w l xs,
      gather_all_length (resend_red me w l xs) (λ c. of_creator c (places_of w l)) red_held (below n),
      total_sum n (λ c. of_creator c (places_of w l)),
      creators_at_most n (places_of w l),
    )
  where
    red_held : (c : ℕ) → length (resend_red me w l xs c) ≤ of_creator c (places_of w l)
    red_held c = by_index me w l xs c
