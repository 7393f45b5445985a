-- What the States decide is at least what each of them says: the taken primary, and the attempt taken with it.
use Prim.Native.Nat.{ℕ, ◌≤◌, ◌<◌}
use mathlib.Core.Path.{◌≡◌, refl, sym, ap}
use mathlib.Core.Bool.{true, false}
use mathlib.Core.List.{List, [], ◌∷◌, Memᴰ}
use native.Mathlib.Omega.{arith}
use Rattle.base.specs.Tests.{◌and◌, ◌or◌, ◌=?◌, ◌<?◌, pick}
use Rattle.base.proofs.TestLaws.{not_both, eq_yes, eq_holds, eq_fails, lt_holds, lt_fails, both_yes, Known, holds, fails, known}
use Rattle.base.specs.Lists.{filter}
use Rattle.base.proofs.Members.{filter_has}
use Rattle.format.specs.Types.{Primary, State}
use Rattle.replication.specs.Machine.Plan.{highest}
use Rattle.replication.specs.Machine.Exchange.{later, latest, taken_primary, same_pair, updated_group, taken_attempt}

-- (index, attempt) of p is at most that of q.
pub data NotLater (p q : Primary) : Type 0 where
  lower : p.index < q.index → NotLater p q
  level : p.index ≡ q.index → p.attempt ≤ q.attempt → NotLater p q

pub not_later_refl : (p : Primary) → NotLater p p
not_later_refl p = level refl (omega arith)

pub not_later_trans : {p q r : Primary} → NotLater p q → NotLater q r → NotLater p r
not_later_trans (lower a) (lower b) = lower (omega arith)
not_later_trans (lower a) (level b c) = lower (omega arith)
not_later_trans (level a b) (lower c) = lower (omega arith)
not_later_trans (level a b) (level c d) = level (omega arith) (omega arith)

-- Of two primaries, the test picks one that neither is later than.
later_yes : (p q : Primary) → later p q ≡ true → NotLater p q
unfolding later ◌or◌ ◌and◌
later_yes p q h = go (known (p.index <? q.index)) (known (p.index =? q.index)) (known (p.attempt <? q.attempt))
  where
    go : Known (p.index <? q.index) → Known (p.index =? q.index) → Known (p.attempt <? q.attempt) → NotLater p q
    go (holds a) y z = lower (lt_holds _ _ a)
    go (fails a) (holds b) (holds c) = level (eq_holds _ _ b) (omega (arith, lt_holds _ _ c))
    go (fails a) (holds b) (fails c) = not_both (rw (a, b, c) at h)
    go (fails a) (fails b) z = not_both (rw (a, b) at h)

later_no : (p q : Primary) → later p q ≡ false → NotLater q p
unfolding later ◌or◌ ◌and◌
later_no p q h = go (known (p.index <? q.index)) (known (p.index =? q.index)) (known (p.attempt <? q.attempt))
  where
    go : Known (p.index <? q.index) → Known (p.index =? q.index) → Known (p.attempt <? q.attempt) → NotLater q p
    go (holds a) y z = not_both (sym (rw a at h))
    go (fails a) (holds b) (holds c) = not_both (sym (rw (a, b, c) at h))
    go (fails a) (holds b) (fails c) = level (sym (eq_holds _ _ b)) (lt_fails _ _ c)
    go (fails a) (fails b) z = let n = eq_fails _ _ b in lower (omega (arith, lt_fails _ _ a))

pick_later : (p q : Primary) → NotLater p (pick (later p q) q p) × NotLater q (pick (later p q) q p)
unfolding pick
pick_later p q = go (known (later p q))
  where
    go : Known (later p q) → NotLater p (pick (later p q) q p) × NotLater q (pick (later p q) q p)
    go (holds e) = rw e (later_yes p q e, not_later_refl q)
    go (fails e) = rw e (not_later_refl p, later_no p q e)

latest_rises : (p : Primary) (xs : List State) → NotLater p (latest p xs)
unfolding latest
latest_rises p [] = not_later_refl p
latest_rises p (x ∷ xs) = not_later_trans (pick_later p x.last).0 (latest_rises (pick (later p x.last) x.last p) xs)

latest_covers : (x : State) (p : Primary) (xs : List State) → Memᴰ x xs → NotLater x.last (latest p xs)
unfolding latest
latest_covers x p [] x'' = elim x'' [ ]
latest_covers x p (y ∷ xs) (Memᴰ.head e) = rw e (not_later_trans (pick_later p y.last).1 (latest_rises (pick (later p y.last) y.last p) xs))
latest_covers x p (y ∷ xs) (Memᴰ.tail m) = latest_covers x (pick (later p y.last) y.last p) xs m

-- No State's last primary is later than the taken one.
pub taken_covers : (x : State) (xs : List State) → Memᴰ x xs → NotLater x.last (taken_primary xs)
unfolding taken_primary
taken_covers x [] x'' = elim x'' [ ]
taken_covers x (y ∷ xs) (Memᴰ.head e) = rw e (latest_rises y.last xs)
taken_covers x (y ∷ xs) (Memᴰ.tail m) = latest_covers x y.last xs m

pub highest_covers : (f : State → ℕ) (x : State) (xs : List State) → Memᴰ x xs → f x ≤ highest f xs
unfolding highest
highest_covers f x [] x'' = elim x'' [ ]
highest_covers f x (y ∷ xs) (Memᴰ.head e) = omega (arith, ap f e)
highest_covers f x (y ∷ xs) (Memᴰ.tail m) = omega (arith, highest_covers f x xs m)

-- The taken attempt is at least that of each State with the taken pair.
pub taken_attempt_covers : (x : State) (xs : List State) → Memᴰ x xs → x.last.index ≡ (taken_primary xs).index → x.last.attempt ≡ (taken_primary xs).attempt
    → x.attempt ≤ taken_attempt xs
unfolding taken_attempt updated_group same_pair
taken_attempt_covers x xs m p q =
    highest_covers (λ y. y.attempt) x (filter (same_pair (taken_primary xs)) xs)
    (filter_has (same_pair (taken_primary xs)) x xs m (both_yes _ _ (eq_yes _ _ p) (eq_yes _ _ q)))
