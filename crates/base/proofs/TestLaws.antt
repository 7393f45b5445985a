-- The laws by which a proof finds which way each test goes.
use Prim.Native.Nat.{ℕ, ◌≤◌, ◌<◌}
use mathlib.Core.Path.{◌≡◌, refl, sym}
use mathlib.Core.Bool.{Bool, true, false, not}
use native.Mathlib.Omega.{arith}
use borrow.Author.Tests.{le-leb, lt-leb, eq-eqb, ne_eqb, leb-true, leb-false, eqb-true, eqb-false}
use Rattle.base.specs.Tests.{◌≤?◌, ◌<?◌, ◌=?◌, ◌and◌, ◌or◌, pick}

pub not_both : {A : Type 0} → false ≡ true → A
not_both e = let z : ◌≡◌ {A = ℕ} 0 1 = cc in absurd (omega arith)

-- ---- which way a test goes

pub le_yes : (m n : ℕ) → m ≤ n → (m ≤? n) ≡ true
unfolding ◌≤?◌
le_yes m n h = le-leb m n h

pub le_no : (m n : ℕ) → n < m → (m ≤? n) ≡ false
unfolding ◌≤?◌
le_no m n h = lt-leb m n h

pub lt_yes : (m n : ℕ) → m < n → (m <? n) ≡ true
unfolding ◌<?◌
lt_yes m n h = le-leb _ n h

pub lt_no : (m n : ℕ) → n ≤ m → (m <? n) ≡ false
unfolding ◌<?◌
lt_no m n h = lt-leb _ n (omega arith)

pub eq_yes : (m n : ℕ) → m ≡ n → (m =? n) ≡ true
unfolding ◌=?◌
eq_yes m n h = eq-eqb m n h

pub eq_no : (m n : ℕ) → (m ≡ n → ⊥) → (m =? n) ≡ false
unfolding ◌=?◌
eq_no m n h = ne_eqb m n h

-- ---- what a test's answer says

pub le_holds : (m n : ℕ) → (m ≤? n) ≡ true → m ≤ n
unfolding ◌≤?◌
le_holds m n h = leb-true m n h

pub le_fails : (m n : ℕ) → (m ≤? n) ≡ false → n < m
unfolding ◌≤?◌
le_fails m n h = leb-false m n h

pub lt_holds : (m n : ℕ) → (m <? n) ≡ true → m < n
unfolding ◌<?◌
lt_holds m n h = leb-true _ n h

pub lt_fails : (m n : ℕ) → (m <? n) ≡ false → n ≤ m
unfolding ◌<?◌
lt_fails m n h = let z = leb-false _ n h in omega arith

pub eq_holds : (m n : ℕ) → (m =? n) ≡ true → m ≡ n
unfolding ◌=?◌
eq_holds m n h = eqb-true m n h

pub eq_fails : (m n : ℕ) → (m =? n) ≡ false → m ≡ n → ⊥
unfolding ◌=?◌
eq_fails m n h = eqb-false m n h

-- ---- conjunction, disjunction, choice

pub and_holds : (t u : Bool) → (t and u) ≡ true → (t ≡ true) × (u ≡ true)
unfolding ◌and◌
and_holds true u h = (refl, h)
and_holds false u h = not_both h

pub and_yes : (r t u : Bool) → t ≡ true → r ≡ u → r ≡ (t and u)
unfolding ◌and◌
and_yes r true u h e = e
and_yes r false u h e = not_both h

pub and_no : (t u : Bool) → t ≡ false → false ≡ (t and u)
unfolding ◌and◌
and_no true u h = not_both (sym h)
and_no false u h = refl

pub both_yes : (t u : Bool) → t ≡ true → u ≡ true → (t and u) ≡ true
both_yes t u h e = sym (and_yes true t u h (sym e))

pub not_holds : (t : Bool) → not t ≡ true → t ≡ false
not_holds true h = not_both h
not_holds false h = refl

pub or_fails : (t u : Bool) → (t or u) ≡ false → (t ≡ false) × (u ≡ false)
unfolding ◌or◌
or_fails true u h = not_both (sym h)
or_fails false u h = (refl, h)

pub pick_yes : {A : Type 0} (t : Bool) (r a b : A) → t ≡ true → r ≡ a → r ≡ pick t a b
unfolding pick
pick_yes true r a b e h = h
pick_yes false r a b e h = not_both e

pub pick_no : {A : Type 0} (t : Bool) (r a b : A) → t ≡ false → r ≡ b → r ≡ pick t a b
unfolding pick
pick_no false r a b e h = h
pick_no true r a b e h = not_both (sym e)

-- What holds of both holds of the one chosen.
pub pick_either : {A : Type 0} (P : A → Type 0) (t : Bool) (a b : A) → P a → P b → P (pick t a b)
unfolding pick
pick_either P true a b h k = h
pick_either P false a b h k = k

-- A test with its equation, as data to split on.
pub data Known (t : Bool) : Type 0 where
  holds : t ≡ true → Known t
  fails : t ≡ false → Known t

pub known : (t : Bool) → Known t
known true = holds refl
known false = fails refl

-- A fact of whichever is chosen.
pub pick_as : {A : Type 0} (P : A → Type 0) (t : Bool) (x y : A) → (t ≡ true → P x) → (t ≡ false → P y) → P (pick t x y)
unfolding pick
pick_as P true x y h k = h refl
pick_as P false x y h k = k refl

-- ---- for the code: each test of a number, as the code has it, in front of the rest of a conjunction or a choice

pub and_le : (m n : ℕ) (r u : Bool) → m ≤ n → r ≡ u → r ≡ (m ≤? n and u)
and_le m n r u h e = and_yes r (m ≤? n) u (le_yes m n h) e

pub and_gt : (m n : ℕ) (u : Bool) → n < m → false ≡ (m ≤? n and u)
and_gt m n u h = and_no (m ≤? n) u (le_no m n h)

pub and_lt : (m n : ℕ) (r u : Bool) → m < n → r ≡ u → r ≡ (m <? n and u)
and_lt m n r u h e = and_yes r (m <? n) u (lt_yes m n h) e

pub and_ge : (m n : ℕ) (u : Bool) → n ≤ m → false ≡ (m <? n and u)
and_ge m n u h = and_no (m <? n) u (lt_no m n h)

pub and_eq : (m n : ℕ) (r u : Bool) → m ≡ n → r ≡ u → r ≡ (m =? n and u)
and_eq m n r u h e = and_yes r (m =? n) u (eq_yes m n h) e

pub and_ne : (m n : ℕ) (u : Bool) → (m ≡ n → ⊥) → false ≡ (m =? n and u)
and_ne m n u h = and_no (m =? n) u (eq_no m n h)

pub is_le : (m n : ℕ) → m ≤ n → true ≡ (m ≤? n)
is_le m n h = sym (le_yes m n h)

pub is_gt : (m n : ℕ) → n < m → false ≡ (m ≤? n)
is_gt m n h = sym (le_no m n h)

pub is_lt : (m n : ℕ) → m < n → true ≡ (m <? n)
is_lt m n h = sym (lt_yes m n h)

pub is_ge : (m n : ℕ) → n ≤ m → false ≡ (m <? n)
is_ge m n h = sym (lt_no m n h)

pub is_eq : (m n : ℕ) → m ≡ n → true ≡ (m =? n)
is_eq m n h = sym (eq_yes m n h)

pub is_ne : (m n : ℕ) → (m ≡ n → ⊥) → false ≡ (m =? n)
is_ne m n h = sym (eq_no m n h)

pub pick_le : {A : Type 0} (m n : ℕ) (r a b : A) → m ≤ n → r ≡ a → r ≡ pick (m ≤? n) a b
pick_le m n r a b h e = pick_yes (m ≤? n) r a b (le_yes m n h) e

pub pick_gt : {A : Type 0} (m n : ℕ) (r a b : A) → n < m → r ≡ b → r ≡ pick (m ≤? n) a b
pick_gt m n r a b h e = pick_no (m ≤? n) r a b (le_no m n h) e

pub pick_lt : {A : Type 0} (m n : ℕ) (r a b : A) → m < n → r ≡ a → r ≡ pick (m <? n) a b
pick_lt m n r a b h e = pick_yes (m <? n) r a b (lt_yes m n h) e

pub pick_ge : {A : Type 0} (m n : ℕ) (r a b : A) → n ≤ m → r ≡ b → r ≡ pick (m <? n) a b
pick_ge m n r a b h e = pick_no (m <? n) r a b (lt_no m n h) e

pub pick_eq : {A : Type 0} (m n : ℕ) (r a b : A) → m ≡ n → r ≡ a → r ≡ pick (m =? n) a b
pick_eq m n r a b h e = pick_yes (m =? n) r a b (eq_yes m n h) e

pub pick_ne : {A : Type 0} (m n : ℕ) (r a b : A) → (m ≡ n → ⊥) → r ≡ b → r ≡ pick (m =? n) a b
pick_ne m n r a b h e = pick_no (m =? n) r a b (eq_no m n h) e

pub ruleset tests = (and_le, and_gt, and_lt, and_ge, and_eq, and_ne, is_le, is_gt, is_lt, is_ge, is_eq, is_ne)

pub ruleset choices = (pick_le, pick_gt, pick_lt, pick_ge, pick_eq, pick_ne)
