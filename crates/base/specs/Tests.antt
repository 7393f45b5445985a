-- Tests of numbers, their conjunction, and a choice by a test. Each definition is rigid (not an abbreviation), so that a search can match it.
use Rattle.std.specs.Prelude.{ℕ, Bool, true, false, eqb, leb, ltb}

infix 50 ◌≤?◌ ◌<?◌ ◌=?◌
infixr 35 ◌and◌
infixr 30 ◌or◌
-- m is at most n
unfoldable pub ◌≤?◌ : ℕ → ℕ → Bool
m ≤? n = leb m n

-- m is below n
unfoldable pub ◌<?◌ : ℕ → ℕ → Bool
m <? n = ltb m n

-- m is n
unfoldable pub ◌=?◌ : ℕ → ℕ → Bool
m =? n = eqb m n

unfoldable pub ◌and◌ : Bool → Bool → Bool
true and b = b
false and b = false

unfoldable pub ◌or◌ : Bool → Bool → Bool
true or b = true
false or b = b

-- a where t holds, else b
unfoldable pub pick : {A : Type 0} → Bool → A → A → A
pick true a b = a
pick false a b = b
