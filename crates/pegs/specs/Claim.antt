-- What a register is. Document 02, K2: "Its names are exactly those whose last taken operation is a set or a move, each at that one's place."
use Rattle.std.specs.Prelude.{ℕ, ◌≤◌, ◌≡◌, true, false, ◌↔◌, length}
use mathlib.Core.List.{List, [], ◌∷◌, ◌++◌, Memᴰ}
use Rattle.std.proofs.Math.Option.{Option, none, some}
use Rattle.base.specs.Tests.{◌=?◌, pick}
use Rattle.base.specs.Lists.{same, Each}
use Rattle.pegs.specs.Names.{before}
use Rattle.pegs.specs.Operations.{Place, Peg, Operation, set, move, retire, operation_of, most_name, name_fits}
use Rattle.pegs.specs.Register.{most_pegs, find, number_of, after, after_payload, register_of}
use Rattle.pegs.specs.Image.{formed}

-- ---- the operations taken

unfoldable pub name_of : Operation → List ℕ
name_of (set m p) = m
name_of (move m p) = m
name_of (retire m) = m

-- The place that an operation gives its name: a set and a move give one, a retire gives none.
unfoldable pub given : Operation → Option Place
given (set m p) = some p
given (move m p) = some p
given (retire m) = none

-- Behind these the operation, if it is taken.
unfoldable pub taken_next : Option Operation → List Peg → List Operation → List Operation
taken_next none l os = os
taken_next (some o) l os = pick (number_of o l =? 0) (os ++ (o ∷ [])) os

unfoldable pub taken_from : List Peg → List Operation → (payloads : List (List ℕ)) → List Operation
taken_from l os [] = os
taken_from l os (p ∷ ps) = taken_from (after_payload p l) (taken_next (operation_of p) l os) ps

-- The operations taken of these payloads, in their order.
unfoldable pub taken_of : (payloads : List (List ℕ)) → List Operation
taken_of ps = taken_from [] [] ps

-- What the last of these operations on the name m gave it; x where there is none.
unfoldable pub last_given : (name : List ℕ) → Option Place → List Operation → Option Place
last_given m x [] = x
last_given m x (o ∷ os) = last_given m (pick (same m (name_of o)) (given o) x) os

-- ---- order

-- In byte order, none twice: each name stands before all behind it.
abbrev pub Sorted : List Peg → Type 0
Sorted [] = Unit {0}
Sorted (g ∷ l) = Each (λ h. before g.name h.name ≡ true) l × Sorted l

-- ---- the theorem

pub record NamesTheorem : Type 0 where
  -- "exactly those whose last taken operation is a set or a move, each at that one's place": and what is found by its name is all that is there.
  pub named : (ps : List (List ℕ)) (m : List ℕ) → find m (register_of ps) ≡ last_given m none (taken_of ps)
  pub listed : (ps : List (List ℕ)) (g : Peg) → Memᴰ g (register_of ps) ↔ find g.name (register_of ps) ≡ some g.place
  -- "up to 4,096 pegs in byte order of name", each name of 1 to 24 bytes
  pub ordered : (ps : List (List ℕ)) → Sorted (register_of ps)
  pub most : (ps : List (List ℕ)) → length (register_of ps) ≤ most_pegs
  pub sizes : (ps : List (List ℕ)) → Each (λ g. (1 ≤ length g.name) × (length g.name ≤ most_name)) (register_of ps)
  -- "A retired name may be set again."
  pub again : (ps : List (List ℕ)) (m : List ℕ) (p : Place) → number_of (retire m) (register_of ps) ≡ 0
      → number_of (set m p) (after (retire m) (register_of ps)) ≡ 0
  -- "Names count whole, every byte": a name with anything behind it, a zero byte too, is another one, and stands behind it; of two names that are not
  -- the same one stands before the other.
  pub whole : (m : List ℕ) (b : ℕ) (t : List ℕ) → (same m (m ++ (b ∷ t)) ≡ false) × (before m (m ++ (b ∷ t)) ≡ true)
  pub told : (u v : List ℕ) → same u v ≡ true ↔ u ≡ v
  pub apart : (u v : List ℕ) → before u v ≡ false → before v u ≡ false → u ≡ v
  -- "one not 1 to 24 bytes long is not found", in any well-formed register
  pub unfit : (l : List Peg) (m : List ℕ) → formed l ≡ true → name_fits (length m) ≡ false → find m l ≡ none
