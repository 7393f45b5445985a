-- The numbers that operations get, and what a refused one leaves.
use Prim.Native.Nat.{ℕ, ◌≤◌, ◌<◌}
use mathlib.Core.Path.{◌≡◌, refl, sym}
use mathlib.Core.Bool.{true, false}
use mathlib.Core.List.{List}
use mathlib.Core.Option.{Option, none, some}
use native.Mathlib.Omega.{arith}
use lib.ListN.{length}
use Rattle.base.specs.Tests.{◌≤?◌, ◌=?◌, pick}
use Rattle.base.specs.Lists.{is_there}
use Rattle.base.proofs.TestLaws.{Known, known, holds, fails, le_holds, le_yes, le_fails, not_both}
use Rattle.pegs.specs.Operations.{Place, Peg, Operation, set, move, retire}
use Rattle.pegs.specs.Register.{most_pegs, find, number_of, done, after}

module _ (m : List ℕ) (p : Place) (l : List Peg) where
  -- "9 set and the name is there, then 13 a set while 4,096 stand"
  pub set_there : is_there (find m l) ≡ true → number_of (set m p) l ≡ 9
  unfolding number_of pick
  set_there t = rw t

  pub set_full : is_there (find m l) ≡ false → most_pegs ≤ length l → number_of (set m p) l ≡ 13
  unfolding number_of pick
  set_full t h = rw (t, le_yes most_pegs (length l) h)

  pub set_taken : is_there (find m l) ≡ false → (most_pegs ≤? length l) ≡ false → number_of (set m p) l ≡ 0
  unfolding number_of pick
  set_taken t f = rw (t, f)

  -- "10 move or retire and the name is not there"
  pub move_absent : is_there (find m l) ≡ false → number_of (move m p) l ≡ 10
  unfolding number_of pick
  move_absent t = rw t

pub retire_absent : (m : List ℕ) (l : List Peg) → is_there (find m l) ≡ false → number_of (retire m) l ≡ 10
unfolding number_of pick
retire_absent m l t = rw t

-- ---- what is known of an operation that is taken

pub not_there : (x : Option Place) → is_there x ≡ false → x ≡ none
unfolding is_there
not_there none e = refl
not_there (some p) e = not_both (sym e)

module _ (m : List ℕ) (p : Place) (l : List Peg) where
  pub absent : number_of (set m p) l ≡ 0 → find m l ≡ none
  absent e = go (known (is_there (find m l)))
    where
      go : Known (is_there (find m l)) → find m l ≡ none
      go (holds t) = absurd (omega (arith, e, set_there m p l t))
      go (fails t) = not_there (find m l) t

  -- A set that is taken finds room.
  pub room : number_of (set m p) l ≡ 0 → length l < most_pegs
  room e = go (known (is_there (find m l))) (known (most_pegs ≤? length l))
    where
      go : Known (is_there (find m l)) → Known (most_pegs ≤? length l) → length l < most_pegs
      go (holds t) f = absurd (omega (arith, e, set_there m p l t))
      go (fails t) (holds f) = absurd (omega (arith, e, set_full m p l t (le_holds most_pegs (length l) f)))
      go (fails t) (fails f) = le_fails most_pegs (length l) f

  pub move_present : number_of (move m p) l ≡ 0 → is_there (find m l) ≡ true
  move_present e = go (known (is_there (find m l)))
    where
      go : Known (is_there (find m l)) → is_there (find m l) ≡ true
      go (holds t) = t
      go (fails t) = absurd (omega (arith, e, move_absent m p l t))

pub retire_present : (m : List ℕ) (l : List Peg) → number_of (retire m) l ≡ 0 → is_there (find m l) ≡ true
retire_present m l e = go (known (is_there (find m l)))
  where
    go : Known (is_there (find m l)) → is_there (find m l) ≡ true
    go (holds t) = t
    go (fails t) = absurd (omega (arith, e, retire_absent m l t))

-- ---- what it leaves

pub after_taken : (o : Operation) (l : List Peg) → (number_of o l =? 0) ≡ true → after o l ≡ done o l
unfolding after pick
after_taken o l e = rw e

pub after_refused : (o : Operation) (l : List Peg) → (number_of o l =? 0) ≡ false → after o l ≡ l
unfolding after pick
after_refused o l e = rw e
