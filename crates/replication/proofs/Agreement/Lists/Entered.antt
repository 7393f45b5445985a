-- The actions that are entered follow the cuts, and raise them by as many as each creator has among them.
use Prim.Native.Nat.{ℕ, ◌+◌, ◌<◌}
use mathlib.Core.Path.{◌≡◌, sym, ap}
use mathlib.Core.Bool.{true}
use mathlib.Core.List.{List, [], ◌∷◌, ◌++◌}
use native.Mathlib.Omega.{arith}
use lib.ListN.{length, get_or, set, length-set}
use lib.Seq.{get_or-set_same, get_or-set_other}
use Rattle.base.specs.Tests.{◌=?◌, pick}
use Rattle.base.proofs.TestLaws.{eq_holds, eq_fails, Known, holds, fails, known}
use Rattle.base.specs.Lists.{Each}
use Rattle.base.proofs.ListLaws.{each_map}
use Rattle.base.specs.Counts.{one}
use Rattle.base.proofs.CountLaws.{one_yes, one_no}
use Rattle.format.specs.Types.{Id, Action}
use Rattle.replication.specs.Machine.WellFormed.{ids_in}
use Rattle.replication.specs.Laws.Folds.{follows, cuts_with, entered}
use Rattle.replication.proofs.Agreement.Lists.Fifo.{created_by, Follows, Fifo, follows_same, follows_below, follows_append}

-- Each creator has a cut.
abbrev pub Creators : List ℕ → List Action → Type 0
Creators cuts xs = Each (λ a. a.id.creator < length cuts) xs

next : (cuts : List ℕ) (a : Action) → follows cuts a ≡ true → a.id.index ≡ get_or cuts a.id.creator 0 + 1
unfolding follows
next cuts a e = eq_holds _ _ e

raised : (cuts : List ℕ) (a : Action) → a.id.creator < length cuts → follows cuts a ≡ true → (c : ℕ)
    → get_or (set cuts a.id.creator a.id.index) c 0 ≡ get_or cuts c 0 + one (a.id.creator =? c)
raised cuts a b e c = go (known (a.id.creator =? c))
  where
    go : Known (a.id.creator =? c) → get_or (set cuts a.id.creator a.id.index) c 0 ≡ get_or cuts c 0 + one (a.id.creator =? c)
    go (holds h) =
        let p : a.id.creator ≡ c = eq_holds _ _ h in
        let then = set cuts a.id.creator a.id.index in
        omega (arith, one_yes _ h, next cuts a e, get_or-set_same cuts a.id.creator a.id.index 0 b, ap (λ k. get_or cuts k 0) p, ap (λ k. get_or then k 0) p)
    go (fails h) = omega (arith, one_no _ h, get_or-set_other cuts a.id.creator c a.id.index 0 (λ p. eq_fails _ _ h (sym p)))

-- Actions whose creators have a cut after one more was entered.
creators_set : (cuts : List ℕ) (i v : ℕ) (xs : List Action) → Creators cuts xs → Creators (set cuts i v) xs
creators_set cuts i v xs h = rw (length-set cuts i v) h

pub entered_follows : (cuts : List ℕ) (xs : List Action) → Creators cuts xs → Follows (λ c. get_or cuts c 0) (ids_in (entered cuts xs))
unfolding entered cuts_with pick ids_in
entered_follows cuts [] h = tt
entered_follows cuts (a ∷ xs) h = go (known (follows cuts a)) (λ k b. entered_follows k xs b)
  where
    go : Known (follows cuts a) → ((k : List ℕ) → Creators k xs → Follows (λ c. get_or k c 0) (ids_in (entered k xs)))
        → Follows (λ c. get_or cuts c 0) (ids_in (entered cuts (a ∷ xs)))
    go (holds e) more =
        let then = set cuts a.id.creator a.id.index in
        rw e (next cuts a e, follows_same _ _ (ids_in (entered then xs)) (raised cuts a h.0 e) (more then (creators_set cuts _ _ xs h.1)))
    go (fails e) more = rw e (more cuts h.1)

pub each_entered : (P : Action → Type 0) (cuts : List ℕ) (xs : List Action) → Each P xs → Each P (entered cuts xs)
unfolding entered pick
each_entered P cuts [] h = tt
each_entered P cuts (a ∷ xs) h = go (known (follows cuts a)) (each_entered P (cuts_with a cuts) xs h.1)
  where
    go : Known (follows cuts a) → Each P (entered (cuts_with a cuts) xs) → Each P (entered cuts (a ∷ xs))
    go (holds e) k = rw e (h.0, k)
    go (fails e) k = rw e k

-- Behind a list in order that has as many ids of each creator as its cut says.
pub fifo_entered : (g : List Id) (cuts : List ℕ) (xs : List Action) → Fifo g → ((c : ℕ) → c < length cuts → created_by c g ≡ get_or cuts c 0) → Creators cuts xs
    → Fifo (g ++ ids_in (entered cuts xs))
unfolding ids_in
fifo_entered g cuts xs p f h =
    follows_append (λ c. 0) g (ids_in (entered cuts xs)) p
    (follows_below (length cuts) (λ c. get_or cuts c 0) (λ c. 0 + created_by c g) (ids_in (entered cuts xs)) (λ c l. omega (arith, f c l))
    (each_map (λ d. d.creator < length cuts) (λ a. a.id) (entered cuts xs) (each_entered (λ a. a.id.creator < length cuts) cuts xs h))
    (entered_follows cuts xs h))
