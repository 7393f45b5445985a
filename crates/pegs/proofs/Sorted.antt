-- Registers are sorted, and stay so.
use Prim.Native.Nat.{ℕ}
use mathlib.Core.Path.{◌≡◌, refl, sym, ap, subst, ◌∙◌}
use mathlib.Core.Bool.{true, false}
use mathlib.Core.List.{List, [], ◌∷◌}
use mathlib.Core.Option.{none}
use Rattle.base.specs.Tests.{pick}
use Rattle.base.specs.Lists.{is_there, same, Each}
use Rattle.base.proofs.SameLaws.{same_holds}
use Rattle.base.proofs.TestLaws.{Known, known, holds, fails, not_both}
use Rattle.pegs.specs.Names.{before}
use Rattle.pegs.specs.Operations.{Peg}
use Rattle.pegs.specs.Register.{find, insert, replace, remove}
use Rattle.pegs.specs.Claim.{Sorted}
use Rattle.pegs.proofs.Order.{before_trans, before_irrefl, before_total}
use Rattle.pegs.proofs.Named.{same_other, not_first}

-- Each peg's name stands behind m.
abbrev pub Behind : List ℕ → List Peg → Type 0
Behind m l = Each (λ h. before m h.name ≡ true) l

-- No peg's name stands before m.
abbrev NoneBefore : List ℕ → List Peg → Type 0
NoneBefore m [] = Unit {0}
NoneBefore m (g ∷ l) = (before g.name m ≡ false) × NoneBefore m l

none_before : (k m : List ℕ) (l : List Peg) → before k m ≡ false → Behind k l → NoneBefore m l
none_before k m [] e b = tt
none_before k m (h ∷ l) e b = (go (known (before h.name m)), none_before k m l e b.1)
  where
    go : Known (before h.name m) → before h.name m ≡ false
    go (holds f) = not_both (sym e ∙ before_trans k h.name m b.0 f)
    go (fails f) = f

insert_front : (g : Peg) (l : List Peg) → NoneBefore g.name l → insert g l ≡ g ∷ l
unfolding insert pick
insert_front g [] n = refl
insert_front g (h ∷ l) n = rw n.0

insert_later : (g h : Peg) (l : List Peg) → before h.name g.name ≡ true → insert g (h ∷ l) ≡ h ∷ insert g l
unfolding insert pick
insert_later g h l e = rw e

insert_here : (g h : Peg) (l : List Peg) → before h.name g.name ≡ false → insert g (h ∷ l) ≡ g ∷ h ∷ l
unfolding insert pick
insert_here g h l e = rw e

-- ---- a name that is not there, or is

absent_remove : (m : List ℕ) (l : List Peg) → Behind m l → remove m l ≡ l
unfolding remove pick
absent_remove m [] b = refl
absent_remove m (h ∷ l) b = go (known (same m h.name)) (absent_remove m l b.1)
  where
    go : Known (same m h.name) → remove m l ≡ l → remove m (h ∷ l) ≡ h ∷ l
    go (holds e) i = let z : m ≡ h.name = same_holds m h.name e in not_both (sym (before_irrefl m) ∙ ap (before m) z ∙ b.0)
    go (fails e) i = rw e (ap (λ x. h ∷ x) i)

pub behind_found : (k m : List ℕ) (l : List Peg) → Behind k l → is_there (find m l) ≡ true → before k m ≡ true
unfolding find is_there pick
behind_found k m [] b e = not_both e
behind_found k m (h ∷ l) b e = go (known (same m h.name)) (λ x. behind_found k m l b.1 x)
  where
    go : Known (same m h.name) → (is_there (find m l) ≡ true → before k m ≡ true) → before k m ≡ true
    go (holds f) i = let z : m ≡ h.name = same_holds m h.name f in ap (before k) z ∙ b.0
    go (fails f) i = i (rw f at e)

pub replace_insert : (g : Peg) (l : List Peg) → Sorted l → is_there (find g.name l) ≡ true → replace g l ≡ insert g (remove g.name l)
unfolding replace remove find is_there pick
replace_insert g [] s e = not_both e
replace_insert g (h ∷ l) s e = go (known (same g.name h.name)) (λ k. replace_insert g l s.1 k)
  where
    go : Known (same g.name h.name) → (is_there (find g.name l) ≡ true → replace g l ≡ insert g (remove g.name l)) → replace g (h ∷ l) ≡ insert g (remove g.name (h ∷ l))
    go (holds f) i =
        let z : g.name ≡ h.name = same_holds g.name h.name f in
        rw f (sym (insert_front g l (none_before g.name g.name l (before_irrefl g.name) (subst (λ k. Behind k l) (sym z) s.0))))
    go (fails f) i =
        let n : is_there (find g.name l) ≡ true = rw f at e in
        rw f (ap (λ x. h ∷ x) (i n) ∙ sym (insert_later g h (remove g.name l) (behind_found h.name g.name l s.0 n)))

behind_insert : (m : List ℕ) (g : Peg) (l : List Peg) → before m g.name ≡ true → Behind m l → Behind m (insert g l)
unfolding insert pick
behind_insert m g [] e b = (e, tt)
behind_insert m g (h ∷ l) e b = go (known (before h.name g.name)) (behind_insert m g l e b.1)
  where
    go : Known (before h.name g.name) → Behind m (insert g l) → Behind m (insert g (h ∷ l))
    go (holds f) i = rw f (b.0, i)
    go (fails f) i = rw f (e, b)

pub behind_trans : (k m : List ℕ) (l : List Peg) → before k m ≡ true → Behind m l → Behind k l
behind_trans k m [] e b = tt
behind_trans k m (h ∷ l) e b = (before_trans k m h.name e b.0, behind_trans k m l e b.1)

pub sorted_insert : (g : Peg) (l : List Peg) → find g.name l ≡ none → Sorted l → Sorted (insert g l)
unfolding insert pick
sorted_insert g [] n s = (tt, tt)
sorted_insert g (h ∷ l) n s = go (known (before h.name g.name)) (sorted_insert g l (not_first g.name h l n).1 s.1)
  where
    go : Known (before h.name g.name) → Sorted (insert g l) → Sorted (insert g (h ∷ l))
    go (holds f) i = rw f (behind_insert h.name g l f s.0, i)
    go (fails f) i =
        let b : before g.name h.name ≡ true = before_total h.name g.name (same_other g.name h.name (not_first g.name h l n).0) f in
        rw f ((b, behind_trans g.name h.name l b s.0), s)

behind_remove : (k m : List ℕ) (l : List Peg) → Behind k l → Behind k (remove m l)
unfolding remove pick
behind_remove k m [] b = tt
behind_remove k m (h ∷ l) b = go (known (same m h.name)) (behind_remove k m l b.1)
  where
    go : Known (same m h.name) → Behind k (remove m l) → Behind k (remove m (h ∷ l))
    go (holds f) i = rw f b.1
    go (fails f) i = rw f (b.0, i)

pub sorted_remove : (m : List ℕ) (l : List Peg) → Sorted l → Sorted (remove m l)
unfolding remove pick
sorted_remove m [] s = tt
sorted_remove m (h ∷ l) s = go (known (same m h.name)) (sorted_remove m l s.1)
  where
    go : Known (same m h.name) → Sorted (remove m l) → Sorted (remove m (h ∷ l))
    go (holds f) i = rw f s.1
    go (fails f) i = rw f (behind_remove h.name m l s.0, i)
