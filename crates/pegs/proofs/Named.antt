-- The names of a register are those whose last taken operation is a set or a move.
use Prim.Native.Nat.{ℕ}
use mathlib.Core.Path.{◌≡◌, refl, sym, ap, ◌∙◌}
use mathlib.Core.Bool.{true, false}
use mathlib.Core.List.{List, [], ◌∷◌, ◌++◌}
use mathlib.Core.Option.{Option, none, some}
use Rattle.base.specs.Tests.{◌=?◌, pick}
use Rattle.base.specs.Lists.{is_there, same}
use Rattle.base.proofs.AtLaws.{none_some}
use Rattle.base.proofs.SameLaws.{same_yes, same_holds}
use Rattle.base.proofs.TestLaws.{Known, known, holds, fails, eq_holds, not_both}
use Rattle.pegs.specs.Names.{before}
use Rattle.pegs.specs.Operations.{Place, Peg, Operation, set, move, retire, operation_of}
use Rattle.pegs.specs.Register.{find, insert, replace, remove, number_of, done, after, after_if, after_payload, advance, register_of}
use Rattle.pegs.specs.Claim.{name_of, given, taken_next, taken_from, taken_of, last_given}
use Rattle.pegs.proofs.Numbers.{absent, move_present, after_taken, after_refused}

-- ---- what an operation leaves, by name

module _ (m : List ℕ) where
  -- m is looked for in a list with g in front.
  pub found_here : (g : Peg) (l : List Peg) → same m g.name ≡ true → find m (g ∷ l) ≡ some g.place
  unfolding find pick
  found_here g l e = rw e

  pub found_later : (g : Peg) (l : List Peg) → same m g.name ≡ false → find m (g ∷ l) ≡ find m l
  unfolding find pick
  found_later g l e = rw e

  pub insert_other : (g : Peg) (l : List Peg) → same m g.name ≡ false → find m (insert g l) ≡ find m l
  unfolding insert pick
  insert_other g [] e = found_later g [] e
  insert_other g (h ∷ l) e = go (known (before h.name g.name)) (known (same m h.name)) (insert_other g l e)
    where
      go : Known (before h.name g.name) → Known (same m h.name) → find m (insert g l) ≡ find m l → find m (insert g (h ∷ l)) ≡ find m (h ∷ l)
      go (holds b) (holds f) i = rw b (found_here h (insert g l) f ∙ sym (found_here h l f))
      go (holds b) (fails f) i = rw b (found_later h (insert g l) f ∙ i ∙ sym (found_later h l f))
      go (fails b) k i = rw b (found_later g (h ∷ l) e)

  pub insert_same : (g : Peg) (l : List Peg) → same m g.name ≡ true → find m l ≡ none → find m (insert g l) ≡ some g.place
  unfolding insert pick
  insert_same g [] e n = found_here g [] e
  insert_same g (h ∷ l) e n = go (known (before h.name g.name)) (known (same m h.name)) (λ k. insert_same g l e k)
    where
      go : Known (before h.name g.name) → Known (same m h.name) → (find m l ≡ none → find m (insert g l) ≡ some g.place) → find m (insert g (h ∷ l)) ≡ some g.place
      go (holds b) (holds f) i = let z : ◌≡◌ {A = Option Place} none (some h.place) = sym n ∙ found_here h l f in none_some z
      go (holds b) (fails f) i = rw b (found_later h (insert g l) f ∙ i (sym (found_later h l f) ∙ n))
      go (fails b) k i = rw b (found_here g (h ∷ l) e)

  pub replace_other : (g : Peg) (l : List Peg) → same m g.name ≡ false → find m (replace g l) ≡ find m l
  unfolding replace pick
  replace_other g [] e = refl
  replace_other g (h ∷ l) e = go (known (same g.name h.name)) (known (same m h.name)) (replace_other g l e)
    where
      go : Known (same g.name h.name) → Known (same m h.name) → find m (replace g l) ≡ find m l → find m (replace g (h ∷ l)) ≡ find m (h ∷ l)
      go (holds b) k i =
          let z : g.name ≡ h.name = same_holds g.name h.name b in
          rw b (found_later g l e ∙ sym (found_later h l (ap (same m) (sym z) ∙ e)))
      go (fails b) (holds f) i = rw b (found_here h (replace g l) f ∙ sym (found_here h l f))
      go (fails b) (fails f) i = rw b (found_later h (replace g l) f ∙ i ∙ sym (found_later h l f))

  pub replace_same : (g : Peg) (l : List Peg) → m ≡ g.name → is_there (find m l) ≡ true → find m (replace g l) ≡ some g.place
  unfolding replace pick is_there find
  replace_same g [] e t = not_both t
  replace_same g (h ∷ l) e t = go (known (same g.name h.name)) (λ k. replace_same g l e k)
    where
      go : Known (same g.name h.name) → (is_there (find m l) ≡ true → find m (replace g l) ≡ some g.place) → find m (replace g (h ∷ l)) ≡ some g.place
      go (holds b) i = rw b (found_here g l (ap (λ k. same k g.name) e ∙ same_yes g.name))
      go (fails b) i =
          let f : same m h.name ≡ false = ap (λ k. same k h.name) e ∙ b in
          rw b (found_later h (replace g l) f ∙ i (ap is_there (sym (found_later h l f)) ∙ t))

  pub remove_other : (k : List ℕ) (l : List Peg) → same m k ≡ false → find m (remove k l) ≡ find m l
  unfolding remove pick
  remove_other k [] e = refl
  remove_other k (h ∷ l) e = go (known (same k h.name)) (known (same m h.name)) (remove_other k l e)
    where
      go : Known (same k h.name) → Known (same m h.name) → find m (remove k l) ≡ find m l → find m (remove k (h ∷ l)) ≡ find m (h ∷ l)
      go (holds b) f i = let z : k ≡ h.name = same_holds k h.name b in rw b (sym (found_later h l (ap (same m) (sym z) ∙ e)))
      go (fails b) (holds f) i = rw b (found_here h (remove k l) f ∙ sym (found_here h l f))
      go (fails b) (fails f) i = rw b (found_later h (remove k l) f ∙ i ∙ sym (found_later h l f))

-- ---- no name twice

abbrev pub Once : List Peg → Type 0
Once [] = Unit {0}
Once (g ∷ l) = (find g.name l ≡ none) × Once l

pub remove_same : (m : List ℕ) (l : List Peg) → Once l → find m (remove m l) ≡ none
unfolding remove pick find
remove_same m [] o = refl
remove_same m (h ∷ l) o = go (known (same m h.name)) (remove_same m l o.1)
  where
    go : Known (same m h.name) → find m (remove m l) ≡ none → find m (remove m (h ∷ l)) ≡ none
    go (holds b) i = let z : m ≡ h.name = same_holds m h.name b in rw b (ap (λ k. find k l) z ∙ o.0)
    go (fails b) i = rw b (found_later m h (remove m l) b ∙ i)

pub same_other : (m k : List ℕ) → same m k ≡ false → same k m ≡ false
same_other m k e = go (known (same k m))
  where
    go : Known (same k m) → same k m ≡ false
    go (holds f) = let z : k ≡ m = same_holds k m f in not_both (sym e ∙ ap (λ x. same x k) (sym z) ∙ same_yes k)
    go (fails f) = f

-- What is not found in a list is not its first.
pub not_first : (m : List ℕ) (h : Peg) (l : List Peg) → find m (h ∷ l) ≡ none → (same m h.name ≡ false) × (find m l ≡ none)
not_first m h l e = go (known (same m h.name))
  where
    go : Known (same m h.name) → (same m h.name ≡ false) × (find m l ≡ none)
    go (holds f) = let z : ◌≡◌ {A = Option Place} none (some h.place) = sym e ∙ found_here m h l f in none_some z
    go (fails f) = (f, sym (found_later m h l f) ∙ e)

once_insert : (g : Peg) (l : List Peg) → find g.name l ≡ none → Once l → Once (insert g l)
unfolding insert pick find
once_insert g [] n o = (refl, tt)
once_insert g (h ∷ l) n o = go (known (before h.name g.name)) (once_insert g l (not_first g.name h l n).1 o.1)
  where
    go : Known (before h.name g.name) → Once (insert g l) → Once (insert g (h ∷ l))
    go (holds b) i = rw b (insert_other h.name g l (same_other g.name h.name (not_first g.name h l n).0) ∙ o.0, i)
    go (fails b) i = rw b (n, o)

once_replace : (g : Peg) (l : List Peg) → Once l → Once (replace g l)
unfolding replace pick
once_replace g [] o = tt
once_replace g (h ∷ l) o = go (known (same g.name h.name)) (once_replace g l o.1)
  where
    go : Known (same g.name h.name) → Once (replace g l) → Once (replace g (h ∷ l))
    go (holds b) i = let z : g.name ≡ h.name = same_holds g.name h.name b in rw b (ap (λ k. find k l) z ∙ o.0, o.1)
    go (fails b) i = rw b (replace_other h.name g l (same_other g.name h.name b) ∙ o.0, i)

once_remove : (m : List ℕ) (l : List Peg) → Once l → Once (remove m l)
unfolding remove pick
once_remove m [] o = tt
once_remove m (h ∷ l) o = go (known (same m h.name)) (once_remove m l o.1)
  where
    go : Known (same m h.name) → Once (remove m l) → Once (remove m (h ∷ l))
    go (holds b) i = rw b o.1
    go (fails b) i = rw b (remove_other h.name m l (same_other m h.name b) ∙ o.0, i)

-- ---- one operation

pub once_done : (o : Operation) (l : List Peg) → number_of o l ≡ 0 → Once l → Once (done o l)
unfolding done
once_done (set m p) l e h = once_insert (record { name = m; place = p }) l (absent m p l e) h
once_done (move m p) l e h = once_replace (record { name = m; place = p }) l h
once_done (retire m) l e h = once_remove m l h

pub found_done : (k : List ℕ) (o : Operation) (l : List Peg) → number_of o l ≡ 0 → Once l
    → find k (done o l) ≡ pick (same k (name_of o)) (given o) (find k l)
unfolding done name_of given pick
found_done k (set m p) l e h = go (known (same k m))
  where
    g : Peg
    g = record { name = m; place = p }

    go : Known (same k m) → find k (insert g l) ≡ pick (same k m) (some p) (find k l)
    go (holds f) = let z : k ≡ m = same_holds k m f in rw f (insert_same k g l f (ap (λ x. find x l) z ∙ absent m p l e))
    go (fails f) = rw f (insert_other k g l f)
found_done k (move m p) l e h = go (known (same k m))
  where
    g : Peg
    g = record { name = m; place = p }

    go : Known (same k m) → find k (replace g l) ≡ pick (same k m) (some p) (find k l)
    go (holds f) = let z : k ≡ m = same_holds k m f in rw f (replace_same k g l z (ap (λ x. is_there (find x l)) z ∙ move_present m p l e))
    go (fails f) = rw f (replace_other k g l f)
found_done k (retire m) l e h = go (known (same k m))
  where
    go : Known (same k m) → find k (remove m l) ≡ pick (same k m) none (find k l)
    go (holds f) = let z : k ≡ m = same_holds k m f in rw f (ap (λ x. find x (remove m l)) z ∙ remove_same m l h)
    go (fails f) = rw f (remove_other k m l f)

-- ---- many

last_given_lem : (k : List ℕ) (x : Option Place) (os : List Operation) (o : Operation)
    → last_given k x (os ++ (o ∷ [])) ≡ pick (same k (name_of o)) (given o) (last_given k x os)
unfolding last_given
last_given_lem k x [] o = refl
last_given_lem k x (a ∷ os) o = last_given_lem k (pick (same k (name_of a)) (given a) x) os o

-- The register l and the operations taken so far tell the same of every name.
pub record Told (l : List Peg) (os : List Operation) : Type 0 where
  pub once : Once l
  pub tells : (k : List ℕ) → find k l ≡ last_given k none os

told_one : (x : Option Operation) (l : List Peg) (os : List Operation) → Told l os → Told (after_if x l) (taken_next x l os)
unfolding after_if taken_next pick
told_one none l os t = t
told_one (some o) l os t = go (known (number_of o l =? 0))
  where
    go : Known (number_of o l =? 0) → Told (after o l) (taken_next (some o) l os)
    go (holds b) =
        let e : number_of o l ≡ 0 = eq_holds (number_of o l) 0 b in
        rw (b, after_taken o l b) (record {
          once = once_done o l e t.once;
          tells = λ k. found_done k o l e t.once ∙ ap (pick (same k (name_of o)) (given o)) (t.tells k) ∙ sym (last_given_lem k none os o);
        })
    go (fails b) = rw (b, after_refused o l b) t

pub told_all : (ps : List (List ℕ)) (l : List Peg) (os : List Operation) → Told l os → Told (advance l ps) (taken_from l os ps)
unfolding advance taken_from after_payload
told_all [] l os t = t
told_all (p ∷ ps) l os t = told_all ps (after_payload p l) (taken_next (operation_of p) l os) (told_one (operation_of p) l os t)

pub named : (ps : List (List ℕ)) (m : List ℕ) → find m (register_of ps) ≡ last_given m none (taken_of ps)
unfolding register_of taken_of find last_given
named ps m = (told_all ps [] [] (record { once = tt; tells = λ k. refl })).tells m
