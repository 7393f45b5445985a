-- What is in a register is what is found by its name; and the theorem of its names.
use Prim.Native.Nat.{ℕ}
use mathlib.Core.Path.{◌≡◌, refl, sym, ap, ◌∙◌}
use mathlib.Core.Bool.{true, false}
use mathlib.Core.List.{List, [], ◌∷◌, ◌++◌, Memᴰ}
use mathlib.Core.Option.{none, some}
use lib.ListN.{length}
use native.Mathlib.Omega.{arith}
use Rattle.base.specs.Tests.{◌and◌, ◌or◌}
use Rattle.base.specs.Lists.{is_there, same, Each}
use Rattle.base.proofs.AtLaws.{none_some, some_same}
use Rattle.base.proofs.ListLaws.{each_always}
use Rattle.base.proofs.SameLaws.{same_yes, same_holds}
use Rattle.base.proofs.TestLaws.{Known, known, holds, fails, lt_no, le_no, eq_yes, not_both, and_holds}
use Rattle.pegs.specs.Names.{before}
use Rattle.pegs.specs.Operations.{Place, Peg, retire, set, operation_of, name_fits}
use Rattle.pegs.specs.Register.{most_pegs, find, remove, done, number_of, after, register_of}
use Rattle.pegs.specs.Claim.{NamesTheorem}
use Rattle.pegs.specs.Image.{peg_fits}
use Rattle.pegs.proofs.Places.{formed_fits}
use Rattle.pegs.proofs.Numbers.{set_taken, retire_present, after_taken}
use Rattle.pegs.proofs.Named.{Once, found_here, found_later, remove_same, named}
use Rattle.pegs.proofs.Order.{before_total}
use Rattle.pegs.proofs.Kept.{Kept, NameRange, GivesIf, kept_none, kept_advance, payload_names, sorted_once, length_remove}

-- ---- found and listed

listed_found : (g : Peg) (l : List Peg) → Once l → Memᴰ g l → find g.name l ≡ some g.place
listed_found g [] o x'' = elim x'' [ ]
listed_found g (h ∷ l) o (Memᴰ.head e) =
    found_here g.name h l (ap (λ (x : Peg). same g.name x.name) (sym e) ∙ same_yes g.name) ∙ ap (λ (x : Peg). some x.place) (sym e)
listed_found g (h ∷ l) o (Memᴰ.tail m) = go (known (same g.name h.name)) (listed_found g l o.1 m)
  where
    go : Known (same g.name h.name) → find g.name l ≡ some g.place → find g.name (h ∷ l) ≡ some g.place
    go (holds f) i = none_some (sym o.0 ∙ ap (λ (k : List ℕ). find k l) (sym (same_holds g.name h.name f)) ∙ i)
    go (fails f) i = found_later g.name h l f ∙ i

found_listed : (g : Peg) (l : List Peg) → find g.name l ≡ some g.place → Memᴰ g l
unfolding find
found_listed g [] e = none_some e
found_listed g (h ∷ l) e = go (known (same g.name h.name)) (λ i. found_listed g l i)
  where
    go : Known (same g.name h.name) → (find g.name l ≡ some g.place → Memᴰ g l) → Memᴰ g (h ∷ l)
    go (holds f) i =
        let n : g.name ≡ h.name = same_holds g.name h.name f in
        let p : g.place ≡ h.place = some_same (sym e ∙ found_here g.name h l f) in
        Memᴰ.head (λ j. record { name = n j; place = p j })
    go (fails f) i = Memᴰ.tail (i (sym (found_later g.name h l f) ∙ e))

-- ---- names

whole_other : (m : List ℕ) (b : ℕ) (t : List ℕ) → same m (m ++ (b ∷ t)) ≡ false
unfolding same ◌and◌
whole_other [] b t = refl
whole_other (a ∷ m) b t = rw (eq_yes a a refl) (whole_other m b t)

whole_before : (m : List ℕ) (b : ℕ) (t : List ℕ) → before m (m ++ (b ∷ t)) ≡ true
unfolding before ◌or◌ ◌and◌
whole_before [] b t = refl
whole_before (a ∷ m) b t = rw (lt_no a a (omega arith), eq_yes a a refl) (whole_before m b t)

neither_same : (u v : List ℕ) → before u v ≡ false → before v u ≡ false → u ≡ v
neither_same u v e f = go (known (same u v))
  where
    go : Known (same u v) → u ≡ v
    go (holds s) = same_holds u v s
    go (fails s) = not_both (sym f ∙ before_total u v s e)

-- ---- a retired name

absent_again : (m : List ℕ) (p : Place) (l : List Peg) → Kept NameRange l → number_of (retire m) l ≡ 0 → number_of (set m p) (after (retire m) l) ≡ 0
unfolding done is_there
absent_again m p l k e =
    let t : is_there (find m l) ≡ true = retire_present m l e in
    let n : find m (remove m l) ≡ none = remove_same m l (sorted_once l k.sorted) in
    ap (number_of (set m p)) (after_taken (retire m) l (eq_yes _ 0 e))
    ∙ set_taken m p (remove m l) (ap is_there n) (le_no most_pegs _ (omega (arith, length_remove m l t, k.most)))

-- ---- the theorem

kept : (ps : List (List ℕ)) → Kept NameRange (register_of ps)
unfolding register_of
kept ps = kept_advance NameRange ps [] (each_always (λ p. GivesIf NameRange (operation_of p)) payload_names ps) (kept_none NameRange)

-- ---- a name that fits no peg

unfit_absent : (m : List ℕ) (l : List Peg) → name_fits (length m) ≡ false → Each (λ g. peg_fits g ≡ true) l → find m l ≡ none
unfolding peg_fits find
unfit_absent m [] e f = refl
unfit_absent m (g ∷ l) e f = go (known (same m g.name)) (unfit_absent m l e f.1)
  where
    go : Known (same m g.name) → find m l ≡ none → find m (g ∷ l) ≡ none
    go (holds h) i =
        not_both (sym e ∙ ap (λ (k : List ℕ). name_fits (length k)) (same_holds m g.name h) ∙ (and_holds _ _ f.0).0)
    go (fails h) i = found_later m g l h ∙ i

pub names_theorem : NamesTheorem
names_theorem = record {
  named = named;
  listed = λ ps g. (listed_found g (register_of ps) (sorted_once (register_of ps) (kept ps).sorted), found_listed g (register_of ps));
  ordered = λ ps. (kept ps).sorted;
  most = λ ps. (kept ps).most;
  sizes = λ ps. (kept ps).every;
  again = λ ps m p e. absent_again m p (register_of ps) (kept ps) e;
  whole = λ m b t. (whole_other m b t, whole_before m b t);
  told = λ u v. (same_holds u v, λ e. ap (same u) (sym e) ∙ same_yes u);
  apart = neither_same;
  unfit = λ l m ok e. unfit_absent m l e (formed_fits l ok);
}
