-- What every operation that is taken keeps of a register: its order, its bound, and a fact of each of its pegs.
use Prim.Native.Nat.{ℕ, suc, ◌+◌, ◌≤◌}
use mathlib.Core.Path.{◌≡◌, refl, sym, ap, subst, ◌∙◌}
use mathlib.Core.Bool.{Bool, true}
use mathlib.Core.List.{List, [], ◌∷◌}
use mathlib.Core.Option.{Option, none, some}
use native.Mathlib.Omega.{arith}
use lib.ListN.{length}
use Rattle.base.specs.Tests.{◌and◌, ◌≤?◌, ◌=?◌, pick}
use Rattle.base.specs.Bytes.{Bytes, number_at, part_at}
use Rattle.base.specs.Lists.{is_there, same, Each}
use Rattle.base.proofs.BytesLaws.{part_length, number_lt}
use Rattle.base.proofs.TestLaws.{Known, known, holds, fails, le_holds, eq_holds, and_holds, not_both, pick_as}
use Rattle.pegs.specs.Names.{before}
use Rattle.pegs.specs.Operations.{Peg, Operation, set, move, retire, most_name, at_name, at_name_length, set_byte, move_byte, coordinate_size, place_size, place_at, name_fits, operation_as, operation_of}
use Rattle.pegs.specs.Register.{most_pegs, find, insert, replace, remove, done, number_of, after, after_if, after_payload, advance}
use Rattle.pegs.specs.Claim.{Sorted}
use Rattle.pegs.proofs.Numbers.{absent, room, move_present, retire_present, after_taken, after_refused}
use Rattle.pegs.proofs.Named.{Once, found_later, remove_same}
use Rattle.pegs.proofs.Sorted.{replace_insert, sorted_insert, sorted_remove}
use Rattle.pegs.proofs.Places.{behind_none}
use Rattle.pegs.proofs.PegLaws.{PegRange}

-- ---- order

pub sorted_once : (l : List Peg) → Sorted l → Once l
sorted_once [] s = tt
sorted_once (g ∷ l) s = (behind_none g.name l s.0, sorted_once l s.1)

sorted_replace : (g : Peg) (l : List Peg) → Sorted l → is_there (find g.name l) ≡ true → Sorted (replace g l)
sorted_replace g l s t =
    subst Sorted (sym (replace_insert g l s t))
    (sorted_insert g (remove g.name l) (remove_same g.name l (sorted_once l s)) (sorted_remove g.name l s))

pub sorted_done : (o : Operation) (l : List Peg) → number_of o l ≡ 0 → Sorted l → Sorted (done o l)
unfolding done
sorted_done (set m p) l e s = sorted_insert (record { name = m; place = p }) l (absent m p l e) s
sorted_done (move m p) l e s = sorted_replace (record { name = m; place = p }) l s (move_present m p l e)
sorted_done (retire m) l e s = sorted_remove m l s

-- ---- how many

pub length_insert : (g : Peg) (l : List Peg) → length (insert g l) ≡ suc (length l)
unfolding insert pick
length_insert g [] = refl
length_insert g (h ∷ l) = go (known (before h.name g.name)) (length_insert g l)
  where
    go : Known (before h.name g.name) → length (insert g l) ≡ suc (length l) → length (insert g (h ∷ l)) ≡ suc (length (h ∷ l))
    go (holds b) i = rw b (ap suc i)
    go (fails b) i = rw b

pub length_replace : (g : Peg) (l : List Peg) → length (replace g l) ≡ length l
unfolding replace pick
length_replace g [] = refl
length_replace g (h ∷ l) = go (known (same g.name h.name)) (length_replace g l)
  where
    go : Known (same g.name h.name) → length (replace g l) ≡ length l → length (replace g (h ∷ l)) ≡ length (h ∷ l)
    go (holds b) i = rw b
    go (fails b) i = rw b (ap suc i)

pub length_remove : (m : List ℕ) (l : List Peg) → is_there (find m l) ≡ true → suc (length (remove m l)) ≡ length l
unfolding remove pick find is_there
length_remove m [] t = not_both t
length_remove m (h ∷ l) t = go (known (same m h.name)) (λ n. length_remove m l n)
  where
    go : Known (same m h.name) → (is_there (find m l) ≡ true → suc (length (remove m l)) ≡ length l) → suc (length (remove m (h ∷ l))) ≡ length (h ∷ l)
    go (holds b) i = rw b
    go (fails b) i = rw b (ap suc (i (ap is_there (sym (found_later m h l b)) ∙ t)))

most_done : (o : Operation) (l : List Peg) → number_of o l ≡ 0 → length l ≤ most_pegs → length (done o l) ≤ most_pegs
unfolding done
most_done (set m p) l e h = omega (arith, length_insert (record { name = m; place = p }) l, room m p l e)
most_done (move m p) l e h = omega (arith, length_replace (record { name = m; place = p }) l)
most_done (retire m) l e h = omega (arith, length_remove m l (retire_present m l e))

-- ---- a fact of each peg

module _ (P : Peg → Type 0) where
  each_insert : (g : Peg) (l : List Peg) → P g → Each P l → Each P (insert g l)
  unfolding insert pick
  each_insert g [] x f = (x, tt)
  each_insert g (h ∷ l) x f = go (known (before h.name g.name)) (each_insert g l x f.1)
    where
      go : Known (before h.name g.name) → Each P (insert g l) → Each P (insert g (h ∷ l))
      go (holds b) i = rw b (f.0, i)
      go (fails b) i = rw b (x, f)

  each_replace : (g : Peg) (l : List Peg) → P g → Each P l → Each P (replace g l)
  unfolding replace pick
  each_replace g [] x f = tt
  each_replace g (h ∷ l) x f = go (known (same g.name h.name)) (each_replace g l x f.1)
    where
      go : Known (same g.name h.name) → Each P (replace g l) → Each P (replace g (h ∷ l))
      go (holds b) i = rw b (x, f.1)
      go (fails b) i = rw b (f.0, i)

  each_remove : (m : List ℕ) (l : List Peg) → Each P l → Each P (remove m l)
  unfolding remove pick
  each_remove m [] f = tt
  each_remove m (h ∷ l) f = go (known (same m h.name)) (each_remove m l f.1)
    where
      go : Known (same m h.name) → Each P (remove m l) → Each P (remove m (h ∷ l))
      go (holds b) i = rw b f.1
      go (fails b) i = rw b (f.0, i)

  -- The peg that an operation names, if it gives a place, is one of these.
  abbrev pub Gives : Operation → Type 0
  Gives (set m p) = P (record { name = m; place = p })
  Gives (move m p) = P (record { name = m; place = p })
  Gives (retire m) = Unit {0}

  abbrev pub GivesIf : Option Operation → Type 0
  GivesIf none = Unit {0}
  GivesIf (some o) = Gives o

  each_done : (o : Operation) (l : List Peg) → Gives o → Each P l → Each P (done o l)
  unfolding done
  each_done (set m p) l x f = each_insert (record { name = m; place = p }) l x f
  each_done (move m p) l x f = each_replace (record { name = m; place = p }) l x f
  each_done (retire m) l x f = each_remove m l f

  -- ---- all three

  pub record Kept (l : List Peg) : Type 0 where
    pub most : length l ≤ most_pegs
    pub sorted : Sorted l
    pub every : Each P l

  pub kept_none : Kept []
  kept_none = record { most = omega arith; sorted = tt; every = tt }

  kept_operation : (o : Operation) (l : List Peg) → Gives o → Kept l → Kept (after o l)
  kept_operation o l x k = go (known (number_of o l =? 0))
    where
      go : Known (number_of o l =? 0) → Kept (after o l)
      go (holds t) =
          let e : number_of o l ≡ 0 = eq_holds (number_of o l) 0 t in
          rw (after_taken o l t)
          (record { most = most_done o l e k.most; sorted = sorted_done o l e k.sorted; every = each_done o l x k.every })
      go (fails t) = rw (after_refused o l t) k

  kept_if : (x : Option Operation) (l : List Peg) → GivesIf x → Kept l → Kept (after_if x l)
  unfolding after_if
  kept_if none l g k = k
  kept_if (some o) l g k = kept_operation o l g k

  pub kept_payload : (p : List ℕ) (l : List Peg) → GivesIf (operation_of p) → Kept l → Kept (after_payload p l)
  unfolding after_payload
  kept_payload p l g k = kept_if (operation_of p) l g k

  pub kept_advance : (ps : List (List ℕ)) (l : List Peg) → Each (λ p. GivesIf (operation_of p)) ps → Kept l → Kept (advance l ps)
  unfolding advance
  kept_advance [] l g k = k
  kept_advance (p ∷ ps) l g k = kept_advance ps (after_payload p l) g.1 (kept_payload p l g.0 k)

-- ---- what payloads give

-- A name of 1 to 24 bytes.
abbrev pub NameRange : Peg → Type 0
NameRange g = (1 ≤ length g.name) × (length g.name ≤ most_name)

module _ (P : Peg → Type 0) (p : List ℕ) where
  -- The peg of a name of k bytes and a place behind it.
  abbrev pub peg_of : (k : ℕ) → Peg
  peg_of k = record { name = part_at k p at_name; place = place_at p (at_name + k) }

  operation_gives : (o k : ℕ) → (at_name + k ≤ length p → P (peg_of k)) → GivesIf P (operation_as o k p)
  unfolding operation_as
  operation_gives o k f =
      pick_as (GivesIf P) _ _ _ (λ t. f (long (o =? set_byte) t))
      (λ t. pick_as (GivesIf P) _ _ _ (λ u. f (long (o =? move_byte) u)) (λ u. pick_as (GivesIf P) _ _ _ (λ v. tt) (λ v. tt)))
    where
      long : (b : Bool) → (b and length p =? at_name + k + place_size) ≡ true → at_name + k ≤ length p
      long b t = omega (arith, eq_holds (length p) (at_name + k + place_size) (and_holds b _ t).1)

  payload_gives : ((k : ℕ) → 1 ≤ k → k ≤ most_name → at_name + k ≤ length p → P (peg_of k)) → GivesIf P (operation_of p)
  unfolding operation_of name_fits
  payload_gives f =
      pick_as (GivesIf P) _ _ _
      (λ t. let n = and_holds _ _ (and_holds (at_name ≤? length p) _ t).1 in
      operation_gives (number_at 1 p 0) (number_at 1 p at_name_length) (λ l. f (number_at 1 p at_name_length) (le_holds 1 _ n.0) (le_holds _ most_name n.1) l))
      (λ t. tt)

pub payload_names : (p : List ℕ) → GivesIf NameRange (operation_of p)
payload_names p = payload_gives NameRange p (λ k a b l. (omega (arith, part_length k p at_name l), omega (arith, part_length k p at_name l)))

pub payload_pegs : (p : List ℕ) → Bytes p → GivesIf PegRange (operation_of p)
unfolding place_at
payload_pegs p h =
    payload_gives PegRange p
    (λ k a b l. record {
      low = omega (arith, part_length k p at_name l);
      most = omega (arith, part_length k p at_name l);
      easting = number_lt coordinate_size p (at_name + k) h;
      northing = number_lt coordinate_size p (at_name + k + coordinate_size) h;
    })
