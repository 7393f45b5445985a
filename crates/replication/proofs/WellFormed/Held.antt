-- How finding, removing, entering and promoting actions change which ids are held.
use Prim.Native.Nat.{ℕ, ◌+◌, ◌<◌, zero, suc}
use mathlib.Core.Path.{◌≡◌, refl, sym, ap, ◌∙◌, subst}
use mathlib.Core.Bool.{true, false}
use mathlib.Core.List.{List, [], ◌∷◌, ◌++◌, map}
use mathlib.Core.Option.{none, some}
use native.Mathlib.Omega.{arith}
use native.Mathlib.Decide.{ℕ_discrete}
use lib.ListN.{length, drop}
use lib.Seq.{get_or-set_same, get_or-set_other}
use Rattle.base.specs.Tests.{pick}
use Rattle.base.proofs.TestLaws.{Known, holds, fails, known}
use Rattle.base.specs.Lists.{Each}
use Rattle.base.specs.Counts.{one, count}
use Rattle.base.proofs.CountLaws.{count_append, count_single, count_map}
use Rattle.format.specs.Types.{Id, Action}
use Rattle.format.specs.Range.{same_id}
use Rattle.replication.specs.Machine.Types.{Log}
use Rattle.replication.specs.Machine.Colours.{find, remove, cut, is_next, enter, red, promote, promote_found, green_id}
use Rattle.replication.specs.Machine.WellFormed.{ids_in, queue}
use Rattle.replication.proofs.WellFormed.Clauses.{held_count}
use Rattle.replication.proofs.Step.Logs.{next_index_lem, red_entered, red_ignored}
use Rattle.replication.proofs.WellFormed.Ids.{SameId, same, other, same-id?, same_id_yes}

-- How many actions of a list have the id d.
abbrev pub action_count : Id → List Action → ℕ
action_count d l = count (λ a. same_id d a.id) l

pub held_parts : (d : Id) (l : Log) → held_count d l ≡ action_count d l.green + action_count d l.red
unfolding ids_in queue
held_parts d l = count_map (same_id d) (λ a. a.id) (l.green ++ l.red) ∙ count_append (λ a. same_id d a.id) l.green l.red

-- ---- finding and removing

pub data Found (d : Id) (l : List Action) : Type 0 where
  absent : find d l ≡ none → action_count d l ≡ 0 → Found d l
  found : (x : Action) → find d l ≡ some x → d ≡ x.id → ((e : Id) → action_count e l ≡ one (same_id e x.id) + action_count e (remove d l)) → Found d l

pub found? : (d : Id) (l : List Action) → Found d l
unfolding find remove count pick
found? d [] = absent refl refl
found? d (a ∷ l) = go (same-id? d a.id) (found? d l)
  where
    go : SameId d a.id → Found d l → Found d (a ∷ l)
    go (same e p i t u) r = found a (rw t) e (λ k. rw t)
    go (other n t u) (absent f g) = absent (rw (t, f)) (omega arith)
    go (other n t u) (found x f e h) = found x (rw (t, f)) e (λ k. rw t (omega (arith, h k)))

pub found_fact : (P : Action → Type 0) (d : Id) (l : List Action) (x : Action) → Each P l → find d l ≡ some x → P x
unfolding find pick
found_fact P d [] x h e = let z : ◌≡◌ {A = ℕ} 0 1 = cc in absurd (omega arith)
found_fact P d (a ∷ l) x h e = go (known (same_id d a.id)) (λ f. found_fact P d l x h.1 f)
  where
    go : Known (same_id d a.id) → (find d l ≡ some x → P x) → P x
    go (holds t) more = let f : a ≡ x = cc in subst P f h.0
    go (fails t) more = more (rw t at e)

pub each_drop : (P : Action → Type 0) (w : ℕ) (l : List Action) → Each P l → Each P (drop w l)
each_drop P zero l h = h
each_drop P (suc w) [] h = tt
each_drop P (suc w) (a ∷ l) h = each_drop P w l h.1

pub each_remove : (P : Action → Type 0) (d : Id) (l : List Action) → Each P l → Each P (remove d l)
unfolding remove pick
each_remove P d [] h = tt
each_remove P d (a ∷ l) h = go (known (same_id d a.id)) (each_remove P d l h.1)
  where
    go : Known (same_id d a.id) → Each P (remove d l) → Each P (remove d (a ∷ l))
    go (holds t) more = rw t h.1
    go (fails t) more = rw t (h.0, more)

-- Removing the id at the front of the list.
pub remove_first : (d : Id) (l : List Action) (ids : List Id) → ids_in l ≡ d ∷ ids → ids_in (remove d l) ≡ ids
unfolding remove pick ids_in
remove_first d [] ids e = let z : ◌≡◌ {A = ℕ} 0 1 = cc in absurd (omega arith)
remove_first d (a ∷ l) ids e =
    let f : a.id ≡ d = cc in
    let g : map (λ a. a.id) l ≡ ids = cc in
    let t : same_id d a.id ≡ true = same_id_yes d a.id (ap (λ y. y.creator) (sym f)) (ap (λ y. y.index) (sym f)) in
    rw t g

pub remove_absent : (d : Id) (l : List Action) → Each (λ x. same_id d x ≡ false) (ids_in l) → remove d l ≡ l
unfolding remove pick ids_in
remove_absent d [] h = refl
remove_absent d (a ∷ l) h = rw h.0 (ap (λ m. a ∷ m) (remove_absent d l h.1))

-- ---- entering

pub data Entered (a : Action) (l : Log) : Type 0 where
  entered : a.id.index ≡ cut l a.id.creator + 1 → is_next l a ≡ true → red a l ≡ enter a l → Entered a l
  ignored : is_next l a ≡ false → red a l ≡ l → Entered a l

pub entered? : (a : Action) (l : Log) → Entered a l
entered? a l = go (known (is_next l a))
  where
    go : Known (is_next l a) → Entered a l
    go (holds t) = entered (next_index_lem l a t) t (red_entered a l t)
    go (fails t) = ignored t (red_ignored a l t)

pub held_enter : (a : Action) (l : Log) (d : Id) → held_count d (enter a l) ≡ held_count d l + one (same_id d a.id)
unfolding enter
held_enter a l d =
    omega (arith, held_parts d (enter a l), held_parts d l, count_append (λ b. same_id d b.id) l.red (a ∷ []), count_single (λ b. same_id d b.id) a)

-- A creator's cut after an action was entered.
pub data CutAfter (a : Action) (l : Log) (c : ℕ) : Type 0 where
  risen : c ≡ a.id.creator → cut (enter a l) c ≡ a.id.index → CutAfter a l c
  left : (c ≡ a.id.creator → ⊥) → cut (enter a l) c ≡ cut l c → CutAfter a l c

pub cut-after? : (a : Action) (l : Log) (c : ℕ) → a.id.creator < length l.cuts → CutAfter a l c
unfolding enter cut
cut-after? a l c h = go (ℕ_discrete c a.id.creator)
  where
    go : Dec (c ≡ a.id.creator) → CutAfter a l c
    go (yes e) = risen e (rw e (get_or-set_same l.cuts a.id.creator a.id.index 0 h))
    go (no e) = left e (get_or-set_other l.cuts a.id.creator c a.id.index 0 e)

-- ---- turning green

pub data Greened (d : Id) (l : Log) : Type 0 where
  unmoved : green_id d l ≡ l → Greened d l
  moved : (x : Action) → find d l.red ≡ some x → green_id d l ≡ promote x l → ((e : Id) → held_count e (promote x l) ≡ held_count e l) → Greened d l

pub greened? : (d : Id) (l : Log) → Greened d l
unfolding green_id promote_found promote
greened? d l = go (found? d l.red)
  where
    go : Found d l.red → Greened d l
    go (absent e n) = unmoved (rw e)
    go (found x e f h) = moved x e (rw e) kept
      where
        kept : (k : Id) → held_count k (promote x l) ≡ held_count k l
        kept k =
            omega (
              arith,
              held_parts k (promote x l),
              held_parts k l,
              h k,
              ap (λ b. action_count k (remove b l.red)) f,
              count_append (λ b. same_id k b.id) l.green (x ∷ []),
              count_single (λ b. same_id k b.id) x,
            )
