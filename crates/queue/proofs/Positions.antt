-- The place of an id among actions: what is found and what is left.
use Prim.Native.Nat.{ℕ, zero, suc, ◌+◌, ◌*◌, ◌-◌, ◌≤◌, ◌<◌}
use mathlib.Core.Path.{◌≡◌, refl, sym, ap, subst, ◌∙◌}
use mathlib.Core.Bool.{true, false}
use mathlib.Core.List.{List, [], ◌∷◌, ◌++◌}
use mathlib.Core.Option.{none, some}
use native.Mathlib.Omega.{arith}
use lib.ListN.{length, drop}
use Rattle.base.specs.Tests.{pick}
use Rattle.base.proofs.TestLaws.{pick_yes, pick_no, Known, holds, fails, known}
use Rattle.format.specs.Types.{Id, Action}
use Rattle.format.specs.Range.{same_id}
use Rattle.replication.specs.Machine.Colours.{find, remove}
use Rattle.replication.proofs.WellFormed.Ids.{same_id_holds}
use Rattle.image.specs.Layout.{slot_size}
use Rattle.image.specs.Decode.{actions_at}
use Rattle.queue.specs.Queue.{position}

-- The first action with the id d stands at the place k.
pub record Stands (d : Id) (l : List Action) (k : ℕ) : Type 0 where
  pub before : List Action
  pub it : Action
  pub behind : List Action
  pub whole : l ≡ before ++ (it ∷ behind)
  pub count : length before ≡ k
  pub found : find d l ≡ some it
  pub left : remove d l ≡ before ++ behind
  pub named : d ≡ it.id

stands_here : (d : Id) (a : Action) (l : List Action) → same_id d a.id ≡ true → Stands d (a ∷ l) 0
unfolding find remove pick
stands_here d a l t = record { before = []; it = a; behind = l; whole = refl; count = refl; found = rw t; left = rw t; named = same_id_holds d a.id t }

stands_later : (d : Id) (a : Action) (l : List Action) (k : ℕ) → same_id d a.id ≡ false → Stands d l k → Stands d (a ∷ l) (suc k)
unfolding find remove pick
stands_later d a l k t r = record {
  before = a ∷ r.before;
  it = r.it;
  behind = r.behind;
  whole = ap (λ (m : List Action). a ∷ m) r.whole;
  count = ap suc r.count;
  found = rw t r.found;
  left = rw t (ap (λ (m : List Action). a ∷ m) r.left);
  named = r.named;
}

position_here : (d : Id) (a : Action) (l : List Action) → same_id d a.id ≡ true → 0 ≡ position d (a ∷ l)
unfolding position
position_here d a l t = pick_yes (same_id d a.id) 0 0 _ t refl

position_later : (d : Id) (a : Action) (l : List Action) → same_id d a.id ≡ false → suc (position d l) ≡ position d (a ∷ l)
unfolding position
position_later d a l t = pick_no (same_id d a.id) _ _ _ t refl

pub position_found : (d : Id) (l : List Action) → position d l < length l → Stands d l (position d l)
position_found d [] h = absurd (omega arith)
position_found d (a ∷ l) h = go (known (same_id d a.id)) (λ m. position_found d l m)
  where
    go : Known (same_id d a.id) → (position d l < length l → Stands d l (position d l)) → Stands d (a ∷ l) (position d (a ∷ l))
    go (holds t) more = subst (Stands d (a ∷ l)) (position_here d a l t) (stands_here d a l t)
    go (fails t) more =
        subst (Stands d (a ∷ l)) (position_later d a l t) (stands_later d a l (position d l) t (more (omega (arith, position_later d a l t))))

pub position_none : (d : Id) (l : List Action) → length l ≤ position d l → find d l ≡ none
unfolding position find pick
position_none d [] h = refl
position_none d (a ∷ l) h = go (known (same_id d a.id)) (λ m. position_none d l m)
  where
    go : Known (same_id d a.id) → (length l ≤ position d l → find d l ≡ none) → pick (same_id d a.id) (some a) (find d l) ≡ none
    go (holds t) more = absurd (let z : suc (length l) ≤ 0 = rw t at h in omega arith)
    go (fails t) more = rw t (more (let z : suc (length l) ≤ suc (position d l) = rw t at h in omega arith))

pub position_most : (d : Id) (l : List Action) → position d l ≤ length l
unfolding position pick
position_most d [] = omega arith
position_most d (a ∷ l) = go (known (same_id d a.id)) (position_most d l)
  where
    go : Known (same_id d a.id) → position d l ≤ length l → pick (same_id d a.id) 0 (suc (position d l)) ≤ suc (length l)
    go (holds t) more = rw t (omega arith)
    go (fails t) more = rw t (omega arith)

-- ---- actions read from a later slot on

pub actions_drop : (g m : ℕ) (b : List ℕ) (at : ℕ) → g ≤ m → drop g (actions_at m b at) ≡ actions_at (m - g) b (at + slot_size * g)
unfolding actions_at
actions_drop zero m b at h =
    let e : m - 0 ≡ m = omega arith in
    let f : at + slot_size * 0 ≡ at = omega arith in
    sym (rw (e, f))
actions_drop (suc g) zero b at h = absurd (omega arith)
actions_drop (suc g) (suc m) b at h =
    let e : suc m - suc g ≡ m - g = omega arith in
    let f : at + slot_size * suc g ≡ at + slot_size + slot_size * g = omega arith in
    actions_drop g m b (at + slot_size) (omega arith) ∙ sym (rw (e, f))
