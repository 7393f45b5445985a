-- The search for an id, slot by slot.
use Prim.Native.Nat.{ℕ, suc, ◌+◌, ◌*◌, ◌-◌, ◌≤◌, ◌<◌}
use mathlib.Core.Path.{◌≡◌, refl, sym, ap, subst, ◌∙◌}
use mathlib.Core.Bool.{Bool, true, false}
use mathlib.Core.List.{List, ◌∷◌}
use native.Mathlib.Omega.{arith}
use lib.ListN.{length}
use Rattle.std.specs.Prelude.{Option, Some, None, unwrap_or}
use Rattle.std.proofs.lemmas.Option.{none-some}
use Rattle.base.specs.Tests.{◌<?◌}
use Rattle.base.proofs.TestLaws.{pick_yes, pick_no, lt_yes, lt_no, lt_holds, lt_fails, Known, holds, fails, known}
use Rattle.format.specs.Types.{Id, Action}
use Rattle.format.specs.Range.{same_id}
use Rattle.format.specs.Read.{id_at, action_at}
use Rattle.image.specs.Layout.{slot_size}
use Rattle.image.specs.Decode.{actions_at}
use Rattle.image.proofs.Slots.{actions_count}
use Rattle.queue.specs.Queue.{position, first_with}

-- The first of the slots that are left.
pub more : (e : List ℕ) (at k m : ℕ) → k < m
    → actions_at (m - k) e (at + slot_size * k) ≡ action_at e (at + slot_size * k) ∷ actions_at (m - (k + 1)) e (at + slot_size * (k + 1))
unfolding actions_at
more e at k m h =
    let a : m - k ≡ suc (m - (k + 1)) = omega arith in
    let b : at + slot_size * (k + 1) ≡ at + slot_size * k + slot_size = omega arith in
    ap (λ (i : ℕ). actions_at i e (at + slot_size * k)) a ∙ rw b

found_some : (d : Id) (xs : List Action) (k : ℕ) → k ≡ position d xs → k < length xs → Some k ≡ first_with d xs
unfolding first_with
found_some d xs k e h = pick_yes _ (Some k) _ _ (lt_yes _ _ (subst (λ (p : ℕ). p < length xs) e h)) (ap Some e)

pub find_found : (d : Id) (e : List ℕ) (at k m : ℕ) (t : Bool) → k < m → t ≡ same_id d (id_at e (at + slot_size * k)) → t ≡ true
    → position d (actions_at m e at) ≡ k + position d (actions_at (m - k) e (at + slot_size * k)) → Some k ≡ first_with d (actions_at m e at)
unfolding position action_at
find_found d e at k m t h f g j =
    let here : 0 ≡ position d (actions_at (m - k) e (at + slot_size * k)) =
    pick_yes (same_id d (id_at e (at + slot_size * k))) 0 0 _ (sym f ∙ g) refl ∙ sym (ap (position d) (more e at k m h)) in
    found_some d (actions_at m e at) k (omega arith) (omega (arith, actions_count m e at))

pub find_again : (d : Id) (e : List ℕ) (at k m p : ℕ) (t : Bool) → k < m → t ≡ same_id d (id_at e (at + slot_size * k)) → t ≡ false
    → p ≡ k + position d (actions_at (m - k) e (at + slot_size * k)) → p ≡ k + 1 + position d (actions_at (m - (k + 1)) e (at + slot_size * (k + 1)))
unfolding position action_at
find_again d e at k m p t h f g j =
    let there : suc (position d (actions_at (m - (k + 1)) e (at + slot_size * (k + 1)))) ≡ position d (actions_at (m - k) e (at + slot_size * k)) =
    pick_no (same_id d (id_at e (at + slot_size * k))) _ _ _ (sym f ∙ g) refl ∙ sym (ap (position d) (more e at k m h)) in
    omega arith

pub find_none : (d : Id) (e : List ℕ) (at k m : ℕ) → k ≤ m → m ≤ k → position d (actions_at m e at) ≡ k + position d (actions_at (m - k) e (at + slot_size * k))
    → None ≡ first_with d (actions_at m e at)
unfolding first_with
find_none d e at k m h l j = pick_no _ None _ _ (lt_no _ _ (omega (arith, actions_count m e at))) refl

-- What the search says of the list.
pub some_found : (d : Id) (xs : List Action) (k : ℕ) → Some k ≡ first_with d xs → (k ≡ position d xs) × (k < length xs)
unfolding first_with
some_found d xs k e = go (known (position d xs <? length xs))
  where
    go : Known (position d xs <? length xs) → (k ≡ position d xs) × (k < length xs)
    go (holds h) =
        let same : k ≡ position d xs = ap (λ (o : Option ℕ). unwrap_or o 0) (e ∙ sym (pick_yes (position d xs <? length xs) (Some (position d xs)) _ None h refl)) in
        (same, subst (λ (p : ℕ). p < length xs) (sym same) (lt_holds _ _ h))
    go (fails h) = absurd (none-some k (sym (e ∙ sym (pick_no (position d xs <? length xs) None (Some (position d xs)) _ h refl))))

pub none_found : (d : Id) (xs : List Action) → None ≡ first_with d xs → length xs ≤ position d xs
unfolding first_with
none_found d xs e = go (known (position d xs <? length xs))
  where
    go : Known (position d xs <? length xs) → length xs ≤ position d xs
    go (holds h) = absurd (none-some (position d xs) (e ∙ sym (pick_yes (position d xs <? length xs) (Some (position d xs)) _ None h refl)))
    go (fails h) = lt_fails _ _ h
