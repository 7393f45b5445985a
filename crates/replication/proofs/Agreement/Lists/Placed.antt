-- What greening an action does to the ids of the green list, and what red and green do to the cuts, if the action is its creator's next or is held.
use Prim.Native.Nat.{ℕ, ◌+◌, ◌≤◌, ◌<◌, max}
use mathlib.Core.Path.{◌≡◌, refl, sym, ap, ◌∙◌}
use mathlib.Core.Bool.{false}
use mathlib.Core.List.{List, [], ◌∷◌, ◌++◌, Memᴰ}
use native.Mathlib.Omega.{arith}
use native.Mathlib.Decide.{dec_le}
use lib.ListN.{length, get_or}
use Rattle.base.proofs.TestLaws.{pick_yes, pick_no, both_yes, and_no, eq_yes, eq_no, eq_fails, le_yes, le_no}
use Rattle.base.proofs.CountLaws.{one_yes}
use Rattle.format.specs.Types.{Id, Action}
use Rattle.replication.specs.Machine.Types.{Log}
use Rattle.replication.specs.Machine.Colours.{cut, next_index, is_next, enter, red, green, add_id}
use Rattle.replication.specs.Machine.Step.{placed}
use Rattle.replication.specs.Machine.WellFormed.{ids_in}
use Rattle.replication.proofs.WellFormed.Clauses.{held_count}
use Rattle.replication.proofs.WellFormed.Ids.{same_id_yes}
use Rattle.replication.proofs.WellFormed.Held.{Entered, entered, ignored, entered?, held_enter, CutAfter, risen, left, cut-after?}
use Rattle.replication.proofs.Agreement.Lists.Plus.{add_new_lem}
use Rattle.replication.proofs.Agreement.Lists.Fifo.{Fifo, follows_first, follows_second, fifo_within, fifo_before}
use Rattle.replication.proofs.Agreement.Lists.FifoPlus.{with_index}
use Rattle.replication.proofs.Agreement.Lists.Held.{HeldExactly, green_held, green_id_joins, green_id_cuts}

-- An action that is not its creator's next has another index.
not_next : (l : Log) (a : Action) → is_next l a ≡ false → a.id.index ≡ cut l a.id.creator + 1 → ⊥
unfolding is_next next_index
not_next l a e p = eq_fails _ _ e p

-- ---- a retransmission, by its position

pub placed_next : (p : ℕ) (a : Action) (l : Log) → p ≡ length l.green + 1 → placed p a l ≡ green a l
unfolding placed
placed_next p a l e = sym (pick_yes _ _ _ _ (eq_yes p (length l.green + 1) e) refl)

pub placed_below : (p : ℕ) (a : Action) (l : Log) → 1 ≤ p → p ≤ length l.green → placed p a l ≡ l
unfolding placed
placed_below p a l low high =
    sym (pick_no _ _ _ _ (eq_no p (length l.green + 1) (λ e. omega arith)) (pick_yes _ _ _ _ (both_yes _ _ (le_yes 1 p low) (le_yes p _ high)) refl))

-- At position 0 stand the red ones.
pub placed_red : (p : ℕ) (a : Action) (l : Log) → p ≡ 0 → placed p a l ≡ red a l
unfolding placed
placed_red p a l e =
    sym (pick_no _ _ _ _ (eq_no p (length l.green + 1) (λ f. omega arith)) (pick_no _ _ _ _ (sym (and_no _ _ (le_no 1 p (omega arith)))) refl))

-- ---- the green list

module _ (a : Action) (l : Log) (h : HeldExactly l) where
  none_beyond : cut l a.id.creator < a.id.index → held_count a.id l ≡ 0
  none_beyond k = go (dec_le 1 (held_count a.id l))
    where
      go : Dec (1 ≤ held_count a.id l) → held_count a.id l ≡ 0
      go (yes b) = absurd (omega (arith, (h.within a.id b).1))
      go (no b) = omega arith

  -- An action with an index up to the next joins the green list.
  pub green_joins : 1 ≤ a.id.index → a.id.index ≤ cut l a.id.creator + 1 → ids_in (green a l).green ≡ add_id a.id (ids_in l.green)
  unfolding green enter
  green_joins low high = go (entered? a l)
    where
      go : Entered a l → ids_in (green a l).green ≡ add_id a.id (ids_in l.green)
      go (entered next t e) =
          let self = one_yes _ (same_id_yes a.id a.id refl refl) in
          let held : held_count a.id (enter a l) ≡ 1 = omega (arith, held_enter a l a.id, none_beyond (omega arith), self) in
          rw e (green_id_joins a.id (enter a l) (omega arith) (omega arith))
      go (ignored t e) =
          let other : a.id.index ≡ cut l a.id.creator + 1 → ⊥ = not_next l a t in
          rw e (green_id_joins a.id l (h.once a.id) (h.entered a.id low (omega arith)))

  -- One whose creator's lower ones are all green, and that is not green, is the last green one afterwards.
  pub green_next : 1 ≤ a.id.index → (Memᴰ a.id (ids_in l.green) → ⊥)
      → ((j : ℕ) → 1 ≤ j → j < a.id.index → Memᴰ (with_index a.id j) (ids_in l.green)) → ids_in (green a l).green ≡ ids_in l.green ++ (a.id ∷ [])
  green_next low new f = green_joins low (go (dec_le a.id.index (cut l a.id.creator + 1))) ∙ add_new_lem a.id (ids_in l.green) new
    where
      k : ℕ
      k = cut l a.id.creator + 1

      go : Dec (a.id.index ≤ k) → a.id.index ≤ k
      go (yes b) = b
      go (no b) = absurd (omega (arith, (h.within (with_index a.id k) (green_held _ l (f k (omega arith) (omega arith)))).1))

  -- So the next one of a list in order that the green list begins.
  pub green_in_order : (z : List Id) → Fifo (ids_in l.green ++ (a.id ∷ z)) → ids_in (green a l).green ≡ ids_in l.green ++ (a.id ∷ [])
  green_in_order z p =
      let g = ids_in l.green in
      let next = (follows_second (λ c. 0) g (a.id ∷ z) p).0 in
      green_next (omega (arith, next)) (λ m. omega (arith, next, (fifo_within g a.id (follows_first (λ c. 0) g (a.id ∷ z) p) m).1)) (fifo_before g a.id z p)

-- ---- the cuts

-- The creator's cut rises to the index of an action that is its next, and no other cut changes.
pub red_cut : (a : Action) (l : Log) → a.id.creator < length l.cuts → a.id.index ≤ cut l a.id.creator + 1
    → cut (red a l) a.id.creator ≡ max (cut l a.id.creator) a.id.index
red_cut a l b high = go (entered? a l)
  where
    go : Entered a l → cut (red a l) a.id.creator ≡ max (cut l a.id.creator) a.id.index
    go (entered next t e) = rw e (raised (cut-after? a l a.id.creator b))
      where
        raised : CutAfter a l a.id.creator → cut (enter a l) a.id.creator ≡ max (cut l a.id.creator) a.id.index
        raised (risen c k) = omega arith
        raised (left c k) = absurd (c refl)
    go (ignored t e) = rw e (let other : a.id.index ≡ cut l a.id.creator + 1 → ⊥ = not_next l a t in omega arith)

pub green_cut : (a : Action) (l : Log) (c : ℕ) → cut (green a l) c ≡ cut (red a l) c
unfolding green cut
green_cut a l c = ap (λ k. get_or k c 0) (green_id_cuts a.id (red a l))
