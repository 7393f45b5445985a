-- A list in order stays in order when another joins that is in order behind a part of it, less what is left out of that by a test that keeps the lower ids of each
-- creator; so when the ids common to several such lists join.
use Prim.Native.Nat.{ℕ, ◌≤◌, ◌<◌}
use mathlib.Core.Path.{◌≡◌, refl, sym, ap, subst, ◌∙◌}
use mathlib.Core.Bool.{Bool, true}
use mathlib.Core.List.{List, [], ◌∷◌, Memᴰ}
use mathlib.Core.Logic.{◌⊎◌, inl, inr, ⊎_elim}
use native.Mathlib.Omega.{arith}
use Rattle.base.specs.Tests.{pick}
use Rattle.base.proofs.TestLaws.{not_both, Known, holds, fails, known}
use Rattle.base.specs.Lists.{all, filter, Begins}
use Rattle.base.proofs.Filters.{filter_all, all_yes, all_member}
use Rattle.base.proofs.Comparable.{begins_member}
use Rattle.format.specs.Types.{Id, State}
use Rattle.format.specs.Range.{has_id}
use Rattle.replication.specs.Machine.Types.{no_yellow}
use Rattle.replication.specs.Machine.Colours.{add_id}
use Rattle.replication.specs.Machine.Exchange.{common_yellow}
use Rattle.replication.specs.Laws.Folds.{add_ids}
use Rattle.replication.proofs.WellFormed.Ids.{has_member}
use Rattle.replication.proofs.Agreement.Lists.Plus.{plus, Among, within, outside, among?, member_has, add_there, add_new_lem, add_begins, add_has, add_from, plus_begins, plus_joins, plus_from}
use Rattle.replication.proofs.Agreement.Lists.Common.{common_ids}
pub use Rattle.replication.proofs.Agreement.Lists.Fifo.{with_index}
use Rattle.replication.proofs.Agreement.Lists.Fifo.{Fifo, begins_fifo, fifo_within, fifo_lower, fifo_next}

-- An id joins whose creator's lower ones are all there.
pub fifo_add : (g : List Id) (d : Id) → Fifo g → 1 ≤ d.index → ((j : ℕ) → 1 ≤ j → j < d.index → Memᴰ (with_index d j) g) → Fifo (add_id d g)
fifo_add g d h low f = go (among? d g)
  where
    go : Among d g → Fifo (add_id d g)
    go (within m e) = subst Fifo (sym (add_there d g m)) h
    go (outside n e) = subst Fifo (sym (add_new_lem d g n)) (fifo_next g d h n low f)

-- y joins a, less what fails the test t. It is in order behind g; what passes and is in g is in a; of what passes the lower ones pass or are in a.
pub fifo_filtered : (t : Id → Bool) (a g y : List Id) → Fifo a → Fifo (plus g y) → ((e : Id) → Memᴰ e g → t e ≡ true → Memᴰ e a)
    → ((d : Id) (j : ℕ) → t d ≡ true → 1 ≤ j → j < d.index → Memᴰ (with_index d j) a ⊎ (t (with_index d j) ≡ true)) → Fifo (plus a (filter t y))
unfolding plus add_ids filter pick
fifo_filtered t a g [] p q f h = p
fifo_filtered t a g (d ∷ y) p q f h = go (known (t d)) (λ b r k l. fifo_filtered t b (add_id d g) y r q k l)
  where
    front : Fifo (add_id d g)
    front = begins_fifo (add_id d g) (plus (add_id d g) y) (plus_begins (add_id d g) y) q

    go : Known (t d)
        → ((b : List Id) → Fifo b → ((e : Id) → Memᴰ e (add_id d g) → t e ≡ true → Memᴰ e b)
        → ((e : Id) (j : ℕ) → t e ≡ true → 1 ≤ j → j < e.index → Memᴰ (with_index e j) b ⊎ (t (with_index e j) ≡ true)) → Fifo (plus b (filter t y)))
        → Fifo (plus a (filter t (d ∷ y)))
    go (fails e) more = rw e (more a p (λ x m k. ⊎_elim (λ z. f x z k) (λ z. not_both (sym e ∙ ap t (sym z) ∙ k)) (add_from d x g m)) h)
    go (holds e) more =
        rw e (more (add_id d a) (fifo_add a d p (fifo_within (add_id d g) d front (add_has d g)).0 lower) joined
        (λ x j k l m. ⊎_elim (λ z. inl (kept (with_index x j) z)) (λ z. inr z) (h x j k l m)))
      where
        kept : (x : Id) → Memᴰ x a → Memᴰ x (add_id d a)
        kept x m = begins_member a (add_id d a) x (add_begins d a) m

        lower : (j : ℕ) → 1 ≤ j → j < d.index → Memᴰ (with_index d j) a
        lower j low high =
            let there = add_from d (with_index d j) g (fifo_lower (add_id d g) d front (add_has d g) j low (omega arith)) in
            ⊎_elim (λ z. z) (λ z. ⊎_elim (λ m. f (with_index d j) m z) (λ m. absurd (omega (arith, ap (λ x. x.index) m))) there) (h d j e low high)

        joined : (x : Id) → Memᴰ x (add_id d g) → t x ≡ true → Memᴰ x (add_id d a)
        joined x m k = ⊎_elim (λ z. kept x (f x z k)) (λ z. subst (λ w. Memᴰ w (add_id d a)) (sym z) (add_has d a)) (add_from d x g m)

-- What is in order behind g is in order behind a longer list that is in order.
pub fifo_grown : (g h y : List Id) → Fifo h → Fifo (plus g y) → ((e : Id) → Memᴰ e g → Memᴰ e h) → Fifo (plus h y)
fifo_grown g h y p q f =
    subst (λ z. Fifo (plus h z)) (filter_all (λ d. true) y (λ d m. refl)) (fifo_filtered (λ d. true) h g y p q (λ e m k. f e m) (λ d j k l m. inr refl))

module _ {S : Type 0} (ids : S → List Id) where
  pub common_fifo : (g : List Id) (v : S) (vs : List S) → Fifo g → ((w : S) → Memᴰ w (v ∷ vs) → (h : List Id) × Begins h g × Fifo (plus h (ids w)))
      → Fifo (plus g (common_ids ids v vs))
  unfolding common_ids
  common_fifo g v vs p f =
      let b = f v (Memᴰ.head refl) in
      fifo_filtered (λ d. all (λ w. has_id d (ids w)) vs) g b.0 (ids v) p b.2 (λ e m k. begins_member b.0 g e b.1 m)
      (λ d j k low high. go d j k low high (among? (with_index d j) g))
    where
      go : (d : Id) (j : ℕ) → all (λ w. has_id d (ids w)) vs ≡ true → 1 ≤ j → j < d.index → Among (with_index d j) g
          → Memᴰ (with_index d j) g ⊎ (all (λ w. has_id (with_index d j) (ids w)) vs ≡ true)
      go d j k low high (within m e) = inl m
      go d j k low high (outside n e) = inr (all_yes (λ w. has_id (with_index d j) (ids w)) vs (λ w m. had w m (f w (Memᴰ.tail m))))
        where
          had : (w : S) → Memᴰ w vs → (h : List Id) × Begins h g × Fifo (plus h (ids w)) → has_id (with_index d j) (ids w) ≡ true
          had w m b =
              let here = has_member d (ids w) (all_member (λ x. has_id d (ids x)) vs w k m) in
              let lower = fifo_lower (plus b.0 (ids w)) d b.2 (plus_joins b.0 (ids w) d here) j low (omega arith) in
              ⊎_elim (λ z. absurd (n (begins_member b.0 g (with_index d j) b.1 z))) (λ z. member_has (with_index d j) (ids w) z)
              (plus_from b.0 (ids w) (with_index d j) lower)

-- The yellow ids that several States give.
pub yellow_fifo : (g : List Id) (xs : List State) → Fifo g → ((w : State) → Memᴰ w xs → (h : List Id) × Begins h g × Fifo (plus h w.yellow.ids))
    → Fifo (plus g (common_yellow xs).ids)
unfolding common_yellow common_ids no_yellow plus add_ids
yellow_fifo g [] p f = p
yellow_fifo g (v ∷ vs) p f = common_fifo (λ w. w.yellow.ids) g v vs p f
