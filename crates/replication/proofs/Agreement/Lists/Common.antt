-- The ids common to several lists, in the order of the first: what begins each list joined to a beginning of g begins g joined with the common ids.
use mathlib.Core.Path.{◌≡◌, refl}
use mathlib.Core.Bool.{true}
use mathlib.Core.List.Memᴰ
use mathlib.Core.List.{List, [], ◌∷◌, Memᴰ}
use mathlib.Core.Logic.{◌⊎◌, inl, inr, ⊎_elim}
use Rattle.base.specs.Lists.{all, filter, Begins}
use Rattle.base.proofs.Filters.{all_yes}
use Rattle.base.proofs.Comparable.{Comparable, begins_member}
use Rattle.format.specs.Types.{Id, State}
use Rattle.format.specs.Range.{has_id}
use Rattle.replication.specs.Machine.Exchange.{common_yellow}
use Rattle.replication.proofs.Agreement.Lists.Plus.{plus, Among, within, outside, among?, member_has, plus_from, plus_grown, plus_filtered}

module _ {S : Type 0} (ids : S → List Id) where
  -- The ids of the first list that are in all the others, in its order.
  unfoldable pub common_ids : S → List S → List Id
  common_ids v vs = filter (λ d. all (λ w. has_id d (ids w)) vs) (ids v)

  pub common_begins : (r g : List Id) (v : S) (vs : List S) → Comparable r g
      → ((w : S) → Memᴰ w (v ∷ vs) → (h : List Id) × Begins h g × Begins r (plus h (ids w))) → Begins r (plus g (common_ids v vs))
  unfolding common_ids
  common_begins r g v vs c f =
      let p = f v (Memᴰ.head refl) in
      plus_filtered (λ d. all (λ w. has_id d (ids w)) vs) r g (ids v) (plus_grown r p.0 g (ids v) p.2 p.1 c) (λ d m. go d m (among? d g))
    where
      go : (d : Id) → Memᴰ d r → Among d g → Memᴰ d g ⊎ (all (λ w. has_id d (ids w)) vs ≡ true)
      go d m (within k e) = inl k
      go d m (outside k e) = inr (all_yes (λ w. has_id d (ids w)) vs (λ w n. had w (f w (Memᴰ.tail n))))
        where
          had : (w : S) → (h : List Id) × Begins h g × Begins r (plus h (ids w)) → has_id d (ids w) ≡ true
          had w p =
              ⊎_elim (λ z. absurd (k (begins_member p.0 g d p.1 z))) (λ z. member_has d (ids w) z)
              (plus_from p.0 (ids w) d (begins_member r (plus p.0 (ids w)) d p.2 m))

-- The yellow ids that several States give.
pub yellow_begins : (r g : List Id) (xs : List State) (x : State) → Memᴰ x xs → Comparable r g
    → ((w : State) → Memᴰ w xs → (h : List Id) × Begins h g × Begins r (plus h w.yellow.ids)) → Begins r (plus g (common_yellow xs).ids)
unfolding common_yellow common_ids
yellow_begins r g [] x m c f = absurd (Memᴰ.not-nil m)
yellow_begins r g (v ∷ vs) x m c f = common_begins (λ w. w.yellow.ids) r g v vs c f
