-- What servers deliver in one configuration: in regular c any two agree, and who leaves com(c) has all of it, in the same order.
use Prim.Native.Nat.{ℕ, ◌≤◌}
use mathlib.Core.Path.{◌≡◌, refl, sym, ap, subst, ◌∙◌}
use mathlib.Core.Bool.{Bool, true}
use mathlib.Core.Logic.{◌⊎◌}
use mathlib.Core.Option.{some}
use native.Mathlib.Omega.{arith}
use Rattle.base.specs.Lists.{Begins}
use Rattle.base.proofs.Rising.{Alike, Initial, included_begins, comparable}
use Rattle.replication.specs.Machine.Types.{Configuration}
use Rattle.replication.specs.Runs.Run.{Run, Place}
use Rattle.replication.specs.Runs.Happenings.{Left}
use Rattle.replication.proofs.Runs.Roomy.{Roomy as Allowed}
use Rattle.replication.proofs.Runs.DeliveryFacts.{within, within_regular, delivery_places, delivered}
use Rattle.replication.proofs.Runs.Deliveries.{Delivery}
use Rattle.replication.proofs.Runs.Order.{time, lower_delivered, left_delivered}
use Rattle.replication.proofs.Runs.DeliveryLists.{within_holds, within_yes, within_regular_holds, within_regular_yes, listed, in_list, places_rise}

module _ {n q : ℕ} {l : Run} (A : Allowed n q l) (c : Configuration) where
  -- Tests under which a server has c.
  abbrev Narrow : (Place → Bool) → Type 0
  Narrow t = (x : Place) → t x ≡ true → x.regular ≡ some c

  regular_narrow : Narrow (within_regular c)
  regular_narrow x h = ap (λ y. y.regular) (within_regular_holds c x h)

  com_narrow : Narrow (within c)
  com_narrow x h = within_holds c x h

  alike : (t u : Place → Bool) → Narrow t → Narrow u → (i j p r : ℕ) → Alike A.allowed.source (time A) (delivery_places n q l t i p) (delivery_places n q l u j r)
  alike t u f g i j p r = record {
    numbers = λ a b k m e.
        let x = listed A t i p a k in
        let y = listed A u j r b m in
        A.allowed.same_message_lem a b i j (A.allowed.source a) x.delivery (subst (λ z. Delivery A b j z) (sym e) y.delivery);
    labels = λ a b k m e.
        let x = listed A t i p a k in
        let y = listed A u j r b m in
        A.allowed.one_order a b i j (A.allowed.source a) (A.allowed.source b) x.delivery y.delivery (f _ x.there ∙ sym (g _ y.there)) e;
  }

  -- What is lower than a delivery in regular c, and is delivered at all, was delivered before it.
  regular_initial : (u : Place → Bool) → Narrow u → (i j p r : ℕ)
      → Initial A.allowed.source (time A) (delivery_places n q l (within_regular c) i p) (delivery_places n q l u j r)
  regular_initial u g i j p r a b k m h =
      let x = listed A (within_regular c) i p a k in
      let y = listed A u j r b m in
      let z = lower_delivered A y.delivery (g _ y.there) x.delivery (within_regular_holds c _ x.there) h in
      record {
        element = z.0;
        among = in_list A (within_regular c) i p z.0 _ z.1 (within_regular_yes c _ z.3) (omega (arith, z.2, x.earlier));
        label = z.1.which;
      }

  -- In one regular configuration the messages that two servers have delivered, each at any moment, agree: one list begins the other.
  pub regular_agreement : (i j p r : ℕ)
      → Begins (delivered n q l A.allowed.source (within_regular c) i p) (delivered n q l A.allowed.source (within_regular c) j r)
      ⊎ Begins (delivered n q l A.allowed.source (within_regular c) j r) (delivered n q l A.allowed.source (within_regular c) i p)
  unfolding delivered
  regular_agreement i j p r =
      comparable A.allowed.source (time A) (delivery_places n q l (within_regular c) i p) (delivery_places n q l (within_regular c) j r)
      (places_rise A (within_regular c) i p) (places_rise A (within_regular c) j r) (alike _ _ regular_narrow regular_narrow i j p r)
      (regular_initial _ regular_narrow i j p r) (regular_initial _ regular_narrow j i r p)

  -- A server that has left com(c) has delivered in it, first and in the same order, all that another delivers in regular c.
  pub left_agreement : (i j p r : ℕ) (x : Left n q l j c) → x.r ≤ r
      → Begins (delivered n q l A.allowed.source (within_regular c) i p) (delivered n q l A.allowed.source (within c) j r)
  unfolding delivered
  left_agreement i j p r x h =
      included_begins A.allowed.source (time A) (delivery_places n q l (within_regular c) i p) (delivery_places n q l (within c) j r)
      (places_rise A (within_regular c) i p) (places_rise A (within c) j r) (alike _ _ regular_narrow com_narrow i j p r)
      (regular_initial _ com_narrow i j p r)
      (λ a k.
      let y = listed A (within_regular c) i p a k in
      let z = left_delivered A y.delivery (within_regular_holds c _ y.there) x in
      record {
        element = z.0;
        among = in_list A (within c) j r z.0 _ z.1 (within_yes c _ z.4) (omega (arith, z.3));
        label = z.1.which;
      })

  -- What a server delivers in regular c begins what it delivers in com(c).
  pub regular_begins_com : (i p r : ℕ) → p ≤ r → Begins (delivered n q l A.allowed.source (within_regular c) i p) (delivered n q l A.allowed.source (within c) i r)
  unfolding delivered
  regular_begins_com i p r h =
      included_begins A.allowed.source (time A) (delivery_places n q l (within_regular c) i p) (delivery_places n q l (within c) i r)
      (places_rise A (within_regular c) i p) (places_rise A (within c) i r) (alike _ _ regular_narrow com_narrow i i p r)
      (regular_initial _ com_narrow i i p r)
      (λ a k.
      let y = listed A (within_regular c) i p a k in
      record {
        element = a;
        among = in_list A (within c) i r a _ y.delivery (within_yes c _ (regular_narrow _ y.there)) (omega (arith, y.earlier));
        label = refl;
      })
