-- Consequences of Specifications 1, 2, 5, 6 and 7: the one order of configurations and deliveries, and what a server has delivered by when.
use Prim.Native.Nat.{ℕ, suc, ◌≤◌, ◌<◌}
use mathlib.Core.Path.{◌≡◌, sym, ap, subst, ◌∙◌}
use mathlib.Core.Bool.{true}
use mathlib.Core.Option.{none, some}
use native.Mathlib.Omega.{arith}
use native.Mathlib.Decide.{dec_lt}
use Rattle.base.proofs.TestLaws.{and_holds}
use Rattle.base.proofs.AtLaws.{some_same}
use Rattle.base.specs.Sets.{in_set}
use Rattle.format.specs.Range.{record_ok, fields_ok, own_set_ok}
use Rattle.format.proofs.Reading.{read_in_range}
use Rattle.replication.specs.Machine.Types.{Configuration}
use Rattle.replication.specs.Runs.Run.{Run, Place, heard, members, members_in, place_at, heard_at}
use Rattle.replication.specs.Runs.Happenings.{Message, regularly, entry_at, Of, Takes, Left, Sends, to_regular, in_turn_lem, causes}
use Rattle.replication.proofs.Runs.Roomy.{Roomy as Allowed}
use Rattle.replication.proofs.Runs.Shifts.{comes_of}
use Rattle.replication.proofs.Runs.Entries.{had}
use Rattle.replication.proofs.Runs.Deliveries.{Delivery, delivered_where_sent, delivered_before_leaving}

-- The place of a server whose latest configuration is the regular c.
abbrev pub in_regular_of : Configuration → Place
in_regular_of c = record { regular = some c; transitional = none }

-- A server that takes a configuration is a member of it.
pub taker_member : {n q : ℕ} {l : Run} {p i : ℕ} {c : Configuration} → Takes n q l p i c → in_set i c.set ≡ true
unfolding heard_at heard record_ok fields_ok own_set_ok
taker_member t = let r = and_holds _ _ (and_holds _ _ (read_in_range _ t.bytes _ t.heard)).1 in (and_holds _ _ r.1).1

-- A server that sends in a configuration is a member of it.
pub sender_member : {n q : ℕ} {l : Run} {i : ℕ} {m : Message} {c : Configuration} → Sends n q l i m c → in_set i c.set ≡ true
sender_member {n} {q} {l} {i} {m} {c} s = taker_member (had n q l (suc m.sending) i c s.under).took

module _ {n q : ℕ} {l : Run} (A : Allowed n q l) where
  -- The order number of a place.
  abbrev pub time : ℕ → ℕ
  time p = A.allowed.ord (entry_at p)

  -- Along each server times rise.
  pub time_rises : {p r i : ℕ} → Of l p i → Of l r i → p < r → time p < time r
  time_rises {p} {r} {i} x y h = A.allowed.rises (entry_at p) (entry_at r) (causes (in_turn_lem i x y h))

  pub time_before : {p r i : ℕ} → Of l p i → Of l r i → time p < time r → p < r
  time_before {p} {r} {i} x y h = go (dec_lt p r) (dec_lt r p)
    where
      go : Dec (p < r) → Dec (r < p) → p < r
      go (yes a) b = a
      go (no a) (yes b) = absurd (omega (arith, time_rises y x b))
      go (no a) (no b) = let e : p ≡ r = omega arith in absurd (omega (arith, ap time e))

  -- No message is delivered twice to one server.
  pub delivered_once : {p r i : ℕ} {m : Message} → Delivery A p i m → Delivery A r i m → p ≡ r
  delivered_once {p} {r} {i} {m} d e = go (dec_lt p r) (dec_lt r p)
    where
      same : time p ≡ time r
      same = A.allowed.same_message_lem p r i i m d e

      go : Dec (p < r) → Dec (r < p) → p ≡ r
      go (yes a) b = absurd (omega (arith, same, time_rises (comes_of d.comes) (comes_of e.comes) a))
      go (no a) (yes b) = absurd (omega (arith, same, time_rises (comes_of e.comes) (comes_of d.comes) b))
      go (no a) (no b) = omega arith

  -- A regular configuration has one time.
  pub configuration_time : {p r i j : ℕ} {c : Configuration} → Takes n q l p i c → Takes n q l r j c → time p ≡ time r
  configuration_time {p} {r} {i} {j} {c} t u = A.allowed.same_moment p r i j (regularly c) (to_regular c t) (to_regular c u)

  -- Two servers pass two configurations in one order.
  pub configurations_ordered : {p r x y i j : ℕ} {c d : Configuration} → Takes n q l p i c → Takes n q l r i d → Takes n q l x j c → Takes n q l y j d
      → p < r → x < y
  configurations_ordered t u v w h =
      time_before (comes_of v) (comes_of w) (omega (arith, time_rises (comes_of t) (comes_of u) h, configuration_time t v, configuration_time u w))

  members_regular : (c : Configuration) (x : Place) → x ≡ in_regular_of c → members x ≡ c.set
  unfolding members members_in
  members_regular c x e = ap members e

  -- In c before a moment in regular c, a server is in regular c.
  pub still_regular : (i x p : ℕ) (c : Configuration) → (place_at n q l i x).regular ≡ some c → place_at n q l i p ≡ in_regular_of c → x ≤ p
      → place_at n q l i x ≡ in_regular_of c
  still_regular i x p c e f h =
      let a = had n q l x i c e in
      let b = had n q l p i c (ap (λ y. y.regular) f) in
      let s = A.allowed.once a.took_at b.took_at i c a.took b.took in
      let t = b.not_left (ap (λ y. y.transitional) f) x (omega (arith, s, a.earlier)) h in
      λ j. record { regular = e j; transitional = t j }

  -- Whoever delivers a message in regular c has delivered before it, there, every message of c that is lower in the one order and that any server delivers.
  pub lower_delivered : {p r i j : ℕ} {m m' : Message} {c : Configuration} → Delivery A p i m → (place_at n q l i p).regular ≡ some c → Delivery A r j m'
      → place_at n q l j r ≡ in_regular_of c → time p < time r → (x : ℕ) × Delivery A x j m × (x < r) × (place_at n q l j x ≡ in_regular_of c)
  lower_delivered {p} {r} {i} {j} {m} {m'} {c} d e f g h =
      let s = A.allowed.same_configuration_lem p i m d in
      let t = subst (λ y. Sends n q l s.0 m y) (some_same (sym s.3 ∙ e)) s.2 in
      let x =
      A.allowed.agreed p r i j s.0 m m' c t d f (ap (λ y. y.regular) g) h
      (ap (in_set s.0) (members_regular c _ g) ∙ sender_member t)
      in
      (x.0, x.1, x.2, still_regular j x.0 r c (delivered_where_sent A x.1 t) g (omega (arith, x.2)))

  -- What a server delivers in regular c, each member that leaves com(c) without going down has delivered there by then.
  pub left_delivered : {p i j : ℕ} {m : Message} {c : Configuration} → Delivery A p i m → place_at n q l i p ≡ in_regular_of c
      → (x : Left n q l j c) → (v : ℕ) × Delivery A v j m × (x.p < v) × (v < x.r) × ((place_at n q l j v).regular ≡ some c)
  left_delivered {p} {i} {j} {m} {c} d e x =
      let f = ap (λ y. y.regular) e in
      let g = A.allowed.safe p i j m c d f (ap (in_set j) (members_regular c _ e) ∙ taker_member x.took) x in
      let t = A.allowed.same_configuration_lem p i m d in
      let u = subst (λ y. Sends n q l t.0 m y) (some_same (sym t.3 ∙ f)) t.2 in
      let w = delivered_where_sent A g.it u in
      let h = delivered_before_leaving A g.it w x in
      (g.place, g.it, h.0, h.1, w)
