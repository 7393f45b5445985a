-- Each beginning of an allowed run is allowed.
use Prim.Native.Nat.{ℕ, ◌≤◌, ◌<◌}
use mathlib.Core.Path.{◌≡◌, sym, ap, subst, ◌∙◌}
use mathlib.Core.Bool.{true, false}
use mathlib.Core.List.{List}
use mathlib.Core.Option.{Option, some}
use native.Mathlib.Omega.{arith}
use lib.ListN.{length, take}
use Rattle.base.specs.Lists.{at}
use Rattle.base.proofs.AtLaws.{at_in_take, some_same}
use Rattle.base.specs.Sets.{in_set}
use Rattle.format.specs.Types.{Record, transitional, recovery}
use Rattle.replication.specs.Machine.Types.{Configuration}
use Rattle.replication.specs.Runs.Run.{event, store, Run, members, world_at, place_at, put_out, sent_at}
use Rattle.replication.specs.Runs.Happenings.{Message, is_message, Configured, entry_at, sending_of, Comes, Falls, BehindCut, gone_down, unsent_request, Takes, Left, Sends, Delivers, Delivered, Passes, Causes}
use Rattle.replication.specs.Runs.Allowed.{Allowed}
use Rattle.replication.proofs.Runs.Beginnings as B
use Rattle.replication.proofs.Runs.Deliveries.{where_sent, sending_before, delivery_before_leaving}

module _ (n q : ℕ) (l : Run) (A : Allowed n q l) (k : ℕ) where
  place_same : (i p : ℕ) → p < k → place_at n q (take k l) i p ≡ place_at n q l i p
  place_same i p h = B.place_in_lem n q l k i p (omega arith)

  regular_same : (i p : ℕ) (c : Option Configuration) → p < k → (place_at n q (take k l) i p).regular ≡ c → (place_at n q l i p).regular ≡ c
  regular_same i p c h e = sym (ap (λ x. x.regular) (place_same i p h)) ∙ e

  genuine : (p i x : ℕ) (e : List ℕ) (r : Record) → at (take k l) p ≡ some (event i e x) → Comes n q (take k l) p i r → is_message r ≡ true
      → ((A.source p).sending < p) × (at (sent_at n q (take k l) (A.source p).sending) (A.source p).number ≡ some e)
  genuine p i x e r h c m =
      let g = A.genuine p i x e r (at_in_take k l p _ h).1 (B.comes_whole n q l k c) m in
      (g.0, ap (λ s. at s (A.source p).number) (B.sent_in_lem n q l k (A.source p).sending (omega (arith, g.0, B.comes_low n q l k c))) ∙ g.1)

  cut_by_crash : (p r i x m : ℕ) (e f : List ℕ) → at (take k l) p ≡ some (event i e x) → x < length (put_out n q (take k l) p) → p < r
      → at (take k l) r ≡ some (event i f m) → BehindCut n q (take k l) p r i
  cut_by_crash p r i x m e f h o a g =
      let z = at_in_take k l p _ h in
      go (A.cut_by_crash p r i x m e f z.1 (subst (λ s. x < length s) (B.put_out_in n q l k p z.0) o) a w.1)
    where
      w : (r < k) × (at l r ≡ some (event i f m))
      w = at_in_take k l r _ g

      go : BehindCut n q l p r i → BehindCut n q (take k l) p r i
      go (gone_down y c b d) = gone_down y (B.crash_in n q l k y i (omega (arith, w.0)) c) b d
      go (unsent_request y c s) = unsent_request y (B.comes_in n q l k w.0 c) (B.sent_in_lem n q l k r w.0 ∙ s)

  recovers : (p i x : ℕ) (e : List ℕ) → at (take k l) p ≡ some (event i e x) → (world_at n q (take k l) p).down i ≡ true → Comes n q (take k l) p i recovery
  recovers p i x e h d =
      let z = at_in_take k l p _ h in
      B.comes_in n q l k z.0 (A.recovers p i x e z.1 (sym (ap (λ w. w.down i) (B.world_in n q l k p (omega (arith, z.0)))) ∙ d))

  stores_up : (p i : ℕ) → at (take k l) p ≡ some (store i) → (world_at n q (take k l) p).down i ≡ false
  stores_up p i h =
      let z = at_in_take k l p _ h in
      ap (λ w. w.down i) (B.world_in n q l k p (omega (arith, z.0))) ∙ A.stores_up p i z.1

  same_configuration_lem : (p i : ℕ) (m : Message) → Delivers n q (take k l) A.source A.name p i m
      → (j : ℕ) × (c : Configuration) × Sends n q (take k l) j m c × ((place_at n q (take k l) i p).regular ≡ some c)
  same_configuration_lem p i m d =
      let e = B.delivers_whole n q l k A.source A.name d in
      let h = B.delivers_low n q l k A.source A.name d in
      let x = A.same_configuration_lem p i m e in
      (x.0, x.1, B.sends_in_lem n q l k (omega (arith, sending_before A.genuine e)) x.2, ap (λ c. c.regular) (place_same i p h) ∙ x.3)

  one_delivery : (p r i : ℕ) (m : Message) → Delivers n q (take k l) A.source A.name p i m → Delivers n q (take k l) A.source A.name r i m
      → place_at n q (take k l) i p ≡ place_at n q (take k l) i r
  one_delivery p r i m x y =
      place_same i p (B.delivers_low n q l k A.source A.name x)
      ∙ A.one_delivery p r i m (B.delivers_whole n q l k A.source A.name x) (B.delivers_whole n q l k A.source A.name y)
      ∙ sym (place_same i r (B.delivers_low n q l k A.source A.name y))

  one_name : (p r i j s t : ℕ) → Comes n q (take k l) p i (transitional s) → Comes n q (take k l) r j (transitional t) → A.name p ≡ A.name r
      → ((place_at n q (take k l) i p).regular ≡ (place_at n q (take k l) j r).regular) × (s ≡ t)
  one_name p r i j s t x y e =
      let z = A.one_name p r i j s t (B.comes_whole n q l k x) (B.comes_whole n q l k y) e in
      (ap (λ c. c.regular) (place_same i p (B.comes_low n q l k x)) ∙ z.0 ∙ sym (ap (λ c. c.regular) (place_same j r (B.comes_low n q l k y))), z.1)

  -- A duty that the whole run met was met before the server left the configuration.
  met : (i : ℕ) (m : Message) (c : Configuration) (j : ℕ) → Sends n q l j m c → Left n q (take k l) i c → Delivered n q l A.source A.name i m
      → Delivered n q (take k l) A.source A.name i m
  met i m c j s x d =
      let h = delivery_before_leaving A.once d.it (where_sent A.same_configuration_lem d.it s) (B.left_whole n q l k x) in
      record { place = d.place; it = B.delivers_in n q l k A.source A.name (omega (arith, h.1, B.left_low n q l k x)) d.it }

  self_delivery : (i : ℕ) (m : Message) (c : Configuration) → Sends n q (take k l) i m c → Left n q (take k l) i c
      → Delivered n q (take k l) A.source A.name i m
  self_delivery i m c s x =
      let t = B.sends_whole n q l k s in
      met i m c i t x (A.self_delivery i m c t (B.left_whole n q l k x))

  atomic : (i j p r x y z w : ℕ) (m : Message) (c d : Configured) (f : Configuration) → Passes n q (take k l) A.source A.name i c d p r
      → Passes n q (take k l) A.source A.name j c d x y → p < z → z < r → Delivers n q (take k l) A.source A.name z i m
      → y ≤ w → Takes n q (take k l) w j f → ((v : ℕ) → x < v → v < w → Falls n q (take k l) v j → ⊥)
      → (v : ℕ) × Delivers n q (take k l) A.source A.name v j m × (x < v) × (v < y)
  atomic i j p r x y z w m c d f a b g h e o t u =
      let v =
      A.atomic i j p r x y z w m c d f (B.passes_whole n q l k A.source A.name a) (B.passes_whole n q l k A.source A.name b) g h
      (B.delivers_whole n q l k A.source A.name e) o (B.comes_whole n q l k t)
      (λ s aa bb cc'. u s aa bb (B.falls_in_lem n q l k (omega (arith, B.comes_low n q l k t)) cc'))
      in
      (v.0, B.delivers_in n q l k A.source A.name (omega (arith, v.3, B.comes_low n q l k t)) v.1, v.2, v.3)

  causal : (p i j s : ℕ) (m m' : Message) (c : Configuration) → Sends n q (take k l) i m c → Sends n q (take k l) j m' c
      → Causes n q (take k l) A.source A.name (sending_of m) (sending_of m') → Delivers n q (take k l) A.source A.name p s m'
      → (x : ℕ) × Delivers n q (take k l) A.source A.name x s m × (x < p)
  causal p i j s m m' c a b e d =
      let v =
      A.causal p i j s m m' c (B.sends_whole n q l k a) (B.sends_whole n q l k b) (B.causes_whole n q l k A.source A.name e)
      (B.delivers_whole n q l k A.source A.name d)
      in
      (v.0, B.delivers_in n q l k A.source A.name (omega (arith, v.2, B.delivers_low n q l k A.source A.name d)) v.1, v.2)

  agreed : (p r i j s : ℕ) (m m' : Message) (c : Configuration) → Sends n q (take k l) s m c → Delivers n q (take k l) A.source A.name p i m
      → Delivers n q (take k l) A.source A.name r j m' → (place_at n q (take k l) j r).regular ≡ some c → A.ord (entry_at p) < A.ord (entry_at r)
      → in_set s (members (place_at n q (take k l) j r)) ≡ true → (x : ℕ) × Delivers n q (take k l) A.source A.name x j m × (x < r)
  agreed p r i j s m m' c a d e f o t =
      let h = B.delivers_low n q l k A.source A.name e in
      let v =
      A.agreed p r i j s m m' c (B.sends_whole n q l k a) (B.delivers_whole n q l k A.source A.name d)
      (B.delivers_whole n q l k A.source A.name e) (regular_same j r _ h f) o (subst (λ y. in_set s (members y) ≡ true) (place_same j r h) t)
      in
      (v.0, B.delivers_in n q l k A.source A.name (omega (arith, v.2)) v.1, v.2)

  safe : (p i j : ℕ) (m : Message) (c : Configuration) → Delivers n q (take k l) A.source A.name p i m
      → (place_at n q (take k l) i p).regular ≡ some c → in_set j (members (place_at n q (take k l) i p)) ≡ true → Left n q (take k l) j c
      → Delivered n q (take k l) A.source A.name j m
  safe p i j m c d e t x =
      let h = B.delivers_low n q l k A.source A.name d in
      let g = B.delivers_whole n q l k A.source A.name d in
      let f = regular_same i p _ h e in
      let s = A.same_configuration_lem p i m g in
      met j m c s.0 (subst (λ y. Sends n q l s.0 m y) (some_same (sym s.3 ∙ f)) s.2) x
      (A.safe p i j m c g f (subst (λ y. in_set j (members y) ≡ true) (place_same i p h) t) (B.left_whole n q l k x))

  pub prefix_closed : Allowed n q (take k l)
  prefix_closed =
      record {
        source = A.source;
        name = A.name;
        ord = A.ord;
        sizes = A.sizes;
        servers = λ p i o. A.servers p i (B.of_whole n q l k o);
        one_set = λ p r i j c d x y. A.one_set p r i j c d (B.comes_whole n q l k x) (B.comes_whole n q l k y);
        once = λ p r i c x y. A.once p r i c (B.comes_whole n q l k x) (B.comes_whole n q l k y);
        between = λ p i c d x e f.
            let h = B.comes_low n q l k x in
            A.between p i c d (B.comes_whole n q l k x) (regular_same i p _ h e) (sym (ap (λ y. y.transitional) (place_same i p h)) ∙ f);
        one_transitional = λ p i s x.
            ap (λ y. y.transitional) (place_same i p (B.comes_low n q l k x)) ∙ A.one_transitional p i s (B.comes_whole n q l k x);
        genuine = genuine;
        cut_by_crash = cut_by_crash;
        recovers = recovers;
        stores_up = stores_up;
        same_configuration_lem = same_configuration_lem;
        one_delivery = one_delivery;
        one_name = one_name;
        self_delivery = self_delivery;
        atomic = atomic;
        causal = causal;
        rises = λ a b x. A.rises a b (B.precedes_whole n q l k A.source A.name x);
        same_moment = λ p r i j c x y.
            A.same_moment p r i j c (B.configures_whole n q l k A.source A.name x) (B.configures_whole n q l k A.source A.name y);
        same_message_lem = λ p r i j m x y.
            A.same_message_lem p r i j m (B.delivers_whole n q l k A.source A.name x) (B.delivers_whole n q l k A.source A.name y);
        one_order = λ p r i j m m' x y e o.
            A.one_order p r i j m m' (B.delivers_whole n q l k A.source A.name x) (B.delivers_whole n q l k A.source A.name y)
            (sym (ap (λ z. z.regular) (place_same i p (B.delivers_low n q l k A.source A.name x)))
            ∙ e
            ∙ ap (λ z. z.regular) (place_same j r (B.delivers_low n q l k A.source A.name y)))
            o;
        agreed = agreed;
        safe = safe;
      }
