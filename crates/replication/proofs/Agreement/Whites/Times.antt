-- What a server has learned comes from configurations no later than its last.
use Prim.Native.Nat.{ℕ, zero, suc, ◌≤◌, ◌<◌, max}
use mathlib.Core.Path.{◌≡◌, refl, sym, ap, subst, ◌∙◌}
use mathlib.Core.List.{List, Memᴰ}
use mathlib.Core.Option.{some}
use native.Mathlib.Omega.{arith}
use native.Mathlib.Decide.{dec_lt}
use lib.ListN.{length, get_or}
use Rattle.base.proofs.TestLaws.{pick_either}
use Rattle.base.proofs.Prefixes.{begins_length}
use Rattle.base.proofs.Chains.{strong}
use Rattle.base.specs.Lists.{Each}
use Rattle.base.proofs.ListLaws.{each_implied}
use Rattle.format.specs.Types.{Action, Record, action, retransmission, state, cpc, regular, transitional, request, recovery}
use Rattle.replication.specs.Machine.Types.{Configuration, Log, Server, start, with_white}
use Rattle.replication.specs.Machine.Requests.{made_of}
use Rattle.replication.specs.Images.{started}
use Rattle.replication.specs.Laws.Images.{OfBoth}
use Rattle.replication.specs.Runs.Run.{Run, beginning, world_at, place_at}
use Rattle.replication.specs.Runs.Happenings.{Message, is_message, Comes, Takes}
use Rattle.replication.proofs.Runs.Roomy.{Roomy as Allowed}
use Rattle.replication.proofs.Step.Kinds.{part_sent}
use Rattle.replication.proofs.Step.OwnActions.{own_sent}
use Rattle.replication.proofs.Runs.Places.{world_at_start}
use Rattle.replication.proofs.Runs.Shifts.{comes_of}
use Rattle.replication.proofs.Runs.Entries.{Had, had}
use Rattle.replication.proofs.Runs.Deliveries.{Delivery}
use Rattle.replication.proofs.Runs.AllowedTurns.{memory_at, store_at, Acts, Recovers, AllowedTurn, rests, crashes, saves, refuses, recovers, acts, allowed_turn}
use Rattle.replication.proofs.Runs.Sending.{Puts}
use Rattle.replication.proofs.Runs.Order.{time, time_rises, time_before, configuration_time}
use Rattle.replication.proofs.Runs.Origins.{origin}
use Rattle.replication.proofs.Runs.StateOrigins.{puts_among, puts_by}
use Rattle.replication.proofs.Runs.LogActions.{EachIn, carried, each_in, each_after, each_recovered, each_in_implied}
use Rattle.replication.proofs.Runs.Made.{Made, made_later, made_by, own_made, resent_in_lem}
use Rattle.replication.proofs.Runs.ControlPart.{store_grows_between}
use Rattle.replication.proofs.Agreement.Votes.Known.{time_up_to}
use Rattle.replication.proofs.Agreement.Greens.Taking.{takes_stored}

module _ {n q : ℕ} {l : Run} (A : Allowed n q l) where
  -- All that u took before p is earlier than T.
  abbrev pub Ahead : ℕ → ℕ → ℕ → Type 0
  Ahead p u T = (x : ℕ) (d : Configuration) → x < p → Takes n q l x u d → time A x < T

  pub ahead_earlier : {p r u T : ℕ} → r ≤ p → Ahead p u T → Ahead r u T
  ahead_earlier h a x d k t = a x d (omega arith) t

  pub ahead_taking : {w k : ℕ} {c : Configuration} → Takes n q l w k c → Ahead w k (time A w)
  ahead_taking t x d h u = time_rises A (comes_of u) (comes_of t) h

  -- Who has a configuration that u has had.
  pub ahead_member : {p u r v T : ℕ} {c : Configuration} → Ahead p u T → (place_at n q l u p).regular ≡ some c → (place_at n q l v r).regular ≡ some c → Ahead r v T
  ahead_member {p} {u} {r} {v} {T} {c} a e f x d h t = go (dec_lt z.took_at x)
    where
      y : Had n q l u p c
      y = had n q l p u c e

      z : Had n q l v r c
      z = had n q l r v c f

      go : Dec (z.took_at < x) → time A x < T
      go (yes k) = absurd (z.alone x d k h t)
      go (no k) =
          omega (arith, time_up_to A (comes_of t) (comes_of z.took) (omega arith), configuration_time A z.took y.took, a y.took_at c y.earlier y.took)

  -- An action that its maker made before it took anything as late as T.
  pub record Fresh (T p : ℕ) (a : Action) : Type 0 where
    pub made : Made A p a
    pub ahead : Ahead made.place made.server T

  fresh_later : {T p r : ℕ} (h : p ≤ r) (a : Action) → Fresh T p a → Fresh T r a
  unfolding made_later
  fresh_later h a x = record { made = made_later A h x.made; ahead = x.ahead }

  each_fresh_later : {T : ℕ} (p r : ℕ) (m : Log) → p ≤ r → EachIn (Fresh T p) m → EachIn (Fresh T r) m
  each_fresh_later {T} p r m h = each_in_implied (Fresh T p) (Fresh T r) (fresh_later h) m

  module _ (T : ℕ) where
    own_fresh : (p i : ℕ) (x : Acts n q l p i) (u : List ℕ) → x.by.event ≡ request u → Ahead p i T → Fresh T (suc p) (made_of u (memory_at n q l p i))
    unfolding own_made
    own_fresh p i x u e h = record { made = own_made A p i x u e; ahead = h }

    put_fresh : (v k j : ℕ) (c : Configuration) (r : Record) (x : Puts A v k j c r) → Ahead v k T → EachIn (Fresh T (suc v)) (memory_at n q l (suc v) k).log
        → Each (Fresh T (suc v)) (carried r)
    put_fresh v k j c (action a) x g h =
        let w = (own_sent (puts_by A x) a (puts_among A x)).0 in
        (each_in (Fresh T (suc v)) _ (subst (λ t. EachIn (Fresh T (suc v)) t.log) x.act.memory_next h).own a w.listed, tt)
    put_fresh v k j c (retransmission w p a) x g h =
        (resent_in_lem (Fresh T (suc v)) _ _ _ _ w p a (subst (λ t. EachIn (Fresh T (suc v)) t.log) x.act.memory_next h) (part_sent (puts_by A x) w p a (puts_among A x)).planned, tt)
    put_fresh v k j c (state y) x g h = tt
    put_fresh v k j c (cpc w y) x g h = tt
    put_fresh v k j c (regular w y) x g h = tt
    put_fresh v k j c (transitional y) x g h = tt
    put_fresh v k j c (request y) x g h = tt
    put_fresh v k j c recovery x g h = tt

    abbrev AllFresh : ℕ → Type 0
    AllFresh p = (u : ℕ) → Ahead p u T → OfBoth (λ s. EachIn (Fresh T p) s.log) ((world_at n q l p).images u)

    delivery_fresh : (p i : ℕ) → ((x : ℕ) → x ≤ p → AllFresh x) → Ahead p i T → (m : Message) (d : Delivery A p i m) → Each (Fresh T p) (carried d.what)
    delivery_fresh p i h a m d =
        let o = origin A d in
        let g : Ahead (suc m.sending) o.sender T = ahead_member a o.here (ap (λ z. z.regular) o.puts.in_regular_lem) in
        each_implied (Fresh T (suc m.sending)) (Fresh T p) (fresh_later o.earlier) (carried d.what)
        (put_fresh m.sending o.sender m.number o.configuration d.what o.puts (ahead_earlier (omega arith) g)
        (h (suc m.sending) o.earlier o.sender g).memory)

    carried_fresh : (p i : ℕ) → ((x : ℕ) → x ≤ p → AllFresh x) → Ahead p i T → (r : Record) → Comes n q l p i r → Each (Fresh T p) (carried r)
    unfolding is_message
    carried_fresh p i h g (action a) c = delivery_fresh p i h g (A.allowed.source p) (record { what = action a; comes = c; message = refl; which = refl })
    carried_fresh p i h g (retransmission k u a) c = delivery_fresh p i h g (A.allowed.source p) (record { what = retransmission k u a; comes = c; message = refl; which = refl })
    carried_fresh p i h g (state y) c = tt
    carried_fresh p i h g (cpc k u) c = tt
    carried_fresh p i h g (regular k u) c = tt
    carried_fresh p i h g (transitional u) c = tt
    carried_fresh p i h g (request u) c = tt
    carried_fresh p i h g recovery c = tt

    start_fresh : (i : ℕ) → EachIn (Fresh T 0) (start n q i).log
    unfolding start
    start_fresh i = record { green = tt; red = tt; own = tt }

    all_fresh_next : (p i : ℕ) → ((x : ℕ) → x ≤ p → AllFresh x) → Ahead (suc p) i T → AllowedTurn n q l p i
        → OfBoth (λ s. EachIn (Fresh T (suc p)) s.log) ((world_at n q l (suc p)).images i)
    all_fresh_next p i h a t = go t
      where
        now : Ahead p i T
        now = ahead_earlier (omega arith) a

        before : OfBoth (λ s. EachIn (Fresh T (suc p)) s.log) ((world_at n q l p).images i)
        before = let b = h p (omega arith) i now in record { memory = each_fresh_later p (suc p) _ (omega arith) b.memory; store = each_fresh_later p (suc p) _ (omega arith) b.store }

        same : (world_at n q l (suc p)).images i ≡ (world_at n q l p).images i → OfBoth (λ s. EachIn (Fresh T (suc p)) s.log) ((world_at n q l (suc p)).images i)
        same m = subst (OfBoth (λ s. EachIn (Fresh T (suc p)) s.log)) (sym m) before

        go : AllowedTurn n q l p i → OfBoth (λ s. EachIn (Fresh T (suc p)) s.log) ((world_at n q l (suc p)).images i)
        go (rests o m c d) = same m
        go (crashes x m c d) = same m
        go (saves x m c d u) = subst (OfBoth (λ s. EachIn (Fresh T (suc p)) s.log)) (sym m) (record { memory = before.memory; store = before.memory })
        go (refuses x) = same x.images_next
        go (recovers x) =
            let r = each_recovered (Fresh T (suc p)) _ before.store in
            record {
              memory = subst (λ s. EachIn (Fresh T (suc p)) s.log) (sym x.memory_next) r;
              store = subst (λ s. EachIn (Fresh T (suc p)) s.log) (sym x.store_next) r;
            }
        go (acts x) =
            let c = carried_fresh p i h now x.by.event (record { bytes = x.bytes; sent = x.sent; here = x.here; heard = x.heard }) in
            let r = each_after (Fresh T (suc p)) x.moves before.memory (each_implied (Fresh T p) (Fresh T (suc p)) (fresh_later (omega arith)) (carried x.by.event) c) (λ u e. own_fresh p i x u e now) in
            record {
              memory = subst (λ s. EachIn (Fresh T (suc p)) s.log) (sym x.memory_next) r;
              store =
                  subst (λ s. EachIn (Fresh T (suc p)) s.log) (sym x.store_next)
                  (pick_either (λ s. EachIn (Fresh T (suc p)) s.log) x.stores (with_white x.white x.after) (store_at n q l p i) r before.store);
            }

    pub fresh : (p u : ℕ) → Ahead p u T → OfBoth (λ s. EachIn (Fresh T p) s.log) ((world_at n q l p).images u)
    unfolding beginning started
    fresh = strong AllFresh (λ p h. go p h)
      where
        go : (p : ℕ) → ((x : ℕ) → x < p → AllFresh x) → AllFresh p
        go zero h i a = subst (λ w. OfBoth (λ s. EachIn (Fresh T 0) s.log) (w.images i)) (sym (world_at_start n q l)) (record { memory = start_fresh i; store = start_fresh i })
        go (suc p) h i a = all_fresh_next p i (λ x k. h x (omega arith)) a (allowed_turn A p i)

    -- What a record that comes carries.
    pub delivered_fresh : (p i : ℕ) → Ahead p i T → (r : Record) → Comes n q l p i r → Each (Fresh T p) (carried r)
    delivered_fresh p i a r c = carried_fresh p i (λ x h u b. fresh x u b) a r c

  -- ---- white and noted lengths

  -- Where the white length of t comes from, these bodies being read.
  pub data WhiteFrom (s t : Server) (bodies : List Action) : Type 0 where
    kept : t.white ≤ s.white → WhiteFrom s t bodies
    by_body : (a : Action) → Memᴰ a bodies → t.white ≤ a.white_length → WhiteFrom s t bodies
    by_noted : ((k : ℕ) → k < n → t.white ≤ get_or t.noted k 0) → WhiteFrom s t bodies

  pub data NotedFrom (p i k : ℕ) (s t : Server) (bodies : List Action) : Type 0 where
    as_before : get_or t.noted k 0 ≤ get_or s.noted k 0 → NotedFrom p i k s t bodies
    by_action : (a : Action) → Memᴰ a bodies → a.id.creator ≡ k → get_or t.noted k 0 ≤ max (get_or s.noted k 0) a.green_length → NotedFrom p i k s t bodies
    by_end : (c : Configuration) (f : ℕ) → (place_at n q l i p).regular ≡ some c → Takes n q l f k c → f < p
        → get_or t.noted k 0 ≤ max (get_or s.noted k 0) (length (memory_at n q l (suc f) k).log.green) → NotedFrom p i k s t bodies

  -- What the laws of one step are to give.
  pub record Sources : Type 0 where
    pub acts_white : (p i : ℕ) (x : Acts n q l p i) → WhiteFrom (memory_at n q l p i) (memory_at n q l (suc p) i) (carried x.by.event)
    pub acts_noted : (p i k : ℕ) (x : Acts n q l p i) → k < n → NotedFrom p i k (memory_at n q l p i) (memory_at n q l (suc p) i) (carried x.by.event)
    pub recovers_white : (p i : ℕ) → Recovers n q l p i → WhiteFrom (store_at n q l p i) (memory_at n q l (suc p) i) (store_at n q l p i).log.own
    pub recovers_noted : (p i k : ℕ) → Recovers n q l p i → get_or (memory_at n q l (suc p) i).noted k 0 ≤ get_or (store_at n q l p i).noted k 0
    pub recovers_stores : (p i : ℕ) → Recovers n q l p i → store_at n q l (suc p) i ≡ memory_at n q l (suc p) i
    pub made_white : {p : ℕ} {a : Action} (x : Made A p a) → a.white_length ≤ (memory_at n q l x.place x.server).white
    pub made_green : {p : ℕ} {a : Action} (x : Made A p a) → a.green_length ≤ length (store_at n q l (suc x.place) x.server).log.green
    pub start_white : (i : ℕ) → (start n q i).white ≡ 0
    pub start_noted : (i k : ℕ) → get_or (start n q i).noted k 0 ≡ 0

  module _ (L : Sources) (w k : ℕ) (c0 : Configuration) (took : Takes n q l w k c0) (inn : k < n) where
    -- The green length that k has on taking c0.
    abbrev most : ℕ
    most = length (memory_at n q l (suc w) k).log.green

    stored_most : (f : ℕ) → f ≤ w → length (store_at n q l (suc f) k).log.green ≤ most
    stored_most f h =
        omega (arith, begins_length _ _ (store_grows_between n q l k (suc f) (suc w) (omega arith)).greens, ap (λ s. length s.log.green) (takes_stored A took))

    pub body_green : {p : ℕ} {a : Action} → Fresh (time A w) p a → a.id.creator ≡ k → a.green_length ≤ most
    body_green {p} {a} x e = go (dec_lt w x.made.place)
      where
        mine : x.made.server ≡ k
        mine = sym (made_by A x.made) ∙ e

        go : Dec (w < x.made.place) → a.green_length ≤ most
        go (yes h) = absurd (omega (arith, x.ahead w c0 h (subst (λ j. Takes n q l w j c0) (sym mine) took)))
        go (no h) =
            omega (arith, L.made_green x.made, ap (λ j. length (store_at n q l (suc x.made.place) j).log.green) mine, stored_most x.made.place (omega arith))

    abbrev Below : Server → Type 0
    Below s = (s.white ≤ most) × (get_or s.noted k 0 ≤ most)

    abbrev AllBelow : ℕ → Type 0
    AllBelow p = (u : ℕ) → Ahead p u (time A w) → OfBoth Below ((world_at n q l p).images u)

    body_white : {p : ℕ} {a : Action} → ((x : ℕ) → x < p → AllBelow x) → Fresh (time A w) p a → a.white_length ≤ most
    body_white h x = omega (arith, L.made_white x.made, (h x.made.place x.made.earlier x.made.server x.ahead).memory.0)

    below_next : (p i : ℕ) → ((x : ℕ) → x ≤ p → AllBelow x) → Ahead (suc p) i (time A w) → AllowedTurn n q l p i → OfBoth Below ((world_at n q l (suc p)).images i)
    below_next p i h a t = go t
      where
        now : Ahead p i (time A w)
        now = ahead_earlier (omega arith) a

        before : OfBoth Below ((world_at n q l p).images i)
        before = h p (omega arith) i now

        same : (world_at n q l (suc p)).images i ≡ (world_at n q l p).images i → OfBoth Below ((world_at n q l (suc p)).images i)
        same m = subst (OfBoth Below) (sym m) before

        bodies_fresh : (x : Acts n q l p i) (b : Action) → Memᴰ b (carried x.by.event) → Fresh (time A w) p b
        bodies_fresh x b m =
            each_in (Fresh (time A w) p) (carried x.by.event)
            (delivered_fresh (time A w) p i now x.by.event (record { bytes = x.bytes; sent = x.sent; here = x.here; heard = x.heard })) b m

        noted : (s t : Server) (bs : List Action) → get_or s.noted k 0 ≤ most → ((b : Action) → Memᴰ b bs → Fresh (time A w) p b) → NotedFrom p i k s t bs
            → get_or t.noted k 0 ≤ most
        noted s t bs o f (as_before e) = omega arith
        noted s t bs o f (by_action b m e g) = omega (arith, body_green (f b m) e)
        noted s t bs o f (by_end c y e u j g) =
            let z = had n q l p i c e in
            let r : y < w = time_before A (comes_of u) (comes_of took) (omega (arith, now z.took_at c z.earlier z.took, configuration_time A u z.took)) in
            omega (arith, stored_most y (omega arith), ap (λ v. length v.log.green) (takes_stored A u))

        white : (s t : Server) (bs : List Action) → s.white ≤ most → get_or t.noted k 0 ≤ most → ((b : Action) → Memᴰ b bs → Fresh (time A w) p b)
            → WhiteFrom s t bs → t.white ≤ most
        white s t bs o v f (kept e) = omega arith
        white s t bs o v f (by_body b m e) = omega (arith, body_white (λ x j. h x (omega arith)) (f b m))
        white s t bs o v f (by_noted e) = omega (arith, e k inn)

        go : AllowedTurn n q l p i → OfBoth Below ((world_at n q l (suc p)).images i)
        go (rests o m c d) = same m
        go (crashes x m c d) = same m
        go (saves x m c d u) = subst (OfBoth Below) (sym m) (record { memory = before.memory; store = before.memory })
        go (refuses x) = same x.images_next
        go (recovers x) =
            let v : get_or (memory_at n q l (suc p) i).noted k 0 ≤ most = omega (arith, L.recovers_noted p i k x, before.store.1) in
            let own = (fresh (time A w) p i now).store.own in
            let u = white _ _ _ before.store.0 v (λ b m. each_in (Fresh (time A w) p) (store_at n q l p i).log.own own b m) (L.recovers_white p i x) in
            record { memory = (u, v); store = subst Below (sym (L.recovers_stores p i x)) (u, v) }
        go (acts x) =
            let v = noted _ _ _ before.memory.1 (bodies_fresh x) (L.acts_noted p i k x inn) in
            let u = white _ _ _ before.memory.0 v (bodies_fresh x) (L.acts_white p i x) in
            let r : Below (memory_at n q l (suc p) i) = (u, v) in
            record {
              memory = r;
              store =
                  subst Below (sym x.store_next)
                  (pick_either Below x.stores (with_white x.white x.after) (store_at n q l p i) (subst Below x.memory_next r) before.store);
            }

    -- Whoever took nothing as late as c0 has no white length above k's green length on taking c0, and noted none above it.
    pub below_taking : (p u : ℕ) → Ahead p u (time A w) → OfBoth Below ((world_at n q l p).images u)
    unfolding beginning started
    below_taking = strong AllBelow (λ p h. go p h)
      where
        first : (i : ℕ) → Below (start n q i)
        first i = (omega (arith, L.start_white i), omega (arith, L.start_noted i k))

        go : (p : ℕ) → ((x : ℕ) → x < p → AllBelow x) → AllBelow p
        go zero h i a = subst (λ z. OfBoth Below (z.images i)) (sym (world_at_start n q l)) (record { memory = first i; store = first i })
        go (suc p) h i a = below_next p i (λ x j. h x (omega arith)) a (allowed_turn A p i)

    -- So whoever takes c0 too: before it takes it.
    pub below_at_taking : (e i : ℕ) → Takes n q l e i c0 → OfBoth Below ((world_at n q l e).images i)
    below_at_taking e i t = below_taking e i (λ x d h u. omega (arith, ahead_taking t x d h u, configuration_time A t took))
