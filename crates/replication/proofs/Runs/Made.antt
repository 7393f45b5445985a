-- Every action held, on an own list, sent or resent was made once, by its creator's numbering: an id fixes the action everywhere in a run.
use lib.ListN.{drop}
use Prim.Native.Nat.{ℕ, zero, suc, ◌+◌, ◌-◌, ◌≤◌, ◌<◌}
use mathlib.Core.Path.{◌≡◌, refl, sym, ap, subst, ◌∙◌}
use mathlib.Core.List.Memᴰ
use mathlib.Core.List.{List, [], ◌∷◌, map, Memᴰ}
use native.Mathlib.Omega.{arith}
use native.Mathlib.Decide.{dec_lt}
use Rattle.base.proofs.TestLaws.{pick_either}
use Rattle.base.specs.Lists.{above, after, Each}
use Rattle.base.proofs.AtLaws.{at_among}
use Rattle.base.proofs.Chains.{strong}
use Rattle.base.proofs.ListLaws.{each_append, each_implied}
use Rattle.format.specs.Types.{Action, State, Record, action, retransmission, state, cpc, regular, transitional, request, recovery}
use Rattle.replication.specs.Machine.Types.{Configuration, Log, start, with_white}
use Rattle.replication.specs.Machine.Colours.{places_of}
use Rattle.replication.specs.Machine.Requests.{made_of}
use Rattle.replication.specs.Machine.WellFormed.{ids_in}
use Rattle.replication.specs.Images.{started}
use Rattle.replication.specs.Laws.Images.{OfBoth}
use Rattle.replication.specs.Laws.Transitions.{Transition}
use Rattle.replication.specs.Laws.Sending as P
use Rattle.replication.specs.Laws.Sending.{Own, Resent}
use Rattle.replication.specs.Runs.Run.{Run, beginning, world_at}
use Rattle.replication.specs.Runs.Happenings.{Message, is_message, Comes}
use Rattle.replication.proofs.Runs.Roomy.{Roomy as Allowed}
use Rattle.replication.proofs.Step.Kinds.{part_sent}
use Rattle.replication.proofs.Step.Parts.{held_stands}
use Rattle.replication.proofs.Step.OwnActions.{own_sent, own_raised, request_own}
use Rattle.replication.proofs.WellFormed.Held.{found_fact, each_drop}
use Rattle.replication.proofs.Runs.Places.{world_at_start, of_event}
use Rattle.replication.proofs.Runs.Numbers.{numbers, invariant_at}
use Rattle.replication.proofs.Runs.Deliveries.{Delivery}
use Rattle.replication.proofs.Runs.AllowedTurns.{memory_at, store_at, Acts, AllowedTurn, rests, crashes, saves, refuses, recovers, acts, allowed_turn}
use Rattle.replication.proofs.Runs.ControlPart.{numbered_between}
use Rattle.replication.proofs.Runs.Sending.{Puts}
use Rattle.replication.proofs.Runs.Origins.{origin}
use Rattle.replication.proofs.Runs.StateOrigins.{puts_among, puts_by}
use Rattle.replication.proofs.Runs.LogActions.{EachIn, carried, each_in, each_after, each_recovered, each_in_implied}

-- What is resent is in the log.
pub resent_in_lem : (Q : Action → Type 0) (k w : ℕ) (m : Log) (xs : List State) (j p : ℕ) (a : Action) → EachIn Q m → Resent k w m xs (retransmission j p a) → Q a
unfolding places_of
resent_in_lem Q k w m xs j p a h (P.as_green u b i e f) =
    let z : b ≡ a = cc in subst Q z (each_in Q m.green h.green b (at_among m.green (u - 1) b (held_stands w m u b e)))
resent_in_lem Q k w m xs j p a h (P.as_red c u b i e f) =
    let z : b ≡ a = cc in
    subst Q z
    (found_fact Q _ (places_of w m) b (each_append Q (drop w m.green) m.red (each_drop Q w m.green h.green) h.red) e)

-- In a list whose ids run on from k, an id is of one action.
ids_above : (me k m : ℕ) (xs : List Action) → ids_in xs ≡ map (λ i. record { creator = me; index = i }) (after k m) → (a : Action) → Memᴰ a xs
    → k < a.id.index
unfolding after ids_in
ids_above me k zero [] e a h = absurd (Memᴰ.not-nil h)
ids_above me k (suc m) [] e a h = absurd (Memᴰ.not-nil h)
ids_above me k zero (x ∷ xs) e a h = let z : ◌≡◌ {A = ℕ} 0 1 = cc in absurd (omega arith)
ids_above me k (suc m) (x ∷ xs) e a (Memᴰ.head f) =
    let g : x.id ≡ record { creator = me; index = k + 1 } = cc in
    omega (arith, ap (λ y. y.id.index) f, ap (λ d. d.index) g)
ids_above me k (suc m) (x ∷ xs) e a (Memᴰ.tail h) =
    let g : map (λ y. y.id) xs ≡ map (λ i. record { creator = me; index = i }) (after (k + 1) m) = cc in
    omega (arith, ids_above me (k + 1) m xs g a h)

one_of_id : (me k m : ℕ) (xs : List Action) → ids_in xs ≡ map (λ i. record { creator = me; index = i }) (after k m) → (a b : Action) → Memᴰ a xs
    → Memᴰ b xs → a.id ≡ b.id → a ≡ b
unfolding after ids_in
one_of_id me k (suc m) [] e a b h g i = elim h [ ]
one_of_id me k zero [] e a b h g i = elim h [ ]
one_of_id me k zero (x ∷ xs) e a b h g i = let z : ◌≡◌ {A = ℕ} 0 1 = cc in absurd (omega arith)
one_of_id me k (suc m) (x ∷ xs) e a b (Memᴰ.head f) (Memᴰ.head g) i = f ∙ sym g
one_of_id me k (suc m) (x ∷ xs) e a b (Memᴰ.head f) (Memᴰ.tail g) i =
    let u : x.id ≡ record { creator = me; index = k + 1 } = cc in
    let v : map (λ y. y.id) xs ≡ map (λ i. record { creator = me; index = i }) (after (k + 1) m) = cc in
    absurd (omega (arith, ids_above me (k + 1) m xs v b g, ap (λ d. d.index) u, ap (λ y. y.id.index) f, ap (λ d. d.index) i))
one_of_id me k (suc m) (x ∷ xs) e a b (Memᴰ.tail f) (Memᴰ.head g) i =
    let u : x.id ≡ record { creator = me; index = k + 1 } = cc in
    let v : map (λ y. y.id) xs ≡ map (λ i. record { creator = me; index = i }) (after (k + 1) m) = cc in
    absurd (omega (arith, ids_above me (k + 1) m xs v a f, ap (λ d. d.index) u, ap (λ y. y.id.index) g, ap (λ d. d.index) i))
one_of_id me k (suc m) (x ∷ xs) e a b (Memᴰ.tail f) (Memᴰ.tail g) i =
    let v : map (λ y. y.id) xs ≡ map (λ i. record { creator = me; index = i }) (after (k + 1) m) = cc in
    one_of_id me (k + 1) m xs v a b f g i

module _ {n q : ℕ} {l : Run} (A : Allowed n q l) where
  -- Before p the server i made the action a: it numbered it and put it on its own list.
  pub record Made (p : ℕ) (a : Action) : Type 0 where
    pub place : ℕ
    pub earlier : place < p
    pub server : ℕ
    pub act : Acts n q l place server
    pub payload : List ℕ
    pub asked : act.by.event ≡ request payload
    pub is : a ≡ made_of payload (memory_at n q l place server)
    pub own : Own (memory_at n q l place server) (memory_at n q l (suc place) server) a

  unfoldable pub made_later : {p r : ℕ} {a : Action} → p ≤ r → Made p a → Made r a
  made_later h x = record { place = x.place; earlier = omega (arith, x.earlier); server = x.server; act = x.act; payload = x.payload; asked = x.asked; is = x.is; own = x.own }

  pub made_by : {p : ℕ} {a : Action} (x : Made p a) → a.id.creator ≡ x.server
  made_by x = x.own.creator ∙ (numbers n q x.server l x.place).memory.me

  -- No index is given twice.
  numbered_once : {p r : ℕ} {a b : Action} (x : Made p a) (y : Made r b) → a.id ≡ b.id → x.server ≡ y.server → x.place ≡ y.place
  numbered_once {p} {r} {a} {b} x y e s = go (dec_lt x.place y.place) (dec_lt y.place x.place)
    where
      low : (memory_at n q l y.place x.server).log.numbered < a.id.index
      low = subst (λ k. (memory_at n q l y.place k).log.numbered < a.id.index) (sym s) (omega (arith, y.own.above, ap (λ d. d.index) e))

      high : a.id.index ≤ (memory_at n q l (suc y.place) x.server).log.numbered
      high = subst (λ k. a.id.index ≤ (memory_at n q l (suc y.place) k).log.numbered) (sym s) (omega (arith, y.own.within, ap (λ d. d.index) e))

      go : Dec (x.place < y.place) → Dec (y.place < x.place) → x.place ≡ y.place
      go (yes u) v = absurd (omega (arith, low, x.own.within, numbered_between A x.server (suc x.place) y.place u))
      go (no u) (yes v) = absurd (omega (arith, high, x.own.above, numbered_between A x.server (suc y.place) x.place v))
      go (no u) (no v) = omega arith

  -- An id is of one action.
  pub made_one : {p r : ℕ} {a b : Action} → Made p a → Made r b → a.id ≡ b.id → a ≡ b
  unfolding above
  made_one {p} {r} {a} {b} x y e =
      let s : x.server ≡ y.server = sym (made_by x) ∙ ap (λ d. d.creator) e ∙ made_by y in
      let v = numbered_once x y e s in
      let w = (invariant_at n q x.server A.allowed.sizes (A.allowed.servers x.place x.server (of_event x.act.here)) l (suc x.place)).memory.well_formed_lem.own_list in
      one_of_id _ _ _ (memory_at n q l (suc x.place) x.server).log.own w.ids a b x.own.listed
      (subst (λ k. Memᴰ b (memory_at n q l (suc k) x.server).log.own) (sym v)
      (subst (λ k. Memᴰ b (memory_at n q l (suc y.place) k).log.own) (sym s) y.own.listed))
      e

  -- ---- everything is made

  abbrev AllMade : ℕ → Type 0
  AllMade p = (i : ℕ) → OfBoth (λ s. EachIn (Made p) s.log) ((world_at n q l p).images i)

  unfoldable pub own_made : (p i : ℕ) (x : Acts n q l p i) (u : List ℕ) → x.by.event ≡ request u → Made (suc p) (made_of u (memory_at n q l p i))
  own_made p i x u e = record {
    place = p;
    earlier = omega arith;
    server = i;
    act = x;
    payload = u;
    asked = e;
    is = refl;
    own = subst (λ t. Own (memory_at n q l p i) t (made_of u (memory_at n q l p i))) (sym x.memory_next) (own_raised _ (request_own (subst (λ r. Transition (memory_at n q l p i) r x.after x.by.records x.stores) e x.moves)));
  }

  each_later : (p r : ℕ) (m : Log) → p ≤ r → EachIn (Made p) m → EachIn (Made r) m
  each_later p r m h = each_in_implied (Made p) (Made r) (λ a. made_later h) m

  -- What a record put out carries was made.
  put_made : (v k j : ℕ) (c : Configuration) (r : Record) (x : Puts A v k j c r) → EachIn (Made (suc v)) (memory_at n q l (suc v) k).log
      → Each (Made (suc v)) (carried r)
  put_made v k j c (action a) x h =
      let w = (own_sent (puts_by A x) a (puts_among A x)).0 in
      (each_in (Made (suc v)) _ (subst (λ t. EachIn (Made (suc v)) t.log) x.act.memory_next h).own a w.listed, tt)
  put_made v k j c (retransmission w p a) x h =
      (resent_in_lem (Made (suc v)) _ _ _ _ w p a (subst (λ t. EachIn (Made (suc v)) t.log) x.act.memory_next h) (part_sent (puts_by A x) w p a (puts_among A x)).planned, tt)
  put_made v k j c (state y) x h = tt
  put_made v k j c (cpc w y) x h = tt
  put_made v k j c (regular w y) x h = tt
  put_made v k j c (transitional y) x h = tt
  put_made v k j c (request y) x h = tt
  put_made v k j c recovery x h = tt

  -- What a delivery carries was made.
  delivery_made : (p i : ℕ) → ((x : ℕ) → x ≤ p → AllMade x) → (m : Message) (d : Delivery A p i m) → Each (Made p) (carried d.what)
  delivery_made p i h m d =
      let o = origin A d in
      each_implied (Made (suc m.sending)) (Made p) (λ a. made_later o.earlier) (carried d.what)
      (put_made m.sending o.sender m.number o.configuration d.what o.puts (h (suc m.sending) o.earlier o.sender).memory)

  -- What an event's record carries was made: it carries something only if it is a delivery.
  pub carried_made : (p i : ℕ) → ((x : ℕ) → x ≤ p → AllMade x) → (r : Record) → Comes n q l p i r → Each (Made p) (carried r)
  unfolding is_message
  carried_made p i h (action a) c = delivery_made p i h (A.allowed.source p) (record { what = action a; comes = c; message = refl; which = refl })
  carried_made p i h (retransmission k u a) c = delivery_made p i h (A.allowed.source p) (record { what = retransmission k u a; comes = c; message = refl; which = refl })
  carried_made p i h (state y) c = tt
  carried_made p i h (cpc k u) c = tt
  carried_made p i h (regular k u) c = tt
  carried_made p i h (transitional u) c = tt
  carried_made p i h (request u) c = tt
  carried_made p i h recovery c = tt

  start_made : (i : ℕ) → EachIn (Made 0) (start n q i).log
  unfolding start
  start_made i = record { green = tt; red = tt; own = tt }

  all_made_next : (p i : ℕ) → ((x : ℕ) → x ≤ p → AllMade x) → AllowedTurn n q l p i
      → OfBoth (λ s. EachIn (Made (suc p)) s.log) ((world_at n q l (suc p)).images i)
  all_made_next p i h t = go t
    where
      before : OfBoth (λ s. EachIn (Made (suc p)) s.log) ((world_at n q l p).images i)
      before = let b = h p (omega arith) i in record { memory = each_later p (suc p) _ (omega arith) b.memory; store = each_later p (suc p) _ (omega arith) b.store }

      same : (world_at n q l (suc p)).images i ≡ (world_at n q l p).images i → OfBoth (λ s. EachIn (Made (suc p)) s.log) ((world_at n q l (suc p)).images i)
      same m = subst (OfBoth (λ s. EachIn (Made (suc p)) s.log)) (sym m) before

      go : AllowedTurn n q l p i → OfBoth (λ s. EachIn (Made (suc p)) s.log) ((world_at n q l (suc p)).images i)
      go (rests o m c d) = same m
      go (crashes x m c d) = same m
      go (saves x m c d u) = subst (OfBoth (λ s. EachIn (Made (suc p)) s.log)) (sym m) (record { memory = before.memory; store = before.memory })
      go (refuses x) = same x.images_next
      go (recovers x) =
          let r = each_recovered (Made (suc p)) _ before.store in
          record {
            memory = subst (λ s. EachIn (Made (suc p)) s.log) (sym x.memory_next) r;
            store = subst (λ s. EachIn (Made (suc p)) s.log) (sym x.store_next) r;
          }
      go (acts x) =
          let c = carried_made p i h x.by.event (record { bytes = x.bytes; sent = x.sent; here = x.here; heard = x.heard }) in
          let r =
          each_after (Made (suc p)) x.moves before.memory (each_implied (Made p) (Made (suc p)) (λ a. made_later (omega arith)) (carried x.by.event) c)
          (own_made p i x)
          in
          record {
            memory = subst (λ s. EachIn (Made (suc p)) s.log) (sym x.memory_next) r;
            store =
                subst (λ s. EachIn (Made (suc p)) s.log) (sym x.store_next)
                (pick_either (λ s. EachIn (Made (suc p)) s.log) x.stores (with_white x.white x.after) (store_at n q l p i) r before.store);
          }

  -- Every action in a log, in memory or store, held or on an own list, was made.
  pub all_made : (p i : ℕ) → OfBoth (λ s. EachIn (Made p) s.log) ((world_at n q l p).images i)
  unfolding beginning started
  all_made = strong AllMade (λ p h. go p h)
    where
      go : (p : ℕ) → ((x : ℕ) → x < p → AllMade x) → AllMade p
      go zero h i = subst (λ w. OfBoth (λ s. EachIn (Made 0) s.log) (w.images i)) (sym (world_at_start n q l)) (record { memory = start_made i; store = start_made i })
      go (suc p) h i = all_made_next p i (λ x k. h x (omega arith)) (allowed_turn A p i)

  -- Every action in a record that is put out was made.
  pub sent_made : {v k j : ℕ} {c : Configuration} {r : Record} (x : Puts A v k j c r) → Each (Made (suc v)) (carried r)
  sent_made {v} {k} {j} {c} {r} x = put_made v k j c r x (all_made (suc v) k).memory

  -- Every action in a record that is delivered was made.
  pub delivered_made : {p i : ℕ} {m : Message} (d : Delivery A p i m) → Each (Made p) (carried d.what)
  delivered_made {p} {i} {m} d = delivery_made p i (λ x h. all_made x) m d

  -- ---- an id fixes the action

  pub data InLog (a : Action) (m : Log) : Type 0 where
    green : Memᴰ a m.green → InLog a m
    red : Memᴰ a m.red → InLog a m
    own : Memᴰ a m.own → InLog a m

  -- The action a is somewhere at p: held or on an own list, in a memory or a store; or in a record put out before.
  pub data Known (p : ℕ) (a : Action) : Type 0 where
    in_memory : (i : ℕ) → InLog a (memory_at n q l p i).log → Known p a
    in_store : (i : ℕ) → InLog a (store_at n q l p i).log → Known p a
    put_out_lem : (v k j : ℕ) (c : Configuration) (r : Record) → Puts A v k j c r → v < p → Memᴰ a (carried r) → Known p a

  in_log_made : {p : ℕ} {a : Action} {m : Log} → EachIn (Made p) m → InLog a m → Made p a
  in_log_made {p} {a} {m} h (green x) = each_in (Made p) m.green h.green a x
  in_log_made {p} {a} {m} h (red x) = each_in (Made p) m.red h.red a x
  in_log_made {p} {a} {m} h (own x) = each_in (Made p) m.own h.own a x

  pub known_made : {p : ℕ} {a : Action} → Known p a → Made p a
  known_made {p} (in_memory i x) = in_log_made (all_made p i).memory x
  known_made {p} (in_store i x) = in_log_made (all_made p i).store x
  known_made {p} {a} (put_out_lem v k j c r x h m) = made_later h (each_in (Made (suc v)) (carried r) (sent_made x) a m)

  -- Everywhere in the run, at any two places.
  pub id_fixes_action : {p r : ℕ} {a b : Action} → Known p a → Known r b → a.id ≡ b.id → a ≡ b
  id_fixes_action x y e = made_one (known_made x) (known_made y) e
