-- Over any events of one server the actions put out are its own, each with a higher index than those before it: none is put out twice.
use Prim.Native.Nat.{ℕ, ◌+◌, ◌≤◌, ◌<◌}
use mathlib.Core.Path.{◌≡◌, refl, sym, ap, subst, ◌∙◌}
use mathlib.Core.Bool.{Bool, true}
use mathlib.Core.List.{List, [], ◌∷◌, ◌++◌, Memᴰ}
use mathlib.Core.Logic.{◌⊎◌, inl, inr}
use mathlib.Core.Option.{Option, none, some}
use native.Mathlib.Omega.{arith}
use lib.ListN.{length}
use Rattle.base.specs.Lists.{at}
use Rattle.base.proofs.AtLaws.{none_some, at_low, at_among, at_map}
use Rattle.base.proofs.ListLaws.{each_at}
use Rattle.base.proofs.Gathered.{at_either}
use Rattle.format.specs.Types.{Action, Record, Context, action, says}
use Rattle.format.specs.Read.{read}
use Rattle.format.specs.Write.{write}
use Rattle.replication.specs.Machine.Types.{Server, Outcome, refused, taken, with_white}
use Rattle.replication.specs.Machine.Step.{step}
use Rattle.replication.specs.Machine.WellFormed.{well_formed, ids_in}
use Rattle.replication.specs.Machine.Colours.{cut, places_of}
use Rattle.replication.specs.Machine.White.{white_after}
use Rattle.replication.specs.Images.{Images, started, source_of, arrive, left_by, saved_in, lived}
use Rattle.replication.specs.Laws.Images.{OfBoth, next}
use Rattle.replication.specs.Laws.Order.{SameServer, SameControl}
use Rattle.replication.specs.Laws.Sending.{Peer}
use Rattle.replication.specs.Runs.Run.{records_of}
use Rattle.replication.specs.Runs.Requests.{put_out_over, PutsAction, OneTimeOnly, EnteredNotSent}
use Rattle.replication.proofs.Step.Inversion.{taken_by}
use Rattle.replication.proofs.Step.Moves.{moved}
use Rattle.replication.proofs.Step.Growth.{transition_grows}
use Rattle.replication.proofs.Step.Identity.{taken_identity}
use Rattle.replication.proofs.Step.Sending.{puts_out}
use Rattle.replication.proofs.Step.OwnActions.{own_sent}
use Rattle.replication.proofs.Step.Lifts.{source_of_lem, next_each, next_pair, lived_each}
use Rattle.replication.proofs.Step.Control.{control_refl, control_trans, unstored_control}
use Rattle.replication.proofs.WellFormed.Facts.{well_formed_facts}
use Rattle.replication.proofs.WellFormed.Steps.{step_well_formed}
use Rattle.replication.proofs.WellFormed.OwnList.{OwnId, own_ids}
use Rattle.replication.proofs.WellFormed.Reads.{put_out_reads, taken_put_out}
use Rattle.replication.proofs.Runs.Shifts.{says_same}
use Rattle.replication.proofs.Runs.LogActions.{each_in}
use Rattle.replication.proofs.Runs.EnteredSince.{Since, since_itself, since_kept, entered_within}
use Rattle.replication.proofs.Runs.RequestsOrder.{sent_order, sent_rises}

-- ---- records put out, as bytes

module _ (s : Server) where
  -- A server of the same n and q reads these bytes as the action a.
  record ReadsAs (x : List ℕ) (a : Action) : Type 0 where
    pub reader : Context
    pub peer : Peer s reader
    pub reads : read reader x ≡ says (action a)

  -- The actions among these records are the server's own, with indexes above `low` and up to `high` that rise.
  record InOrder (low high : ℕ) (xs : List (List ℕ)) : Type 0 where
    pub rises : low ≤ high
    pub creator : (j : ℕ) (x : List ℕ) (a : Action) → at xs j ≡ some x → ReadsAs x a → a.id.creator ≡ s.me
    pub above : (j : ℕ) (x : List ℕ) (a : Action) → at xs j ≡ some x → ReadsAs x a → low < a.id.index
    pub within : (j : ℕ) (x : List ℕ) (a : Action) → at xs j ≡ some x → ReadsAs x a → a.id.index ≤ high
    pub order : (j k : ℕ) (x y : List ℕ) (a b : Action) → j < k → at xs j ≡ some x → at xs k ≡ some y → ReadsAs x a → ReadsAs y b
        → a.id.index < b.id.index

  nothing_in_order : (k : ℕ) → InOrder k k []
  unfolding at
  nothing_in_order k = record {
    rises = omega arith;
    creator = λ j x a e r. none_some e;
    above = λ j x a e r. none_some e;
    within = λ j x a e r. none_some e;
    order = λ j m x y a b h e f r u. none_some e;
  }

  -- One list behind another.
  module _ (low mid high : ℕ) (xs ys : List (List ℕ)) (p : InOrder low mid xs) (q : InOrder mid high ys) where
    abbrev Stands : ℕ → List ℕ → Type 0
    Stands j x = (at xs j ≡ some x) ⊎ ((k : ℕ) × (j ≡ length xs + k) × (at ys k ≡ some x))

    creator_in : (j : ℕ) (x : List ℕ) (a : Action) → Stands j x → ReadsAs x a → a.id.creator ≡ s.me
    creator_in j x a (inl e) r = p.creator j x a e r
    creator_in j x a (inr e) r = q.creator e.0 x a e.2 r

    above_in : (j : ℕ) (x : List ℕ) (a : Action) → Stands j x → ReadsAs x a → low < a.id.index
    above_in j x a (inl e) r = p.above j x a e r
    above_in j x a (inr e) r = omega (arith, p.rises, q.above e.0 x a e.2 r)

    within_in : (j : ℕ) (x : List ℕ) (a : Action) → Stands j x → ReadsAs x a → a.id.index ≤ high
    within_in j x a (inl e) r = omega (arith, q.rises, p.within j x a e r)
    within_in j x a (inr e) r = q.within e.0 x a e.2 r

    order_in : (j k : ℕ) (x y : List ℕ) (a b : Action) → j < k → Stands j x → Stands k y → ReadsAs x a → ReadsAs y b → a.id.index < b.id.index
    order_in j k x y a b h (inl e) (inl f) r u = p.order j k x y a b h e f r u
    order_in j k x y a b h (inl e) (inr f) r u = omega (arith, p.within j x a e r, q.above f.0 y b f.2 u)
    order_in j k x y a b h (inr e) (inl f) r u = absurd (omega (arith, at_low xs k y f, e.1))
    order_in j k x y a b h (inr e) (inr f) r u = q.order e.0 f.0 x y a b (omega (arith, e.1, f.1)) e.2 f.2 r u

    joined_in_order : InOrder low high (xs ++ ys)
    joined_in_order = record {
      rises = omega (arith, p.rises, q.rises);
      creator = λ j x a e r. creator_in j x a (at_either xs ys j x e) r;
      above = λ j x a e r. above_in j x a (at_either xs ys j x e) r;
      within = λ j x a e r. within_in j x a (at_either xs ys j x e) r;
      order = λ j k x y a b h e f r u. order_in j k x y a b h (at_either xs ys j x e) (at_either xs ys k y f) r u;
    }

  -- ---- one event

  -- A well-formed state of this server.
  abbrev pub Good : Server → Type 0
  Good u = (well_formed u ≡ true) × SameServer s u

  pub good_kept : (u : Server) (e : List ℕ) (t : Server) (bs : List (List ℕ)) (b : Bool) (g : List Action) → step u e ≡ taken t bs b g → Good u → Good t
  good_kept u e t bs b g h (w, i) =
      let k = taken_identity u e t bs b g h in
      (step_well_formed u e t bs b g w h, record { servers = k.servers ∙ i.servers; quota = k.quota ∙ i.quota; me = k.me ∙ i.me })

  module _ (u : Server) (e : List ℕ) (t : Server) (bs : List (List ℕ)) (b : Bool) (g : List Action) (h : step u e ≡ taken t bs b g) (v : Good u) where
    abbrev rs : List Record
    rs = (taken_by u e t bs b g h).records

    -- Bytes put out that are read as an action are that action's.
    meant : (j : ℕ) (x : List ℕ) (a : Action) → at bs j ≡ some x → ReadsAs x a → at rs j ≡ some (action a)
    meant j x a p r =
        let d = taken_by u e t bs b g h in
        let y = at_map write rs j x (subst (λ z. at z j ≡ some x) d.written p) in
        let peer : Peer u r.reader = record { servers = r.peer.servers ∙ sym v.1.servers; quota = r.peer.quota ∙ sym v.1.quota; self = r.peer.self } in
        let w = each_at (λ z. read r.reader (write z) ≡ says z) rs j y.0 (put_out_reads u v.0 r.reader peer rs (taken_put_out u e t bs b g v.0 d)) y.1 in
        let same : y.0 ≡ action a = says_same (sym w ∙ ap (read r.reader) (sym y.2) ∙ r.reads) in
        y.1 ∙ ap some same

    abbrev core : Server
    core = (taken_by u e t bs b g h).core

    good_core : Good (with_white (white_after (taken_by u e t bs b g h).rule u core) core)
    good_core = subst Good (taken_by u e t bs b g h).raise (good_kept u e t bs b g h v)

    own_id_lem : (a : Action) → Memᴰ (action a) rs → OwnId core.me core.log a.id
    own_id_lem a k =
        let o = puts_out u (moved (taken_by u e t bs b g h)).0 in
        each_in (λ x. OwnId core.me core.log x.id) core.log.own (own_ids core.me core.log (well_formed_facts _ good_core.0).own_list) a (own_sent o a k).0.listed

    event_in_order : InOrder u.log.sent t.log.sent bs
    event_in_order =
        let d = taken_by u e t bs b g h in
        let m = (moved d).0 in
        let o = puts_out u m in
        let f = well_formed_facts _ good_core.0 in
        let i = good_core.1 in
        subst (λ w. InOrder u.log.sent w.log.sent bs) (sym d.raise) (record {
          rises = sent_rises o (well_formed_facts u v.0).log.sent (transition_grows m).numbers;
          creator = λ j x a p r. (own_id_lem a (at_among rs j _ (meant j x a p r))).creator ∙ i.me;
          above = λ j x a p r. (own_sent o a (at_among rs j _ (meant j x a p r))).0.above (well_formed_facts u v.0).log.sent;
          within = λ j x a p r.
              let k = at_among rs j _ (meant j x a p r) in omega (arith, (own_id_lem a k).within, (own_sent o a k).0.sent);
          order = λ j k x y a c less p q r w. sent_order o f.own_list j k a c less (meant j x a p r) (meant k y c q w);
        })

  -- ---- over any events

  record Sound (i : Images) : Type 0 where
    pub both : OfBoth Good i
    pub control : SameControl i.store i.memory

  sound_next : (i : Images) (e : List ℕ) → Sound i → Sound (next i e)
  sound_next i e v = record {
    both = next_each Good good_kept i e v.both;
    control = next_pair SameControl control_refl (λ x y f t bs g h p. control_trans p (unstored_control y f t bs g h)) i e v.control;
  }

  arrival_in_order : (i : Images) (e : List ℕ) → Sound i → (o : Outcome (List ℕ)) → arrive i e ≡ o
      → InOrder i.memory.log.sent (left_by o i).memory.log.sent (records_of o)
  unfolding arrive left_by records_of
  arrival_in_order i e v (refused k) h = nothing_in_order _
  arrival_in_order i e v (taken t bs b g) h =
      let f : (source_of i e).log.sent ≡ i.memory.log.sent =
      source_of_lem (λ u. u.log.sent ≡ i.memory.log.sent) i e (sym v.control.sent) refl in
      subst (λ k. InOrder k t.log.sent bs) f (event_in_order (source_of i e) e t bs b g h (source_of_lem Good i e v.both.store v.both.memory))

  over_events : (i : Images) (es : List (Option (List ℕ))) → Sound i → InOrder i.memory.log.sent (lived i es).memory.log.sent (put_out_over i es)
  unfolding put_out_over lived next
  over_events i [] v = nothing_in_order _
  over_events i (none ∷ es) v =
      over_events (saved_in i) es (record { both = record { memory = v.both.memory; store = v.both.memory }; control = control_refl i.memory })
  over_events i (some e ∷ es) v =
      joined_in_order _ _ _ (records_of (arrive i e)) (put_out_over (next i e) es) (arrival_in_order i e v (arrive i e) refl) (over_events (next i e) es (sound_next i e v))

  read_by : {es : List (Option (List ℕ))} {j : ℕ} {a : Action} (x : PutsAction s es j a) → ReadsAs x.bytes a
  read_by x = record { reader = x.reader; peer = x.peer; reads = x.reads }

  -- ---- what is put out is not entered

  not_entered : well_formed s ≡ true → (i : Images) (e : List ℕ) → Sound i → OfBoth (Since s) i → (o : Outcome (List ℕ)) → arrive i e ≡ o
      → (j : ℕ) (x : List ℕ) (a : Action) → at (records_of o) j ≡ some x → ReadsAs x a
      → Memᴰ a.id (ids_in (places_of s.white (left_by o i).memory.log)) → ⊥
  unfolding arrive left_by records_of at
  not_entered f i e v since (refused k) h j x a p r m = none_some p
  not_entered f i e v since (taken t bs b g) h j x a p r m =
      let w = source_of_lem Good i e v.both.store v.both.memory in
      let y = own_id_lem (source_of i e) e t bs b g h w a (at_among (rs (source_of i e) e t bs b g h w) j _ (meant (source_of i e) e t bs b g h w j x a p r)) in
      let k = entered_within s f t (since_kept s (source_of i e) e t bs b g h (source_of_lem (Since s) i e since.store since.memory)) a.id m in
      let c = (taken_by (source_of i e) e t bs b g h).raise in
      omega (arith, y.above, k, ap (λ u. cut u.log a.id.creator) c, ap (cut (core (source_of i e) e t bs b g h w).log) y.creator)

  sound_lived : (i : Images) (es : List (Option (List ℕ))) → Sound i → Sound (lived i es)
  unfolding lived next
  sound_lived i [] v = v
  sound_lived i (none ∷ es) v =
      sound_lived (saved_in i) es (record { both = record { memory = v.both.memory; store = v.both.memory }; control = control_refl i.memory })
  sound_lived i (some e ∷ es) v = sound_lived (next i e) es (sound_next i e v)

pub one_time_only : OneTimeOnly
unfolding OneTimeOnly started
one_time_only s w es j k a b h x y =
    let good : Good s s = (w, record { servers = refl; quota = refl; me = refl }) in
    let o = over_events s (started s) es (record { both = record { memory = good; store = good }; control = control_refl s }) in (
      o.creator j x.bytes a x.out (read_by s x),
      o.creator k y.bytes b y.out (read_by s y),
      o.order j k x.bytes y.bytes a b h x.out y.out (read_by s x) (read_by s y),
    )

pub entered_not_sent : EnteredNotSent
unfolding EnteredNotSent started next
entered_not_sent s w es e j x c a p q r m =
    let good : Good s s = (w, record { servers = refl; quota = refl; me = refl }) in
    let v = sound_lived s (started s) es (record { both = record { memory = good; store = good }; control = control_refl s }) in
    let since = lived_each (Since s) (since_kept s) (started s) es (record { memory = since_itself s w; store = since_itself s w }) in
    not_entered s w (lived (started s) es) e v since (arrive (lived (started s) es) e) refl j x a p (record { reader = c; peer = q; reads = r }) m
