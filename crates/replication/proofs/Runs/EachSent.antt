-- What is on the own list and counts as sent was put out: an event that marks an action as sent puts it out, and an own list gains only actions
-- numbered above those sent. Where requests are sent nothing waits, so all of the own list was put out.
use Prim.Native.Nat.{ℕ, ◌≤◌, ◌<◌}
use mathlib.Core.Path.{◌≡◌, refl, sym, ap, subst}
use mathlib.Core.Bool.{Bool, true, false}
use mathlib.Core.List.Memᴰ
use mathlib.Core.List.{List, [], ◌∷◌, ◌++◌, Memᴰ}
use mathlib.Core.Logic.{◌⊎◌, inl, inr}
use mathlib.Core.Option.{Option, none, some}
use native.Mathlib.Omega.{arith}
use native.Mathlib.Decide.{dec_le}
use Rattle.base.specs.Tests.{◌<?◌, pick}
use Rattle.base.specs.Lists.{Each}
use Rattle.base.proofs.TestLaws.{lt_yes}
use Rattle.base.proofs.AtLaws.{among_at}
use Rattle.base.proofs.Members.{filter_has}
use Rattle.format.specs.Types.{Id, Action, Record, action, says}
use Rattle.format.specs.Read.{read}
use Rattle.format.specs.Write.{write}
use Rattle.replication.specs.Machine.Types.{Log, Server, Outcome, refused, taken, start, with_white, context_of}
use Rattle.replication.specs.Machine.Colours.{find, is_next, enter, promote}
use Rattle.replication.specs.Machine.Requests.{made_of, unsent, waiting}
use Rattle.replication.specs.Machine.Step.{step}
use Rattle.replication.specs.Images.{Images, started, source_of, arrive, left_by, saved_in, lived}
use Rattle.replication.specs.Laws.Images.{OfBoth, next}
use Rattle.replication.specs.Laws.Transitions.{Transition, TakenBy}
use Rattle.replication.specs.Laws.Sending as P
use Rattle.replication.specs.Laws.Sending.{Numbers, SendsWaiting, PutsOut, Peer}
use Rattle.replication.specs.Runs.Run.{records_of}
use Rattle.replication.specs.Runs.Requests.{put_out_over, PutsAction, NothingWaits, SentOnReaching, EachSent, AllPutOut}
use Rattle.replication.proofs.Step.Inversion.{taken_by}
use Rattle.replication.proofs.Step.Moves.{moved}
use Rattle.replication.proofs.Step.Logs.{on_transition}
use Rattle.replication.proofs.Step.Sending.{puts_out}
use Rattle.replication.proofs.Step.Lifts.{source_of_lem, next_each}
use Rattle.replication.proofs.WellFormed.Facts.{well_formed_facts}
use Rattle.replication.proofs.WellFormed.Held.{each_remove}
use Rattle.replication.proofs.WellFormed.Reads.{put_out_reads, taken_put_out}
use Rattle.replication.proofs.WellFormed.Runs.{start_well_formed}
use Rattle.replication.proofs.Runs.LogActions.{each_of, each_in}
use Rattle.replication.proofs.Runs.RequestsSent.{Good, good_kept}
use Rattle.replication.proofs.Runs.RequestsWaiting.{sent_on_reaching}

-- ---- the own list

-- While no action is numbered after s, the own list holds only what s has there.
record OwnFrom (s : Server) (l : Log) : Type 0 where
  pub numbers : s.log.numbered ≤ l.numbered
  pub own : l.numbered ≤ s.log.numbered → Each (λ a. Memᴰ a s.log.own) l.own

module _ (s : Server) where
  from_enter : (a : Action) (l : Log) → is_next l a ≡ true → OwnFrom s l → OwnFrom s (enter a l)
  unfolding enter
  from_enter a l e o = record { numbers = o.numbers; own = λ h. each_remove _ a.id l.own (o.own h) }

  from_promote : (d : Id) (x : Action) (l : Log) → find d l.red ≡ some x → OwnFrom s l → OwnFrom s (promote x l)
  unfolding promote
  from_promote d x l e o = record { numbers = o.numbers; own = o.own }

  own_from : {r : Record} {t : Server} {rs : List Record} {b : Bool} → Transition s r t rs b → OwnFrom s t.log
  own_from {r} {t} {rs} {b} x =
      on_transition (OwnFrom s) from_enter from_promote
      (λ a l o. record { numbers = omega (arith, o.numbers); own = λ h. absurd (omega (arith, o.numbers)) })
      (λ k l o. record { numbers = o.numbers; own = o.own })
      s r t rs b x (record { numbers = omega arith; own = λ h. each_of _ s.log.own (λ a m. m) })

-- ---- one event

-- The action a is on the own list and counts as sent.
record CountsSent (a : Action) (s : Server) : Type 0 where
  pub listed : Memᴰ a s.log.own
  pub sent : a.id.index ≤ s.log.sent

-- Whatever is white.
counts_lowered : {a : Action} {s : Server} (w : ℕ) → CountsSent a (with_white w s) → CountsSent a s
counts_lowered w x = record { listed = x.listed; sent = x.sent }

module _ (a : Action) where
  -- What an event marks as sent it puts out.
  marked : (k : ℕ) (t : Server) (rs : List Record) → SendsWaiting k t rs → Memᴰ a t.log.own → k < a.id.index → Memᴰ (action a) rs
  unfolding unsent
  marked k t rs w m h =
      subst (λ z. Memᴰ (action a) z) (sym w.records)
      (Memᴰ.map action (filter_has (λ x. k <? x.id.index) a t.log.own m (lt_yes _ _ h)))

  -- An action that s has sent is not numbered after s.
  counted_before : (s t : Server) (p : List ℕ) → Numbers s t p → s.log.sent ≤ s.log.numbered → Memᴰ a t.log.own
      → a.id.index ≤ s.log.sent → CountsSent a s
  unfolding made_of
  counted_before s t p n z m h = go (Memᴰ.append_cases s.log.own (subst (λ x. Memᴰ a x) n.own m))
    where
      go : Memᴰ a s.log.own ⊎ Memᴰ a (made_of p s ∷ []) → CountsSent a s
      go (inl k) = record { listed = k; sent = h }
      go (inr k) = absurd (omega (arith, ap (λ x. x.id.index) (Memᴰ.eq_of_singleton k)))

  module _ (s t : Server) (o : OwnFrom s t.log) (z : s.log.sent ≤ s.log.numbered) (x : CountsSent a t) where
    kept : t.log.numbered ≡ s.log.numbered → a.id.index ≤ s.log.sent → CountsSent a s
    kept e h = record { listed = each_in _ t.log.own (o.own (omega (arith, e))) a x.listed; sent = h }

    sends : (k : ℕ) (rs : List Record) → SendsWaiting k t rs → k ≤ s.log.sent → (a.id.index ≤ s.log.sent → CountsSent a s)
        → CountsSent a s ⊎ Memᴰ (action a) rs
    sends k rs w low before = go (dec_le a.id.index s.log.sent)
      where
        go : Dec (a.id.index ≤ s.log.sent) → CountsSent a s ⊎ Memᴰ (action a) rs
        go (yes h) = inl (before h)
        go (no h) = inr (marked k t rs w x.listed (omega arith))

    -- What counts as sent after an event did before it, or is put out.
    counted : {r : Record} {rs : List Record} {b : Bool} → PutsOut s r t rs b → CountsSent a s ⊎ Memᴰ (action a) rs
    counted (P.nothing c n) = inl (kept n.numbered (omega (arith, x.sent, n.sent)))
    counted (P.state_on_entry c e m d n) = inl (kept n.numbered (omega (arith, x.sent, n.sent)))
    counted (P.part_of_plan y e m d c g n) = inl (kept n.numbered (omega (arith, x.sent, n.sent)))
    counted (P.cpc_on_attempt e c m n) = inl (kept n.numbered (omega (arith, x.sent, n.sent)))
    counted (P.request_at_once p us e c m n w) = sends _ us w (omega arith) (counted_before s t p n z x.listed)
    counted (P.request_waits p e c n w) = inl (counted_before s t p n z x.listed (omega (arith, x.sent, w)))
    counted (P.waiting_after_exchange us e c m n w) = sends _ us w (omega arith) (kept n)
    counted (P.waiting_after_install k d us e m c g n w) = sends _ us w (omega arith) (kept n)

-- ---- over any events

module _ (s : Server) (a : Action) where
  -- Among these records is one that a server reads as the action a.
  abbrev Out : List (List ℕ) → Type 0
  Out xs = (x : List ℕ) × Memᴰ x xs × (read (context_of s) x ≡ says (action a))

  abbrev InEither : Images → Type 0
  InEither i = CountsSent a i.memory ⊎ CountsSent a i.store

  self_peer : (u : Server) → Good s u → Peer u (context_of s)
  unfolding context_of
  self_peer u (w, i) =
      record { servers = sym i.servers; quota = sym i.quota; self = omega (arith, (well_formed_facts u w).sizes.own, i.me, i.servers) }

  of_event : (u : Server) (e : List ℕ) (t : Server) (bs : List (List ℕ)) (b : Bool) (g : List Action) → step u e ≡ taken t bs b g → Good s u
      → CountsSent a t → CountsSent a u ⊎ Out bs
  of_event u e t bs b g h v x =
      let m = (moved d).0 in go (counted a u d.core (own_from u m) (well_formed_facts u v.0).log.sent (counts_lowered _ (subst (CountsSent a) d.raise x)) (puts_out u m))
    where
      d : TakenBy u e t bs b g
      d = taken_by u e t bs b g h

      go : CountsSent a u ⊎ Memᴰ (action a) d.records → CountsSent a u ⊎ Out bs
      go (inl y) = inl y
      go (inr k) =
          let each = put_out_reads u v.0 (context_of s) (self_peer u v) d.records (taken_put_out u e t bs b g v.0 d) in
          inr (
            write (action a),
            subst (λ z. Memᴰ (write (action a)) z) (sym d.written) (Memᴰ.map write k),
            each_in (λ r. read (context_of s) (write r) ≡ says r) d.records each (action a) k,
          )

  of_arrival : (i : Images) (e : List ℕ) → OfBoth (Good s) i → (o : Outcome (List ℕ)) → arrive i e ≡ o → InEither (left_by o i)
      → InEither i ⊎ Out (records_of o)
  unfolding arrive left_by records_of pick
  of_arrival i e v (refused k) h x = inl x
  of_arrival i e v (taken t bs b g) h x = go b x
    where
      new : CountsSent a t → InEither i ⊎ Out bs
      new y = from (of_event (source_of i e) e t bs b g h (source_of_lem (Good s) i e v.store v.memory) y)
        where
          from : CountsSent a (source_of i e) ⊎ Out bs → InEither i ⊎ Out bs
          from (inl z) = inl (source_of_lem (λ u. CountsSent a u → InEither i) i e inr inl z)
          from (inr z) = inr z

      go : (c : Bool) → CountsSent a t ⊎ CountsSent a (pick c t i.store) → InEither i ⊎ Out bs
      go c (inl y) = new y
      go true (inr y) = new y
      go false (inr y) = inl (inr y)

  over_events : (i : Images) (es : List (Option (List ℕ))) → OfBoth (Good s) i → CountsSent a (lived i es).memory
      → InEither i ⊎ Out (put_out_over i es)
  unfolding put_out_over lived next
  over_events i [] v x = inl (inl x)
  over_events i (none ∷ es) v x = go (over_events (saved_in i) es (record { memory = v.memory; store = v.memory }) x)
    where
      go : InEither (saved_in i) ⊎ Out (put_out_over (saved_in i) es) → InEither i ⊎ Out (put_out_over (saved_in i) es)
      go (inl (inl y)) = inl (inl y)
      go (inl (inr y)) = inl (inl y)
      go (inr y) = inr y
  over_events i (some e ∷ es) v x = go (over_events (next i e) es (next_each (Good s) (good_kept s) i e v) x)
    where
      first : InEither i ⊎ Out (records_of (arrive i e)) → InEither i ⊎ Out (records_of (arrive i e) ++ put_out_over (next i e) es)
      first (inl y) = inl y
      first (inr y) = inr (y.0, Memᴰ.append_left (put_out_over (next i e) es) y.1, y.2)

      go : InEither (next i e) ⊎ Out (put_out_over (next i e) es) → InEither i ⊎ Out (records_of (arrive i e) ++ put_out_over (next i e) es)
      go (inl y) = first (of_arrival i e v (arrive i e) refl y)
      go (inr y) = inr (y.0, Memᴰ.append_right (records_of (arrive i e)) y.1, y.2)

pub each_sent : EachSent
unfolding EachSent start started
each_sent n q i sizes own es a m h = go (over_events s a (started s) es (record { memory = good; store = good }) (record { listed = m; sent = h }))
  where
    s : Server
    s = start n q i

    good : Good s s
    good = (start_well_formed n q i sizes own, record { servers = refl; quota = refl; me = refl })

    go : InEither s a (started s) ⊎ Out s a (put_out_over (started s) es) → (j : ℕ) × PutsAction s es j a
    go (inl (inl x)) = absurd (Memᴰ.not-nil x.listed)
    go (inl (inr x)) = absurd (Memᴰ.not-nil x.listed)
    go (inr (x, k, r)) =
        let p = among_at (put_out_over (started s) es) x k in
        (p.0, record { bytes = x; out = p.1; reader = context_of s; peer = self_peer s a s good; reads = r })

pub all_put_out : AllPutOut
unfolding AllPutOut EachSent SentOnReaching NothingWaits waiting unsent
all_put_out n q i sizes own es reached a m = go (dec_le a.id.index l.sent)
  where
    l : Log
    l = (lived (started (start n q i)) es).memory.log

    go : Dec (a.id.index ≤ l.sent) → (j : ℕ) × PutsAction (start n q i) es j a
    go (yes h) = each_sent n q i sizes own es a m h
    go (no h) =
        let w = filter_has (λ x. l.sent <? x.id.index) a l.own m (lt_yes _ _ (omega arith)) in
        absurd (Memᴰ.not-nil (subst (λ z. Memᴰ a z) ((sent_on_reaching n q i sizes own es).memory reached) w))
