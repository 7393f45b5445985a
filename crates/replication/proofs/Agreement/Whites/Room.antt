-- In an allowed run each action that comes and is its creator's next has room: every allowed run is a roomy one.
use Prim.Native.Nat.{ℕ, suc, ◌+◌, ◌≤◌, ◌<◌, max, min}
use mathlib.Core.Path.{◌≡◌, refl, sym, ap, subst, ◌∙◌}
use mathlib.Core.Bool.{Bool, true, false, not}
use mathlib.Core.List.Memᴰ
use mathlib.Core.List.{List, [], ◌∷◌, Memᴰ}
use mathlib.Core.Option.{Option, none, some}
use native.Mathlib.Omega.{arith}
use native.Mathlib.Decide.{dec_lt}
use lib.ListN.{length, take}
use lib.Seq.{take-append-le}
use Rattle.base.specs.Tests.{◌and◌, ◌<?◌, pick}
use Rattle.base.proofs.TestLaws.{and_holds, lt_yes, lt_holds, Known, holds, fails, known}
use Rattle.base.specs.Lists.{at, Begins, Each}
use Rattle.base.proofs.Prefixes.{begins_length}
use Rattle.base.proofs.Chains.{strong}
use Rattle.base.proofs.ListLaws.{each_implied}
use Rattle.format.specs.Types.{Action, Record, action, retransmission, state, cpc, regular, transitional, request, recovery, says}
use Rattle.replication.specs.Machine.Types.{Server, with_white, mode_of}
use Rattle.replication.specs.Machine.Requests.{quota_left, made_of, numbered, send_waiting}
use Rattle.replication.specs.Machine.Colours.{is_next}
use Rattle.replication.specs.Machine.Rules.{Rule, ignoring, reddening, greening, yellowing, late_installing, exchanging, collecting_state, collecting_cpc, collecting_late_cpc, joining, joining_unmarked, joining_yellow, leaving, requesting, recovering, rule_for, within_quota}
use Rattle.replication.specs.Machine.White.{entrant, met_log, taken_from, is_recovering, took_white, highest_white, no_place, full}
use Rattle.replication.specs.Machine.Colours.{of_creator, unwhite}
use Rattle.replication.specs.Images.{is_recovery}
use Rattle.replication.specs.Runs.Run.{Run, heard, heard_at, world_at, place_at, sent_at}
use Rattle.replication.specs.Runs.Happenings.{is_message, Comes}
use Rattle.replication.specs.Runs.Allowed.{Allowed}
use Rattle.replication.specs.Runs.Claim.{ListsAgree, stored_green, memory_green}
use Rattle.replication.proofs.Step.Logs.{next_index_lem}
use Rattle.replication.proofs.Step.Whites.{entrant_carried}
use Rattle.replication.proofs.WellFormed.Clauses.{Invariant}
use Rattle.replication.proofs.WellFormed.Places.{met_begins}
use Rattle.replication.proofs.WellFormed.Whole.{WholeOf, install_whole}
use Rattle.replication.proofs.WellFormed.OwnList.{own_length}
use Rattle.replication.proofs.WellFormed.Counts.{unwhite_counted}
use Rattle.replication.specs.Laws.Transitions as L
use Rattle.replication.specs.Laws.Transitions.{Transition}
use Rattle.replication.proofs.WellFormed.Creators.{of_more}
use Rattle.replication.proofs.Runs.Beginnings as B
use Rattle.replication.proofs.Runs.Roomy.{Room, Roomy}
use Rattle.replication.proofs.Runs.PrefixClosed.{prefix_closed}
use Rattle.replication.proofs.Runs.Places.{of_event}
use Rattle.replication.proofs.Runs.Shifts.{says_same, comes_of}
use Rattle.replication.proofs.Runs.Numbers.{numbers, invariant_at}
use Rattle.replication.proofs.Runs.AllowedTurns.{memory_at, store_at}
use Rattle.replication.proofs.Runs.ControlPart.{store_below}
use Rattle.replication.proofs.Runs.Sending.{sent_put_out}
use Rattle.replication.proofs.Runs.Origins.{puts_read}
use Rattle.replication.proofs.Runs.LogActions.{carried, each_in}
use Rattle.replication.proofs.Runs.Made.{Made, made_later, sent_made}
use Rattle.replication.proofs.Agreement.Exchange.Facts.{exchange_facts}
use Rattle.replication.proofs.Agreement.Greens.Whole.{consequences}
use Rattle.replication.proofs.Agreement.Whites.Lengths.{made_says}
use Rattle.replication.proofs.Agreement.Whites.Sources.{sources}

-- Lists that agree begin alike.
pub agree_take : (x y : List Action) (w : ℕ) → ListsAgree x y → w ≤ length x → w ≤ length y → take w x ≡ take w y
unfolding Begins
agree_take x y w a h k = go (dec_lt (length x) (length y)) (dec_lt (length y) (length x))
  where
    go : Dec (length x < length y) → Dec (length y < length x) → take w x ≡ take w y
    go (yes u) v = let b = a.shorter u in sym (ap (take w) b.1 ∙ take-append-le w x b.0 h)
    go (no u) (yes v) = let b = a.longer v in ap (take w) b.1 ∙ take-append-le w y b.0 k
    go (no u) (no v) = ap (take w) (a.equal.1 (omega arith))

-- A request stores, and turns nothing green.
request_keeps : {s : Server} {p : List ℕ} {t : Server} {rs : List Record} {b : Bool} → Transition s (request p) t rs b → (t.log.green ≡ s.log.green) × (b ≡ true)
unfolding numbered send_waiting
request_keeps (L.sends p c) = (refl, refl)
request_keeps (L.numbers p c) = (refl, refl)

-- ---- the log that an action meets

met_whole : (s : Server) (k : Rule) → WholeOf s.servers s.log → WholeOf s.servers (met_log k s)
unfolding met_log
met_whole s ignoring f = f
met_whole s (reddening a) f = f
met_whole s (greening a) f = f
met_whole s (yellowing a) f = f
met_whole s (late_installing a) f = install_whole s.servers s.votes.yellow.ids s.log f
met_whole s (exchanging p a) f = f
met_whole s (collecting_state x) f = f
met_whole s (collecting_cpc j) f = f
met_whole s (collecting_late_cpc j) f = f
met_whole s (joining c) f = f
met_whole s (joining_unmarked c) f = f
met_whole s (joining_yellow c) f = f
met_whole s (leaving m t) f = f
met_whole s (requesting p) f = f
met_whole s recovering f = f

-- ---- one event, after a beginning with room

module _ {n q : ℕ} {l : Run} (A : Allowed n q l) (p : ℕ) (R : Roomy n q (take p l)) where
  -- (1) What comes was made.
  came_made : (i : ℕ) (r : Record) → Comes n q l p i r → is_message r ≡ true → Each (Made R p) (carried r)
  unfolding heard_at
  came_made i r c m =
      let g = A.genuine p i c.sent c.bytes r c.here c m in
      let t : at (sent_at n q (take p l) (A.source p).sending) (A.source p).number ≡ some c.bytes =
      ap (λ s. at s (A.source p).number) (B.sent_in_lem n q l p (A.source p).sending g.0) ∙ g.1 in
      let u = sent_put_out R (A.source p).sending (A.source p).number c.bytes t in
      let e : u.2 ≡ r =
      says_same (sym (puts_read R u.3 i (place_at n q l i p) (A.servers p i (comes_of c))) ∙ ap (heard n q i (place_at n q l i p)) (sym u.4) ∙ c.heard) in
      each_implied (Made R (suc (A.source p).sending)) (Made R p) (λ a. made_later R g.0) (carried r)
      (subst (λ z. Each (Made R (suc (A.source p).sending)) (carried z)) e (sent_made R u.3))

  carried_made : (i : ℕ) (r : Record) → Comes n q l p i r → (a : Action) → Memᴰ a (carried r) → (is_recovery (says r) ≡ false) × Made R p a
  unfolding is_message is_recovery
  carried_made i (action b) c a m = (refl, each_in (Made R p) (b ∷ []) (came_made i (action b) c refl) a m)
  carried_made i (retransmission k u b) c a m = (refl, each_in (Made R p) (b ∷ []) (came_made i (retransmission k u b) c refl) a m)
  carried_made i (state x) c a m = absurd (Memᴰ.not-nil m)
  carried_made i (cpc k x) c a m = absurd (Memᴰ.not-nil m)
  carried_made i (regular x t) c a m = absurd (Memᴰ.not-nil m)
  carried_made i (transitional t) c a m = absurd (Memᴰ.not-nil m)
  carried_made i (request x) c a m = absurd (Memᴰ.not-nil m)
  carried_made i recovery c a m = absurd (Memᴰ.not-nil m)

  module _ (i : ℕ) (r : Record) (k : Rule) (c : Comes n q l p i r) (up : (world_at n q l p).down i ≡ false)
      (ruled : rule_for (mode_of (memory_at n q l p i)) r ≡ some k) (a : Action) (e : entrant k (memory_at n q l p i) ≡ some a)
    where
      there : i < n
      there = A.servers p i (comes_of c)

      same : world_at n q (take p l) p ≡ world_at n q l p
      same = B.world_in n q l p p (omega arith)

      formed : Invariant (memory_at n q l p i)
      formed = (invariant_at n q i A.sizes there l p).memory

      fact : (is_recovery (says r) ≡ false) × Made R p a
      fact = carried_made i r c a ((entrant_carried (memory_at n q l p i) (mode_of (memory_at n q l p i)) r k ruled).1 a e)

      made : Made R p a
      made = fact.1

      maker : made.server < n
      maker = R.allowed.servers made.place made.server (of_event made.act.here)

      -- The maker's green list, stored on numbering a.
      abbrev stored : List Action
      stored = (store_at n q (take p l) (suc made.place) made.server).log.green

      -- (2)
      low : a.white_length ≤ length (memory_at n q l p i).log.green
      low =
          omega (
            arith,
            (made_says R (sources R (exchange_facts R)) made).white i there,
            begins_length _ _ (store_below n q (take p l) i p).greens,
            ap (λ w. length (w.images i).memory.log.green) same,
          )

      short : a.white_length ≤ length stored
      short =
          let v = made.own in
          let w = (invariant_at n q made.server R.allowed.sizes maker (take p l) made.place).memory.well_formed_lem.white in
          omega (arith, v.white_length_lem, v.green_length_lem, w, (sources R (exchange_facts R)).made_green made)

      -- (3)
      alike : take a.white_length stored ≡ take a.white_length (met_log k (memory_at n q l p i)).green
      unfolding stored_green memory_green Begins
      alike =
          let d : (world_at n q (take p l) p).down i ≡ false = ap (λ w. w.down i) same ∙ up in
          let b = met_begins (memory_at n q l p i) k in
          agree_take stored (memory_at n q (take p l) p i).log.green a.white_length
          ((consequences R).later (suc made.place) p made.server i made.earlier maker there d) short
          (omega (arith, low, ap (λ w. length (w.images i).memory.log.green) same))
          ∙ ap (λ w. take a.white_length (w.images i).memory.log.green) same
          ∙ sym (ap (take a.white_length) b.1 ∙ take-append-le a.white_length (memory_at n q l p i).log.green b.0 low)

      -- (4) The maker as it numbered a: row 3 let the request pass.
      abbrev numbering : Server
      numbering = memory_at n q (take p l) made.place made.server

      asks : quota_left numbering ≡ true
      unfolding within_quota
      asks = subst (λ r. within_quota numbering r ≡ true) made.asked made.act.by.quota

      unchanged : stored ≡ numbering.log.green
      unfolding pick
      unchanged =
          let x = made.act in
          let t = request_keeps (subst (λ r. Transition numbering r x.after x.by.records x.stores) made.asked x.moves) in
          ap (λ s. s.log.green) x.store_next
          ∙ ap (λ b. (pick b (with_white x.white x.after) (store_at n q (take p l) made.place made.server)).log.green) t.1
          ∙ t.0

      bounded : a.id.index ≤ q + of_creator a.id.creator (take a.white_length stored)
      unfolding quota_left made_of
      bounded =
          let v = (invariant_at n q made.server R.allowed.sizes maker (take p l) made.place).memory in
          let z = and_holds _ _ asks in
          let own : a.id.creator ≡ numbering.me = ap (λ x. x.id.creator) made.is in
          let white : a.white_length ≡ numbering.white = ap (λ x. x.white_length) made.is in
          let same : of_creator a.id.creator (take a.white_length stored) ≡ of_creator numbering.me (take numbering.white numbering.log.green) =
          λ i. of_creator (own i) (take (white i) (unchanged i)) in
          omega (
            arith,
            lt_holds _ _ z.0,
            own_length numbering.me numbering.log v.well_formed_lem.own_list,
            v.well_formed_lem.own_list.numbered,
            unwhite_counted numbering.log v.whole numbering.me numbering.white,
            ap (λ x. x.id.index) made.is,
            same,
            (numbers n q made.server (take p l) made.place).memory.quota,
          )

      -- It is taken, as far as the green list goes.
      took : is_next (met_log k (memory_at n q l p i)) a ≡ true → a.white_length ≤ took_white k (memory_at n q l p i)
      unfolding took_white taken_from pick
      took h =
          let s = memory_at n q l p i in
          let o : is_recovering k ≡ false = (entrant_carried s (mode_of s) r k ruled).0 fact.0 in
          let g : taken_from (entrant k s) (met_log k s) s.white ≡ max s.white (min (length (met_log k s).green) a.white_length) =
          ap (λ z. taken_from z (met_log k s) s.white) e ∙ ap (λ z. pick z (max s.white (min (length (met_log k s).green) a.white_length)) s.white) h in
          let t : took_white k s ≡ taken_from (entrant k s) (met_log k s) s.white =
          ap (λ z. pick z (max s.white (min (length s.log.green) (highest_white s.log.own))) (taken_from (entrant k s) (met_log k s) s.white)) o in
          omega (arith, g, t, low, begins_length _ _ (met_begins s k))

      -- (5)
      has_place : is_next (met_log k (memory_at n q l p i)) a ≡ true → unwhite a.id.creator (took_white k (memory_at n q l p i)) (met_log k (memory_at n q l p i)) < (memory_at n q l p i).quota
      unfolding took_white pick
      has_place h =
          let s = memory_at n q l p i in
          let g = met_whole s k (record { long = formed.well_formed_lem.log.cuts_length; whole = formed.whole }) in
          let f = unwhite_counted (met_log k s) g.whole a.id.creator (took_white k s) in
          let w = took h in
          let m = of_more a.id.creator a.white_length (took_white k s) (met_log k s).green w in
          omega (arith, f, m, ap (of_creator a.id.creator) alike, bounded, next_index_lem (met_log k s) a h, (numbers n q i l p).memory.quota)

      no_place_lem : no_place (some a) (met_log k (memory_at n q l p i)) (took_white k (memory_at n q l p i)) (memory_at n q l p i).quota ≡ false
      unfolding no_place ◌and◌
      no_place_lem = go (known (is_next (met_log k (memory_at n q l p i)) a))
        where
          go : Known (is_next (met_log k (memory_at n q l p i)) a)
              → is_next (met_log k (memory_at n q l p i)) a
              and not (unwhite a.id.creator (took_white k (memory_at n q l p i)) (met_log k (memory_at n q l p i)) <? (memory_at n q l p i).quota) ≡ false
          go (fails h) = ap (λ z. z and not (unwhite a.id.creator (took_white k (memory_at n q l p i)) (met_log k (memory_at n q l p i)) <? (memory_at n q l p i).quota)) h
          go (holds h) =
              ap (λ z. z and not (unwhite a.id.creator (took_white k (memory_at n q l p i)) (met_log k (memory_at n q l p i)) <? (memory_at n q l p i).quota)) h
              ∙ ap not (lt_yes _ _ (has_place h))

  room_next : (i : ℕ) → Room n q l p i
  unfolding full no_place
  room_next i r k c up ruled = go (entrant k (memory_at n q l p i)) refl
    where
      go : (o : Option Action) → entrant k (memory_at n q l p i) ≡ o
          → no_place (entrant k (memory_at n q l p i)) (met_log k (memory_at n q l p i)) (took_white k (memory_at n q l p i)) (memory_at n q l p i).quota ≡ false
      go none e = ap (λ z. no_place z (met_log k (memory_at n q l p i)) (took_white k (memory_at n q l p i)) (memory_at n q l p i).quota) e
      go (some a) e =
          ap (λ z. no_place z (met_log k (memory_at n q l p i)) (took_white k (memory_at n q l p i)) (memory_at n q l p i).quota) e
          ∙ no_place_lem i r k c up ruled a e

-- ---- all events

module _ {n q : ℕ} {l : Run} (A : Allowed n q l) where
  roomy_to : (k : ℕ) → Roomy n q (take k l)
  roomy_to = strong (λ k. Roomy n q (take k l)) (λ k h. record { allowed = prefix_closed n q l A k; room = λ p i. go k h p i })
    where
      go : (k : ℕ) → ((x : ℕ) → x < k → Roomy n q (take x l)) → (p i : ℕ) → Room n q (take k l) p i
      go k h p i r j c up ruled =
          let less = B.comes_low n q l k c in
          let e = B.world_in n q l k p (omega arith) in
          subst (λ w. full j (w.images i).memory ≡ false) (sym e)
          (room_next A p (h p less) i r j (B.comes_whole n q l k c) (sym (ap (λ w. w.down i) e) ∙ up)
          (subst (λ w. rule_for (mode_of (w.images i).memory) r ≡ some j) e ruled))

  pub roomy : Roomy n q l
  roomy = record { allowed = A; room = λ p i. room_next A p (roomy_to p) i }
