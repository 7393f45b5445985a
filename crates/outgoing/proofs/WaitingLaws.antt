-- What waits on the own list, as records one after another.
use Prim.Native.Nat.{ℕ, zero, suc, ◌+◌, ◌*◌, ◌-◌, ◌≤◌, ◌<◌}
use mathlib.Core.Path.{◌≡◌, refl, sym, ap, subst, ◌∙◌}
use mathlib.Core.Bool.{true}
use mathlib.Core.List.{List, [], ◌∷◌, map}
use mathlib.Core.Option.{Option, some}
use Rattle.std.specs.Prelude.{Option as Maybe}
use Rattle.std.specs.Option.{unwrap_or}
use native.Mathlib.Omega.{arith}
use lib.ListN.{length, drop}
use lib.Seq.{drop-length}
use Rattle.base.specs.Bytes.{over, part_at}
use Rattle.base.specs.Lists.{at, at_front, gather, after, above}
use Rattle.base.proofs.Occurs.{Occurs, occurs_first}
use Rattle.format.specs.Limits.{most_payload_limit}
use Rattle.format.specs.Places.{most_retransmission}
use Rattle.format.specs.Types.{Action, Record, action}
use Rattle.format.specs.Write.{write, record_bytes}
use Rattle.record.specs.Values.{action_of}
use Rattle.writer.specs.Written.{put, put_of}
use Rattle.record.specs.declared.State.{State}
use Rattle.record.specs.declared.events.ActionAt.{ActionAt}
use Rattle.record.specs.Events.{action_in, action_from}
use Rattle.replication.specs.Machine.Types.{Server, context_of}
use Rattle.replication.specs.Machine.Requests.{waiting, waiting_records}
use Rattle.replication.specs.Machine.WellFormed.{well_formed}
use Rattle.image.specs.Layout.{slot_size, the_own, out_length}
use Rattle.image.specs.Image.{action_slots, parts}
use Rattle.image.specs.Decode.{decoded, decoded_as}
use Rattle.image.specs.Counts.{own_count_of, place}
use Rattle.image.specs.Header.{header_of, header_in}
use Rattle.image.specs.Holding.{Holds}
use Rattle.image.proofs.HeaderLaws.{header_loaded}
use Rattle.image.proofs.Unsent.{waiting_within, waiting_last, sent_within}
use Rattle.image.proofs.InPlace.{holds_decoded}
use Rattle.image.proofs.InRange.{in_range}
use Rattle.image.proofs.Counts.{numbers, holds_counts, holds_place}
use Rattle.queue.proofs.ReadLaws.{actions_at_lem, slot_read, slot_payload}
use Rattle.outgoing.specs.Lent.{LentSuch}
use Rattle.outgoing.specs.Resending.{one_of, Sends, Room}
use Rattle.outgoing.specs.Sending.{own_in, as_action, own_at, OwnIn}
use Rattle.outgoing.proofs.LentLaws.{holds_part, holds_products}
use Rattle.outgoing.proofs.ResendingLaws.{own_action_sent}

-- ---- the slot p

module _ (b : List ℕ) (p start : ℕ) (a : ActionAt) (q : OwnIn b) (low : 1 ≤ p) (high : p ≤ own_count_of b) (e : start ≡ place the_own b)
    (f : a ≡ action_in b (start + slot_size * (p - 1))) where
  read : a ≡ action_in b (place the_own b + slot_size * (p - 1))
  read = f ∙ ap (λ (m : ℕ). action_in b (m + slot_size * (p - 1))) e

  pub own_short : a.payload_length ≤ most_payload_limit
  unfolding action_in
  own_short = omega (arith, ap (λ (x : ActionAt). x.payload_length) read, q.payloads (p - 1) (omega arith))

  pub own_inside : a.payload_at + a.payload_length ≤ length b
  unfolding action_in
  own_inside = omega (arith, ap (λ (x : ActionAt). x.payload_at) read, own_short, q.counts.own_end, q.counts.queue_end, q.counts.own)

  own_action : at (own_in b) (p - 1) ≡ some (action_from a b)
  unfolding own_in
  own_action =
      actions_at_lem (own_count_of b) b (place the_own b) (p - 1) (omega arith)
      ∙ ap some (sym (slot_read b (place the_own b + slot_size * (p - 1))) ∙ ap (λ (x : ActionAt). action_from x b) (sym read))

  pub own_sent : (r : ℕ) (payload o o₁ : List ℕ) (w : Maybe ℕ) → most_retransmission ≤ length o → payload ≡ part_at a.payload_length b a.payload_at
      → put_of w o₁ ≡ put (write (action (action_of a.head payload))) o → r ≡ unwrap_or w 0 → Sends 1 (one_of (own_at b p)) o o₁ r
  unfolding one_of own_at as_action at_front
  own_sent r payload o o₁ w l g s is-r =
      subst (λ (x : Option Action). Sends 1 (one_of (as_action x)) o o₁ r) (sym own_action) (own_action_sent a b payload o o₁ w own_short l g s r is-r)

-- ---- all behind the first k

record Standing (xs : List Action) (k : ℕ) : Type 0 where
  pub it : Action
  pub there : at xs k ≡ some it
  pub rest : drop k xs ≡ it ∷ drop (suc k) xs

standing : (xs : List Action) (k : ℕ) → k < length xs → Standing xs k
unfolding at
standing [] k h = absurd (omega arith)
standing (x ∷ xs) zero h = record { it = x; there = refl; rest = refl }
standing (x ∷ xs) (suc k) h = let s = standing xs k (omega arith) in record { it = s.it; there = s.there; rest = s.rest }

gather_behind : (xs : List Action) (k m : ℕ) → k + m ≡ length xs → gather (λ p. as_action (at xs (p - 1))) (after k m) ≡ map action (drop k xs)
unfolding gather after at_front as_action
gather_behind xs k zero e = let e₁ : length xs ≡ k = omega arith in
    ap (map action) (sym (drop-length xs) ∙ ap (λ (j : ℕ). drop j xs) e₁)
gather_behind xs k (suc m) e =
    let s = standing xs k (omega arith) in
    let here : k + 1 - 1 ≡ k = omega arith in
    let next : k + 1 ≡ suc k = omega arith in
    let first : as_action (at xs (k + 1 - 1)) ≡ some (action s.it) = ap (λ (j : ℕ). as_action (at xs j)) here ∙ ap as_action s.there in
    ap (λ (x : Option Record). at_front x (gather (λ p. as_action (at xs (p - 1))) (after (k + 1) m))) first
    ∙ ap (λ (l : List Record). action s.it ∷ l) (gather_behind xs (k + 1) m (omega arith) ∙ ap (λ (j : ℕ). map action (drop j xs)) next)
    ∙ ap (map action) (sym s.rest)

-- ---- in a buffer that holds a state

module _ (s : Server) (b : List ℕ) (r : Holds s b) where
  pub own_read : own_in b ≡ s.log.own
  unfolding own_in decoded decoded_as place
  own_read = ap (λ (x : Server). x.log.own) (holds_decoded s b r)

  slots_there : Occurs (action_slots s.log.own) b (place the_own b)
  unfolding parts over
  slots_there =
      subst (Occurs (action_slots s.log.own) b) (sym (holds_place s b r the_own))
      (occurs_first (action_slots s.log.own) _ b _ (holds_part s b r the_own (omega arith)))

  pub holds_own : OwnIn b
  holds_own =
      let i = in_range s r.formed in
      record {
        counts = holds_counts s b r;
        payloads = λ k h.
            slot_payload (context_of s) s.log.own b (place the_own b) k i.context i.own slots_there (omega (arith, (numbers s b r).own));
      }

  pub behind_waiting : gather (own_at b) (above (own_count_of b - length (waiting s.log)) (own_count_of b)) ≡ waiting_records s
  unfolding own_at above waiting_records
  behind_waiting =
      let w : ℕ = length (waiting s.log) in
      let own : own_count_of b ≡ length s.log.own = (numbers s b r).own in
      gather_behind (own_in b) (own_count_of b - w) (own_count_of b - (own_count_of b - w)) (omega (arith, own, ap length own_read))
      ∙ ap (map action) ((λ i. drop (own i - w) (own_read i)) ∙ sym (waiting_last s r.formed))

-- ---- lent

module _ (P : Server → Type 0) (b o : List ℕ) (l : LentSuch P b o) where
  pub lent_own : OwnIn b
  lent_own = holds_own l.state b l.holds

  own_room : most_retransmission * own_count_of b ≤ length o
  unfolding out_length
  own_room =
      let m = numbers l.state b l.holds in
      let c = lent_own.counts in
      omega (arith, m.quota, c.own, (holds_products l.state b l.holds).quota, l.room)

  module _ (h : State) (e : h ≡ header_in b) where
    said : (s : Server) → Holds s b → h ≡ header_of s
    said s r = e ∙ header_loaded s b r

    pub sent_few : h.sent ≤ h.numbered
    sent_few = sent_within h l.state l.holds.formed (said l.state l.holds)

    pub own_high : h.own_count ≡ own_count_of b
    unfolding header_of
    own_high = ap (λ (x : State). x.own_count) (said l.state l.holds) ∙ sym (numbers l.state b l.holds).own

    pub behind_high : h.own_count ≤ own_count_of b
    behind_high = omega (arith, own_high)

    pub behind_room : (low : ℕ) → Room (h.own_count - low) o
    behind_room low = omega (arith, own_high, own_room)

    pub behind_fits : (low r : ℕ) (xs : List Record) (o₁ : List ℕ) → Sends (h.own_count - low) xs o o₁ r → r < 4294967296
    behind_fits low r xs o₁ a = let c = lent_own.counts in omega (arith, own_high, a.most, c.own, c.sizes.quota)

    module _ (w : ℕ) (f : (s : Server) → well_formed s ≡ true → h ≡ header_of s → w ≡ length (waiting s.log)) where
      pub unsent_few : w ≤ h.own_count
      unsent_few =
          let s = l.state in
          let r = l.holds in
          omega (arith, f s r.formed (said s r), waiting_within s r.formed, own_high, (numbers s b r).own)

      module _ (r : ℕ) (o₁ : List ℕ) (a : Sends (h.own_count - (h.own_count - w)) (gather (own_at b) (above (h.own_count - w) h.own_count)) o o₁ r)
          (s : Server) (k : Holds s b) where
        all_waiting : gather (own_at b) (above (h.own_count - w) h.own_count) ≡ waiting_records s
        all_waiting = (λ i. gather (own_at b) (above (own_high i - f s k.formed (said s k) i) (own_high i))) ∙ behind_waiting s b k

        pub waiting_length : r ≡ length (record_bytes (waiting_records s))
        waiting_length = omega (arith, a.count, ap (λ (xs : List Record). length (record_bytes xs)) all_waiting)

        pub waiting_bytes : o₁ ≡ over (record_bytes (waiting_records s)) o
        waiting_bytes =
            a.bytes
            ∙ ap (λ (xs : List Record). over (record_bytes xs) o) all_waiting
