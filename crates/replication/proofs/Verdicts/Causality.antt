-- What causes something is known there, by the vector clocks.
use Prim.Native.Nat.{ℕ, suc, ◌+◌, ◌<◌}
use mathlib.Core.Path.{◌≡◌, sym, ap, subst, subst₂, ◌∙◌}
use mathlib.Core.List.{List}
use mathlib.Core.Option.{some}
use native.Mathlib.Omega.{arith}
use lib.ListN.{length, get_or}
use Rattle.base.specs.Lists.{at}
use Rattle.replication.specs.Runs.Run.{Entry, event, Run, server_of, sent_at}
use Rattle.replication.specs.Runs.Happenings.{Message, Happening, entry_at, sending_of, Of, Delivers, Causes, in_turn_lem, sends, in_order, before_next, carries, through}
use Rattle.replication.specs.Audit.Witness.{Witness, source_in, name_in}
use Rattle.replication.specs.Audit.Table.{delivers, Row, table}
use Rattle.replication.specs.Audit.Clocks.{raise, Stamps, number_of, clock_at, clock_with, stamps}
use Rattle.replication.proofs.Verdicts.Rows.{row_at, table_holds, table_is, row_place, row_server, row_sent, role_of}
use Rattle.replication.proofs.Verdicts.Entries.{message_role, row_source}
use Rattle.replication.proofs.Verdicts.Stamps.{Below, below_trans, raise_below, raise_at, raise_more, knows_own, knows_delivered, stamp_server}

module _ (n q : ℕ) (l : Run) (w : Witness) (sent_before : (p i : ℕ) (m : Message) → Delivers n q l (source_in w) (name_in w) p i m → m.sending < p) where
  abbrev rows : List Row
  rows = table n q l w

  abbrev S : Stamps
  S = stamps rows

  ordered : (p : ℕ) (r : Row) → at rows p ≡ some r → r.place ≡ p
  ordered p r e = let t = table_is n q l w p r e in ap (λ (z : Row). z.place) t.2 ∙ row_place n q l w p t.0

  -- What is known at a happening.
  abbrev clock_of : Happening → List ℕ
  clock_of (entry_at p) = (S.stamp p).clock
  clock_of (sending_of m) = clock_at S m

  -- A message that was sent.
  abbrev Real : Happening → Type 0
  Real (entry_at p) = Unit {0}
  Real (sending_of m) = m.number < length (sent_at n q l m.sending)

  abbrev Told : Happening → List ℕ → Type 0
  Told (entry_at p) c = Unit {0}
  Told (sending_of m) c = number_of S m < get_or c (S.stamp m.sending).server 0

  pub record Learns (a b : Happening) : Type 0 where
    pub before : Below (clock_of a) (clock_of b)
    pub itself : Told a (clock_of b)

  told_later : (a : Happening) (c d : List ℕ) → Told a c → Below c d → Told a d
  told_later (entry_at p) c d t h = tt
  told_later (sending_of m) c d t h = omega (arith, h (S.stamp m.sending).server)

  learns_through : (a b c : Happening) → Learns a b → Learns b c → Learns a c
  learns_through a b c h k = record {
    before = below_trans (clock_of a) (clock_of b) (clock_of c) h.before k.before;
    itself = told_later a (clock_of b) (clock_of c) h.itself k.before;
  }

  reached : (a b : Happening) → Causes n q l (source_in w) (name_in w) a b → Real b
  reached a b (in_turn_lem i o u less) = tt
  reached a b (sends m h) = h
  reached a b (in_order m m' e less h) = h
  reached a b (before_next i m out o u less) = tt
  reached a b (carries i m d) = tt
  reached a c (through {b = b} f g) = reached b c g

  -- What the server of p knows after it is known at its later places.
  own_later : (p r i : ℕ) → Of l p i → Of l r i → p < r
      → Below (raise (S.stamp p).server ((S.stamp p).first + length (sent_at n q l p)) (S.stamp p).clock) (S.stamp r).clock
  own_later p r i o u less =
      let x : Row = row_at n q l w p o.entry in
      let z : Row = row_at n q l w r u.entry in
      let here : at rows p ≡ some x = table_holds n q l w p o.entry o.here in
      let there : at rows r ≡ some z = table_holds n q l w r u.entry u.here in
      let same : x.server ≡ z.server = row_server n q l w p o.entry ∙ o.its ∙ sym (row_server n q l w r u.entry ∙ u.its) in
      subst₂ (λ (k : ℕ) (t : List (List ℕ)). Below (raise k ((S.stamp p).first + length t) (S.stamp p).clock) (S.stamp r).clock)
      (sym (stamp_server rows ordered p x here)) (row_sent n q l w p o.entry o.here)
      (knows_own rows ordered p r x z less here there same)

  delivered_known : (p i : ℕ) (m : Message) → Delivers n q l (source_in w) (name_in w) p i m → Below (clock_with S m) (S.stamp p).clock
  delivered_known p i m d =
      let y : Entry = event i d.comes.bytes d.comes.sent in
      let r : Row = row_at n q l w p y in
      let which : r.source ≡ m = row_source n q l w p y ∙ d.which in
      let role : r.role ≡ delivers = role_of n q l w p i d.what d.comes ∙ message_role d.what d.message in
      subst (λ z. Below (clock_with S z) (S.stamp p).clock) which
      (knows_delivered rows ordered p r (table_holds n q l w p y d.comes.here) role
      (subst (λ (z : Message). z.sending < p) (sym which) (sent_before p i m d)))

  in_turn_learns : (p r i : ℕ) → Of l p i → Of l r i → p < r → Learns (entry_at p) (entry_at r)
  in_turn_learns p r i o u less =
      let all : ℕ = (S.stamp p).first + length (sent_at n q l p) in
      record {
        before = below_trans (S.stamp p).clock (raise (S.stamp p).server all (S.stamp p).clock) (S.stamp r).clock
            (raise_below (S.stamp p).server all (S.stamp p).clock) (own_later p r i o u less);
        itself = tt;
      }

  sends_learns : (m : Message) → Learns (entry_at m.sending) (sending_of m)
  unfolding clock_at
  sends_learns m = record { before = raise_below (S.stamp m.sending).server (number_of S m) (S.stamp m.sending).clock; itself = tt }

  in_order_learns : (s k k' : ℕ) → k < k' → Learns (sending_of (record { sending = s; number = k })) (sending_of (record { sending = s; number = k' }))
  unfolding clock_at number_of
  in_order_learns s k k' less = record {
    before = raise_more (S.stamp s).server ((S.stamp s).first + k) ((S.stamp s).first + k') (S.stamp s).clock (omega arith);
    itself = omega (arith, raise_at (S.stamp s).server ((S.stamp s).first + k') (S.stamp s).clock);
  }

  before_next_learns : (r i : ℕ) (m : Message) → Of l m.sending i → Of l r i → m.sending < r → Real (sending_of m) → Learns (sending_of m) (entry_at r)
  unfolding clock_at number_of
  before_next_learns r i m o u less real =
      let s : ℕ = m.sending in
      let all : ℕ = (S.stamp s).first + length (sent_at n q l s) in
      record {
        before = below_trans (clock_at S m) (raise (S.stamp s).server all (S.stamp s).clock) (S.stamp r).clock
            (raise_more (S.stamp s).server (number_of S m) all (S.stamp s).clock (omega arith)) (own_later s r i o u less);
        itself = omega (arith, raise_at (S.stamp s).server all (S.stamp s).clock, own_later s r i o u less (S.stamp s).server);
      }

  carries_learns : (p i : ℕ) (m : Message) → Delivers n q l (source_in w) (name_in w) p i m → Learns (sending_of m) (entry_at p)
  unfolding clock_at clock_with
  carries_learns p i m d =
      let t : ℕ = (S.stamp m.sending).server in
      record {
        before = below_trans (clock_at S m) (clock_with S m) (S.stamp p).clock
            (raise_more t (number_of S m) (suc (number_of S m)) (S.stamp m.sending).clock (omega arith)) (delivered_known p i m d);
        itself = omega (arith, raise_at t (suc (number_of S m)) (S.stamp m.sending).clock, delivered_known p i m d t);
      }

  pub learns : (a b : Happening) → Causes n q l (source_in w) (name_in w) a b → Real a → Learns a b
  learns a b (in_turn_lem {p} {r} i o u less) real = in_turn_learns p r i o u less
  learns a b (sends m h) real = sends_learns m
  learns a b (in_order m m' e less h) real =
      subst (λ s. Learns (sending_of m) (sending_of (record { sending = s; number = m'.number }))) e (in_order_learns m.sending m.number m'.number less)
  learns a b (before_next {r} i m out o u less) real = before_next_learns r i m o u less real
  learns a b (carries {p} i m d) real = carries_learns p i m d
  learns a c (through {b = b} f g) real = learns_through a b c (learns a b f real) (learns b c g (reached a b f))

  -- A message whose sending causes the sending of m' is known there.
  pub cause_known : (m m' : Message) (y : Entry) → at l m.sending ≡ some y → Causes n q l (source_in w) (name_in w) (sending_of m) (sending_of m')
      → m.number < length (sent_at n q l m.sending) → number_of S m < get_or (clock_at S m') (server_of y) 0
  cause_known m m' y e c real =
      let server : (S.stamp m.sending).server ≡ server_of y =
      stamp_server rows ordered m.sending (row_at n q l w m.sending y) (table_holds n q l w m.sending y e) ∙ row_server n q l w m.sending y in
      subst (λ i. number_of S m < get_or (clock_at S m') i 0) server (learns (sending_of m) (sending_of m') c real).itself
