-- A delivered record is one that a member of the deliverer's configuration put out and sent there, earlier, in its own name.
use Prim.Native.Nat.{ℕ, suc, ◌<◌}
use mathlib.Core.Path.{◌≡◌, sym, ap, subst, ◌∙◌}
use mathlib.Core.Bool.{true}
use mathlib.Core.List.{List}
use mathlib.Core.Option.{some}
use native.Mathlib.Omega.{arith}
use Rattle.base.specs.Lists.{at}
use Rattle.base.proofs.AtLaws.{some_same}
use Rattle.base.proofs.ListLaws.{each_at}
use Rattle.base.specs.Sets.{in_set}
use Rattle.format.specs.Types.{Record, Context, says}
use Rattle.format.specs.Read.{read}
use Rattle.format.specs.Write.{write}
use Rattle.format.proofs.Ranges.{sizes_range}
use Rattle.replication.specs.Machine.Types.{Configuration, set_of}
use Rattle.replication.specs.Laws.Sending.{Peer}
use Rattle.replication.proofs.WellFormed.SentFacts.{sender_of}
use Rattle.replication.specs.Runs.Run.{Run, Place, nowhere, heard, place_at, heard_at, sent_at}
use Rattle.replication.specs.Runs.Happenings.{Message, Sends}
use Rattle.replication.proofs.Runs.Roomy.{Roomy as Allowed}
use Rattle.replication.proofs.Runs.DeliveryFacts.{record_from, record_in, record_of}
use Rattle.replication.proofs.WellFormed.Reads.{put_out_reads, taken_put_out}
use Rattle.replication.proofs.Runs.Places.{of_one, of_event}
use Rattle.replication.proofs.Runs.Shifts.{says_same, comes_of}
use Rattle.replication.proofs.Runs.Numbers.{numbers, well_formed_at}
use Rattle.replication.proofs.Runs.Deliveries.{Delivery}
use Rattle.replication.proofs.Runs.AllowedTurns.{memory_at}
use Rattle.replication.proofs.Runs.Sending.{Puts, sent_put_out}
use Rattle.replication.proofs.Runs.Order.{sender_member}

module _ {n q : ℕ} {l : Run} (A : Allowed n q l) where
  -- Where a delivery comes from: it delivers the record r.
  pub record Origin (p i : ℕ) (m : Message) (r : Record) : Type 0 where
    pub sender : ℕ
    pub configuration : Configuration
    pub puts : Puts A m.sending sender m.number configuration r
    pub sends : Sends n q l sender m configuration
    pub named : sender_of r ≡ some sender
    pub member : in_set sender configuration.set ≡ true
    pub earlier : m.sending < p
    pub here : (place_at n q l i p).regular ≡ some configuration

  pub positive : 0 < n
  positive = omega (arith, (sizes_range n q A.allowed.sizes).fewest)

  module _ {p i k : ℕ} {c : Configuration} {r : Record} (x : Puts A p i k c r) where
    own : i < n
    own = A.allowed.servers p i (of_event x.act.here)

    -- What is put out reads as what was meant, at every server and in every configuration.
    pub puts_read : (j : ℕ) (y : Place) → j < n → heard n q j y (write r) ≡ says r
    unfolding heard
    puts_read j y h =
        let s = (numbers n q i l p).memory in
        let f = (well_formed_at n q i A.allowed.sizes own l p).memory in
        let c : Context = record { servers = n; quota = q; self = j; last = set_of y.regular } in
        let peer : Peer (memory_at n q l p i) c = record { servers = sym s.servers; quota = sym s.quota; self = h } in
        each_at (λ z. read c (write z) ≡ says z) x.act.by.records k r
        (put_out_reads _ f c peer x.act.by.records (taken_put_out _ x.act.bytes _ _ _ _ f x.act.by))
        x.record-there

    -- It names the server that put it out.
    pub puts_named : sender_of r ≡ some i
    puts_named =
        let s = (numbers n q i l p).memory in
        let f = (well_formed_at n q i A.allowed.sizes own l p).memory in
        each_at (λ z. sender_of z ≡ some (memory_at n q l p i).me) x.act.by.records k r
        (taken_put_out _ x.act.bytes _ _ _ _ f x.act.by).own
        x.record-there
        ∙ ap some s.me

  -- What a delivery's message put out, and in which bytes.
  pub record Sending (p i : ℕ) (m : Message) (e : List ℕ) : Type 0 where
    pub sender : ℕ
    pub configuration : Configuration
    pub said : Record
    pub puts : Puts A m.sending sender m.number configuration said
    pub bytes : e ≡ write said
    pub there : at (sent_at n q l m.sending) m.number ≡ some e
    pub earlier : m.sending < p

  sending : {p i : ℕ} {m : Message} (d : Delivery A p i m) → Sending p i m d.comes.bytes
  sending {p} {i} {m} d =
      let g = A.allowed.genuine p i d.comes.sent d.comes.bytes d.what d.comes.here d.comes d.message in
      let t = subst (λ z. at (sent_at n q l z.sending) z.number ≡ some d.comes.bytes) d.which g.1 in
      let u = sent_put_out A m.sending m.number d.comes.bytes t in
      record {
        sender = u.0;
        configuration = u.1;
        said = u.2;
        puts = u.3;
        bytes = u.4;
        there = t;
        earlier = subst (λ k. k.sending < p) d.which g.0;
      }

  -- It is read as what was meant.
  said_what : {p i : ℕ} {m : Message} (d : Delivery A p i m) (u : Sending p i m d.comes.bytes) → u.said ≡ d.what
  unfolding heard_at
  said_what {p} {i} {m} d u =
      says_same
      (sym (puts_read u.puts i (place_at n q l i p) (A.allowed.servers p i (comes_of d.comes))) ∙ ap (heard n q i (place_at n q l i p)) (sym u.bytes) ∙ d.comes.heard)

  pub origin : {p i : ℕ} {m : Message} (d : Delivery A p i m) → Origin p i m d.what
  origin {p} {i} {m} d =
      let s = A.allowed.same_configuration_lem p i m d in
      let u = sending d in
      let e = said_what d u in
      let v : s.0 ≡ u.sender = of_one s.2.mine (of_event u.puts.act.here) in
      let w : s.1 ≡ u.configuration =
      some_same (sym s.2.under ∙ ap (λ z. (place_at n q l z (suc m.sending)).regular) v ∙ ap (λ z. z.regular) u.puts.in_regular_lem)
      in
      let z : Sends n q l u.sender m u.configuration = subst (λ k. Sends n q l k m u.configuration) v (subst (λ c. Sends n q l s.0 m c) w s.2) in
      record {
        sender = u.sender;
        configuration = u.configuration;
        puts = subst (λ r. Puts A m.sending u.sender m.number u.configuration r) e u.puts;
        sends = z;
        named = ap sender_of (sym e) ∙ puts_named u.puts;
        member = sender_member z;
        earlier = u.earlier;
        here = s.3 ∙ ap some w;
      }

  -- A delivery says what its message says.
  pub delivery_says : {p i : ℕ} {m : Message} (d : Delivery A p i m) → record_of n q l m ≡ some d.what
  unfolding record_of record_in record_from
  delivery_says {p} {i} {m} d =
      let u = sending d in
      ap (record_in n q l) u.there
      ∙ ap (λ z. record_from (heard n q 0 nowhere z)) u.bytes
      ∙ ap (record_from) (puts_read u.puts 0 nowhere positive)
      ∙ ap some (said_what d u)
