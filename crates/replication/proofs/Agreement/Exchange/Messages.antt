-- Where a delivered record comes from: who put it out, in which configuration.
use Prim.Native.Nat.{ℕ}
use mathlib.Core.Path.{◌≡◌, sym, ap, subst, ◌∙◌}
use mathlib.Core.Bool.{true}
use mathlib.Core.Option.{some}
use Rattle.base.proofs.AtLaws.{some_same}
use Rattle.base.specs.Sets.{in_set}
use Rattle.format.specs.Types.{Record}
use Rattle.replication.specs.Machine.Types.{Configuration}
use Rattle.replication.proofs.WellFormed.SentFacts.{sender_of}
use Rattle.replication.specs.Runs.Run.{Run}
use Rattle.replication.specs.Runs.Happenings.{Message, Sends}
use Rattle.replication.proofs.Runs.Roomy.{Roomy as Allowed}
use Rattle.replication.proofs.Runs.Deliveries.{Delivery}
use Rattle.replication.proofs.Runs.Sending.{Puts}
use Rattle.replication.proofs.Runs.Origins.{origin}
use Rattle.replication.proofs.Agreement.Exchange.Stages.{InCom}

pub same_message_lem : {m m' : Message} → m.sending ≡ m'.sending → m.number ≡ m'.number → m ≡ m'
same_message_lem e f = λ j. record { sending = e j; number = f j }

module _ {n q : ℕ} {l : Run} (A : Allowed n q l) where
  -- The message m is the record r that the member k sent in c.
  pub record SentIn (m : Message) (k : ℕ) (c : Configuration) (r : Record) : Type 0 where
    pub puts : Puts A m.sending k m.number c r
    pub sends : Sends n q l k m c
    pub member : in_set k c.set ≡ true

  pub sent_in_lem : {p i : ℕ} {m : Message} {r : Record} (k : ℕ) (c : Configuration) (d : Delivery A p i m) → d.what ≡ r → sender_of r ≡ some k
      → InCom n q l p i c → SentIn m k c r
  sent_in_lem {p} {i} {m} {r} k c d e s a =
      let o = origin A d in
      let f : o.configuration ≡ c = some_same (sym o.here ∙ a) in
      let g : o.sender ≡ k = some_same (sym o.named ∙ ap sender_of e ∙ s) in
      let w : SentIn m o.sender o.configuration d.what = record { puts = o.puts; sends = o.sends; member = o.member } in
      subst (SentIn m k c) e (subst (λ z. SentIn m k z d.what) f (subst (λ z. SentIn m z o.configuration d.what) g w))
