-- What is sent, delivered and left in a regular configuration is in its part of the journal.
use Prim.Native.Nat.{ℕ, suc, ◌<◌}
use mathlib.Core.Path.{◌≡◌, refl, ap, subst, subst₂, ◌∙◌, sym}
use mathlib.Core.Bool.{true}
use mathlib.Core.List.{List, map}
use mathlib.Core.Option.{some}
use Rattle.base.specs.Tests.{◌=?◌, ◌<?◌}
use Rattle.base.proofs.TestLaws.{and_holds, eq_holds, lt_holds}
use Rattle.base.proofs.AtLaws.{at_map}
use Rattle.base.proofs.QuantifierLaws.{Among, any_among, filter_among, among_map, among_once, among_number, number_among}
use Rattle.replication.specs.Machine.Types.{Configuration}
use Rattle.replication.specs.Machine.Step.{the_id}
use Rattle.replication.specs.Runs.Run.{Run, Place, place_at}
use Rattle.replication.specs.Runs.Happenings.{Message, Left, Sends, Delivers, Delivered}
use Rattle.replication.specs.Audit.Witness.{Witness, source_in, name_in}
use Rattle.replication.specs.Audit.Same.{same_message}
use Rattle.replication.specs.Audit.Table.{table}
use Rattle.replication.specs.Audit.Clocks.{stamps}
use Rattle.replication.specs.Audit.Journal.{Sending, Delivery, Taking, PerConfiguration, per_configuration, configurations_of, Journal, sendings_in, deliveries_in, leavings_in, sorted, journal_of}
use Rattle.replication.specs.Audit.Specifications.{is_delivered, earlier, has_message}
use Rattle.replication.proofs.Verdicts.Sameness.{messages_decided}
use Rattle.replication.proofs.Verdicts.Entries.{sending_at, sending_among, Delivering, delivered}
use Rattle.replication.proofs.Verdicts.Later.{leaving_among}

module _ (n q : ℕ) (l : Run) (w : Witness) where
  abbrev J : Journal
  J = journal_of (table n q l w)

  abbrev Del : (p i : ℕ) → Message → Type 0
  Del p i m = Delivers n q l (source_in w) (name_in w) p i m

  abbrev sendings : List Sending
  sendings = sendings_in (table n q l w) (stamps (table n q l w))

  -- The part of the configuration c.
  abbrev pub part : Configuration → PerConfiguration
  part c = per_configuration sendings (deliveries_in (table n q l w) (stamps (table n q l w))) (leavings_in (table n q l w)) c.id

  -- ---- what is there

  sent_id : (i : ℕ) (m : Message) (c : Configuration) (s : Sends n q l i m c) → the_id (sending_at n q l w m s.mine.entry).regular ≡ c.id
  unfolding the_id sending_at
  sent_id i m c s = ap the_id (ap (λ k. (place_at n q l k (suc m.sending)).regular) s.mine.its ∙ s.under)

  pub part_there : (i : ℕ) (m : Message) (c : Configuration) → Sends n q l i m c → Among (part c) J.configurations
  unfolding journal_of sorted configurations_of
  part_there i m c s =
      let id : Sending → ℕ = λ z. the_id z.regular in
      among_map (per_configuration _ _ _)
      (among_once (subst (λ k. Among k (map id sendings)) (sent_id i m c s) (among_map id (sending_among n q l w i m c s))))

  pub sending_in_lem : (i : ℕ) (m : Message) (c : Configuration) (s : Sends n q l i m c) → Among (sending_at n q l w m s.mine.entry) (part c).sendings
  unfolding per_configuration
  sending_in_lem i m c s = among_number (λ (z : Sending). the_id z.regular) c.id (sending_among n q l w i m c s) (sent_id i m c s)

  pub delivery_in : (p i : ℕ) (m : Message) (d : Delivering n q l w p i m) (c : Configuration) → (place_at n q l i p).regular ≡ some c → Among d.it (part c).deliveries
  unfolding per_configuration the_id
  delivery_in p i m d c e =
      among_number (λ (z : Delivery). the_id z.before.regular) c.id d.among (ap the_id (ap (λ (z : Place). z.regular) d.before ∙ e))

  pub leaving_in : (i : ℕ) (c : Configuration) (f : Left n q l i c)
      → Among (record { place = f.p; server = i; before = place_at n q l i f.p; configuration = c }) (part c).leavings
  unfolding per_configuration
  leaving_in i c f = among_number (λ (z : Taking). z.configuration.id) c.id (leaving_among n q l w i c f) refl

  -- ---- what is found

  pub found_delivered : (c : Configuration) (i : ℕ) (m : Message) → is_delivered (part c).deliveries i m ≡ true → Delivered n q l (source_in w) (name_in w) i m
  unfolding is_delivered per_configuration
  found_delivered c i m h =
      let f = any_among _ _ h in
      let both = and_holds (f.0.server =? i) (same_message f.0.sending.message m) f.2 in
      record {
        place = f.0.place;
        it = subst₂ (λ a b. Del f.0.place a b) (eq_holds f.0.server i both.0) (messages_decided.says f.0.sending.message m both.1)
            (delivered n q l w f.0 (number_among (λ (z : Delivery). the_id z.before.regular) c.id _ f.1));
      }

  pub found_before : (c : Configuration) (d : Delivery) (m : Message) → has_message m (earlier (part c).deliveries d) ≡ true
      → (x : ℕ) × Del x d.server m × (x < d.place)
  unfolding has_message earlier per_configuration
  found_before c d m h =
      let f = any_among (same_message m) _ h in
      let y = at_map (λ (x : Delivery). x.sending.message) _ f.1.place f.0 f.1.there in
      let z = filter_among _ _ (record { place = f.1.place; there = y.1 }) in
      let both = and_holds (y.0.server =? d.server) (y.0.place <? d.place) z.1 in (
        y.0.place,
        subst₂ (λ a b. Del y.0.place a b) (eq_holds y.0.server d.server both.0) (sym (messages_decided.says m f.0 f.2 ∙ y.2))
            (delivered n q l w y.0 (number_among (λ (x : Delivery). the_id x.before.regular) c.id _ z.0)),
        lt_holds y.0.place d.place both.1,
      )
