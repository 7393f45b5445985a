-- The thesis's Specifications hold of a run whose tests pass.
use Prim.Native.Nat.{ℕ, suc, ◌≤◌, ◌<◌}
use mathlib.Core.Path.{◌≡◌, refl, sym, ap, subst, subst₂, ◌∙◌}
use mathlib.Core.Bool.{true}
use mathlib.Core.Option.{Option, some}
use native.Mathlib.Omega.{arith}
use lib.ListN.{drop}
use Rattle.base.specs.Tests.{◌=?◌, ◌<?◌, ◌and◌, ◌or◌}
use Rattle.base.proofs.TestLaws.{and_holds, eq_yes, eq_holds, both_yes, lt_yes, lt_holds}
use Rattle.base.specs.Lists.{is_there}
use Rattle.base.proofs.ListLaws.{there}
use Rattle.base.specs.Quantifiers.{◌implies◌}
use Rattle.base.proofs.AtLaws.{at_low}
use Rattle.base.proofs.QuantifierLaws.{Among, implied, all_among_lem, any_among, among_any, each_two, among_filter, filter_among}
use Rattle.base.proofs.Deciding.{decided}
use Rattle.format.specs.Types.{Record, regular, transitional, Reading, says}
use Rattle.replication.specs.Machine.Types.{Configuration}
use Rattle.replication.specs.Runs.Run.{Entry, event, Run, server_of, Place, place_at, heard_at, sent_at}
use Rattle.replication.specs.Runs.Happenings.{Message, Configured, Comes, Falls, Takes, Left, Sends, Delivers, Delivered, Configures, to_regular, to_transitional, Passes}
use Rattle.replication.specs.Audit.Witness.{Witness, source_in, name_in}
use Rattle.replication.specs.Audit.Same.{same_regular}
use Rattle.replication.specs.Audit.Table.{table}
use Rattle.replication.specs.Audit.Journal.{Sending, Delivery, Taking, Transition, Passage, Journal, settles, sorted, journal_of}
use Rattle.replication.specs.Audit.Rules.{genuine}
use Rattle.replication.specs.Audit.Specifications.{is_delivered, same_configuration_lem, is_again, one_delivery, one_name, has_left_since, self_delivery, during, is_regular, is_over, same_way, all_among, atomic}
use Rattle.replication.proofs.Verdicts.Sameness.{messages_decided, regulars_decided, places_decided, configured_decided}
use Rattle.replication.proofs.Verdicts.Entries.{transition_among, sending_at, Delivering, delivering, delivered_message, delivered_sending, delivered}
use Rattle.replication.proofs.Verdicts.Later.{settled, change, passage_among}
use Rattle.replication.proofs.Runs.Deliveries.{sends_one}
use Rattle.replication.proofs.Verdicts.PerConfiguration.{part, part_there, sending_in_lem, delivery_in, leaving_in, found_delivered}
use Rattle.replication.proofs.Verdicts.RuleFields.{genuine_delivery}

module _ (n q : ℕ) (l : Run) (w : Witness) where
  abbrev J : Journal
  J = journal_of (table n q l w)

  abbrev Del : (p i : ℕ) → Message → Type 0
  Del p i m = Delivers n q l (source_in w) (name_in w) p i m

  -- ---- 1

  pub same_configuration_holds : genuine J ≡ true → same_configuration_lem J ≡ true → (p i : ℕ) (m : Message) → Del p i m
      → (j : ℕ) × (c : Configuration) × Sends n q l j m c × ((place_at n q l i p).regular ≡ some c)
  unfolding same_configuration_lem journal_of sorted sending_at
  same_configuration_holds g h p i m d =
      let it = delivering n q l w p i m d in
      let gen = genuine_delivery n q l w g p i m d in
      let test = all_among_lem (λ (z : Delivery). is_there z.before.regular and same_regular z.sending.regular z.before.regular) it.among h in
      let both = and_holds _ _ test in
      let c = there it.it.before.regular both.0 in
      let here : it.it.before.regular ≡ (place_at n q l i p).regular = ap (λ (z : Place). z.regular) it.before in
      let under : (place_at n q l (server_of gen.entry) (suc m.sending)).regular ≡ some c.0 =
      sym (ap (λ z. z.regular) (delivered_sending n q l w p i m it gen.entry gen.here))
      ∙ regulars_decided.says it.it.sending.regular it.it.before.regular both.1
      ∙ c.1 in (
        server_of gen.entry,
        c.0,
        record {
          mine = record { entry = gen.entry; here = gen.here; its = refl };
          out = at_low (sent_at n q l m.sending) m.number _ gen.sent;
          under = under;
        },
        sym here ∙ c.1,
      )

  -- A delivery is in the part of the configuration in which its message was sent.
  pub record Placed (p i : ℕ) (m : Message) : Type 0 where
    pub it : Delivering n q l w p i m
    pub sender : ℕ
    pub configuration : Configuration
    pub sent : Sends n q l sender m configuration
    pub regular : (place_at n q l i p).regular ≡ some configuration
    pub among : Among it.it (part n q l w configuration).deliveries

  pub placed : genuine J ≡ true → same_configuration_lem J ≡ true → (p i : ℕ) (m : Message) → Del p i m → Placed p i m
  placed g h p i m d =
      let s = same_configuration_holds g h p i m d in
      let it = delivering n q l w p i m d in
      record { it = it; sender = s.0; configuration = s.1; sent = s.2; regular = s.3; among = delivery_in n q l w p i m it s.1 s.3 }

  pub one_delivery_holds : genuine J ≡ true → same_configuration_lem J ≡ true → one_delivery J ≡ true
      → (p r i : ℕ) (m : Message) → Del p i m → Del r i m → place_at n q l i p ≡ place_at n q l i r
  unfolding one_delivery is_again
  one_delivery_holds g u h p r i m d e =
      let a = placed g u p i m d in
      let b = placed g u r i m e in
      let one : b.configuration ≡ a.configuration = (sends_one b.sent a.sent).1 in
      let same : a.it.it.before ≡ b.it.it.before =
      each_two _ (λ (x y : Delivery). x.server ≡ y.server → x.sending.message ≡ y.sending.message → x.before ≡ y.before)
      (λ x s t. refl) (λ x y f s t. sym (f (sym s) (sym t)))
      (λ x y f s t. places_decided.says x.before y.before (implied _ _ f (both_yes _ _ (eq_yes x.server y.server s) (decided messages_decided t))))
      (all_among_lem _ (part_there n q l w a.sender m a.configuration a.sent) h)
      a.among (subst (λ c. Among b.it.it (part n q l w c).deliveries) one b.among) (a.it.server ∙ sym b.it.server)
      (delivered_message n q l w p i m a.it ∙ sym (delivered_message n q l w r i m b.it)) in
      sym a.it.before ∙ same ∙ b.it.before

  -- ---- 2

  pub one_name_holds : one_name J ≡ true → (p r i j s t : ℕ) → Comes n q l p i (transitional s) → Comes n q l r j (transitional t) → name_in w p ≡ name_in w r
      → ((place_at n q l i p).regular ≡ (place_at n q l j r).regular) × (s ≡ t)
  unfolding one_name journal_of sorted
  one_name_holds h p r i j s t u v =
      each_two _ (λ (x y : Transition). x.name ≡ y.name → (x.before.regular ≡ y.before.regular) × (x.set ≡ y.set))
      (λ x e. (refl, refl)) (λ x y f e. let g = f (sym e) in (sym g.0, sym g.1))
      (λ x y f e.
      let both = and_holds _ _ (implied _ _ f (eq_yes x.name y.name e)) in
      (regulars_decided.says x.before.regular y.before.regular both.0, eq_holds x.set y.set both.1))
      h (transition_among n q l w p i s u) (transition_among n q l w r j t v)

  -- ---- 3

  pub self_delivery_holds : self_delivery J ≡ true → (i : ℕ) (m : Message) (c : Configuration) → Sends n q l i m c → Left n q l i c
      → Delivered n q l (source_in w) (name_in w) i m
  unfolding self_delivery has_left_since sending_at
  self_delivery_holds h i m c s f =
      let y : Entry = s.mine.entry in
      let a : Sending = sending_at n q l w m y in
      let test = all_among_lem (λ (z : Sending). has_left_since (part n q l w c).leavings z implies is_delivered (part n q l w c).deliveries z.server z.message)
      (sending_in_lem n q l w i m c s) (all_among_lem _ (part_there n q l w i m c s) h) in
      let under : some c ≡ a.regular = sym (ap (λ k. (place_at n q l k (suc m.sending)).regular) s.mine.its ∙ s.under) in
      let left : has_left_since (part n q l w c).leavings a ≡ true =
      among_any (λ (t : Taking). t.server =? a.server and same_regular (some t.configuration) a.regular) (leaving_in n q l w i c f)
      (both_yes _ _ (eq_yes i a.server (sym s.mine.its)) (decided regulars_decided under)) in
      subst (λ k. Delivered n q l (source_in w) (name_in w) k m) s.mine.its (found_delivered n q l w c (server_of y) m (implied _ _ test left))

  -- ---- 4

  -- One event does not bring both kinds of configuration.
  one_kind : (p i s : ℕ) (c : Configuration) → Comes n q l p i (transitional s) → Takes n q l p i c → ⊥
  one_kind p i s c t u =
      let same : ◌≡◌ {A = Option Entry} (some (event i t.bytes t.sent)) (some (event i u.bytes u.sent)) = sym t.here ∙ u.here in
      let bytes : t.bytes ≡ u.bytes = cc in
      let both : ◌≡◌ {A = Reading Record} (says (transitional s)) (says (regular c.id c.set)) = sym t.heard ∙ ap (heard_at n q l p i) bytes ∙ u.heard in
      let z : ◌≡◌ {A = ℕ} 0 1 = cc in
      absurd (omega arith)

  -- A server that took a regular configuration after y has left the one that it came to at y, if that is a transitional one.
  over : (j y r : ℕ) (d : Configured) (f : Configuration) → Configures n q l (source_in w) (name_in w) y j d → y ≤ r → Takes n q l r j f
      → ((v : ℕ) → y < v → v < r → Falls n q l v j → ⊥) → (is_regular d or settles j (drop (suc y) (table n q l w))) ≡ true
  unfolding is_regular ◌or◌
  over j y r d f (to_regular c t) late u steady = refl
  over j y r d f (to_transitional s t) late u steady =
      let other : y ≡ r → ⊥ = λ e. one_kind y j s f t (subst (λ k. Takes n q l k j f) (sym e) u) in
      settled n q l w j y r f (omega arith) u steady

  -- What is delivered on a way is found there, and what is found is delivered.
  during_has : (a : Passage) (z i : ℕ) (m : Message) (d : Delivering n q l w z i m) → a.from.server ≡ i → a.from.place < z → z < a.to.place
      → Among d.it (during J.deliveries a)
  unfolding during journal_of sorted
  during_has a z i m d server low high =
      among_filter _ d.among
      (both_yes _ _ (eq_yes d.it.server a.from.server (d.server ∙ sym server))
      (both_yes _ _ (lt_yes a.from.place d.it.place (omega (arith, d.place))) (lt_yes d.it.place a.to.place (omega (arith, d.place)))))

  during_is : (a : Passage) (d : Delivery) (j : ℕ) (m : Message) → Among d (during J.deliveries a) → a.from.server ≡ j → d.sending.message ≡ m
      → (u : ℕ) × Del u j m × (a.from.place < u) × (u < a.to.place)
  unfolding during journal_of sorted
  during_is a d j m h server message =
      let f = filter_among _ _ h in
      let first = and_holds (d.server =? a.from.server) _ f.1 in
      let second = and_holds (a.from.place <? d.place) (d.place <? a.to.place) first.1 in
      let its : d.server ≡ j = eq_holds d.server a.from.server first.0 ∙ server in (
        d.place,
        subst₂ (λ k x. Del d.place k x) its message (delivered n q l w d f.0),
        lt_holds a.from.place d.place second.0,
        lt_holds d.place a.to.place second.1,
      )

  pub atomic_holds : atomic J ≡ true → (i j p r x y z v : ℕ) (m : Message) (c d : Configured) (f : Configuration)
      → Passes n q l (source_in w) (name_in w) i c d p r → Passes n q l (source_in w) (name_in w) j c d x y → p < z → z < r → Del z i m
      → y ≤ v → Takes n q l v j f → ((u : ℕ) → x < u → u < v → Falls n q l u j → ⊥)
      → (u : ℕ) × Del u j m × (x < u) × (u < y)
  unfolding atomic same_way is_over all_among journal_of sorted
  atomic_holds h i j p r x y z v m c d f a b low high e late t steady =
      let it = delivering n q l w z i m e in
      let A : Passage = record { from = change n q l w p i c; to = change n q l w r i d } in
      let B : Passage = record { from = change n q l w x j c; to = change n q l w y j d } in
      let test = all_among_lem _ (passage_among n q l w j c d x y b) (all_among_lem _ (passage_among n q l w i c d p r a) h) in
      let way = both_yes _ _ (both_yes _ _ (configured_decided.itself c) (configured_decided.itself d))
      (over j y v d f b.to late t (λ u less. steady u (omega (arith, b.order)))) in
      let found = any_among _ _ (all_among_lem _ (during_has A z i m it refl low high) (implied _ _ test way)) in
      let message = messages_decided.says found.0.sending.message it.it.sending.message found.2 ∙ delivered_message n q l w z i m it in
      during_is B found.0 j m found.1 refl message
