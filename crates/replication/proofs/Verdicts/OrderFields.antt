-- Specifications 5 to 7 hold of a run whose tests pass.
use Prim.Native.Nat.{ℕ, suc, ◌<◌}
use mathlib.Core.Path.{◌≡◌, refl, sym, ap, subst, subst₂, ◌∙◌}
use mathlib.Core.Bool.{true}
use mathlib.Core.Option.{some}
use native.Mathlib.Omega.{arith}
use lib.ListN.{get_or}
use Rattle.base.proofs.TestLaws.{and_holds, eq_yes, eq_holds, both_yes, lt_yes}
use Rattle.base.specs.Quantifiers.{◌implies◌}
use Rattle.base.proofs.AtLaws.{some_same, at_low}
use Rattle.base.proofs.QuantifierLaws.{Among, implied, all_among_lem, each_two}
use Rattle.base.proofs.Deciding.{decided}
use Rattle.base.specs.Sets.{in_set}
use Rattle.replication.specs.Machine.Types.{Configuration}
use Rattle.replication.specs.Runs.Run.{Entry, Run, Place, place_at, members, sent_at}
use Rattle.replication.specs.Runs.Happenings.{Message, Configured, Happening, entry_at, sending_of, Left, Sends, Delivers, Delivered, Configures, Causes, Precedes}
use Rattle.replication.specs.Audit.Witness.{Witness, source_in, name_in, ord_in}
use Rattle.replication.specs.Audit.Table.{table}
use Rattle.replication.specs.Audit.Clocks.{knows}
use Rattle.replication.specs.Audit.Journal.{Sending, Delivery, Taking, Change, PerConfiguration, Journal, sorted, journal_of}
use Rattle.replication.specs.Audit.Rules.{genuine}
use Rattle.replication.specs.Audit.Specifications.{same_configuration_lem, is_delivered, earlier, has_message, each_with_earlier, is_cause, causal, rises, same_moment, same_message_lem, is_together, one_order, is_owed, agreed, is_shared_with, safe}
use Rattle.replication.proofs.Verdicts.Sameness.{messages_decided, regulars_decided, configured_decided}
use Rattle.replication.proofs.Verdicts.Entries.{change_among, sending_at, Delivering, delivering, delivered_message, delivered_sending}
use Rattle.replication.proofs.Verdicts.Causality.{cause_known}
use Rattle.replication.proofs.Verdicts.Ords.{precedes_rise}
use Rattle.replication.proofs.Runs.Deliveries.{sends_one}
use Rattle.replication.proofs.Verdicts.PerConfiguration.{part as part_of_lem, part_there, sending_in_lem, delivery_in, leaving_in, found_delivered, found_before}
use Rattle.replication.proofs.Verdicts.RuleFields.{genuine_delivery}
use Rattle.replication.proofs.Verdicts.SpecificationFields.{placed}

module _ (n q : ℕ) (l : Run) (w : Witness) where
  abbrev J : Journal
  J = journal_of (table n q l w)

  abbrev Del : (p i : ℕ) → Message → Type 0
  Del p i m = Delivers n q l (source_in w) (name_in w) p i m

  abbrev part : Configuration → PerConfiguration
  part c = part_of_lem n q l w c

  -- What is found before a delivery is delivered before it.
  before : (p i : ℕ) (m : Message) (d : Delivering n q l w p i m) (x : Message) (c : Configuration) → has_message x (earlier (part c).deliveries d.it) ≡ true
      → (v : ℕ) × Del v i x × (v < p)
  before p i m d x c h =
      let f = found_before n q l w c d.it x h in
      (f.0, subst (λ k. Del f.0 k x) d.server f.1, omega (arith, f.2, d.place))

  -- ---- 5

  pub causal_holds : genuine J ≡ true → same_configuration_lem J ≡ true → causal J ≡ true → (p i j k : ℕ) (m m' : Message) (c : Configuration) → Sends n q l i m c
      → Sends n q l j m' c → Causes n q l (source_in w) (name_in w) (sending_of m) (sending_of m') → Del p k m' → (x : ℕ) × Del x k m × (x < p)
  unfolding causal each_with_earlier is_cause knows sending_at
  causal_holds g u h p i j k m m' c s t f d =
      let it = placed n q l w g u p k m' d in
      let D : Delivery = it.it.it in
      let one : it.configuration ≡ c = (sends_one it.sent t).1 in
      let here : Among D (part c).deliveries = subst (λ e. Among D (part e).deliveries) one it.among in
      let y : Entry = s.mine.entry in
      let a : Sending = sending_at n q l w m y in
      let b : Sending = sending_at n q l w m' t.mine.entry in
      let test = all_among_lem (λ (z : Sending). is_cause z D.sending implies has_message z.message (earlier (part c).deliveries D)) (sending_in_lem n q l w i m c s)
      (all_among_lem _ here (all_among_lem _ (part_there n q l w i m c s) h)) in
      let regular : a.regular ≡ b.regular =
      ap (λ v. (place_at n q l v (suc m.sending)).regular) s.mine.its ∙ s.under
      ∙ sym (ap (λ v. (place_at n q l v (suc m'.sending)).regular) t.mine.its ∙ t.under) in
      let known = cause_known n q l w (λ v u x e. (genuine_delivery n q l w g v u x e).earlier) m m' y s.mine.here f s.out in
      let cause : is_cause a b ≡ true = both_yes _ _ (decided regulars_decided regular) (lt_yes a.number (get_or b.clock a.server 0) known) in
      before p k m' it.it m c
      (implied _ _ test (subst (λ z. is_cause a z ≡ true) (sym (delivered_sending n q l w p k m' it.it t.mine.entry t.mine.here)) cause))

  -- ---- 6

  pub same_moment_holds : same_moment J ≡ true → (p r i j : ℕ) (c : Configured) → Configures n q l (source_in w) (name_in w) p i c
      → Configures n q l (source_in w) (name_in w) r j c → ord_in w (entry_at p) ≡ ord_in w (entry_at r)
  unfolding same_moment journal_of sorted ord_in
  same_moment_holds h p r i j c s t =
      each_two _ (λ (x y : Change). x.to ≡ y.to → x.ord ≡ y.ord) (λ x e. refl) (λ x y f e. sym (f (sym e)))
      (λ x y f e. eq_holds x.ord y.ord (implied _ _ f (decided configured_decided e)))
      h (change_among n q l w p i c s) (change_among n q l w r j c t) refl

  pub rises_holds : genuine J ≡ true → rises J ≡ true → same_moment J ≡ true → (a b : Happening) → Precedes n q l (source_in w) (name_in w) a b → ord_in w a < ord_in w b
  unfolding rises journal_of sorted
  rises_holds g h s a b f =
      let first = and_holds _ _ h in
      let second = and_holds _ _ first.1 in
      precedes_rise n q l w (λ p i m d. at_low (sent_at n q l m.sending) m.number _ (genuine_delivery n q l w g p i m d).sent)
      first.0 second.0 second.1 (same_moment_holds s) a b f

  pub same_message_holds : genuine J ≡ true → same_configuration_lem J ≡ true → same_message_lem J ≡ true → (p r i j : ℕ) (m : Message) → Del p i m → Del r j m
      → ord_in w (entry_at p) ≡ ord_in w (entry_at r)
  unfolding same_message_lem
  same_message_holds g u h p r i j m d e =
      let a = placed n q l w g u p i m d in
      let b = placed n q l w g u r j m e in
      let one : b.configuration ≡ a.configuration = (sends_one b.sent a.sent).1 in
      let same : a.it.it.ord ≡ b.it.it.ord =
      each_two _ (λ (x y : Delivery). x.sending.message ≡ y.sending.message → x.ord ≡ y.ord) (λ x s. refl) (λ x y f s. sym (f (sym s)))
      (λ x y f s. eq_holds x.ord y.ord (implied _ _ f (decided messages_decided s)))
      (all_among_lem _ (part_there n q l w a.sender m a.configuration a.sent) h)
      a.among (subst (λ c. Among b.it.it (part c).deliveries) one b.among)
      (delivered_message n q l w p i m a.it ∙ sym (delivered_message n q l w r j m b.it)) in
      sym a.it.ord ∙ same ∙ b.it.ord

  pub one_order_holds : genuine J ≡ true → same_configuration_lem J ≡ true → one_order J ≡ true → (p r i j : ℕ) (m m' : Message) → Del p i m → Del r j m'
      → (place_at n q l i p).regular ≡ (place_at n q l j r).regular → ord_in w (entry_at p) ≡ ord_in w (entry_at r) → m ≡ m'
  unfolding one_order is_together
  one_order_holds g u h p r i j m m' d e regular ord =
      let a = placed n q l w g u p i m d in
      let b = placed n q l w g u r j m' e in
      let same : a.it.it.sending.message ≡ b.it.it.sending.message =
      each_two _ (λ (x y : Delivery). x.ord ≡ y.ord → x.before.regular ≡ y.before.regular → x.sending.message ≡ y.sending.message)
      (λ x s t. refl) (λ x y f s t. sym (f (sym s) (sym t)))
      (λ x y f s t. messages_decided.says x.sending.message y.sending.message
      (implied _ _ f (both_yes _ _ (eq_yes x.ord y.ord s) (decided regulars_decided t))))
      (all_among_lem _ (part_there n q l w a.sender m a.configuration a.sent) h)
      a.among (delivery_in n q l w r j m' b.it a.configuration (sym regular ∙ a.regular)) (a.it.ord ∙ ord ∙ sym b.it.ord)
      (ap (λ (z : Place). z.regular) a.it.before ∙ regular ∙ ap (λ (z : Place). z.regular) (sym b.it.before)) in
      sym (delivered_message n q l w p i m a.it) ∙ same ∙ delivered_message n q l w r j m' b.it

  pub agreed_holds : genuine J ≡ true → same_configuration_lem J ≡ true → agreed J ≡ true → (p r i j k : ℕ) (m m' : Message) (c : Configuration) → Sends n q l k m c
      → Del p i m → Del r j m' → (place_at n q l j r).regular ≡ some c → ord_in w (entry_at p) < ord_in w (entry_at r)
      → in_set k (members (place_at n q l j r)) ≡ true → (x : ℕ) × Del x j m × (x < r)
  unfolding agreed each_with_earlier is_owed sending_at
  agreed_holds g u h p r i j k m m' c s d e regular less member =
      let a = placed n q l w g u p i m d in
      let b = delivering n q l w r j m' e in
      let A : Delivery = a.it.it in
      let y : Entry = s.mine.entry in
      let sending = delivered_sending n q l w p i m a.it y s.mine.here in
      let here : Among A (part c).deliveries = subst (λ e. Among A (part e).deliveries) (sends_one a.sent s).1 a.among in
      let test = all_among_lem (λ (z : Delivery). is_owed z b.it implies has_message z.sending.message (earlier (part c).deliveries b.it)) here
      (all_among_lem _ (delivery_in n q l w r j m' b c regular) (all_among_lem _ (part_there n q l w k m c s) h)) in
      let under : A.sending.regular ≡ b.it.before.regular =
      ap (λ z. z.regular) sending ∙ ap (λ v. (place_at n q l v (suc m.sending)).regular) s.mine.its ∙ s.under
      ∙ sym regular ∙ ap (λ (z : Place). z.regular) (sym b.before) in
      let sender : k ≡ A.sending.server = sym (ap (λ z. z.server) sending ∙ s.mine.its) in
      let owed : is_owed A b.it ≡ true =
      both_yes _ _ (lt_yes A.ord b.it.ord (omega (arith, a.it.ord, b.ord)))
      (both_yes _ _ (decided regulars_decided under) (subst₂ (λ v z. in_set v (members z) ≡ true) sender (sym b.before) member)) in
      before r j m' b m c
      (subst (λ z. has_message z (earlier (part c).deliveries b.it) ≡ true) (delivered_message n q l w p i m a.it) (implied _ _ test owed))

  -- ---- 7

  pub safe_holds : genuine J ≡ true → same_configuration_lem J ≡ true → safe J ≡ true → (p i j : ℕ) (m : Message) (c : Configuration) → Del p i m
      → (place_at n q l i p).regular ≡ some c → in_set j (members (place_at n q l i p)) ≡ true → Left n q l j c → Delivered n q l (source_in w) (name_in w) j m
  unfolding safe is_shared_with
  safe_holds g u h p i j m c d regular member f =
      let a = placed n q l w g u p i m d in
      let A : Delivery = a.it.it in
      let one : a.configuration ≡ c = some_same (sym a.regular ∙ regular) in
      let here : Among A (part c).deliveries = subst (λ e. Among A (part e).deliveries) one a.among in
      let there : Among (part c) J.configurations =
      subst (λ e. Among (part e) J.configurations) one (part_there n q l w a.sender m a.configuration a.sent) in
      let test = all_among_lem (λ (t : Taking). is_shared_with A t implies is_delivered (part c).deliveries t.server A.sending.message) (leaving_in n q l w j c f)
      (all_among_lem _ here (all_among_lem _ there h)) in
      let shared = both_yes _ _ (decided regulars_decided (sym (ap (λ (z : Place). z.regular) a.it.before ∙ regular)))
      (subst (λ z. in_set j (members z) ≡ true) (sym a.it.before) member) in
      subst (λ z. Delivered n q l (source_in w) (name_in w) j z) (delivered_message n q l w p i m a.it)
      (found_delivered n q l w c j A.sending.message (implied _ _ test shared))
