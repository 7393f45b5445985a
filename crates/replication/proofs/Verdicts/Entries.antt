-- What comes at a place of a run is in the journal's lists, with what the definitions say of it; and what is in them comes.
use Prim.Native.Nat.{ℕ, suc, ◌<◌}
use mathlib.Core.Path.{◌≡◌, refl, sym, ap, subst, subst₃, ◌∙◌}
use mathlib.Core.Bool.{true}
use mathlib.Core.List.{List, map}
use mathlib.Core.Option.{Option, none, some}
use lib.ListN.{length, get_or}
use Rattle.base.proofs.TestLaws.{not_both}
use Rattle.base.specs.Lists.{below, at}
use Rattle.base.proofs.AtLaws.{none_some}
use Rattle.base.proofs.QuantifierLaws.{Among, among_gather, gather_among, among_gather_all, among_map, among_below}
use Rattle.format.specs.Types.{Record, action, retransmission, state, cpc, regular, transitional, request, recovery, says}
use Rattle.replication.specs.Machine.Types.{Configuration}
use Rattle.replication.specs.Runs.Run.{Entry, event, crash, store, Run, server_of, place_at, sent_at}
use Rattle.replication.specs.Runs.Happenings.{Message, is_message, Configured, entry_at, sending_of, Comes, Takes, Sends, Delivers, Configures, to_regular, to_transitional}
use Rattle.replication.specs.Audit.Witness.{Witness, source_in, name_in, entry_ord, sending_ords_at, ord_in}
use Rattle.replication.specs.Audit.Table.{Role, delivers, takes, transits, goes_down, comes_back, saves, asks, neither, role_in, Row, row_of, table}
use Rattle.replication.specs.Audit.Clocks.{Stamps, number_of, clock_at, stamps}
use Rattle.replication.specs.Audit.Journal.{Sending, sending_in, sendings_of, Delivery, delivery_of, delivery_by, taking_by, transition_by, change_by, takings_in, transitions_in, changes_in, sendings_in, deliveries_in}
use Rattle.replication.proofs.Verdicts.Rows.{row_at, row_among, table_holds, table_is, row_place, row_server, row_after, row_sent, meaning, Meaning, role_of}

-- A message that comes is a delivery.
pub message_role : (r : Record) → is_message r ≡ true → role_in (says r) ≡ delivers
unfolding is_message role_in
message_role (action a) h = refl
message_role (retransmission k p a) h = refl
message_role (state x) h = refl
message_role (cpc k i) h = refl
message_role (regular i s) h = not_both h
message_role (transitional s) h = not_both h
message_role (request p) h = not_both h
message_role recovery h = not_both h

sending_message : (s : Stamps) (m : Message) (o : Option Row) → (sending_in s m o).message ≡ m
unfolding sending_in
sending_message s m none = refl
sending_message s m (some r) = refl

delivery_by_lem : (o : Role) (rs : List Row) (s : Stamps) (x : Row) (d : Delivery) → delivery_by o rs s x ≡ some d → (o ≡ delivers) × (delivery_of rs s x ≡ d)
unfolding delivery_by
delivery_by_lem delivers rs s x d h = (refl, cc)
delivery_by_lem (takes c) rs s x d h = none_some h
delivery_by_lem (transits t) rs s x d h = none_some h
delivery_by_lem goes_down rs s x d h = none_some h
delivery_by_lem comes_back rs s x d h = none_some h
delivery_by_lem saves rs s x d h = none_some h
delivery_by_lem asks rs s x d h = none_some h
delivery_by_lem neither rs s x d h = none_some h

module _ (n q : ℕ) (l : Run) (w : Witness) where
  abbrev rows : List Row
  rows = table n q l w

  pub row_ords : (p : ℕ) (y : Entry) → (row_at n q l w p y).sending_ords ≡ sending_ords_at w p
  unfolding row_at row_of
  row_ords p (event i e k) = refl
  row_ords p (crash i) = refl
  row_ords p (store i) = refl

  pub row_source : (p : ℕ) (y : Entry) → (row_at n q l w p y).source ≡ source_in w p
  unfolding row_at row_of
  row_source p (event i e k) = refl
  row_source p (crash i) = refl
  row_source p (store i) = refl

  -- ---- configurations

  pub taking_among : (p i : ℕ) (c : Configuration) → Takes n q l p i c
      → Among (record { place = p; server = i; before = place_at n q l i p; configuration = c }) (takings_in rows)
  unfolding takings_in taking_by row_at row_of server_of role_in
  taking_among p i c t =
      let y : Entry = event i t.bytes t.sent in
      among_gather (λ r. taking_by r.role r) (row_among n q l w p y t.here) (ap (λ o. taking_by o (row_at n q l w p y)) (role_of n q l w p i _ t))

  pub transition_among : (p i s : ℕ) → Comes n q l p i (transitional s)
      → Among (record { place = p; server = i; before = place_at n q l i p; set = s; name = name_in w p }) (transitions_in rows)
  unfolding transitions_in transition_by row_at row_of server_of role_in
  transition_among p i s t =
      let y : Entry = event i t.bytes t.sent in
      among_gather (λ r. transition_by r.role r) (row_among n q l w p y t.here) (ap (λ o. transition_by o (row_at n q l w p y)) (role_of n q l w p i _ t))

  -- The row of a change of configuration.
  pub record ChangeRow (p i : ℕ) (c : Configured) : Type 0 where
    pub entry : Entry
    pub here : at l p ≡ some entry
    pub its : server_of entry ≡ i
    pub change : change_by (row_at n q l w p entry).role (row_at n q l w p entry) ≡ some (record { place = p; server = i; ord = entry_ord w p; to = c })

  pub change_row : (p i : ℕ) (c : Configured) → Configures n q l (source_in w) (name_in w) p i c → ChangeRow p i c
  unfolding change_by row_at row_of server_of role_in
  change_row p i d (to_regular c t) =
      let y : Entry = event i t.bytes t.sent in
      record { entry = y; here = t.here; its = refl; change = ap (λ o. change_by o (row_at n q l w p y)) (role_of n q l w p i _ t) }
  change_row p i d (to_transitional s t) =
      let y : Entry = event i t.bytes t.sent in
      record { entry = y; here = t.here; its = refl; change = ap (λ o. change_by o (row_at n q l w p y)) (role_of n q l w p i _ t) }

  pub change_among : (p i : ℕ) (c : Configured) → Configures n q l (source_in w) (name_in w) p i c
      → Among (record { place = p; server = i; ord = entry_ord w p; to = c }) (changes_in rows)
  unfolding changes_in
  change_among p i c t =
      let r = change_row p i c t in among_gather (λ z. change_by z.role z) (row_among n q l w p r.entry r.here) r.change

  -- ---- messages

  -- A message's sending, by the definitions, where y stands at its place.
  unfoldable pub sending_at : Message → Entry → Sending
  sending_at m y = record {
    message = m;
    server = server_of y;
    regular = (place_at n q l (server_of y) (suc m.sending)).regular;
    ord = ord_in w (sending_of m);
    bytes = at (sent_at n q l m.sending) m.number;
    number = number_of (stamps rows) m;
    clock = clock_at (stamps rows) m;
  }

  sending_is : (m : Message) (y : Entry) → at l m.sending ≡ some y → sending_in (stamps rows) m (some (row_at n q l w m.sending y)) ≡ sending_at m y
  unfolding sending_in sending_at ord_in
  sending_is m y e = λ i. record {
    message = m;
    server = row_server n q l w m.sending y i;
    regular = (row_after n q l w m.sending y e i).regular;
    ord = get_or (row_ords m.sending y i) m.number 0;
    bytes = at (row_sent n q l w m.sending y e i) m.number;
    number = number_of (stamps rows) m;
    clock = clock_at (stamps rows) m;
  }

  pub sending_among : (i : ℕ) (m : Message) (c : Configuration) (s : Sends n q l i m c)
      → Among (sending_at m s.mine.entry) (sendings_in rows (stamps rows))
  unfolding sendings_in sendings_of
  sending_among i m c s =
      let y : Entry = s.mine.entry in
      let r : Row = row_at n q l w m.sending y in
      let here : at l m.sending ≡ some y = s.mine.here in
      let place : r.place ≡ m.sending = row_place n q l w m.sending y in
      let out : m.number < length r.sent = subst (λ (z : List (List ℕ)). m.number < length z) (sym (row_sent n q l w m.sending y here)) s.out in
      let made : ℕ → Sending = λ k. sending_in (stamps rows) (record { sending = r.place; number = k }) (some r) in
      let which : made m.number ≡ sending_at m y =
      ap (λ p. sending_in (stamps rows) (record { sending = p; number = m.number }) (some r)) place ∙ sending_is m y here in
      among_gather_all (sendings_of (stamps rows)) (row_among n q l w m.sending y here)
      (subst (λ z. Among z (map made (below (length r.sent)))) which (among_map made (among_below (length r.sent) m.number out)))

  -- ---- deliveries

  row_delivers : (p : ℕ) (y : Entry) → at l p ≡ some y → (row_at n q l w p y).role ≡ delivers
      → Delivers n q l (source_in w) (name_in w) p (server_of y) (source_in w p)
  row_delivers p y e h =
      let m : Meaning n q l w p (server_of y) delivers = subst (Meaning n q l w p (server_of y)) h (meaning n q l w p y e) in
      record { what = m.0; comes = m.1; message = m.2; which = refl }

  -- A delivery in the journal.
  pub record Delivering (p i : ℕ) (m : Message) : Type 0 where
    pub it : Delivery
    pub among : Among it (deliveries_in rows (stamps rows))
    pub place : it.place ≡ p
    pub server : it.server ≡ i
    pub before : it.before ≡ place_at n q l i p
    pub ord : it.ord ≡ ord_in w (entry_at p)
    pub bytes : (k : ℕ) (e : List ℕ) → at l p ≡ some (event i e k) → it.bytes ≡ e
    pub sending : it.sending ≡ sending_in (stamps rows) m (at rows m.sending)

  pub delivering : (p i : ℕ) (m : Message) → Delivers n q l (source_in w) (name_in w) p i m → Delivering p i m
  unfolding deliveries_in delivery_by delivery_of row_at row_of server_of ord_in
  delivering p i m d =
      let y : Entry = event i d.comes.bytes d.comes.sent in
      let r : Row = row_at n q l w p y in
      let role : r.role ≡ delivers = role_of n q l w p i d.what d.comes ∙ message_role d.what d.message in
      record {
        it = delivery_of rows (stamps rows) r;
        among = among_gather (λ x. delivery_by x.role rows (stamps rows) x) (row_among n q l w p y d.comes.here) (ap (λ o. delivery_by o rows (stamps rows) r) role);
        place = refl;
        server = refl;
        before = refl;
        ord = refl;
        bytes = λ k e h. let same : ◌≡◌ {A = Option Entry} (some y) (some (event i e k)) = sym d.comes.here ∙ h in cc;
        sending = ap (λ x. sending_in (stamps rows) x (at rows x.sending)) d.which;
      }

  pub delivered_message : (p i : ℕ) (m : Message) (d : Delivering p i m) → d.it.sending.message ≡ m
  delivered_message p i m d = ap (λ z. z.message) d.sending ∙ sending_message (stamps rows) m (at rows m.sending)

  pub delivered_sending : (p i : ℕ) (m : Message) (d : Delivering p i m) (y : Entry) → at l m.sending ≡ some y → d.it.sending ≡ sending_at m y
  delivered_sending p i m d y e = d.sending ∙ ap (sending_in (stamps rows) m) (table_holds n q l w m.sending y e) ∙ sending_is m y e

  pub delivered : (d : Delivery) → Among d (deliveries_in rows (stamps rows)) → Delivers n q l (source_in w) (name_in w) d.place d.server d.sending.message
  unfolding deliveries_in delivery_of
  delivered d a =
      let f = gather_among (λ r. delivery_by r.role rows (stamps rows) r) rows a in
      let v : ℕ = f.1.place in
      let t = table_is n q l w v f.0 f.1.there in
      let y : Entry = t.0 in
      let r : Row = row_at n q l w v y in
      let by = delivery_by_lem r.role rows (stamps rows) r d (subst (λ x. delivery_by x.role rows (stamps rows) x ≡ some d) t.2 f.2) in
      let which : source_in w v ≡ (delivery_of rows (stamps rows) r).sending.message =
      sym (sending_message (stamps rows) r.source (at rows r.source.sending) ∙ row_source v y) in
      subst (λ x. Delivers n q l (source_in w) (name_in w) x.place x.server x.sending.message) by.1
      (subst₃ (λ a b c. Delivers n q l (source_in w) (name_in w) a b c) (sym (row_place n q l w v y)) (sym (row_server n q l w v y)) which
      (row_delivers v y t.1 by.0))
