-- Document 01's own sentences hold of a run whose tests pass.
use Prim.Native.Nat.{ℕ, suc, ◌<◌}
use mathlib.Core.Path.{◌≡◌, refl, sym, ap, subst, subst₂, ◌∙◌}
use mathlib.Core.Bool.{true, false, not}
use mathlib.Core.List.{List}
use mathlib.Core.Option.{Option, none, some}
use native.Mathlib.Omega.{arith}
use lib.ListN.{length, drop}
use Rattle.base.specs.Tests.{◌<?◌, ◌and◌}
use Rattle.base.proofs.TestLaws.{and_holds, not_both, not_holds, eq_yes, both_yes, lt_holds}
use Rattle.base.specs.Lists.{is_there, same, at}
use Rattle.base.proofs.ListLaws.{is_there_lem}
use Rattle.base.specs.Quantifiers.{◌implies◌, same_option}
use Rattle.base.proofs.AtLaws.{none_some}
use Rattle.base.proofs.QuantifierLaws.{implied, all_among_lem, each_two}
use Rattle.base.proofs.Deciding.{decided, lists_decided, options_decided}
use Rattle.format.specs.Types.{Record, transitional, recovery}
use Rattle.replication.specs.Machine.Types.{Configuration}
use Rattle.replication.specs.Runs.Run.{Entry, event, crash, store, Run, server_of, world_at, place_at, put_out, sent_at}
use Rattle.replication.specs.Runs.Happenings.{Message, is_message, Of, Comes, BehindCut, Takes, Delivers}
use Rattle.replication.specs.Audit.Witness.{Witness, source_in, name_in}
use Rattle.replication.specs.Audit.Table.{Role, delivers, takes, transits, goes_down, comes_back, saves, asks, neither, Row, row_of, table}
use Rattle.replication.specs.Audit.Clocks.{stamps}
use Rattle.replication.specs.Audit.Journal.{Delivery, Taking, Transition, Journal, crashes_next, sending_in, sorted, journal_of}
use Rattle.replication.specs.Audit.Rules.{servers, one_set, once, between, one_transitional, genuine, cut_by_crash, brings_back, recovers, is_store, stores_up}
use Rattle.replication.proofs.Verdicts.Sameness.{configurations_decided}
use Rattle.replication.proofs.Verdicts.Rows.{row_at, row_among, table_is, row_server, row_cut, Meaning, meaning}
use Rattle.replication.proofs.Verdicts.Entries.{taking_among, transition_among, sending_at, Delivering, delivering, delivered_message, delivered_sending}
use Rattle.replication.proofs.Verdicts.Later.{crash_between}

there_is : {A : Type 0} (o : Option A) → is_there o ≡ true → o ≡ none → ⊥
unfolding is_there
there_is none h e = not_both h
there_is (some x) h e = none_some (sym e)

not_there : {A : Type 0} (o : Option A) → is_there o ≡ false → o ≡ none
unfolding is_there
not_there none h = refl
not_there (some x) h = not_both (sym h)

module _ (n q : ℕ) (l : Run) (w : Witness) where
  abbrev J : Journal
  J = journal_of (table n q l w)

  pub servers_hold : servers n J ≡ true → (p i : ℕ) → Of l p i → i < n
  unfolding servers journal_of sorted
  servers_hold h p i o =
      let low = lt_holds _ n (all_among_lem (λ (r : Row). r.server <? n) (row_among n q l w p o.entry o.here) h) in
      subst (λ k. k < n) (row_server n q l w p o.entry ∙ o.its) low

  pub one_set_holds : one_set J ≡ true → (p r i j : ℕ) (c d : Configuration) → Takes n q l p i c → Takes n q l r j d → c.id ≡ d.id → c ≡ d
  unfolding one_set journal_of sorted
  one_set_holds h p r i j c d t u =
      each_two _ (λ (a b : Taking). a.configuration.id ≡ b.configuration.id → a.configuration ≡ b.configuration)
      (λ x e. refl) (λ x y f e. sym (f (sym e)))
      (λ x y g e. configurations_decided.says x.configuration y.configuration (implied _ _ g (eq_yes _ _ e)))
      h (taking_among n q l w p i c t) (taking_among n q l w r j d u)

  pub once_holds : once J ≡ true → (p r i : ℕ) (c : Configuration) → Takes n q l p i c → Takes n q l r i c → p ≡ r
  unfolding once journal_of sorted
  once_holds h p r i c t u =
      each_two _ (λ (a b : Taking). a.server ≡ b.server → a.configuration ≡ b.configuration → a.place ≡ b.place)
      (λ x e f. refl) (λ x y g e f. sym (g (sym e) (sym f)))
      (λ x y g e f. not_both (sym (not_holds _ g) ∙ both_yes _ _ (eq_yes x.server y.server e) (decided configurations_decided f)))
      h (taking_among n q l w p i c t) (taking_among n q l w r i c u) refl refl

  pub between_holds : between J ≡ true → (p i : ℕ) (c d : Configuration) → Takes n q l p i c → (place_at n q l i p).regular ≡ some d
      → (place_at n q l i p).transitional ≡ none → ⊥
  unfolding between journal_of sorted
  between_holds h p i c d t e f =
      let test = all_among_lem (λ (a : Taking). is_there a.before.regular implies is_there a.before.transitional) (taking_among n q l w p i c t) h in
      there_is (place_at n q l i p).transitional (implied _ _ test (is_there_lem (place_at n q l i p).regular d e)) f

  pub one_transitional_holds : one_transitional J ≡ true → (p i s : ℕ) → Comes n q l p i (transitional s) → (place_at n q l i p).transitional ≡ none
  unfolding one_transitional journal_of sorted
  one_transitional_holds h p i s t =
      not_there (place_at n q l i p).transitional
      (not_holds _ (all_among_lem (λ (a : Transition). not (is_there a.before.transitional)) (transition_among n q l w p i s t) h))

  -- What a delivered message is: sent before, at an entry.
  pub record Genuine (p : ℕ) (m : Message) (bytes : List ℕ) : Type 0 where
    pub earlier : m.sending < p
    pub entry : Entry
    pub here : at l m.sending ≡ some entry
    pub sent : at (sent_at n q l m.sending) m.number ≡ some bytes

  pub genuine_delivery : genuine J ≡ true → (p i : ℕ) (m : Message) (d : Delivers n q l (source_in w) (name_in w) p i m) → Genuine p m d.comes.bytes
  unfolding genuine journal_of sorted sending_in sending_at
  genuine_delivery h p i m d = go (at rows m.sending) refl
    where
      rows : List Row
      rows = table n q l w

      it : Delivering n q l w p i m
      it = delivering n q l w p i m d

      test : (it.it.sending.message.sending <? it.it.place and same_option same it.it.sending.bytes (some it.it.bytes)) ≡ true
      test = all_among_lem (λ (z : Delivery). z.sending.message.sending <? z.place and same_option same z.sending.bytes (some z.bytes)) it.among h

      less : m.sending < p
      less =
          subst₂ (λ (a : Message) b. a.sending < b) (delivered_message n q l w p i m it) it.place
          (lt_holds it.it.sending.message.sending it.it.place (and_holds _ _ test).0)

      bytes : it.it.sending.bytes ≡ some d.comes.bytes
      bytes =
          (options_decided lists_decided).says it.it.sending.bytes (some it.it.bytes) (and_holds _ _ test).1
          ∙ ap some (it.bytes d.comes.sent d.comes.bytes d.comes.here)

      go : (o : Option Row) → at rows m.sending ≡ o → Genuine p m d.comes.bytes
      go none e =
          let nothing : it.it.sending.bytes ≡ none = ap (λ z. z.bytes) (it.sending ∙ ap (sending_in (stamps rows) m) e) in none_some (sym nothing ∙ bytes)
      go (some r) e =
          let t = table_is n q l w m.sending r e in
          record {
            earlier = less;
            entry = t.0;
            here = t.1;
            sent = sym (ap (λ z. z.bytes) (delivered_sending n q l w p i m it t.0 t.1)) ∙ bytes;
          }

  pub genuine_holds : genuine J ≡ true → (p i k : ℕ) (e : List ℕ) (r : Record) → at l p ≡ some (event i e k) → Comes n q l p i r → is_message r ≡ true
      → ((source_in w p).sending < p) × (at (sent_at n q l (source_in w p).sending) (source_in w p).number ≡ some e)
  genuine_holds h p i k e r here c message =
      let g = genuine_delivery h p i (source_in w p) (record { what = r; comes = c; message = message; which = refl }) in
      let same : ◌≡◌ {A = Option Entry} (some (event i c.bytes c.sent)) (some (event i e k)) = sym c.here ∙ here in
      let bytes : c.bytes ≡ e = cc in
      (g.earlier, g.sent ∙ ap some bytes)

  pub cut_by_crash_holds : cut_by_crash J ≡ true → (p r i k m : ℕ) (e f : List ℕ) → at l p ≡ some (event i e k) → k < length (put_out n q l p) → p < r
      → at l r ≡ some (event i f m) → BehindCut n q l p r i
  unfolding cut_by_crash journal_of sorted row_at row_of
  cut_by_crash_holds h p r i k m e f here cut less next =
      let test = all_among_lem (λ (z : Row). z.cut implies crashes_next z.server (drop (suc z.place) (table n q l w))) (row_among n q l w p (event i e k) here) h in
      crash_between n q l w i p r m f less next (implied _ _ test (row_cut n q l w p i k e here cut))

  pub recovers_holds : recovers J ≡ true → (p i k : ℕ) (e : List ℕ) → at l p ≡ some (event i e k) → (world_at n q l p).down i ≡ true → Comes n q l p i recovery
  unfolding recovers journal_of sorted row_at row_of server_of brings_back
  recovers_holds h p i k e here down =
      let test = all_among_lem (λ (z : Row). z.down implies brings_back z.role) (row_among n q l w p (event i e k) here) h in
      go (row_at n q l w p (event i e k)).role (meaning n q l w p (event i e k) here) (implied _ _ test down)
    where
      go : (o : Role) → Meaning n q l w p i o → brings_back o ≡ true → Comes n q l p i recovery
      go delivers m b = not_both b
      go (takes c) m b = not_both b
      go (transits t) m b = not_both b
      go goes_down m b =
          let same : ◌≡◌ {A = Option Entry} (some (event i e k)) (some (crash i)) = sym here ∙ m in
          let z : ◌≡◌ {A = ℕ} 0 1 = cc in
          absurd (omega arith)
      go comes_back m b = m
      go saves m b =
          let same : ◌≡◌ {A = Option Entry} (some (event i e k)) (some (store i)) = sym here ∙ m in
          let z : ◌≡◌ {A = ℕ} 0 1 = cc in
          absurd (omega arith)
      go asks m b = not_both b
      go neither m b = not_both b

  pub stores_up_holds : stores_up J ≡ true → (p i : ℕ) → at l p ≡ some (store i) → (world_at n q l p).down i ≡ false
  unfolding stores_up journal_of sorted row_at row_of server_of is_store
  stores_up_holds h p i here =
      let test = all_among_lem (λ (z : Row). is_store z.role implies not z.down) (row_among n q l w p (store i) here) h in
      not_holds _ (implied _ _ test refl)
