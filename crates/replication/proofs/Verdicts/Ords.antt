-- Specification 6.1: where the witness's ord rises along the steps of each server and from sendings to deliveries, and is one for each
-- configuration, it rises along the precedes relation.
use Prim.Native.Nat.{ℕ, zero, suc, ◌≤◌, ◌<◌}
use mathlib.Core.Path.{◌≡◌, refl, sym, ap, subst, subst₂, subst₃, ◌∙◌}
use mathlib.Core.Bool.{true}
use mathlib.Core.List.{List, [], ◌∷◌}
use mathlib.Core.Option.{Option, none, some}
use native.Mathlib.Omega.{arith}
use lib.ListN.{length, get_or}
use Rattle.base.specs.Tests.{◌=?◌, ◌<?◌}
use Rattle.base.proofs.TestLaws.{and_holds, eq_yes, eq_holds, lt_holds}
use Rattle.base.specs.Lists.{all, at}
use Rattle.base.specs.Quantifiers.{pairs}
use Rattle.base.proofs.QuantifierLaws.{implied, all_at, all_among_lem, pairs_at}
use Rattle.replication.specs.Runs.Run.{Entry, event, crash, store, Run, sent_by, sent_at}
use Rattle.replication.specs.Runs.Happenings.{Message, Configured, Happening, entry_at, sending_of, Of, Delivers, Configures, Causes, in_turn_lem, sends, in_order, before_next, carries, through, Precedes, causes, after_all, before_all, along}
use Rattle.replication.specs.Audit.Witness.{Witness, source_in, name_in, entry_ord, sending_ords_at, ord_in}
use Rattle.replication.specs.Audit.Table.{Row, row_of, table}
use Rattle.replication.specs.Audit.Clocks.{stamps}
use Rattle.replication.specs.Audit.Journal.{deliveries_in}
use Rattle.replication.specs.Audit.Specifications.{is_rising, last_of, own_sendings, in_turn}
use Rattle.replication.proofs.Verdicts.Rows.{row_at, table_holds, row_server, row_sent}
use Rattle.replication.proofs.Verdicts.Entries.{row_ords, delivering, delivered_sending, sending_at}

-- ---- rising numbers

rising_above : (o : ℕ) (xs : List ℕ) (k : ℕ) → is_rising o xs ≡ true → k < length xs → o < get_or xs k 0
unfolding is_rising
rising_above o [] k h less = absurd (omega arith)
rising_above o (x ∷ xs) zero h less = lt_holds o x (and_holds (o <? x) (is_rising x xs) h).0
rising_above o (x ∷ xs) (suc k) h less =
    let both = and_holds (o <? x) (is_rising x xs) h in omega (arith, lt_holds o x both.0, rising_above x xs k both.1 (omega arith))

rising_order : (o : ℕ) (xs : List ℕ) (j k : ℕ) → is_rising o xs ≡ true → j < k → k < length xs → get_or xs j 0 < get_or xs k 0
unfolding is_rising
rising_order o [] j k h f less = absurd (omega arith)
rising_order o (x ∷ xs) j zero h f less = absurd (omega arith)
rising_order o (x ∷ xs) zero (suc k) h f less = rising_above x xs k (and_holds (o <? x) (is_rising x xs) h).1 (omega arith)
rising_order o (x ∷ xs) (suc j) (suc k) h f less = rising_order x xs j k (and_holds (o <? x) (is_rising x xs) h).1 (omega arith) (omega arith)

last_above : (o : ℕ) (xs : List ℕ) → is_rising o xs ≡ true → o ≤ last_of o xs
unfolding is_rising last_of
last_above o [] h = omega arith
last_above o (x ∷ xs) h = let both = and_holds (o <? x) (is_rising x xs) h in omega (arith, lt_holds o x both.0, last_above x xs both.1)

last_highest : (o : ℕ) (xs : List ℕ) (k : ℕ) → is_rising o xs ≡ true → get_or xs k 0 ≤ last_of o xs
unfolding is_rising last_of
last_highest o [] k h = omega arith
last_highest o (x ∷ xs) zero h = last_above x xs (and_holds (o <? x) (is_rising x xs) h).1
last_highest o (x ∷ xs) (suc k) h = last_highest x xs k (and_holds (o <? x) (is_rising x xs) h).1

module _ (n q : ℕ) (l : Run) (w : Witness) where
  abbrev rows : List Row
  rows = table n q l w

  -- Where something is sent there is an entry.
  pub sent_entry : (s k : ℕ) → k < length (sent_at n q l s) → (y : Entry) × (at l s ≡ some y)
  unfolding sent_at sent_by
  sent_entry s k h = go (at l s) refl
    where
      go : (o : Option Entry) → at l s ≡ o → (y : Entry) × (at l s ≡ some y)
      go none e = let empty : sent_at n q l s ≡ [] = ap (sent_by n q l s) e in absurd (omega (arith, ap (length {A = List ℕ}) empty))
      go (some y) e = (y, e)

  row_ord : (p : ℕ) (y : Entry) → (row_at n q l w p y).ord ≡ entry_ord w p
  unfolding row_at row_of
  row_ord p (event i e k) = refl
  row_ord p (crash i) = refl
  row_ord p (store i) = refl

  module _ (real : (p i : ℕ) (m : Message) → Delivers n q l (source_in w) (name_in w) p i m → m.number < length (sent_at n q l m.sending))
      (own : all own_sendings rows ≡ true) (turns : pairs in_turn rows ≡ true) (ends : all (λ d. d.sending.ord <? d.ord) (deliveries_in rows (stamps rows)) ≡ true) where
    own_at : (p : ℕ) (y : Entry) → at l p ≡ some y
        → (length (sending_ords_at w p) ≡ length (sent_at n q l p)) × (is_rising (entry_ord w p) (sending_ords_at w p) ≡ true)
    unfolding own_sendings
    own_at p y e =
        let r : Row = row_at n q l w p y in
        let both = and_holds (length r.sending_ords =? length r.sent) (is_rising r.ord r.sending_ords) (all_at own_sendings rows own p r (table_holds n q l w p y e)) in
        let same = eq_holds (length r.sending_ords) (length r.sent) both.0 in (
          subst₂ (λ (a : List ℕ) (b : List (List ℕ)). length a ≡ length b) (row_ords n q l w p y) (row_sent n q l w p y e) same,
          subst₂ (λ a b. is_rising a b ≡ true) (row_ord p y) (row_ords n q l w p y) both.1,
        )

    turn_at : (p r i : ℕ) → Of l p i → Of l r i → p < r → last_of (entry_ord w p) (sending_ords_at w p) < entry_ord w r
    unfolding in_turn
    turn_at p r i o u less =
        let x : Row = row_at n q l w p o.entry in
        let z : Row = row_at n q l w r u.entry in
        let same : z.server ≡ x.server = row_server n q l w r u.entry ∙ u.its ∙ sym (row_server n q l w p o.entry ∙ o.its) in
        let test = pairs_at in_turn rows turns p r x z less (table_holds n q l w p o.entry o.here) (table_holds n q l w r u.entry u.here) in
        let higher : last_of x.ord x.sending_ords < z.ord =
        lt_holds (last_of x.ord x.sending_ords) z.ord
        (implied (z.server =? x.server) (last_of x.ord x.sending_ords <? z.ord) test (eq_yes z.server x.server same)) in
        subst₃ (λ a b c. last_of a b < c) (row_ord p o.entry) (row_ords n q l w p o.entry) (row_ord r u.entry) higher

    sends_rise : (m : Message) → m.number < length (sent_at n q l m.sending) → entry_ord w m.sending < get_or (sending_ords_at w m.sending) m.number 0
    sends_rise m h =
        let y = sent_entry m.sending m.number h in
        let row = own_at m.sending y.0 y.1 in
        rising_above (entry_ord w m.sending) (sending_ords_at w m.sending) m.number row.1 (omega (arith, row.0))

    in_order_rise : (s j k : ℕ) → j < k → k < length (sent_at n q l s) → get_or (sending_ords_at w s) j 0 < get_or (sending_ords_at w s) k 0
    in_order_rise s j k less h =
        let y = sent_entry s k h in
        let row = own_at s y.0 y.1 in
        rising_order (entry_ord w s) (sending_ords_at w s) j k row.1 less (omega (arith, row.0))

    carries_rise : (p i : ℕ) (m : Message) → Delivers n q l (source_in w) (name_in w) p i m → ord_in w (sending_of m) < ord_in w (entry_at p)
    unfolding sending_at
    carries_rise p i m d =
        let y = sent_entry m.sending m.number (real p i m d) in
        let it = delivering n q l w p i m d in
        let low : it.it.sending.ord < it.it.ord = lt_holds it.it.sending.ord it.it.ord (all_among_lem (λ z. z.sending.ord <? z.ord) it.among ends) in
        subst₂ (λ a b. a < b) (ap (λ z. z.ord) (delivered_sending n q l w p i m it y.0 y.1)) it.ord low

    pub causes_rise : (a b : Happening) → Causes n q l (source_in w) (name_in w) a b → ord_in w a < ord_in w b
    unfolding ord_in
    causes_rise a b (in_turn_lem {p} {r} i o u less) =
        omega (arith, turn_at p r i o u less, last_above (entry_ord w p) (sending_ords_at w p) (own_at p o.entry o.here).1)
    causes_rise a b (sends m h) = sends_rise m h
    causes_rise a b (in_order m m' e less h) =
        subst (λ s. get_or (sending_ords_at w s) m.number 0 < get_or (sending_ords_at w m'.sending) m'.number 0) (sym e)
        (in_order_rise m'.sending m.number m'.number less h)
    causes_rise a b (before_next {r} i m out o u less) =
        let s : ℕ = m.sending in
        omega (arith, turn_at s r i o u less, last_highest (entry_ord w s) (sending_ords_at w s) m.number (own_at s o.entry o.here).1)
    causes_rise a b (carries {p} i m d) = carries_rise p i m d
    causes_rise a c (through {b = b} f g) = omega (arith, causes_rise a b f, causes_rise b c g)

    module _ (moment : (p r i j : ℕ) (c : Configured) → Configures n q l (source_in w) (name_in w) p i c → Configures n q l (source_in w) (name_in w) r j c
        → ord_in w (entry_at p) ≡ ord_in w (entry_at r)) where
      pub precedes_rise : (a b : Happening) → Precedes n q l (source_in w) (name_in w) a b → ord_in w a < ord_in w b
      precedes_rise a b (causes f) = causes_rise a b f
      precedes_rise a b (after_all {p} {r} i j c f g h) = omega (arith, moment p r i j c f g, precedes_rise (entry_at p) b h)
      precedes_rise a b (before_all {p} {r} i j c f g h) = omega (arith, moment p r i j c f g, precedes_rise a (entry_at p) h)
      precedes_rise a c (along {b = b} f g) = omega (arith, precedes_rise a b f, precedes_rise b c g)
