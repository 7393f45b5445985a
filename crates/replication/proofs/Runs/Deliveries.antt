-- Where a message is delivered: in the configuration in which it was sent, and before the server leaves that.
use Prim.Native.Nat.{ℕ, suc, ◌≤◌, ◌<◌}
use mathlib.Core.Path.{◌≡◌, sym, ap, subst, ◌∙◌}
use mathlib.Core.Bool.{true}
use mathlib.Core.List.{List}
use mathlib.Core.Option.{some}
use native.Mathlib.Omega.{arith}
use native.Mathlib.Decide.{dec_lt}
use Rattle.base.specs.Lists.{at}
use Rattle.base.proofs.TestLaws.{not_both}
use Rattle.base.proofs.AtLaws.{some_same}
use Rattle.format.specs.Types.{Record}
use Rattle.replication.specs.Machine.Types.{Configuration}
use Rattle.replication.specs.Runs.Run.{event, Run, place_at, sent_at}
use Rattle.replication.specs.Runs.Happenings.{Message, is_message, Comes, Takes, Left, Sends, Delivers}
use Rattle.replication.proofs.Runs.Roomy.{Roomy as Allowed}
use Rattle.replication.proofs.Runs.Places.{of_one}
use Rattle.replication.proofs.Runs.Shifts.{changes, comes_once, message_changes_nothing}
use Rattle.replication.proofs.Runs.Entries.{Had, had}

-- A message is sent by one server, in one configuration.
pub sends_one : {n q : ℕ} {l : Run} {i j : ℕ} {m : Message} {c d : Configuration} → Sends n q l i m c → Sends n q l j m d → (i ≡ j) × (c ≡ d)
sends_one {n} {q} {l} {i} {j} {m} x y =
    let e : i ≡ j = of_one x.mine y.mine in
    (e, some_same (sym x.under ∙ ap (λ k. (place_at n q l k (suc m.sending)).regular) e ∙ y.under))

-- A delivery takes no configuration.
pub delivers_no_regular : {n q : ℕ} {l : Run} {source : ℕ → Message} {name : ℕ → ℕ} {p i : ℕ} {m : Message} {c : Configuration}
    → Delivers n q l source name p i m → Takes n q l p i c → ⊥
unfolding changes
delivers_no_regular d t = not_both (sym (message_changes_nothing d.what d.message) ∙ ap changes (comes_once d.comes t))

-- Of the sentences that they need, not of whole allowed runs.
module _ {n q : ℕ} {l : Run} {source : ℕ → Message} {name : ℕ → ℕ} where
  -- A message is delivered in the configuration in which it was sent.
  pub where_sent : ((p i : ℕ) (m : Message) → Delivers n q l source name p i m
      → (j : ℕ) × (c : Configuration) × Sends n q l j m c × ((place_at n q l i p).regular ≡ some c))
      → {p i j : ℕ} {m : Message} {c : Configuration} → Delivers n q l source name p i m → Sends n q l j m c → (place_at n q l i p).regular ≡ some c
  where_sent f {p} {i} {j} {m} d s = let x = f p i m d in x.3 ∙ ap some (sends_one x.2 s).1

  -- The sending lies before the delivery.
  pub sending_before : ((p i k : ℕ) (e : List ℕ) (r : Record) → at l p ≡ some (event i e k) → Comes n q l p i r → is_message r ≡ true
      → ((source p).sending < p) × (at (sent_at n q l (source p).sending) (source p).number ≡ some e))
      → {p i : ℕ} {m : Message} → Delivers n q l source name p i m → m.sending < p
  sending_before g {p} {i} d =
      subst (λ m. m.sending < p) d.which (g p i d.comes.sent d.comes.bytes d.what d.comes.here d.comes d.message).0

module _ {n q : ℕ} {l : Run} (once : (p r i : ℕ) (c : Configuration) → Takes n q l p i c → Takes n q l r i c → p ≡ r) where
  -- What a server has in c, it has between taking c and the next regular configuration.
  pub having_before_leaving : {i v : ℕ} {c : Configuration} → (place_at n q l i v).regular ≡ some c → (x : Left n q l i c) → (x.p < v) × (v ≤ x.r)
  having_before_leaving {i} {v} {c} e x = (omega (arith, h.earlier, s), go (dec_lt x.r v))
    where
      h : Had n q l i v c
      h = had n q l v i c e

      s : h.took_at ≡ x.p
      s = once h.took_at x.p i c h.took x.took

      go : Dec (x.r < v) → v ≤ x.r
      go (yes a) = absurd (h.alone x.r x.next (omega (arith, s, x.order)) a x.took_next)
      go (no a) = omega arith

  pub delivery_before_leaving : {source : ℕ → Message} {name : ℕ → ℕ} {i v : ℕ} {m : Message} {c : Configuration} → Delivers n q l source name v i m
      → (place_at n q l i v).regular ≡ some c → (x : Left n q l i c) → (x.p < v) × (v < x.r)
  delivery_before_leaving {i = i} {v = v} {m = m} {c = c} d e x = let h = having_before_leaving e x in (h.0, go (dec_lt v x.r) h.1)
    where
      go : Dec (v < x.r) → v ≤ x.r → v < x.r
      go (yes a) b = a
      go (no a) b =
          let z : x.r ≡ v = omega arith in
          absurd (delivers_no_regular d (subst (λ w. Takes n q l w i x.next) z x.took_next))

-- At p the server i delivers m, by the run's own matching.
abbrev pub Delivery : {n q : ℕ} {l : Run} → Allowed n q l → (p i : ℕ) → Message → Type 0
Delivery {n} {q} {l} A p i m = Delivers n q l A.allowed.source A.allowed.name p i m

module _ {n q : ℕ} {l : Run} (A : Allowed n q l) where
  pub delivered_where_sent : {p i j : ℕ} {m : Message} {c : Configuration} → Delivery A p i m → Sends n q l j m c
      → (place_at n q l i p).regular ≡ some c
  delivered_where_sent = where_sent A.allowed.same_configuration_lem

  pub sent_before : {p i : ℕ} {m : Message} → Delivery A p i m → m.sending < p
  sent_before = sending_before A.allowed.genuine

  pub had_before_leaving : {i v : ℕ} {c : Configuration} → (place_at n q l i v).regular ≡ some c → (x : Left n q l i c) → (x.p < v) × (v ≤ x.r)
  had_before_leaving = having_before_leaving A.allowed.once

  pub delivered_before_leaving : {i v : ℕ} {m : Message} {c : Configuration} → Delivery A v i m
      → (place_at n q l i v).regular ≡ some c → (x : Left n q l i c) → (x.p < v) × (v < x.r)
  delivered_before_leaving = delivery_before_leaving A.allowed.once
