-- In an allowed run configurations that read are taken, and records are sent only in a regular configuration (Specification 1.4).
use Prim.Native.Nat.{ℕ, suc}
use mathlib.Core.Path.{◌≡◌, refl, sym, ap, ◌∙◌}
use mathlib.Core.Bool.{Bool, true, false}
use mathlib.Core.List.{List, []}
use mathlib.Core.Logic.{◌⊎◌, inl, inr}
use mathlib.Core.Option.{Option, none, some}
use Rattle.base.specs.Tests.{◌and◌}
use Rattle.base.proofs.TestLaws.{not_both}
use Rattle.base.specs.Lists.{at, is_there}
use Rattle.base.proofs.AtLaws.{none_some, some_same, at_in_take, at_map}
use Rattle.format.specs.Types.{Record, regular, says}
use Rattle.format.specs.Write.{write}
use Rattle.replication.specs.Machine.Types.{Mode, Reg_prim, Exchange_states, Exchange_actions, Construct, Configuration, Server}
use Rattle.replication.specs.Machine.Install.{install}
use Rattle.replication.specs.Machine.Requests.{in_regular, sends_in, sends_now, numbered, send_waiting}
use Rattle.replication.specs.Machine.Step.{entering, decided, attempting, with_state, resending, one_more, exchanged, with_cpc}
use Rattle.replication.specs.Images.{is_recovery}
use Rattle.replication.specs.Laws.Modes.{InRegular}
use Rattle.replication.specs.Laws.Transitions as L
use Rattle.replication.specs.Laws.Transitions.{Ends, Transition}
use Rattle.replication.specs.Runs.Run.{Entry, event, crash, store, Run, place_at, heard_at, put_out, sent_at}
use Rattle.replication.specs.Runs.Happenings.{Comes, Takes}
use Rattle.replication.proofs.Runs.Roomy.{Roomy as Allowed}
use Rattle.replication.proofs.Step.Apart.{sends_in_lem}
use Rattle.replication.proofs.Runs.Places.{event_not_store, sent_by_store, event_entry, event_not_crash, of_event, sent_at_lem, sent_past, sent_by_crash}
use Rattle.replication.proofs.Runs.Shifts.{says_same, comes_once, comes_of, crash_says_nothing}
use Rattle.replication.proofs.Runs.Modes.{Standing, standing_in, standing}
use Rattle.replication.proofs.Runs.Readings.{answer_refused}
use Rattle.replication.proofs.Runs.Refusals.{regular_taken}
use Rattle.replication.proofs.Runs.PlaceMoves.{place_of}
use Rattle.replication.proofs.Runs.Coupling.{coupled}
use Rattle.replication.proofs.Runs.AllowedTurns.{Acts, Refuses, AllowedTurn, rests, crashes, saves, refuses, recovers, acts, allowed_turn}

-- ---- one step: what sends leaves the server in a regular configuration

in_regular_lem : (c : Option Configuration) (t : Option ℕ) → (is_there c and in_regular t) ≡ true → InRegular c t
unfolding is_there in_regular ◌and◌
in_regular_lem none t e = not_both e
in_regular_lem (some c) none e = record { configuration = c; there = refl; none_after = refl }
in_regular_lem (some c) (some x) e = not_both e

sends_regular : (m : Mode) (c : Option Configuration) (t : Option ℕ) → sends_in m (is_there c and in_regular t) ≡ true → (m ≡ Reg_prim → InRegular c t)
    → InRegular c t
unfolding sends_in
sends_regular m c t e f = sends_in_lem m _ e (λ z. in_regular_lem c t (ap (λ o. sends_in o (is_there c and in_regular t)) (sym z) ∙ e)) f

abbrev Sends : Server → List Record → Type 0
Sends t rs = (rs ≡ []) ⊎ InRegular t.membership.configuration t.membership.transitional

ends_regular : {t u : Server} {rs : List Record} → Ends t u rs → InRegular t.membership.configuration t.membership.transitional → Sends u rs
unfolding attempting decided send_waiting numbered
ends_regular (L.with_quorum c) h = inr h
ends_regular (L.without_quorum c) h = inr h

pub transition_sends : {s : Server} {r : Record} {t : Server} {rs : List Record} {b : Bool} → Transition s r t rs b → Standing s
    → (rs ≡ []) ⊎ InRegular t.membership.configuration t.membership.transitional
unfolding exchanged one_more with_state resending with_cpc send_waiting numbered entering sends_now install
transition_sends (L.ignores_state x e) h = inl refl
transition_sends (L.ignores_cpc k j e) h = inl refl
transition_sends (L.reddens a e) h = inl refl
transition_sends (L.reddens_resent k p a e) h = inl refl
transition_sends (L.reddens_in_exchange a e) h = inl refl
transition_sends (L.greens a e) h = inl refl
transition_sends (L.yellows a e) h = inl refl
transition_sends (L.installs_late a e) h = inl refl
transition_sends (L.exchanges k p a e c) h = inl refl
transition_sends {s} (L.exchanges_last k p a t rs e c x) h = ends_regular x (standing_in s Exchange_actions e h)
transition_sends (L.collects x e c) h = inl refl
transition_sends {s} (L.collects_last x e c d) h = inr (standing_in s Exchange_states e h)
transition_sends {s} (L.collects_whole x t rs e c d y) h = ends_regular y (standing_in s Exchange_states e h)
transition_sends (L.counts k j e c) h = inl refl
transition_sends {s} (L.installs k j e c) h = inr (standing_in s Construct e h)
transition_sends (L.counts_late k j e c) h = inl refl
transition_sends (L.counts_all_late k j e c) h = inl refl
transition_sends (L.joins c e) h = inr (record { configuration = c; there = refl; none_after = refl })
transition_sends (L.joins_marked c e) h = inr (record { configuration = c; there = refl; none_after = refl })
transition_sends (L.joins_unmarked c e) h = inr (record { configuration = c; there = refl; none_after = refl })
transition_sends (L.joins_yellow c e) h = inr (record { configuration = c; there = refl; none_after = refl })
transition_sends (L.leaves m o x e y) h = inl refl
transition_sends {s} (L.sends p c) h = inr (sends_regular s.membership.mode _ _ c (λ e. standing_in s Reg_prim e h))
transition_sends (L.numbers p c) h = inl refl
transition_sends L.recovers h = inl refl

module _ {n q : ℕ} {l : Run} (A : Allowed n q l) where
  -- ---- a configuration that reads is taken

  refused_change : (p i : ℕ) (r : Record) → Comes n q l p i r → (x : Refuses n q l p i) → heard_at n q l p i x.bytes ≡ says r
  refused_change p i r c x =
      let f = event_entry (some_same (sym x.here ∙ c.here)) in
      ap (heard_at n q l p i) f.1 ∙ c.heard

  acted : (p i : ℕ) (r : Record) → Comes n q l p i r → (x : Acts n q l p i) → x.by.event ≡ r
  acted p i r c x =
      let f = event_entry (some_same (sym x.here ∙ c.here)) in
      says_same (sym x.heard ∙ ap (heard_at n q l p i) f.1 ∙ c.heard)

  -- An event that is no recovery is taken, or refused by a server that is up.
  pub comes_taken : (p i : ℕ) (r : Record) → Comes n q l p i r → is_recovery (says r) ≡ false → (Refuses n q l p i → ⊥)
      → (x : Acts n q l p i) × (x.by.event ≡ r)
  unfolding is_recovery
  comes_taken p i r c e f = go (allowed_turn A p i)
    where
      go : AllowedTurn n q l p i → (x : Acts n q l p i) × (x.by.event ≡ r)
      go (rests o m s d) = absurd (o (comes_of c))
      go (crashes x m s d) = crash_says_nothing x c
      go (saves x m s d u) = event_not_store (some_same (sym c.here ∙ x))
      go (refuses x) = absurd (f x)
      go (recovers x) = not_both (sym e ∙ ap (λ z. is_recovery (says z)) (comes_once c x.comes))
      go (acts x) = (x, acted p i r c x)

  pub regular_acts : (p i : ℕ) (c : Configuration) → Takes n q l p i c → (x : Acts n q l p i) × (x.by.event ≡ regular c.id c.set)
  unfolding is_recovery
  regular_acts p i c t =
      comes_taken p i _ t refl
      (λ x.
      let s = coupled A p i x.up in
      regular_taken _ _ _ x.number (standing n q l i p).memory
      (λ y. A.allowed.between p i c y.configuration t (sym (ap (λ w. w.regular) s) ∙ y.there) (sym (ap (λ w. w.transitional) s) ∙ y.none_after))
      (answer_refused _ x.bytes _ x.number x.refusal (x.reads ∙ refused_change p i _ t x)))

  -- ---- what is sent

  -- The record r, number k of those that the server i puts out at p, in the regular configuration c; its bytes are e.
  pub record Puts (p i k : ℕ) (c : Configuration) (r : Record) : Type 0 where
    pub act : Acts n q l p i
    pub record-there : at act.by.records k ≡ some r
    pub in_regular_lem : place_at n q l i (suc p) ≡ record { regular = some c; transitional = none }

  sends_at : (p i k : ℕ) (r : Record) (x : Acts n q l p i) → at x.by.records k ≡ some r → (c : Configuration) × Puts p i k c r
  unfolding at
  sends_at p i k r x h = go (transition_sends x.moves (standing n q l i p).memory)
    where
      go : (x.by.records ≡ []) ⊎ InRegular x.after.membership.configuration x.after.membership.transitional
          → (c : Configuration) × Puts p i k c r
      go (inl e) = none_some (ap (λ y. at y k) (sym e) ∙ h)
      go (inr y) =
          let s = coupled A (suc p) i x.down_next in
          let z = ap place_of x.memory_next in
          let w : place_of x.after ≡ record { regular = some y.configuration; transitional = none } = λ j. record { regular = y.there j; transitional = y.none_after j } in
          (y.configuration, record { act = x; record-there = h; in_regular_lem = sym s ∙ z ∙ w })

  -- Whatever is sent was put out, by one server, in a regular configuration: "send_p(m, c)" has a regular c.
  pub sent_put_out : (p k : ℕ) (e : List ℕ) → at (sent_at n q l p) k ≡ some e
      → (i : ℕ) × (c : Configuration) × (r : Record) × Puts p i k c r × (e ≡ write r)
  unfolding at
  sent_put_out p k e h = go (at l p) refl
    where
      from : (i : ℕ) → at (put_out n q l p) k ≡ some e → AllowedTurn n q l p i → (f : List ℕ) (j : ℕ) → at l p ≡ some (event i f j)
          → (i : ℕ) × (c : Configuration) × (r : Record) × Puts p i k c r × (e ≡ write r)
      from i x (rests o m s d) f j y = absurd (o (of_event y))
      from i x (saves o m s d u) f j y = event_not_store (some_same (sym y ∙ o))
      from i x (crashes o m s d) f j y = event_not_crash (some_same (sym y ∙ o))
      from i x (refuses z) f j y = none_some (ap (λ w. at w k) (sym z.put) ∙ x)
      from i x (recovers z) f j y = none_some (ap (λ w. at w k) (sym z.put) ∙ x)
      from i x (acts z) f j y =
          let u = at_map write z.by.records k e (ap (λ w. at w k) (sym z.put) ∙ x) in
          let v = sends_at p i k u.0 z u.1 in
          (i, v.0, u.0, v.1, u.2)

      go : (x : Option Entry) → at l p ≡ x → (i : ℕ) × (c : Configuration) × (r : Record) × Puts p i k c r × (e ≡ write r)
      go none x = none_some (ap (λ w. at w k) (sym (sent_past n q l p x)) ∙ h)
      go (some (crash i)) x = none_some (ap (λ w. at w k) (sym (sent_by_crash n q l p i x)) ∙ h)
      go (some (store i)) x = none_some (ap (λ w. at w k) (sym (sent_by_store n q l p i x)) ∙ h)
      go (some (event i f m)) x =
          let z = at_in_take m (put_out n q l p) k e (ap (λ w. at w k) (sym (sent_at_lem n q l p i m f x)) ∙ h) in
          from i z.1 (allowed_turn A p i) f m x
