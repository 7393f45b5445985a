-- What the audit finds by looking at a server's later rows: a configuration left, the next configuration, the crash after a cut event.
use Prim.Native.Nat.{ℕ, zero, suc, ◌+◌, ◌-◌, ◌<◌}
use mathlib.Core.Path.{◌≡◌, refl, sym, ap, subst, ◌∙◌}
use mathlib.Core.Bool.{Bool, true}
use mathlib.Core.Logic.{◌⊎◌, inl, inr}
use mathlib.Core.List.{List, [], ◌∷◌}
use mathlib.Core.Option.{Option, some}
use native.Mathlib.Omega.{arith}
use lib.ListN.{drop}
use Rattle.base.specs.Tests.{◌=?◌, pick}
use Rattle.base.proofs.TestLaws.{Known, holds, fails, known, eq_holds, eq_yes, not_both}
use Rattle.base.specs.Lists.{at}
use Rattle.base.proofs.AtLaws.{none_some, some_same}
use Rattle.base.proofs.QuantifierLaws.{Among, at_drop, among_filter, among_gather}
use Rattle.format.specs.Types.{Record, action, retransmission, state, cpc, regular, transitional, request, recovery, Reading, says, refused}
use Rattle.replication.specs.Machine.Types.{Configuration}
use Rattle.replication.specs.Runs.Run.{Entry, event, Run, server_of, heard, place_at}
use Rattle.replication.specs.Runs.Happenings.{Configured, regularly, transitionally, Crashes, Falls, by_crash, by_recovery, BehindCut, gone_down, unsent_request, Takes, Left, Configures, to_regular, to_transitional, Passes}
use Rattle.replication.specs.Audit.Witness.{Witness, source_in, name_in, entry_ord}
use Rattle.replication.specs.Audit.Table.{Role, delivers, takes, transits, goes_down, comes_back, saves, asks, neither, role_in, Row, row_of, table}
use Rattle.replication.specs.Audit.Journal.{Change, change_by, settles_by, settles, next_by, next_change, crashes_by, crashes_next, has_left, passage_to, passage_from, leavings_in, passages_in}
use Rattle.replication.proofs.Verdicts.Rows.{row_at, table_holds, table_is, row_server, Meaning, meaning, row_sent, role_of}
use Rattle.replication.proofs.Verdicts.Entries.{taking_among, change_row, change_among}

-- ---- a list of rows

-- The server does not go down or recover.
abbrev Steady : Role → Type 0
Steady delivers = Unit {0}
Steady (takes c) = Unit {0}
Steady (transits s) = Unit {0}
Steady goes_down = ⊥
Steady comes_back = ⊥
Steady saves = Unit {0}
Steady asks = Unit {0}
Steady neither = Unit {0}

-- Nor does its configuration change.
abbrev Quiet : Role → Type 0
Quiet delivers = Unit {0}
Quiet (takes c) = ⊥
Quiet (transits s) = ⊥
Quiet goes_down = ⊥
Quiet comes_back = ⊥
Quiet saves = Unit {0}
Quiet asks = Unit {0}
Quiet neither = Unit {0}

-- P holds of each row of the server i before the place k.
abbrev Until : (Role → Type 0) → ℕ → List Row → ℕ → Type 0
Until P i rs k = (x : ℕ) (y : Row) → x < k → at rs x ≡ some y → y.server ≡ i → P y.role

settles_by_lem : (o : Role) (b : Bool) → Steady o → b ≡ true → settles_by o b ≡ true
unfolding settles_by
settles_by_lem comes_back b s h = elim s [ ]
settles_by_lem goes_down b s h = elim s [ ]
settles_by_lem delivers b s h = h
settles_by_lem (takes c) b s h = refl
settles_by_lem (transits t) b s h = h
settles_by_lem saves b s h = h
settles_by_lem asks b s h = h
settles_by_lem neither b s h = h

settles_yes : (i : ℕ) (rs : List Row) (k : ℕ) (r : Row) (c : Configuration) → at rs k ≡ some r → r.server ≡ i → r.role ≡ takes c → Until Steady i rs k
    → settles i rs ≡ true
unfolding settles settles_by at pick
settles_yes i [] k r c e h t u = none_some e
settles_yes i (y ∷ rs) zero r c e h t u =
    let f : y ≡ r = some_same e in
    let role : y.role ≡ takes c = ap (λ z. z.role) f ∙ t in
    rw (eq_yes y.server i (ap (λ z. z.server) f ∙ h), role)
settles_yes i (y ∷ rs) (suc k) r c e h t u = go (known (y.server =? i)) (settles_yes i rs k r c e h t (λ x z l f g. u (suc x) z (omega arith) f g))
  where
    go : Known (y.server =? i) → settles i rs ≡ true → settles i (y ∷ rs) ≡ true
    go (holds f) s = rw f (settles_by_lem y.role (settles i rs) (u 0 y (omega arith) refl (eq_holds y.server i f)) s)
    go (fails f) s = rw f s

next_by_lem : (o : Role) (y : Row) (b : Option Change) → Quiet o → next_by o y b ≡ b
unfolding next_by
next_by_lem (takes _) y b s = elim s [ ]
next_by_lem (transits set) y b s = elim s [ ]
next_by_lem comes_back y b s = elim s [ ]
next_by_lem goes_down y b s = elim s [ ]
next_by_lem delivers y b s = refl
next_by_lem saves y b s = refl
next_by_lem asks y b s = refl
next_by_lem neither y b s = refl

next_change_by : (o : Role) (y : Row) (b : Option Change) (d : Change) → change_by o y ≡ some d → next_by o y b ≡ some d
unfolding next_by change_by
next_change_by delivers y b d h = none_some h
next_change_by (takes c) y b d h = h
next_change_by (transits t) y b d h = h
next_change_by goes_down y b d h = none_some h
next_change_by comes_back y b d h = none_some h
next_change_by saves y b d h = none_some h
next_change_by asks y b d h = none_some h
next_change_by neither y b d h = none_some h

next_yes : (i : ℕ) (rs : List Row) (k : ℕ) (r : Row) (d : Change) → at rs k ≡ some r → r.server ≡ i → change_by r.role r ≡ some d → Until Quiet i rs k
    → next_change i rs ≡ some d
unfolding next_change at pick
next_yes i [] k r d e h t u = none_some e
next_yes i (y ∷ rs) zero r d e h t u =
    let f : r ≡ y = sym (some_same e) in
    rw (eq_yes y.server i (ap (λ z. z.server) (some_same e) ∙ h))
    (next_change_by y.role y (next_change i rs) d (subst (λ z. change_by z.role z ≡ some d) f t))
next_yes i (y ∷ rs) (suc k) r d e h t u = go (known (y.server =? i)) (next_yes i rs k r d e h t (λ x z l f g. u (suc x) z (omega arith) f g))
  where
    go : Known (y.server =? i) → next_change i rs ≡ some d → next_change i (y ∷ rs) ≡ some d
    go (holds f) s = rw f (next_by_lem y.role y (next_change i rs) (u 0 y (omega arith) refl (eq_holds y.server i f)) ∙ s)
    go (fails f) s = rw f s

-- An event, no crash and no store.
abbrev Eventful : Role → Type 0
Eventful delivers = Unit {0}
Eventful (takes c) = Unit {0}
Eventful (transits s) = Unit {0}
Eventful goes_down = ⊥
Eventful comes_back = Unit {0}
Eventful saves = ⊥
Eventful asks = Unit {0}
Eventful neither = Unit {0}

-- A request that sends nothing.
abbrev Unsent : Role → List (List ℕ) → Type 0
Unsent o s = (o ≡ asks) × (s ≡ [])

-- No other event is passed over.
no_crash : (o : Role) (s : List (List ℕ)) (b : Bool) → Eventful o → crashes_by o s b ≡ true → Unsent o s
unfolding crashes_by
no_crash goes_down s b v h = elim v [ ]
no_crash saves s b v h = elim v [ ]
no_crash delivers s b v h = not_both h
no_crash (takes c) s b v h = not_both h
no_crash (transits t) s b v h = not_both h
no_crash comes_back s b v h = not_both h
no_crash asks [] b v h = (refl, refl)
no_crash asks (x ∷ s) b v h = not_both h
no_crash neither s b v h = not_both h

-- In these rows a crash of the server i stands before the place k.
record CrashBefore (i : ℕ) (rs : List Row) (k : ℕ) : Type 0 where
  place : ℕ
  row : Row
  before : place < k
  here : at rs place ≡ some row
  its : row.server ≡ i
  role : row.role ≡ goes_down

one_later : (i : ℕ) (y : Row) (rs : List Row) (k : ℕ) → CrashBefore i rs k → CrashBefore i (y ∷ rs) (suc k)
unfolding at
one_later i y rs k c = record {
  place = suc c.place;
  row = c.row;
  before = omega (arith, c.before);
  here = c.here;
  its = c.its;
  role = c.role;
}

-- Before an event of the server i stands its crash, or the event is a request that sends nothing.
crash_before : (i : ℕ) (rs : List Row) (k : ℕ) (r : Row) → at rs k ≡ some r → r.server ≡ i → Eventful r.role → crashes_next i rs ≡ true
    → CrashBefore i rs k ⊎ Unsent r.role r.sent
unfolding crashes_next crashes_by at pick
crash_before i [] k r e h v c = none_some e
crash_before i (y ∷ rs) zero r e h v c =
    let f : y ≡ r = some_same e in
    let same : (y.server =? i) ≡ true = eq_yes y.server i (ap (λ z. z.server) f ∙ h) in
    inr (no_crash r.role r.sent (crashes_next i rs) v (subst (λ z. crashes_by z.role z.sent (crashes_next i rs) ≡ true) f (rw same at c)))
crash_before i (y ∷ rs) (suc k) r e h v c = go (known (y.server =? i)) (λ d. later (crash_before i rs k r e h v d))
  where
    Found : Type 0
    Found = CrashBefore i (y ∷ rs) (suc k) ⊎ Unsent r.role r.sent

    later : CrashBefore i rs k ⊎ Unsent r.role r.sent → Found
    later (inl b) = inl (one_later i y rs k b)
    later (inr b) = inr b

    by_role : (o : Role) (xs : List (List ℕ)) → y.role ≡ o → y.server ≡ i → crashes_by o xs (crashes_next i rs) ≡ true
        → (crashes_next i rs ≡ true → Found) → Found
    by_role goes_down xs g f d s = inl (record { place = 0; row = y; before = omega arith; here = refl; its = f; role = g })
    by_role saves xs g f d s = s d
    by_role asks [] g f d s = s d
    by_role asks (x ∷ xs) g f d s = not_both d
    by_role delivers xs g f d s = not_both d
    by_role (takes x) xs g f d s = not_both d
    by_role (transits x) xs g f d s = not_both d
    by_role comes_back xs g f d s = not_both d
    by_role neither xs g f d s = not_both d

    go : Known (y.server =? i) → (crashes_next i rs ≡ true → Found) → Found
    go (holds f) s = by_role y.role y.sent refl (eq_holds y.server i f) (rw f at c) s
    go (fails f) s = s (rw f at c)

eventful_role : (o : Reading Record) → Eventful (role_in o)
unfolding role_in
eventful_role (says (action a)) = tt
eventful_role (says (retransmission k p a)) = tt
eventful_role (says (state x)) = tt
eventful_role (says (cpc k i)) = tt
eventful_role (says (regular i s)) = tt
eventful_role (says (transitional s)) = tt
eventful_role (says (request p)) = tt
eventful_role (says recovery) = tt
eventful_role (refused k) = tt

-- ---- the table

module _ (n q : ℕ) (l : Run) (w : Witness) where
  abbrev rows : List Row
  rows = table n q l w

  steady_role : (p i : ℕ) (o : Role) → Meaning n q l w p i o → (Falls n q l p i → ⊥) → Steady o
  steady_role p i delivers m f = tt
  steady_role p i (takes c) m f = tt
  steady_role p i (transits s) m f = tt
  steady_role p i goes_down m f = f (by_crash m)
  steady_role p i comes_back m f = f (by_recovery m)
  steady_role p i saves m f = tt
  steady_role p i asks m f = tt
  steady_role p i neither m f = tt

  quiet_role : (p i : ℕ) (o : Role) → Meaning n q l w p i o → (Falls n q l p i → ⊥)
      → ((c : Configured) → Configures n q l (source_in w) (name_in w) p i c → ⊥) → Quiet o
  quiet_role p i delivers m f g = tt
  quiet_role p i (takes c) m f g = g (regularly c) (to_regular c m)
  quiet_role p i (transits s) m f g = g (transitionally (name_in w p)) (to_transitional s m)
  quiet_role p i goes_down m f g = f (by_crash m)
  quiet_role p i comes_back m f g = f (by_recovery m)
  quiet_role p i saves m f g = tt
  quiet_role p i asks m f g = tt
  quiet_role p i neither m f g = tt

  -- What holds of a server's entries between p and r holds of its rows.
  until_next : (P : Role → Type 0) (i p r : ℕ)
      → ((x : ℕ) (y : Entry) → p < x → x < r → at l x ≡ some y → server_of y ≡ i → P (row_at n q l w x y).role)
      → Until P i (drop (suc p) rows) (r - suc p)
  until_next P i p r h x y less e s =
      let t = table_is n q l w (suc p + x) y (sym (at_drop (suc p) rows x) ∙ e) in
      subst (λ z. P z.role) (sym t.2)
      (h (suc p + x) t.0 (omega arith) (omega arith) t.1 (sym (row_server n q l w (suc p + x) t.0) ∙ ap (λ z. z.server) (sym t.2) ∙ s))

  later_row : (p r : ℕ) (y : Entry) → p < r → at l r ≡ some y → at (drop (suc p) rows) (r - suc p) ≡ some (row_at n q l w r y)
  later_row p r y less e =
      let sum : suc p + (r - suc p) ≡ r = omega arith in at_drop (suc p) rows (r - suc p) ∙ ap (at rows) sum ∙ table_holds n q l w r y e

  pub settled : (i p r : ℕ) (c : Configuration) → p < r → Takes n q l r i c → ((x : ℕ) → p < x → x < r → Falls n q l x i → ⊥)
      → settles i (drop (suc p) rows) ≡ true
  unfolding row_at row_of role_in server_of
  settled i p r c less t steady =
      settles_yes i (drop (suc p) rows) (r - suc p) (row_at n q l w r (event i t.bytes t.sent)) c
      (later_row p r (event i t.bytes t.sent) less t.here) refl (role_of n q l w r i _ t)
      (until_next Steady i p r (λ x y a b e s.
      steady_role x i (row_at n q l w x y).role (subst (λ j. Meaning n q l w x j (row_at n q l w x y).role) s (meaning n q l w x y e)) (steady x a b)))

  -- A configuration that was left is among the leavings.
  pub leaving_among : (i : ℕ) (c : Configuration) (f : Left n q l i c)
      → Among (record { place = f.p; server = i; before = place_at n q l i f.p; configuration = c }) (leavings_in rows)
  unfolding leavings_in has_left
  leaving_among i c f =
      among_filter (has_left rows) (taking_among n q l w f.p i c f.took) (settled i f.p f.r f.next f.order f.took_next f.steady)

  abbrev pub change : (p i : ℕ) → Configured → Change
  change p i c = record { place = p; server = i; ord = entry_ord w p; to = c }

  -- A passage is among the passages.
  pub passage_among : (i : ℕ) (c d : Configured) (p r : ℕ) → Passes n q l (source_in w) (name_in w) i c d p r
      → Among (record { from = change p i c; to = change r i d }) (passages_in rows)
  unfolding passages_in passage_from passage_to
  passage_among i c d p r f =
      let row = change_row n q l w r i d f.to in
      let y : Entry = row.entry in
      among_gather (passage_from rows) (change_among n q l w p i c f.from)
      (ap (passage_to (change p i c))
      (next_yes i (drop (suc p) rows) (r - suc p) (row_at n q l w r y) (change r i d) (later_row p r y f.order row.here) (row_server n q l w r y ∙ row.its) row.change
      (until_next Quiet i p r (λ x z u v e s.
      quiet_role x i (row_at n q l w x z).role (subst (λ j. Meaning n q l w x j (row_at n q l w x z).role) s (meaning n q l w x z e)) (f.steady x u v)
      (λ k. f.direct x k u v)))))

  -- Before the next event of a server whose last one was cut lies a crash, or the event is a request that sends nothing.
  pub crash_between : (i p r m : ℕ) (f : List ℕ) → p < r → at l r ≡ some (event i f m) → crashes_next i (drop (suc p) rows) ≡ true
      → BehindCut n q l p r i
  unfolding row_at row_of server_of
  crash_between i p r m f less h c =
      go (crash_before i (drop (suc p) rows) (r - suc p) here (later_row p r (event i f m) less h) refl (eventful_role (heard n q i (place_at n q l i r) f)) c)
    where
      here : Row
      here = row_at n q l w r (event i f m)

      go : CrashBefore i (drop (suc p) rows) (r - suc p) ⊎ Unsent here.role here.sent → BehindCut n q l p r i
      go (inl b) =
          let x : ℕ = suc p + b.place in
          let t = table_is n q l w x b.row (sym (at_drop (suc p) rows b.place) ∙ b.here) in
          let role : (row_at n q l w x t.0).role ≡ goes_down = ap (λ z. z.role) (sym t.2) ∙ b.role in
          let its : server_of t.0 ≡ i = sym (row_server n q l w x t.0) ∙ ap (λ z. z.server) (sym t.2) ∙ b.its in
          let crash : Crashes l x i = subst (λ j. Crashes l x j) its (subst (Meaning n q l w x (server_of t.0)) role (meaning n q l w x t.0 t.1)) in
          gone_down x crash (omega arith) (omega (arith, b.before))
      go (inr b) =
          let asked = subst (Meaning n q l w r i) b.0 (meaning n q l w r (event i f m) h) in
          unsent_request asked.0 asked.1 (sym (row_sent n q l w r (event i f m) h) ∙ b.1)
