-- The table of a run holds, at each place, what the definitions of `Runs` say of that place.
use Prim.Native.Nat.{ℕ, zero, suc, ◌+◌, ◌<◌}
use mathlib.Core.Path.{◌≡◌, refl, sym, ap, ap₂, subst, ◌∙◌}
use mathlib.Core.Bool.{true}
use mathlib.Core.List.{List, [], ◌∷◌}
use mathlib.Core.Option.{Option, some}
use native.Mathlib.Nat.{add-zero, zero-add}
use native.Mathlib.Omega.{arith}
use lib.ListN.{length, take}
use Rattle.base.specs.Tests.{◌=?◌, pick}
use Rattle.base.proofs.TestLaws.{Known, holds, fails, known, eq_holds, eq_fails, eq_no, lt_yes}
use Rattle.base.specs.Lists.{at, upd}
use Rattle.base.proofs.AtLaws.{none_some, some_same}
use Rattle.base.proofs.QuantifierLaws.{Among}
use Rattle.format.specs.Types.{Record, action, retransmission, state, cpc, regular, transitional, request, recovery, Reading, says, refused}
use Rattle.replication.specs.Runs.Run.{Entry, event, crash, store, Run, server_of, World, beginning, world_after, world_through, Place, nowhere, heard, place_after, place_through, world_at, place_at, heard_at, put_out, sent_at}
use Rattle.replication.specs.Runs.Happenings.{is_message, Crashes, Comes, Takes}
use Rattle.replication.specs.Audit.Witness.{Witness}
use Rattle.replication.proofs.Runs.Places.{sent_by_store, place_next, put_out_at, sent_at_lem, sent_by_crash}
use Rattle.replication.specs.Audit.Table.{Role, delivers, takes, transits, goes_down, comes_back, saves, asks, neither, role_in, Row, row_of, rows_from, table}

-- ---- the walk

-- An entry changes its own server's configuration only.
place_kept : (n q i : ℕ) (c : Place) (y : Entry) → (i ≡ server_of y → ⊥) → place_after n q i c y ≡ c
unfolding place_after server_of pick
place_kept n q i c (event j e k) h = rw (eq_no j i (λ f. h (sym f)))
place_kept n q i c (crash j) h = rw (eq_no j i (λ f. h (sym f)))
place_kept n q i c (store j) h = refl

places_next : (n q : ℕ) (c : ℕ → Place) (y : Entry) (i : ℕ)
    → upd c (server_of y) (place_after n q (server_of y) (c (server_of y)) y) i ≡ place_after n q i (c i) y
unfolding upd pick
places_next n q c y i = go (known (i =? server_of y))
  where
    go : Known (i =? server_of y) → upd c (server_of y) (place_after n q (server_of y) (c (server_of y)) y) i ≡ place_after n q i (c i) y
    go (holds e) = rw e (ap (λ j. place_after n q j (c j) y) (sym (eq_holds i (server_of y) e)))
    go (fails e) = rw e (sym (place_kept n q i (c i) y (eq_fails i (server_of y) e)))

module _ (n q : ℕ) (w : Witness) where
  rows_hold : (p : ℕ) (x : World) (c : ℕ → Place) (l : Run) (k : ℕ) (y : Entry) → at l k ≡ some y
      → at (rows_from n q w p x c l) k
      ≡ some (row_of n q w (p + k) (world_through x (take k l)) (place_through n q (server_of y) (c (server_of y)) (take k l)) y)
  unfolding rows_from at world_through place_through
  rows_hold p x c [] k y e = none_some e
  rows_hold p x c (z ∷ l) zero y e =
      let f : z ≡ y = some_same e in ap some (rw add-zero (ap (λ v. row_of n q w p x (c (server_of v)) v) f))
  rows_hold p x c (z ∷ l) (suc k) y e =
      rows_hold (suc p) (world_after x z) (upd c (server_of z) (place_after n q (server_of z) (c (server_of z)) z)) l k y e
      ∙ ap₂ {A = ℕ} {B = Place} {C = Option Row} (λ j d. some (row_of n q w j (world_through (world_after x z) (take k l)) (place_through n q (server_of y) d (take k l)) y))
      (omega arith) (places_next n q c z (server_of y))

  rows_are : (p : ℕ) (x : World) (c : ℕ → Place) (l : Run) (k : ℕ) (r : Row) → at (rows_from n q w p x c l) k ≡ some r → (y : Entry) × (at l k ≡ some y)
  unfolding rows_from at
  rows_are p x c [] k r e = none_some e
  rows_are p x c (z ∷ l) zero r e = (z, refl)
  rows_are p x c (z ∷ l) (suc k) r e = rows_are (suc p) (world_after x z) (upd c (server_of z) (place_after n q (server_of z) (c (server_of z)) z)) l k r e

-- ---- the row at a place

module _ (n q : ℕ) (l : Run) (w : Witness) where
  -- The row of the entry y at p, by the definitions.
  unfoldable pub row_at : ℕ → Entry → Row
  row_at p y = row_of n q w p (world_at n q l p) (place_at n q l (server_of y) p) y

  pub table_holds : (p : ℕ) (y : Entry) → at l p ≡ some y → at (table n q l w) p ≡ some (row_at p y)
  unfolding table row_at world_at place_at
  table_holds p y e =
      rows_hold n q w 0 (beginning n q) (λ i. nowhere) l p y e
      ∙ ap (λ k. some (row_of n q w k (world_through (beginning n q) (take p l)) (place_through n q (server_of y) nowhere (take p l)) y)) (zero-add p)

  pub row_among : (p : ℕ) (y : Entry) → at l p ≡ some y → Among (row_at p y) (table n q l w)
  row_among p y e = record { place = p; there = table_holds p y e }

  pub table_is : (p : ℕ) (r : Row) → at (table n q l w) p ≡ some r → (y : Entry) × (at l p ≡ some y) × (r ≡ row_at p y)
  unfolding table
  table_is p r e =
      let found = rows_are n q w 0 (beginning n q) (λ i. nowhere) l p r e in
      (found.0, found.1, some_same (sym e ∙ table_holds p found.0 found.1))

  -- ---- its parts

  pub row_place : (p : ℕ) (y : Entry) → (row_at p y).place ≡ p
  unfolding row_at row_of
  row_place p (event i e k) = refl
  row_place p (crash i) = refl
  row_place p (store i) = refl

  pub row_server : (p : ℕ) (y : Entry) → (row_at p y).server ≡ server_of y
  unfolding row_at row_of server_of
  row_server p (event i e k) = refl
  row_server p (crash i) = refl
  row_server p (store i) = refl

  pub row_after : (p : ℕ) (y : Entry) → at l p ≡ some y → (row_at p y).after ≡ place_at n q l (server_of y) (suc p)
  unfolding row_at row_of server_of
  row_after p (event i e k) h = sym (place_next n q l i p (event i e k) h)
  row_after p (crash i) h = sym (place_next n q l i p (crash i) h)
  row_after p (store i) h = sym (place_next n q l i p (store i) h)

  pub row_sent : (p : ℕ) (y : Entry) → at l p ≡ some y → (row_at p y).sent ≡ sent_at n q l p
  unfolding row_at row_of
  row_sent p (event i e k) h = sym (sent_at_lem n q l p i k e h ∙ ap (take k) (put_out_at n q l p i k e h))
  row_sent p (crash i) h = sym (sent_by_crash n q l p i h)
  row_sent p (store i) h = sym (sent_by_store n q l p i h)

  -- A row whose records were not all sent.
  pub row_cut : (p i k : ℕ) (e : List ℕ) → at l p ≡ some (event i e k) → k < length (put_out n q l p) → (row_at p (event i e k)).cut ≡ true
  unfolding row_at row_of
  row_cut p i k e h less = lt_yes k _ (subst (λ (r : List (List ℕ)). k < length r) (put_out_at n q l p i k e h) less)

  -- ---- its role

  -- What its role says of the place p of the server i.
  abbrev pub Meaning : (p i : ℕ) → Role → Type 0
  Meaning p i delivers = (r : Record) × Comes n q l p i r × (is_message r ≡ true)
  Meaning p i (takes c) = Takes n q l p i c
  Meaning p i (transits s) = Comes n q l p i (transitional s)
  Meaning p i goes_down = Crashes l p i
  Meaning p i comes_back = Comes n q l p i recovery
  Meaning p i saves = at l p ≡ some (store i)
  Meaning p i asks = (y : List ℕ) × Comes n q l p i (request y)
  Meaning p i neither = Unit {0}

  pub meaning : (p : ℕ) (y : Entry) → at l p ≡ some y → Meaning p (server_of y) (row_at p y).role
  unfolding row_at row_of server_of heard_at role_in is_message
  meaning p (crash i) h = h
  meaning p (store i) h = h
  meaning p (event i e k) h = go (heard n q i (place_at n q l i p) e) refl
    where
      comes : (r : Record) → heard n q i (place_at n q l i p) e ≡ says r → Comes n q l p i r
      comes r g = record { bytes = e; sent = k; here = h; heard = g }

      go : (o : Reading Record) → heard n q i (place_at n q l i p) e ≡ o → Meaning p i (role_in o)
      go (says (action a)) g = (action a, comes _ g, refl)
      go (says (retransmission s t a)) g = (retransmission s t a, comes _ g, refl)
      go (says (state x)) g = (state x, comes _ g, refl)
      go (says (cpc s t)) g = (cpc s t, comes _ g, refl)
      go (says (regular t s)) g = comes _ g
      go (says (transitional s)) g = comes _ g
      go (says (request t)) g = (t, comes _ g)
      go (says recovery) g = comes _ g
      go (refused t) g = tt

  -- What comes at a place has its role there.
  pub role_of : (p i : ℕ) (r : Record) (c : Comes n q l p i r) → (row_at p (event i c.bytes c.sent)).role ≡ role_in (says r)
  unfolding row_at row_of server_of heard_at
  role_of p i r c = ap role_in c.heard
