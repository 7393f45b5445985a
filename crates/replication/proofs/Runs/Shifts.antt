-- What a place does to one server's configuration.
use Prim.Native.Nat.{ℕ, suc}
use mathlib.Core.Path.{◌≡◌, refl, sym, ap, ◌∙◌}
use mathlib.Core.Bool.{Bool, true, false}
use mathlib.Core.List.{List}
use mathlib.Core.Option.{none, some}
use native.Mathlib.Omega.{arith}
use Rattle.base.proofs.TestLaws.{not_both}
use Rattle.base.specs.Lists.{at}
use Rattle.base.proofs.AtLaws.{some_same}
use Rattle.format.specs.Types.{Record, action, retransmission, state, cpc, regular, transitional, request, recovery, Reading, says, refused}
use Rattle.replication.specs.Machine.Types.{Configuration}
use Rattle.replication.specs.Runs.Run.{event, Run, nowhere, moved, place_at, heard_at}
use Rattle.replication.specs.Runs.Happenings.{is_message, Of, Crashes, Comes, Falls, by_crash, by_recovery, Takes}
use Rattle.replication.proofs.Runs.Places.{event_not_store, crash_not_store, event_entry, event_not_crash, of_event, of_crash}
use Rattle.replication.proofs.Runs.Turns.{Turn, rests, crashes, saves, refuses, acts, turn}

pub says_same : {x y : Record} → says x ≡ says y → x ≡ y
says_same e = cc

pub says_not_refused : {X : Type 0} {x : Record} {k : ℕ} → says x ≡ refused k → X
says_not_refused e = let z : ◌≡◌ {A = ℕ} 0 1 = cc in absurd (omega arith)

pub regular_same : {i s j t : ℕ} → regular i s ≡ regular j t → (i ≡ j) × (s ≡ t)
regular_same e = (cc, cc)

-- Which records change a configuration.
unfoldable pub changes : Record → Bool
changes (action a) = false
changes (retransmission k p a) = false
changes (state x) = false
changes (cpc k i) = false
changes (regular i s) = true
changes (transitional s) = true
changes (request p) = false
changes recovery = true

pub message_changes_nothing : (r : Record) → is_message r ≡ true → changes r ≡ false
unfolding is_message changes
message_changes_nothing (action a) e = refl
message_changes_nothing (retransmission k p a) e = refl
message_changes_nothing (state x) e = refl
message_changes_nothing (cpc k i) e = refl
message_changes_nothing (regular i s) e = cc
message_changes_nothing (transitional s) e = cc
message_changes_nothing (request p) e = refl
message_changes_nothing recovery e = cc

module _ {n q : ℕ} {l : Run} where
  -- One event says one thing.
  pub comes_once : {p i : ℕ} {r s : Record} → Comes n q l p i r → Comes n q l p i s → r ≡ s
  comes_once {p} {i} x y =
      let e = event_entry (some_same (sym x.here ∙ y.here)) in
      says_same (sym x.heard ∙ ap (heard_at n q l p i) e.1 ∙ y.heard)

  pub comes_of : {p i : ℕ} {r : Record} → Comes n q l p i r → Of l p i
  comes_of x = of_event x.here

  pub crash_says_nothing : {X : Type 0} {p i : ℕ} {r : Record} → Crashes l p i → Comes n q l p i r → X
  crash_says_nothing c x = event_not_crash (some_same (sym x.here ∙ c))

  pub falls_of : {p i : ℕ} → Falls n q l p i → Of l p i
  falls_of (by_crash c) = of_crash c
  falls_of (by_recovery x) = comes_of x

  -- An event that changes no configuration does not end one.
  pub unchanging : {p i : ℕ} {r : Record} → changes r ≡ false → Comes n q l p i r → Falls n q l p i → ⊥
  unfolding changes
  unchanging e x (by_crash c) = crash_says_nothing c x
  unchanging e x (by_recovery y) = not_both (sym e ∙ ap changes (comes_once x y))

  pub takes_no_fall : {p i : ℕ} {c : Configuration} → Takes n q l p i c → Falls n q l p i → ⊥
  takes_no_fall x (by_crash c) = crash_says_nothing c x
  takes_no_fall x (by_recovery y) = let e = comes_once x y in let w : ◌≡◌ {A = ℕ} 0 1 = cc in omega arith

  pub takes_same : {p i : ℕ} {c d : Configuration} → Takes n q l p i c → Takes n q l p i d → c ≡ d
  takes_same x y = let e = regular_same (comes_once x y) in λ j. record { id = e.0 j; set = e.1 j }

  -- A place that changes no configuration ends none.
  pub stays_no_fall : {p i : ℕ} → ((r : Record) → Comes n q l p i r → changes r ≡ false) → (Crashes l p i → ⊥) → Falls n q l p i → ⊥
  unfolding changes
  stays_no_fall u v (by_crash x) = v x
  stays_no_fall u v (by_recovery x) = not_both (sym (u recovery x))

  pub stays_no_regular : {p i : ℕ} {c : Configuration} → ((r : Record) → Comes n q l p i r → changes r ≡ false) → Takes n q l p i c → ⊥
  unfolding changes
  stays_no_regular u x = not_both (sym (u _ x))

  pub transitional_no_fall : {p i s : ℕ} → Comes n q l p i (transitional s) → Falls n q l p i → ⊥
  transitional_no_fall x (by_crash c) = crash_says_nothing c x
  transitional_no_fall x (by_recovery y) = let e = comes_once x y in let w : ◌≡◌ {A = ℕ} 0 1 = cc in omega arith

  pub transitional_not_regular : {p i s : ℕ} {c : Configuration} → Comes n q l p i (transitional s) → Takes n q l p i c → ⊥
  transitional_not_regular x y = let e = comes_once x y in let w : ◌≡◌ {A = ℕ} 0 1 = cc in omega arith

module _ (n q : ℕ) (l : Run) where
  -- What the place p is to the configuration of the server i.
  pub data Shift (p i : ℕ) : Type 0 where
    to_regular : (c : Configuration) → Takes n q l p i c → place_at n q l i (suc p) ≡ record { regular = some c; transitional = none } → Shift p i
    to_transitional : (s : ℕ) → Comes n q l p i (transitional s)
        → place_at n q l i (suc p) ≡ record { regular = (place_at n q l i p).regular; transitional = some s } → Shift p i
    to_nowhere : Falls n q l p i → place_at n q l i (suc p) ≡ nowhere → Shift p i
    stays : ((r : Record) → Comes n q l p i r → changes r ≡ false) → (Crashes l p i → ⊥) → place_at n q l i (suc p) ≡ place_at n q l i p → Shift p i

  by_reading : (p i : ℕ) (e : List ℕ) (k : ℕ) → at l p ≡ some (event i e k) → (r : Reading Record) → heard_at n q l p i e ≡ r
      → place_at n q l i (suc p) ≡ moved r (place_at n q l i p) → Shift p i
  unfolding moved changes
  by_reading p i e k h r x m = go r x m
    where
      it : (s : Record) → heard_at n q l p i e ≡ says s → Comes n q l p i s
      it s y = record { bytes = e; sent = k; here = h; heard = y }

      no_crash : Crashes l p i → ⊥
      no_crash c = event_not_crash (some_same (sym h ∙ c))

      plain : (s : Record) → heard_at n q l p i e ≡ says s → changes s ≡ false → (u : Record) → Comes n q l p i u → changes u ≡ false
      plain s y f u z = ap changes (comes_once z (it s y)) ∙ f

      silent : (z : ℕ) → heard_at n q l p i e ≡ refused z → (u : Record) → Comes n q l p i u → changes u ≡ false
      silent z y u w =
          let f = event_entry (some_same (sym w.here ∙ h)) in
          says_not_refused (sym w.heard ∙ ap (heard_at n q l p i) f.1 ∙ y)

      go : (r : Reading Record) → heard_at n q l p i e ≡ r → place_at n q l i (suc p) ≡ moved r (place_at n q l i p) → Shift p i
      go (says (action a)) y m = stays (plain (action a) y refl) no_crash m
      go (says (retransmission j z a)) y m = stays (plain (retransmission j z a) y refl) no_crash m
      go (says (state s)) y m = stays (plain (state s) y refl) no_crash m
      go (says (cpc j z)) y m = stays (plain (cpc j z) y refl) no_crash m
      go (says (regular j s)) y m = to_regular (record { id = j; set = s }) (it _ y) m
      go (says (transitional s)) y m = to_transitional s (it _ y) m
      go (says (request z)) y m = stays (plain (request z) y refl) no_crash m
      go (says recovery) y m = to_nowhere (by_recovery (it _ y)) m
      go (refused z) y m = stays (silent z y) no_crash m

  pub shift : (p i : ℕ) → Shift p i
  shift p i = go (turn n q l p i)
    where
      go : Turn n q l p i → Shift p i
      go (rests o m c d) = stays (λ r x. absurd (o (comes_of x))) (λ x. o (of_crash x)) c
      go (crashes x m c d) = to_nowhere (by_crash x) c
      go (saves x m c d) = stays (λ r y. event_not_store (some_same (sym y.here ∙ x))) (λ y. crash_not_store (some_same (sym y ∙ x))) c
      go (refuses e k z h a m c d) = by_reading p i e k h _ refl c
      go (acts e k t r b g h a m c d) = by_reading p i e k h _ refl c
