-- Through a server's stay in a configuration: no action comes before the Install; after it the server has what it had then and what has come since.
use Prim.Native.Nat.{ℕ, suc, ◌<◌}
use mathlib.Core.Path.{◌≡◌, refl, sym, ap, subst, subst₂, ◌∙◌}
use mathlib.Core.Bool.{Bool, true}
use mathlib.Core.List.{List, [], ◌∷◌, ◌++◌, append-nil}
use mathlib.Core.Option.{some}
use native.Mathlib.Omega.{arith}
use Rattle.base.proofs.AtLaws.{some_same}
use Rattle.base.specs.Lists.{Begins}
use Rattle.base.proofs.TestLaws.{not_both}
use Rattle.format.specs.Types.{Record, Action, action, cpc}
use Rattle.replication.specs.Machine.Types.{Trans_prim, Un, Configuration, Server, with_white}
use Rattle.replication.specs.Machine.Rules.{rule_for, on_action, on_cpc}
use Rattle.replication.specs.Machine.Step.{installs_by}
use Rattle.replication.proofs.WellFormed.Clauses.{YellowRed, YellowEntered}
use Rattle.replication.specs.Laws.Primary as S
use Rattle.replication.specs.Laws.Primary.{RegularStep, TransitionalStep}
use Rattle.replication.specs.Runs.Run.{Run, Place, place_at, heard_at}
use Rattle.replication.specs.Runs.Happenings.{is_message, Comes, Falls, by_crash, by_recovery, Takes}
use Rattle.replication.proofs.Runs.Roomy.{Roomy as Allowed}
use Rattle.replication.proofs.Runs.DeliveryFacts.{within, within_regular}
use Rattle.replication.proofs.Step.Primary.{regular_step, transitional_step}
use Rattle.replication.proofs.WellFormed.Steps.{yellow_rooms_whole}
use Rattle.replication.proofs.Runs.AllowedTurns.{memory_at, Acts, Refuses, AllowedTurn, rests, crashes, saves, refuses, recovers, acts, allowed_turn}
use Rattle.replication.proofs.Runs.DeliveryLists.{within_holds, within_yes, within_regular_yes}
use Rattle.replication.proofs.Runs.Entries.{had}
use Rattle.replication.proofs.Runs.Modes.{standing, standing_in}
use Rattle.replication.proofs.Runs.Numbers.{invariant_at, well_formed_at}
use Rattle.replication.proofs.Runs.Places.{event_not_store, event_entry}
use Rattle.replication.proofs.Runs.Progress.{stay_member}
use Rattle.replication.proofs.Runs.Shifts.{comes_once, comes_of}
use Rattle.replication.proofs.Runs.Stays.{membership_at, in_stay, entering_membership, acts_membership}
use Rattle.replication.proofs.Agreement.Terms.{InstallsAt}
use Rattle.replication.proofs.Agreement.Exchange.NotRefused.{no_delivery_refused}
use Rattle.replication.proofs.Agreement.Exchange.Phases.{settled_step}
use Rattle.replication.proofs.Agreement.Exchange.Stages.{remains, InCom, remaining}
use Rattle.replication.proofs.Agreement.Primaries.Acted.{acted_in, acted_more, acted_same, acted_none, acted_regular}
use Rattle.replication.proofs.Step.SameHeld.{held_same}
use Rattle.replication.proofs.Agreement.Primaries.Parts.{InRegPrim, InTransPrim, greened_kept, yellowed_kept, parted, regular_unchanged, transitional_unchanged}
use Rattle.replication.proofs.Agreement.Primaries.Steps.{before_install, is_action, other_record, EarlyStep, goes_on_lem, reddens, settles, installs, installs_late_lem, leaves, early_step}
use Rattle.replication.proofs.Agreement.Primaries.Terms.{begins_nothing, base, cuts_of, regularly, in_com, past_exchanging, creator_cut, colours_at, regular_place, not_regular, PrimaryPhase, early, settled, regular, transitional}

-- A raise changes none of it.
reg_raised : {b : List Action} {k : List ℕ} {x y : List Action} {t : Server} (w : ℕ) → InRegPrim b k x y t → InRegPrim b k x y (with_white w t)
reg_raised w h = record { mode = h.mode; green = h.green; cuts_now = h.cuts_now; all_regular = h.all_regular; yellow = h.yellow; red = h.red }

trans_raised : {b : List Action} {k : List ℕ} {x y : List Action} {t : Server} (w : ℕ) → InTransPrim b k x y t → InTransPrim b k x y (with_white w t)
trans_raised w h = record { mode = h.mode; green = h.green; cuts_now = h.cuts_now; red = h.red; ids = h.ids }

early_raised : {s : Server} {r : Record} {t : Server} (w : ℕ) → EarlyStep s r t → EarlyStep s r (with_white w t)
early_raised w (goes_on_lem e f) = goes_on_lem e f
early_raised w (reddens a e f) = reddens a e f
early_raised w (settles e) = settles e
early_raised w (installs k i e f g h o) = installs k i e f g h (reg_raised w o)
early_raised w (installs_late_lem a e f g h) = installs_late_lem a e f g (λ z. trans_raised w (h z))
early_raised w (leaves e) = leaves e

regular_raised : {s : Server} {r : Record} {t : Server} (w : ℕ) → RegularStep s r t → RegularStep s r (with_white w t)
regular_raised w (S.RegularStep.delivers a e f g h) = S.RegularStep.delivers a e f g h
regular_raised w (S.RegularStep.sends p e f g h) = S.RegularStep.sends p e f g h
regular_raised w (S.RegularStep.leaves x e f g h) = S.RegularStep.leaves x e f g h
regular_raised w (S.RegularStep.recovers e) = S.RegularStep.recovers e

transitional_raised : {s : Server} {r : Record} {t : Server} (w : ℕ) → TransitionalStep s r t → TransitionalStep s r (with_white w t)
transitional_raised w (S.TransitionalStep.delivers a e f y) =
    S.TransitionalStep.delivers a e f (record { ids = y.ids; status = y.status; green = y.green; red = y.red; cuts = y.cuts })
transitional_raised w (S.TransitionalStep.numbers p e f g h) = S.TransitionalStep.numbers p e f g h
transitional_raised w (S.TransitionalStep.joins c e f g h) = S.TransitionalStep.joins c e f g h
transitional_raised w (S.TransitionalStep.recovers e) = S.TransitionalStep.recovers e

module _ {n q : ℕ} {l : Run} (A : Allowed n q l) (i : ℕ) (c : Configuration) where
  -- No action has come to a server when it takes c.
  taking : (t : ℕ) → Takes n q l t i c → PrimaryPhase A (suc t) i c
  unfolding before_install
  taking t h =
      early (ap (λ m. before_install m.mode) (entering_membership A t i c h))
      (acted_none A (within c) i (suc t)
      (λ x a b y k.
      let z = had n q l x i c (within_holds c (place_at n q l i x) k) in
      omega (arith, z.earlier, A.allowed.once z.took_at t i c z.took h)))

  -- Nothing of it changes.
  unchanged : (p : ℕ) → memory_at n q l (suc p) i ≡ memory_at n q l p i → ((a : Action) → Comes n q l p i (action a) → ⊥) → PrimaryPhase A p i c
      → PrimaryPhase A (suc p) i c
  unchanged p m f h = go h
    where
      still : (t : Place → Bool) → acted_in A t i (suc p) ≡ acted_in A t i p
      still t = acted_same A t i p (λ a x k. f a x)

      mode : (membership_at n q l (suc p) i).mode ≡ (membership_at n q l p i).mode
      mode = ap (λ s. s.membership.mode) m

      go : PrimaryPhase A p i c → PrimaryPhase A (suc p) i c
      go (early e k) = early (ap before_install mode ∙ e) (still (within c) ∙ k)
      go (settled e) = settled (mode ∙ e)
      go (regular r b y k) =
          regular r (omega arith) y
          (regular_unchanged (base A y) (cuts_of A y) _ _ _ _ _ _ (still (within_regular c)) (still (within c)) k m)
      go (transitional r b y k) =
          transitional r (omega arith) y
          (transitional_unchanged (base A y) (cuts_of A y) _ _ _ _ _ _ (still (within_regular c)) (still (within c)) k mode
          (ap (λ s. s.votes) m) (held_same _ _ (ap (λ s. s.log) m)))

  -- ---- an event that is taken

  module _ (p : ℕ) (here : InCom n q l p i c) (x : Acts n q l p i) (kept : remains x.by.event ≡ true) where
    come : Comes n q l p i x.by.event
    come = record { bytes = x.bytes; sent = x.sent; here = x.here; heard = x.heard }

    abbrev now : Server
    now = memory_at n q l p i

    abbrev after : Server
    after = memory_at n q l (suc p) i

    -- If it is no action, none is added.
    still : ((a : Action) → x.by.event ≡ action a → ⊥) → (t : Place → Bool) → acted_in A t i (suc p) ≡ acted_in A t i p
    still f t = acted_same A t i p (λ a y k. f a (comes_once come y))

    an_action : (a : Action) → x.by.event ≡ action a → Comes n q l p i (action a)
    an_action a e = subst (λ r. Comes n q l p i r) e come

    in_com_lem : within c (place_at n q l i p) ≡ true
    in_com_lem = within_yes c (place_at n q l i p) here

    none_regular : in_com A c i p ≡ [] → regularly A c i p ≡ []
    none_regular k = begins_nothing _ (subst (λ z. Begins (regularly A c i p) z) k (acted_regular A c i p p (omega arith)))

    -- In a transitional configuration nothing is delivered in the regular one.
    still_regular : (t : ℕ) → now.membership.transitional ≡ some t → regularly A c i (suc p) ≡ regularly A c i p
    still_regular t e = acted_same A (within_regular c) i p (λ a y k. not_regular A p i c t here e k)

    from_early : in_com A c i p ≡ [] → EarlyStep now x.by.event after → PrimaryPhase A (suc p) i c
    unfolding rule_for on_action on_cpc installs_by is_action
    from_early k (goes_on_lem e f) = early e (still f (within c) ∙ k)
    from_early k (reddens a e m) = absurd (past_exchanging A p i a (an_action a e) c here m)
    from_early k (settles e) = settled e
    from_early k (installs j d e m g w h) =
        let same = still (λ a z. other_record _ a (ap is_action e) z) in
        let rule = ap (λ z. installs_by z now) (sym x.by.ruled) ∙ ap (λ r. installs_by (rule_for now.membership.mode r) now) e ∙ ap (λ o. installs_by (rule_for o (cpc j d)) now) m in
        let y : InstallsAt n q l p i c = record { acts = x; installs = rule ∙ g; here = here } in
        regular p (omega arith) y
        (subst₂ (λ r a. InRegPrim (base A y) (cuts_of A y) r a after) (sym (same (within_regular c) ∙ none_regular k)) (sym (same (within c) ∙ k)) h)
    from_early k (installs_late_lem a e m w h) =
        let y = an_action a e in
        let t = standing_in now Un m (standing n q l i p).memory in
        let rule = ap (λ z. installs_by z now) (sym x.by.ruled) ∙ ap (λ r. installs_by (rule_for now.membership.mode r) now) e ∙ ap (λ o. installs_by (rule_for o (action a)) now) m in
        let z : InstallsAt n q l p i c = record { acts = x; installs = rule; here = here } in
        transitional p (omega arith) z
        (subst₂ (λ r b. InTransPrim (base A z) (cuts_of A z) r b after) (sym (still_regular t.set t.after ∙ none_regular k))
        (sym (acted_more A (within c) i p a y in_com_lem ∙ ap (λ z. z ++ (a ∷ [])) k))
        (h (creator_cut A p i a y c here)))
    from_early k (leaves e) = not_both (sym e ∙ kept)

    server : i < n
    server = (stay_member A i p c here).0

    entered_yellow : now.membership.mode ≡ Trans_prim → YellowRed now
    entered_yellow e = subst (λ o. YellowEntered o now) e (invariant_at n q i A.allowed.sizes server l p).memory.yellow

    module _ (r : ℕ) (b : r < p) (y : InstallsAt n q l r i c) where
      from_regular : InRegPrim (base A y) (cuts_of A y) (regularly A c i p) (in_com A c i p) now → RegularStep now x.by.event after → PrimaryPhase A (suc p) i c
      unfolding is_action remains
      from_regular h (S.RegularStep.delivers a e m v g) =
          let z = an_action a e in
          let u = within_regular_yes c (place_at n q l i p) (regular_place A p i c here h.mode) in
          regular r (omega arith) y
          (greened_kept (base A y) (cuts_of A y) _ _ _ _ (a ∷ []) now after h (ap (λ o. o.mode) m) v g
          (acted_more A (within_regular c) i p a z u) (acted_more A (within c) i p a z in_com_lem))
      from_regular h (S.RegularStep.sends d e m v g) =
          let same = still (λ a z. other_record _ a (ap is_action e) z) in
          regular r (omega arith) y
          (greened_kept (base A y) (cuts_of A y) _ _ _ _ [] now after h (ap (λ o. o.mode) m) v g
          (same (within_regular c) ∙ sym (append-nil _)) (same (within c) ∙ sym (append-nil _)))
      from_regular h (S.RegularStep.leaves d e m v g) =
          let same = still (λ a z. other_record _ a (ap is_action e) z) in
          transitional r (omega arith) y
          (parted (base A y) (cuts_of A y) _ _ _ _ now after (same (within_regular c)) (same (within c)) h m v g)
      from_regular h (S.RegularStep.recovers e) = not_both (sym (ap remains e) ∙ kept)

      from_transitional : InTransPrim (base A y) (cuts_of A y) (regularly A c i p) (in_com A c i p) now → TransitionalStep now x.by.event after → PrimaryPhase A (suc p) i c
      unfolding is_action remains
      from_transitional h (S.TransitionalStep.delivers a e m v) =
          let z = an_action a e in
          let t = standing_in now Trans_prim h.mode (standing n q l i p).memory in
          transitional r (omega arith) y
          (yellowed_kept (base A y) (cuts_of A y) _ _ _ _ (a ∷ []) now after h (ap (λ o. o.mode) m) v (entered_yellow h.mode).within
          (creator_cut A p i a z c here, tt) (still_regular t.set t.after) (acted_more A (within c) i p a z in_com_lem))
      from_transitional h (S.TransitionalStep.numbers d e m v g) =
          let same = still (λ a z. other_record _ a (ap is_action e) z) in
          transitional r (omega arith) y
          (transitional_unchanged (base A y) (cuts_of A y) _ _ _ _ now after (same (within_regular c)) (same (within c)) h (ap (λ o. o.mode) m) v g)
      from_transitional h (S.TransitionalStep.joins d e m v g) = not_both (sym (ap remains e) ∙ kept)
      from_transitional h (S.TransitionalStep.recovers e) = not_both (sym (ap remains e) ∙ kept)

    taken : PrimaryPhase A p i c → PrimaryPhase A (suc p) i c
    taken (early e k) =
        from_early k
        (subst (λ t. EarlyStep now x.by.event t) (sym x.memory_next)
        (early_raised x.white (early_step now (well_formed_at n q i A.allowed.sizes server l p).memory e x.moves)))
    taken (settled e) = settled (settled_step (acts_membership A p i x) kept e).0
    taken (regular r b y h) =
        from_regular r b y h
        (subst (λ t. RegularStep now x.by.event t) (sym x.memory_next) (regular_raised x.white (regular_step now h.mode (colours_at A p i server).memory x.moves)))
    taken (transitional r b y h) =
        from_transitional r b y h
        (subst (λ t. TransitionalStep now x.by.event t) (sym x.memory_next) (transitional_raised x.white (transitional_step now h.mode x.moves (yellow_rooms_whole now x.bytes (with_white x.white x.after) x.written x.stores x.greened (invariant_at n q i A.allowed.sizes server l p).memory x.by x.room h.mode))))

  -- ---- the stay

  -- A refused event is no action.
  refused_other : (p : ℕ) → Refuses n q l p i → (a : Action) → Comes n q l p i (action a) → ⊥
  unfolding is_message
  refused_other p x a y =
      no_delivery_refused A x (ap (heard_at n q l p i) (sym (event_entry (some_same (sym y.here ∙ x.here))).1) ∙ y.heard) refl

  pub primary_phase : (p : ℕ) → InCom n q l p i c → PrimaryPhase A p i c
  primary_phase = in_stay n q l i c (λ p. PrimaryPhase A p i c) taking (λ p a b f g h. go p a f g h (allowed_turn A p i))
    where
      go : (p : ℕ) → InCom n q l p i c → (Falls n q l p i → ⊥) → ((d : Configuration) → Takes n q l p i d → ⊥) → PrimaryPhase A p i c → AllowedTurn n q l p i
          → PrimaryPhase A (suc p) i c
      go p a f g h (rests o m k d) = unchanged p (ap (λ x. x.memory) m) (λ b y. o (comes_of y)) h
      go p a f g h (saves x m k d u) = unchanged p (ap (λ y. y.memory) m) (λ b y. event_not_store (some_same (sym y.here ∙ x))) h
      go p a f g h (crashes x m k d) = absurd (f (by_crash x))
      go p a f g h (refuses x) = unchanged p (ap (λ y. y.memory) x.images_next) (refused_other p x) h
      go p a f g h (recovers x) = absurd (f (by_recovery x.comes))
      go p a f g h (acts x) = taken p a x (remaining g f _ (record { bytes = x.bytes; sent = x.sent; here = x.here; heard = x.heard })) h
