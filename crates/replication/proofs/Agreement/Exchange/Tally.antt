-- How many retransmissions have come to a server in its stay in a configuration: in Exchange_actions it has counted all of them, and an exchange that
-- has ended had as many as planned.
use Prim.Native.Nat.{ℕ, suc, ◌+◌, ◌≤◌, ◌<◌}
use mathlib.Core.Path.{◌≡◌, refl, sym, ap, subst, ◌∙◌}
use mathlib.Core.Bool.{true, false}
use mathlib.Core.List.{List}
use mathlib.Core.Option.{Option, some}
use native.Mathlib.Omega.{arith}
use lib.ListN.{length}
use Rattle.base.proofs.TestLaws.{not_both, eq_holds, le_holds, Known, holds, fails, known}
use Rattle.base.specs.Lists.{present}
use Rattle.base.proofs.Passing.{passing, passing_more, passing_same, passing_none, passing_longer}
use Rattle.format.specs.Types.{State, Record, says}
use Rattle.replication.specs.Machine.Types.{Mode, Non_prim, Reg_prim, Exchange_states, Exchange_actions, Construct, No, Un, Configuration, Membership}
use Rattle.replication.specs.Machine.Plan.{planned}
use Rattle.replication.specs.Laws.Transitions as L
use Rattle.replication.specs.Laws.Transitions.{Leads}
use Rattle.replication.specs.Runs.Run.{Run}
use Rattle.replication.specs.Runs.Happenings.{Comes, Falls, Takes}
use Rattle.replication.proofs.Runs.Roomy.{Roomy as Allowed}
use Rattle.replication.proofs.Runs.Shifts.{says_same, comes_once}
use Rattle.replication.proofs.Runs.Entries.{had}
use Rattle.replication.proofs.Runs.AllowedTurns.{Acts}
use Rattle.replication.proofs.Runs.Memberships as M
use Rattle.replication.proofs.Runs.Memberships.{planned_in, Completes, MembershipStep}
use Rattle.replication.proofs.Runs.Stays.{membership_at, in_stay, entering_membership, acts_membership, StayStep, rested, refused, took, stay_step}
use Rattle.replication.proofs.Step.Apart.{mode_number, other_mode}
use Rattle.replication.proofs.Agreement.Exchange.Stages.{remains, stage, InCom, remaining}
use Rattle.replication.proofs.Agreement.Exchange.Retransmissions.{says_resent, says_resent_lem, resent_at, resent_yes, resent_holds, resent_late, resent_taken}

-- ---- one step

-- With t retransmissions come, of n servers.
pub data Tally (n : ℕ) (m : Mode) (u : Option ℕ) (xs : List (Option State)) (come t : ℕ) : Type 0 where
  none_yet : m ≡ Exchange_states → t ≡ 0 → Tally n m u xs come t
  counted : m ≡ Exchange_actions → come ≡ t → Tally n m u xs come t
  enough : 2 ≤ stage m → planned n (present xs) ≤ t → Tally n m u xs come t
  interrupted : (x : ℕ) → m ≡ Non_prim → u ≡ some x → Tally n m u xs come t

abbrev pub TallyOf : ℕ → Membership → ℕ → Type 0
TallyOf n m t = Tally n m.mode m.transitional m.states m.come t

-- t becomes t' by the record r.
pub record Counts (r : Record) (t t' : ℕ) : Type 0 where
  pub resent : says_resent (says r) ≡ true → t' ≡ t + 1
  pub other : says_resent (says r) ≡ false → t' ≡ t

counts_most : {r : Record} {t t' : ℕ} → Counts r t t' → t ≤ t'
counts_most {r} {t} {t'} c = go (known (says_resent (says r)))
  where
    go : Known (says_resent (says r)) → t ≤ t'
    go (holds e) = omega (arith, c.resent e)
    go (fails e) = omega (arith, c.other e)

module _ {n : ℕ} {u : Option ℕ} {xs : List (Option State)} {come : ℕ} where
  -- Nothing came.
  pub as_before : {m : Mode} {t t' : ℕ} → t' ≡ t → Tally n m u xs come t → Tally n m u xs come t'
  as_before e (none_yet h k) = none_yet h (e ∙ k)
  as_before e (counted h k) = counted h (k ∙ sym e)
  as_before e (enough h k) = enough h (omega arith)
  as_before e (interrupted x h k) = interrupted x h k

  -- Past the exchange more may come.
  pub past : {m o : Mode} {u' : Option ℕ} {come' t t' : ℕ} (x : Mode) → m ≡ x → 3 ≤ stage x → 2 ≤ stage o → t ≤ t'
      → Tally n m u xs come t → Tally n o u' xs come' t'
  unfolding stage
  past x e h k g (none_yet f s) = absurd (omega (arith, ap stage e, ap stage f))
  past x e h k g (counted f s) = absurd (omega (arith, ap stage e, ap stage f))
  past x e h k g (enough f s) = enough k (omega arith)
  past x e h k g (interrupted y f s) = absurd (omega (arith, ap stage e, ap stage f))

  pub settled : {m : Mode} {t t' : ℕ} → m ≡ Non_prim → t ≤ t' → Tally n m u xs come t → Tally n m u xs come t'
  unfolding mode_number
  settled e g (none_yet f s) = other_mode e f (λ z. omega arith)
  settled e g (counted f s) = other_mode e f (λ z. omega arith)
  settled e g (enough f s) = enough f (omega arith)
  settled e g (interrupted y f s) = interrupted y f s

  pub first_count : {m : Mode} {t : ℕ} → m ≡ Exchange_states → Tally n m u xs come t → t ≡ 0
  unfolding stage mode_number
  first_count e (none_yet f s) = s
  first_count e (counted f s) = other_mode e f (λ z. omega arith)
  first_count e (enough f s) = absurd (omega (arith, ap stage e))
  first_count e (interrupted x f s) = other_mode e f (λ z. omega arith)

  pub later_count : {m : Mode} {t : ℕ} → m ≡ Exchange_actions → Tally n m u xs come t → come ≡ t
  unfolding stage mode_number
  later_count e (none_yet f s) = other_mode e f (λ z. omega arith)
  later_count e (counted f s) = s
  later_count e (enough f s) = absurd (omega (arith, ap stage e))
  later_count e (interrupted x f s) = other_mode e f (λ z. omega arith)

  leads_tally : {m o w : Mode} {t t' : ℕ} (x : ℕ) → m ≡ o → Leads o w → t ≤ t' → Tally n m u xs come t → Tally n w (some x) xs come t'
  unfolding stage
  leads_tally x e L.stays h s = interrupted x refl refl
  leads_tally x e L.parts h s = past Reg_prim e (omega arith) (omega arith) h s
  leads_tally x e L.interrupts_states h s = interrupted x refl refl
  leads_tally x e L.interrupts_actions h s = interrupted x refl refl
  leads_tally x e L.interrupts_construct h s = past Construct e (omega arith) (omega arith) h s

module _ {n : ℕ} {m : Membership} where
  completed : {r : Record} {o : Membership} {t t' : ℕ} → Completes n m r o → Counts r t t' → TallyOf n m t → planned_in n o ≤ t'
  unfolding says_resent
  completed (M.by_state x e c d) h s = omega (arith, eq_holds _ _ d)
  completed (M.by_retransmission k p a e c) h s = omega (arith, le_holds _ _ c, h.resent refl, later_count e s)

  pub tally_step : {r : Record} {o : Membership} {t t' : ℕ} → MembershipStep n m r o → remains r ≡ true → Counts r t t' → TallyOf n m t → TallyOf n o t'
  unfolding stage remains says_resent
  tally_step (M.ignores r e f) h c s = settled f (counts_most c) s
  tally_step (M.acts a o e f) h c s = as_before (c.other refl) s
  tally_step (M.asks p) h c s = as_before (c.other refl) s
  tally_step (M.collects x e d) h c s = none_yet e (c.other refl ∙ first_count e s)
  tally_step (M.resends x e d f) h c s = counted refl (sym (c.other refl ∙ first_count e s))
  tally_step (M.counts k p a e d) h c s = counted e (omega (arith, c.resent refl, later_count e s))
  tally_step (M.attempts r o d q) h c s = enough (omega arith) (completed d c s)
  tally_step (M.settles r o d q) h c s = enough (omega arith) (completed d c s)
  tally_step (M.counts_cpc k i e d) h c s = as_before (c.other refl) s
  tally_step (M.installs k i e d) h c s = past Construct e (omega arith) (omega arith) (counts_most c) s
  tally_step (M.counts_late_cpc k i e d) h c s = as_before (c.other refl) s
  tally_step (M.counts_last_cpc k i e d) h c s = past No e (omega arith) (omega arith) (counts_most c) s
  tally_step (M.installs_late a e) h c s = past Un e (omega arith) (omega arith) (counts_most c) s
  tally_step (M.joins d o e j) h c s = not_both h
  tally_step (M.leaves o u x e y) h c s = leads_tally x e y (counts_most c) s
  tally_step M.recovers h c s = not_both h

-- ---- a stay

module _ {n q : ℕ} {l : Run} (A : Allowed n q l) (i : ℕ) (c : Configuration) where
  -- How many retransmissions have come to the server i in com(c) before p.
  abbrev pub resent_count : ℕ → ℕ
  resent_count p = length (passing (resent_at n q l c i) p)

  -- Before it takes c none comes in c.
  before_none : (t : ℕ) → Takes n q l t i c → resent_count (suc t) ≡ 0
  before_none t h = ap length (passing_none (resent_at n q l c i) (suc t) (λ x k e. early x k (resent_holds n q l c i x e).4))
    where
      early : (x : ℕ) → x < suc t → InCom n q l x i c → ⊥
      early x k a = let y = had n q l x i c a in omega (arith, y.earlier, A.allowed.once y.took_at t i c y.took h)

  counts_at : (p : ℕ) (r : Record) → InCom n q l p i c → Comes n q l p i r → Counts r (resent_count p) (resent_count (suc p))
  unfolding says_resent
  counts_at p r a y = record { resent = yes_more; other = no_more }
    where
      yes_more : says_resent (says r) ≡ true → resent_count (suc p) ≡ resent_count p + 1
      yes_more h =
          let x = says_resent_lem (says r) h in
          let e = resent_yes n q l c i p x.0 x.1 x.2 (subst (λ z. Comes n q l p i z) (says_same x.3) y) a in
          omega (arith, ap length (passing_more (resent_at n q l c i) p e))

      no_more : says_resent (says r) ≡ false → resent_count (suc p) ≡ resent_count p
      no_more h = go (known (resent_at n q l c i p))
        where
          go : Known (resent_at n q l c i p) → resent_count (suc p) ≡ resent_count p
          go (holds e) = not_both (sym h ∙ ap (λ z. says_resent (says z)) (comes_once y (resent_holds n q l c i p e).3))
          go (fails e) = ap length (passing_same (resent_at n q l c i) p e)

  module _ (p : ℕ) (here : InCom n q l p i c) (g : (d : Configuration) → Takes n q l p i d → ⊥) (f : Falls n q l p i → ⊥) where
    by_event : (x : Acts n q l p i) → TallyOf n (membership_at n q l p i) (resent_count p) → TallyOf n (membership_at n q l (suc p) i) (resent_count (suc p))
    by_event x s =
        let y : Comes n q l p i x.by.event = record { bytes = x.bytes; sent = x.sent; here = x.here; heard = x.heard } in
        tally_step (acts_membership A p i x) (remaining g f x.by.event y) (counts_at p x.by.event here y) s

    -- A place that changes nothing: a retransmission that comes there comes past the exchange.
    unchanged : membership_at n q l (suc p) i ≡ membership_at n q l p i → TallyOf n (membership_at n q l p i) (resent_count p)
        → TallyOf n (membership_at n q l (suc p) i) (resent_count (suc p))
    unchanged m s = go (known (resent_at n q l c i p)) s
      where
        more : resent_count p ≤ resent_count (suc p)
        more = passing_longer (resent_at n q l c i) p

        back : TallyOf n (membership_at n q l p i) (resent_count (suc p)) → TallyOf n (membership_at n q l (suc p) i) (resent_count (suc p))
        back y = subst (λ z. TallyOf n z (resent_count (suc p))) (sym m) y

        go : Known (resent_at n q l c i p) → TallyOf n (membership_at n q l p i) (resent_count p) → TallyOf n (membership_at n q l (suc p) i) (resent_count (suc p))
        go (holds e) (none_yet h k) = let x = resent_holds n q l c i p e in absurd (resent_late A p i x.0 x.1 x.2 x.3 c here h)
        go (holds e) (counted h k) = let x = resent_holds n q l c i p e in by_event (resent_taken A p i x.0 x.1 x.2 x.3 c here h).0 (counted h k)
        go (holds e) (enough h k) = back (enough h (omega (arith, more)))
        go (holds e) (interrupted x h k) = back (interrupted x h k)
        go (fails e) s = back (as_before (ap length (passing_same (resent_at n q l c i) p e)) s)

    next : StayStep A p i → TallyOf n (membership_at n q l p i) (resent_count p) → TallyOf n (membership_at n q l (suc p) i) (resent_count (suc p))
    next (rested m) s = unchanged m s
    next (refused y m) s = unchanged m s
    next (took x z m) s = by_event x s

  pub tally : (p : ℕ) → InCom n q l p i c → TallyOf n (membership_at n q l p i) (resent_count p)
  tally =
      in_stay n q l i c (λ p. TallyOf n (membership_at n q l p i) (resent_count p))
      (λ t h. none_yet (ap (λ m. m.mode) (entering_membership A t i c h)) (before_none t h))
      (λ p a b f g h. next p a g f (stay_step A p i f) h)
