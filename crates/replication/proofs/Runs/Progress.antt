-- How far a server is in its configuration, by its state: which States and CPCs are in, and whether as many retransmissions have come as are planned.
use Prim.Native.Nat.{ℕ, suc, ◌+◌, ◌≤◌, ◌<◌}
use mathlib.Core.Path.{◌≡◌, refl, sym, ap, subst, ◌∙◌}
use mathlib.Core.Bool.{true, false}
use mathlib.Core.Option.{Option, none, some}
use native.Mathlib.Omega.{arith}
use lib.ListN.{length-replicate}
use Rattle.base.proofs.TestLaws.{not_both, eq_holds, eq_fails, le_holds, le_fails, Known, holds, fails, known}
use Rattle.base.proofs.AtLaws.{none_some}
use Rattle.base.specs.Lists.{is_there}
use Rattle.base.specs.Sets.{in_set, inside}
use Rattle.base.proofs.SetLaws.{in_empty, inside_member}
use Rattle.format.specs.Types.{State, Record}
use Rattle.replication.specs.Machine.Types.{Mode, Non_prim, Reg_prim, Trans_prim, Exchange_states, Exchange_actions, Construct, No, Un, Configuration, Membership, no_states}
use Rattle.replication.specs.Machine.Step.{the_set, all_from}
use Rattle.replication.specs.Laws.Modes.{InRegular}
use Rattle.replication.specs.Laws.Transitions as L
use Rattle.replication.specs.Laws.Transitions.{Leads}
use Rattle.replication.specs.Runs.Run.{Run, place_at}
use Rattle.replication.proofs.Runs.Roomy.{Roomy as Allowed}
use Rattle.replication.proofs.WellFormed.Modes.{from_facts}
use Rattle.replication.proofs.Runs.Order.{taker_member}
use Rattle.replication.proofs.Runs.Shifts.{comes_of}
use Rattle.replication.proofs.Runs.Entries.{had}
use Rattle.replication.proofs.Runs.StateOrigins.{no_states_none}
use Rattle.replication.proofs.Runs.Memberships as M
use Rattle.replication.proofs.Runs.Memberships.{set_in, every_state_in, every_cpc_in, planned_in, quorum_in, Completes, MembershipStep}
use Rattle.replication.proofs.Runs.Stays.{membership_at, in_stay, StayStep, rested, refused, took, stay_step, stay_configuration, entering_membership}

-- The exchange has ended: every member's State is in, and as many retransmissions have come as planned.
pub record Ended (n : ℕ) (m : Membership) : Type 0 where
  pub all_in : every_state_in m ≡ true
  pub all_come : planned_in n m ≤ m.come

pub record Collecting (m : Membership) : Type 0 where
  pub not_all_in : every_state_in m ≡ false
  pub no_cpcs : m.cpcs ≡ 0

pub record Receiving (n : ℕ) (m : Membership) : Type 0 where
  pub all_in : every_state_in m ≡ true
  pub not_all_come : m.come < planned_in n m
  pub no_cpcs : m.cpcs ≡ 0

pub record Attempting (n : ℕ) (m : Membership) : Type 0 where
  pub ended : Ended n m
  pub agreed : quorum_in m ≡ true
  pub not_all_cpcs : every_cpc_in m ≡ false

pub record Installable (n : ℕ) (m : Membership) : Type 0 where
  pub ended : Ended n m
  pub agreed : quorum_in m ≡ true
  pub all_cpcs : every_cpc_in m ≡ true

pub record Settled (n : ℕ) (m : Membership) : Type 0 where
  pub ended : Ended n m
  pub refused : quorum_in m ≡ false

abbrev pub ProgressIn : ℕ → Mode → Membership → Type 0
ProgressIn n Non_prim m = InRegular m.configuration m.transitional → Settled n m
ProgressIn n Reg_prim m = Installable n m
ProgressIn n Trans_prim m = Installable n m
ProgressIn n Exchange_states m = Collecting m
ProgressIn n Exchange_actions m = Receiving n m
ProgressIn n Construct m = Attempting n m
ProgressIn n No m = Attempting n m
ProgressIn n Un m = Installable n m

abbrev pub Progress : ℕ → Membership → Type 0
Progress n m = ProgressIn n m.mode m

pub progress_in : (n : ℕ) (m : Membership) (o : Mode) → m.mode ≡ o → Progress n m → ProgressIn n o m
progress_in n m o e h = subst (λ x. ProgressIn n x m) e h

-- ---- sets and lists that are not full

inside_nothing : (s k : ℕ) → in_set k s ≡ true → inside s 0 ≡ false
inside_nothing s k h = go (known (inside s 0))
  where
    go : Known (inside s 0) → inside s 0 ≡ false
    go (holds e) = not_both (sym (in_empty k) ∙ inside_member s 0 k e h)
    go (fails e) = e

no_states_in : (n k s : ℕ) → k < n → in_set k s ≡ true → all_from s 0 (no_states n) ≡ false
unfolding no_states is_there
no_states_in n k s l h = go (known (all_from s 0 (no_states n)))
  where
    go : Known (all_from s 0 (no_states n)) → all_from s 0 (no_states n) ≡ false
    go (holds e) =
        let z : 0 + k ≡ k = omega arith in
        let x = from_facts s 0 (no_states n) e k (omega (arith, length-replicate {A = Option State} n none)) (ap (λ y. in_set y s) z ∙ h) in
        not_both (sym (ap is_there (no_states_none n k)) ∙ x)
    go (fails e) = e

completes_ended : {n : ℕ} {m : Membership} {r : Record} {o : Membership} → Progress n m → Completes n m r o → Ended n o × (o.cpcs ≡ 0)
completes_ended {n} {m} h (M.by_state x e c d) =
    (record { all_in = c; all_come = omega (arith, eq_holds _ _ d) }, (progress_in n m Exchange_states e h).no_cpcs)
completes_ended {n} {m} h (M.by_retransmission k p a e c) =
    let z = progress_in n m Exchange_actions e h in
    (record { all_in = z.all_in; all_come = le_holds _ _ c }, z.no_cpcs)

not_regular : {X : Type 0} {c : Option Configuration} {x : ℕ} → InRegular c (some x) → X
not_regular h = none_some (sym h.none_after)

leads_progress : (n : ℕ) (m : Membership) (x : ℕ) {o u : Mode} → Leads o u → ProgressIn n o m → ProgressIn n u (M.left_to u x m)
leads_progress n m x L.stays h = λ y. not_regular y
leads_progress n m x L.parts h = record { ended = record { all_in = h.ended.all_in; all_come = h.ended.all_come }; agreed = h.agreed; all_cpcs = h.all_cpcs }
leads_progress n m x L.interrupts_states h = λ y. not_regular y
leads_progress n m x L.interrupts_actions h = λ y. not_regular y
leads_progress n m x L.interrupts_construct h =
    record { ended = record { all_in = h.ended.all_in; all_come = h.ended.all_come }; agreed = h.agreed; not_all_cpcs = h.not_all_cpcs }

-- The server k, of n, stays a member.
pub progress_step : {n k : ℕ} {m : Membership} {r : Record} {o : Membership} → k < n → in_set k (set_in o) ≡ true → MembershipStep n m r o
    → Progress n m → Progress n o
unfolding the_set
progress_step l i (M.ignores r e f) h = h
progress_step l i (M.acts a o e t) h = h
progress_step l i (M.asks p) h = h
progress_step {n} {k} {m} l i (M.collects x e c) h =
    subst (λ z. ProgressIn n z (M.state_added x m)) (sym e) (record { not_all_in = c; no_cpcs = (progress_in n m Exchange_states e h).no_cpcs })
progress_step {n} {k} {m} l i (M.resends x e c d) h =
    let z = eq_fails _ _ d in
    record { all_in = c; not_all_come = omega (arith, z); no_cpcs = (progress_in n m Exchange_states e h).no_cpcs }
progress_step {n} {k} {m} l i (M.counts j p a e c) h =
    let z = progress_in n m Exchange_actions e h in
    subst (λ y. ProgressIn n y (M.one_more_come m)) (sym e) (record { all_in = z.all_in; not_all_come = le_fails _ _ c; no_cpcs = z.no_cpcs })
progress_step {n} {k} {m} l i (M.attempts r o c q) h =
    let z = completes_ended h c in
    record {
      ended = record { all_in = z.0.all_in; all_come = z.0.all_come };
      agreed = q;
      not_all_cpcs = ap (λ y. inside (set_in o) y) z.1 ∙ inside_nothing (set_in o) k i;
    }
progress_step {n} {k} {m} l i (M.settles r o c q) h =
    let z = completes_ended h c in
    λ y. record { ended = record { all_in = z.0.all_in; all_come = z.0.all_come }; refused = q }
progress_step {n} {k} {m} l i (M.counts_cpc j d e c) h =
    let z = progress_in n m Construct e h in
    subst (λ y. ProgressIn n y (M.cpc_added j m)) (sym e)
    (record { ended = record { all_in = z.ended.all_in; all_come = z.ended.all_come }; agreed = z.agreed; not_all_cpcs = c })
progress_step {n} {k} {m} l i (M.installs j d e c) h =
    let z = progress_in n m Construct e h in
    record { ended = record { all_in = z.ended.all_in; all_come = z.ended.all_come }; agreed = z.agreed; all_cpcs = c }
progress_step {n} {k} {m} l i (M.counts_late_cpc j d e c) h =
    let z = progress_in n m No e h in
    subst (λ y. ProgressIn n y (M.cpc_added j m)) (sym e)
    (record { ended = record { all_in = z.ended.all_in; all_come = z.ended.all_come }; agreed = z.agreed; not_all_cpcs = c })
progress_step {n} {k} {m} l i (M.counts_last_cpc j d e c) h =
    let z = progress_in n m No e h in
    record { ended = record { all_in = z.ended.all_in; all_come = z.ended.all_come }; agreed = z.agreed; all_cpcs = c }
progress_step {n} {k} {m} l i (M.installs_late a e) h =
    let z = progress_in n m Un e h in
    record { ended = record { all_in = z.ended.all_in; all_come = z.ended.all_come }; agreed = z.agreed; all_cpcs = z.all_cpcs }
progress_step {n} {k} l i (M.joins c o e j) h = record { not_all_in = no_states_in n k c.set l i; no_cpcs = refl }
progress_step {n} {k} {m} l i (M.leaves o u x e y) h = leads_progress n m x y (progress_in n m o e h)
progress_step {n} {k} l i M.recovers h = not_both (sym (in_empty k) ∙ i)

module _ {n q : ℕ} {l : Run} (A : Allowed n q l) where
  -- A server that has c is one of the servers, and a member of c.
  pub stay_member : (i p : ℕ) (c : Configuration) → (place_at n q l i p).regular ≡ some c → (i < n) × (in_set i c.set ≡ true)
  stay_member i p c e = let h = had n q l p i c e in (A.allowed.servers h.took_at i (comes_of h.took), taker_member h.took)

  pub progress : (i : ℕ) (c : Configuration) (p : ℕ) → (place_at n q l i p).regular ≡ some c → Progress n (membership_at n q l p i)
  unfolding the_set
  progress i c =
      in_stay n q l i c (λ p. Progress n (membership_at n q l p i))
      (λ t h.
      subst (Progress n) (sym (entering_membership A t i c h))
      (record { not_all_in = no_states_in n i c.set (A.allowed.servers t i (comes_of h)) (taker_member h); no_cpcs = refl }))
      (λ p a b f g h. go p b h (stay_step A p i f))
    where
      go : (p : ℕ) → (place_at n q l i (suc p)).regular ≡ some c → Progress n (membership_at n q l p i) → StayStep A p i
          → Progress n (membership_at n q l (suc p) i)
      go p b h (rested m) = subst (Progress n) (sym m) h
      go p b h (refused x m) = subst (Progress n) (sym m) h
      go p b h (took x y m) =
          let z = stay_member i (suc p) c b in
          progress_step z.0 (ap (λ w. in_set i (the_set w)) (stay_configuration A (suc p) i c b) ∙ z.1) m h
