-- Where an undisturbed member stands, by what has come to it: in Reg_prim exactly when m States, the planned retransmissions and m CPCs have.
use Prim.Native.Nat.{ℕ, zero, suc, ◌≤◌, ◌<◌}
use mathlib.Core.Path.{◌≡◌, refl, sym, ap, subst, ◌∙◌}
use mathlib.Core.Bool.{true}
use mathlib.Core.Option.{none}
use native.Mathlib.Omega.{arith}
use native.Mathlib.Decide.{dec_lt, ℕ_discrete}
use Rattle.base.specs.Sets.{size}
use Rattle.base.proofs.AtLaws.{none_some}
use Rattle.base.proofs.TestLaws.{not_both}
use Rattle.format.specs.Types.{of_state, of_retransmission, of_cpc}
use Rattle.replication.specs.Machine.Types.{Mode, Non_prim, Reg_prim, Trans_prim, Exchange_states, Exchange_actions, Construct, No, Un, Configuration}
use Rattle.replication.specs.Machine.Exchange.{quorum}
use Rattle.replication.specs.Machine.Plan.{planned}
use Rattle.replication.specs.Machine.Step.{the_set}
use Rattle.replication.specs.Laws.Modes.{InRegular, InTransitional}
use Rattle.replication.specs.Runs.Run.{Run}
use Rattle.replication.specs.Runs.Happenings.{Takes}
use Rattle.replication.proofs.Runs.Roomy.{Roomy as Allowed}
use Rattle.replication.specs.Runs.Settling.{arrived, ReachesAll, Undisturbed, Exchanged, Arrived, ArrivesAt, all_states, planned_here}
use Rattle.replication.proofs.Runs.AllowedTurns.{memory_at}
use Rattle.replication.proofs.Runs.Memberships.{every_state_in, planned_in}
use Rattle.replication.proofs.Runs.Modes.{standing, standing_in}
use Rattle.replication.proofs.Runs.Progress.{Ended, Progress, progress_in, progress}
use Rattle.replication.proofs.Runs.Stays.{membership_at, entering_membership, stay_configuration, stay_transitional}
use Rattle.replication.proofs.Step.Apart.{mode_number, other_mode}
use Rattle.replication.proofs.Agreement.Exchange.Stages.{stage, InCom}
use Rattle.replication.proofs.Agreement.Exchange.Tally.{tally, later_count}
use Rattle.replication.proofs.Agreement.Exchange.PastExchange.{ended_count}
use Rattle.replication.proofs.Agreement.Exchange.ResentTaken.{most_planned_lem}
use Rattle.replication.proofs.Agreement.Settling.Places.{undisturbed_earlier, undisturbed_place}
use Rattle.replication.proofs.Agreement.Settling.Counts.{there_now, states_all, states_fewer, cpcs_all, cpcs_fewer, resent_arrived}
use Rattle.replication.proofs.Agreement.Settling.States.{states_are}

module _ {n q : ℕ} {l : Run} (A : Allowed n q l) (c : Configuration) (r : ReachesAll n q l c) (agreed : quorum (all_states n q l c r) c.set ≡ true) where
  module _ (i p : ℕ) (u : Undisturbed n q l c r i p) where
    here : InCom n q l p i c
    here = there_now A c r i p u

    progressed : Progress n (membership_at n q l p i)
    progressed = progress A i c p here

    pub no_transitional_now : (membership_at n q l p i).transitional ≡ none
    no_transitional_now = stay_transitional A p i c here ∙ ap (λ x. x.transitional) (undisturbed_place A c r i p u)

    in_regular_lem : InRegular (membership_at n q l p i).configuration (membership_at n q l p i).transitional
    in_regular_lem = record { configuration = c; there = stay_configuration A p i c here; none_after = no_transitional_now }

    -- A state with a transitional configuration is none of these.
    pub not_after : {X : Type 0} → InTransitional (membership_at n q l p i).configuration (membership_at n q l p i).transitional → X
    not_after h = none_some (sym no_transitional_now ∙ h.after)

    planned_are : every_state_in (membership_at n q l p i) ≡ true → planned_in n (membership_at n q l p i) ≡ planned_here n q l c r
    unfolding planned_here
    planned_are full = omega (arith, ap (planned n) (states_are A c r i p here full))

    -- With the States of all its members the configuration has a quorum.
    pub not_settled : {X : Type 0} → (membership_at n q l p i).mode ≡ Non_prim → X
    unfolding the_set
    not_settled e =
        let h = progress_in n _ Non_prim e progressed in_regular_lem in
        not_both
        (sym h.refused
        ∙ (λ j. quorum (states_are A c r i p here h.ended.all_in j) (the_set (stay_configuration A p i c here j)))
        ∙ agreed)

    -- ---- what has come

    exchanged_if : Ended n (membership_at n q l p i) → 2 ≤ stage (membership_at n q l p i).mode → Exchanged n q l c r i p
    exchanged_if h g = record {
      states = omega (arith, states_all A c r i p u h.all_in);
      retransmissions =
          omega (
            arith,
            resent_arrived A c r i p u,
            most_planned_lem A p i c here h.all_in p,
            ended_count A p i c here g (λ e. no_transitional_now),
            planned_are h.all_in,
          );
    }

    -- ---- by the state's name

    pub collecting_lacks : (membership_at n q l p i).mode ≡ Exchange_states → arrived n q l c of_state i p < size c.set
    collecting_lacks e = states_fewer A c r i p u e (progress_in n _ Exchange_states e progressed).not_all_in

    pub past_collecting : 1 ≤ stage (membership_at n q l p i).mode → arrived n q l c of_state i p ≡ size c.set
    unfolding stage
    past_collecting h = go (membership_at n q l p i).mode refl
      where
        go : (m : Mode) → (membership_at n q l p i).mode ≡ m → arrived n q l c of_state i p ≡ size c.set
        go Non_prim e = not_settled e
        go Reg_prim e = states_all A c r i p u (progress_in n _ Reg_prim e progressed).ended.all_in
        go Trans_prim e = states_all A c r i p u (progress_in n _ Trans_prim e progressed).ended.all_in
        go Exchange_states e = absurd (omega (arith, ap stage e))
        go Exchange_actions e = states_all A c r i p u (progress_in n _ Exchange_actions e progressed).all_in
        go Construct e = states_all A c r i p u (progress_in n _ Construct e progressed).ended.all_in
        go No e = states_all A c r i p u (progress_in n _ No e progressed).ended.all_in
        go Un e = states_all A c r i p u (progress_in n _ Un e progressed).ended.all_in

    pub receiving_lacks : (membership_at n q l p i).mode ≡ Exchange_actions → arrived n q l c of_retransmission i p < planned_here n q l c r
    receiving_lacks e =
        let h = progress_in n _ Exchange_actions e progressed in
        omega (arith, h.not_all_come, later_count e (tally A i c p here), resent_arrived A c r i p u, planned_are h.all_in)

    pub constructing_lacks : (membership_at n q l p i).mode ≡ Construct → arrived n q l c of_cpc i p < size c.set
    unfolding mode_number
    constructing_lacks e = cpcs_fewer A c r i p u (λ z. other_mode e z (λ w. omega arith)) (progress_in n _ Construct e progressed).not_all_cpcs

    pub marked_exchanged : 3 ≤ stage (membership_at n q l p i).mode → Exchanged n q l c r i p
    unfolding stage
    marked_exchanged h = go (membership_at n q l p i).mode refl
      where
        late : 2 ≤ stage (membership_at n q l p i).mode
        late = omega arith

        go : (m : Mode) → (membership_at n q l p i).mode ≡ m → Exchanged n q l c r i p
        go Non_prim e = not_settled e
        go Reg_prim e = exchanged_if (progress_in n _ Reg_prim e progressed).ended late
        go Trans_prim e = exchanged_if (progress_in n _ Trans_prim e progressed).ended late
        go Exchange_states e = absurd (omega (arith, ap stage e))
        go Exchange_actions e = absurd (omega (arith, ap stage e))
        go Construct e = exchanged_if (progress_in n _ Construct e progressed).ended late
        go No e = exchanged_if (progress_in n _ No e progressed).ended late
        go Un e = exchanged_if (progress_in n _ Un e progressed).ended late

    pub exchanged_marked : Exchanged n q l c r i p → 3 ≤ stage (membership_at n q l p i).mode
    unfolding stage
    exchanged_marked x = go (membership_at n q l p i).mode refl
      where
        go : (m : Mode) → (membership_at n q l p i).mode ≡ m → 3 ≤ stage (membership_at n q l p i).mode
        go Non_prim e = not_settled e
        go Reg_prim e = omega (arith, ap stage e)
        go Trans_prim e = omega (arith, ap stage e)
        go Exchange_states e = absurd (omega (arith, collecting_lacks e, x.states))
        go Exchange_actions e = absurd (omega (arith, receiving_lacks e, x.retransmissions))
        go Construct e = omega (arith, ap stage e)
        go No e = omega (arith, ap stage e)
        go Un e = omega (arith, ap stage e)

    -- ---- Reg_prim

    pub reg_prim_arrived : (membership_at n q l p i).mode ≡ Reg_prim → Arrived n q l c r i p
    unfolding stage
    reg_prim_arrived e = record {
      exchanged = marked_exchanged (omega (arith, ap stage e));
      cpcs = omega (arith, cpcs_all A c r i p u (progress_in n _ Reg_prim e progressed).all_cpcs);
    }

    pub arrived_reg_prim : Arrived n q l c r i p → (membership_at n q l p i).mode ≡ Reg_prim
    unfolding stage
    arrived_reg_prim x = go (membership_at n q l p i).mode refl
      where
        early : (m : Mode) → (membership_at n q l p i).mode ≡ m → stage m < 3 → m ≡ Reg_prim
        early m e h = absurd (omega (arith, exchanged_marked x.exchanged, ap stage e))

        go : (m : Mode) → (membership_at n q l p i).mode ≡ m → m ≡ Reg_prim
        go Non_prim e = not_settled e
        go Reg_prim e = refl
        go Trans_prim e = not_after (standing_in (memory_at n q l p i) Trans_prim e (standing n q l i p).memory)
        go Exchange_states e = early Exchange_states e (omega arith)
        go Exchange_actions e = early Exchange_actions e (omega arith)
        go Construct e = absurd (omega (arith, constructing_lacks e, x.cpcs))
        go No e = not_after (standing_in (memory_at n q l p i) No e (standing n q l i p).memory)
        go Un e = not_after (standing_in (memory_at n q l p i) Un e (standing n q l i p).memory)

  -- ---- the delivery with which all has arrived

  arrived? : (k p : ℕ) → Dec (Arrived n q l c r k p)
  arrived? k p =
      go (ℕ_discrete (arrived n q l c of_state k p) (size c.set)) (ℕ_discrete (arrived n q l c of_retransmission k p) (planned_here n q l c r))
      (ℕ_discrete (arrived n q l c of_cpc k p) (size c.set))
    where
      go : Dec (arrived n q l c of_state k p ≡ size c.set) → Dec (arrived n q l c of_retransmission k p ≡ planned_here n q l c r)
          → Dec (arrived n q l c of_cpc k p ≡ size c.set) → Dec (Arrived n q l c r k p)
      go (yes a) (yes b) (yes d) = yes (record { exchanged = record { states = omega arith; retransmissions = b }; cpcs = omega arith })
      go (no a) b d = no (λ x. a (omega (arith, x.exchanged.states)))
      go (yes a) (no b) d = no (λ x. b x.exchanged.retransmissions)
      go (yes a) (yes b) (no d) = no (λ x. d (omega (arith, x.cpcs)))

  pub arrives : (k p : ℕ) → Undisturbed n q l c r k p → Arrived n q l c r k p → (x : ℕ) × (x < p) × ArrivesAt n q l c r k x
  arrives k zero u a = absurd (omega (arith, u.since))
  arrives k (suc p) u a = go (arrived? k p) (dec_lt (r.took k) p) (λ h b. arrives k p (undisturbed_earlier A c r h (omega arith) u) b)
    where
      Found : Type 0
      Found = (x : ℕ) × (x < suc p) × ArrivesAt n q l c r k x

      now : (Arrived n q l c r k p → ⊥) → Found
      now f = (p, omega arith, record { undisturbed = u; now = a; not_before = f })

      -- On taking c a member lacks every State.
      taking : p ≡ r.took k → ⊥
      taking e =
          let t = subst (λ x. Takes n q l x k c) (sym e) (r.takes k u.member) in
          omega (arith, a.exchanged.states, collecting_lacks k (suc p) u (ap (λ m. m.mode) (entering_membership A p k c t)))

      go : Dec (Arrived n q l c r k p) → Dec (r.took k < p) → (r.took k < p → Arrived n q l c r k p → (x : ℕ) × (x < p) × ArrivesAt n q l c r k x) → Found
      go (no f) d g = now f
      go (yes b) (yes h) g = let y = g h b in (y.0, omega (arith, y.1), y.2)
      go (yes b) (no h) g = absurd (taking (omega (arith, u.since)))
