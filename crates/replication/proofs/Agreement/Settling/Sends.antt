-- What an undisturbed member puts out: its State on taking the configuration, its part of the plan with the last State, its CPC at the end of the exchange; and
-- that it is sent.
use Prim.Native.Nat.{ℕ, suc, ◌≤◌, ◌<◌}
use mathlib.Core.Path.{◌≡◌, refl, sym, ap, subst, ◌∙◌}
use mathlib.Core.Bool.{Bool, true, false}
use mathlib.Core.List.{List, [], ◌∷◌, map}
use mathlib.Core.Logic.{◌⊎◌, inl, inr}
use mathlib.Core.Option.{some}
use native.Mathlib.Omega.{arith}
use native.Mathlib.Decide.{dec_lt}
use lib.ListN.{length}
use lib.Seq.{take_all}
use Rattle.base.specs.Lists.{at, present}
use Rattle.base.specs.Sets.{in_set, size}
use Rattle.base.proofs.TestLaws.{not_both, eq_holds}
use Rattle.format.specs.Types.{State, Record, state, cpc, regular, kind_number, of_state}
use Rattle.format.specs.Write.{write}
use Rattle.replication.specs.Machine.Types.{Non_prim, Exchange_states, Exchange_actions, Construct, Configuration, Server}
use Rattle.replication.specs.Machine.Exchange.{quorum}
use Rattle.replication.specs.Machine.Plan.{planned, own_part}
use Rattle.replication.specs.Machine.Step.{entering, own_state, the_set, the_id, here_set, here_id, collected, planned_now, with_state, resending}
use Rattle.replication.specs.Laws.Transitions as L
use Rattle.replication.specs.Laws.Transitions.{Ends, Transition}
use Rattle.replication.specs.Runs.Run.{event, Run, put_out, sent_at}
use Rattle.replication.specs.Runs.Happenings.{is_message, Comes, by_crash, BehindCut, gone_down, unsent_request}
use Rattle.replication.proofs.Runs.Roomy.{Roomy as Allowed}
use Rattle.replication.specs.Runs.Settling.{arrived, ReachesAll, Undisturbed, Exchanged, state_of, all_states, planned_here}
use Rattle.replication.proofs.Runs.AllowedTurns.{memory_at}
use Rattle.replication.proofs.Runs.Entries.{had}
use Rattle.replication.proofs.Runs.Memberships.{states_in_of, every_state_in}
use Rattle.replication.proofs.Runs.Numbers.{numbers}
use Rattle.replication.proofs.Runs.Places.{sent_at_lem}
use Rattle.replication.proofs.Runs.Sending.{regular_acts}
use Rattle.replication.proofs.Runs.Shifts.{comes_once}
use Rattle.replication.proofs.Runs.Stays.{membership_at}
use Rattle.replication.proofs.Step.Apart.{mode_number, other_mode}
use Rattle.replication.proofs.Agreement.Terms.{MarksAt}
use Rattle.replication.proofs.Agreement.Exchange.Stages.{stage, first_stage, InCom, between, stage_onward}
use Rattle.replication.proofs.Agreement.Exchange.Endings.{ends_decide, ends_membership}
use Rattle.replication.proofs.Agreement.Exchange.Collected.{states_in_lem}
use Rattle.replication.proofs.Agreement.Exchange.Marked.{marked_in_stay}
use Rattle.replication.proofs.Agreement.Exchange.SameStates as S
use Rattle.replication.proofs.Agreement.Exchange.States.{state_taken}
use Rattle.replication.proofs.Agreement.Greens.NothingGone.{nothing_gone}
use Rattle.replication.proofs.Agreement.Settling.Arrivals.{is_state_lem, arrived_risen, brings_holds}
use Rattle.replication.proofs.Agreement.Settling.Places.{undisturbed_earlier}
use Rattle.replication.proofs.Agreement.Settling.Counts.{there_now}
use Rattle.replication.proofs.Agreement.Settling.States.{states_are}
use Rattle.replication.proofs.Agreement.Settling.Moments.{no_transitional_now, collecting_lacks, past_collecting, marked_exchanged, exchanged_marked}

-- ---- one step

entry_records : {s t : Server} {i x : ℕ} {rs : List Record} {b : Bool} → Transition s (regular i x) t rs b → rs ≡ state (own_state (record { id = i; set = x }) t) ∷ []
unfolding entering own_state
entry_records (L.joins c e) = refl
entry_records (L.joins_marked c e) = refl
entry_records (L.joins_unmarked c e) = refl
entry_records (L.joins_yellow c e) = refl

-- A State with which Exchange_states ends, something being planned: one's part of the plan, in Exchange_actions.
record PartPut (s t : Server) (rs : List Record) : Type 0 where
  part : rs ≡ own_part s.servers s.me s.white s.log (collected t)
  mode : t.membership.mode ≡ Exchange_actions
  log : t.log ≡ s.log

part_records : {s t : Server} {x : State} {rs : List Record} {b : Bool} → Transition s (state x) t rs b → s.membership.mode ≡ Exchange_states
    → 1 ≤ stage t.membership.mode → 0 < planned s.servers (collected t) → PartPut s t rs
unfolding stage mode_number with_state resending collected planned_now
part_records (L.ignores_state x e) h k w = other_mode h e (λ z. omega arith)
part_records (L.collects x e c) h k w = absurd (omega (arith, ap stage e))
part_records (L.collects_last x e c d) h k w = record { part = refl; mode = refl; log = refl }
part_records {s} (L.collects_whole x t rs e c d y) h k w = whole y w
  where
    whole : {u : Server} {us : List Record} → Ends (with_state x s) u us → 0 < planned s.servers (collected u) → PartPut s u us
    whole v z = absurd (omega (arith, eq_holds _ _ d, ap (λ m. planned s.servers (present m.states)) (ends_membership v).1))

-- With a quorum, one's CPC.
cpc_records : {t u : Server} {rs : List Record} → Ends t u rs → quorum (collected t) (here_set t) ≡ true → rs ≡ cpc t.me (here_id t) ∷ []
cpc_records (L.with_quorum h) e = refl
cpc_records (L.without_quorum h) e = not_both (sym h ∙ e)

-- ---- in a run

module _ {n q : ℕ} {l : Run} (A : Allowed n q l) (c : Configuration) (r : ReachesAll n q l c) where
  pub sends_state : (k : ℕ) → in_set k c.set ≡ true → put_out n q l (r.took k) ≡ write (state (state_of n q l c r k)) ∷ []
  unfolding state_of own_state
  sends_state k m =
      let x = regular_acts A (r.took k) k c (r.takes k m) in
      let y = entry_records (subst (λ z. Transition (memory_at n q l (r.took k) k) z x.0.after x.0.by.records x.0.stores) x.1 x.0.moves) in
      x.0.put ∙ ap (map write) (y ∙ ap (λ s. state (own_state c s) ∷ []) (sym x.0.memory_next))

  pub is_sent : (k p x j : ℕ) (e : List ℕ) (y : Record) → Undisturbed n q l c r k x → r.took k < suc p → p < x → at l p ≡ some (event k e j)
      → Comes n q l x k y → is_message y ≡ true → sent_at n q l p ≡ put_out n q l p
  unfolding is_message
  is_sent k p x j e y u h g now later message = go (dec_lt j (length (put_out n q l p)))
    where
      cut : BehindCut n q l p x k → sent_at n q l p ≡ put_out n q l p
      cut (gone_down z d a b) = absurd (u.no_fall z (omega arith) b (by_crash d))
      cut (unsent_request z d s) = not_both (ap is_message (comes_once d later) ∙ message)

      go : Dec (j < length (put_out n q l p)) → sent_at n q l p ≡ put_out n q l p
      go (yes b) = cut (A.allowed.cut_by_crash p x k j later.sent e later.bytes now b g later.here)
      go (no b) = sent_at_lem n q l p k j e now ∙ take_all j (put_out n q l p) (omega arith)

  module _ (agreed : quorum (all_states n q l c r) c.set ≡ true) (k p : ℕ) (u : Undisturbed n q l c r k (suc p)) where
    after : InCom n q l (suc p) k c
    after = there_now A c r k (suc p) u

    -- A place of the stay is undisturbed.
    before : InCom n q l p k c → Undisturbed n q l c r k p
    before h =
        let y = had n q l p k c h in
        undisturbed_earlier A c r (omega (arith, y.earlier, A.allowed.once y.took_at (r.took k) k c y.took (r.takes k u.member))) (omega arith) u

    pub sends_part : arrived n q l c of_state k p < size c.set → arrived n q l c of_state k (suc p) ≡ size c.set → 0 < planned_here n q l c r
        → put_out n q l p ≡ map write (own_part n k 0 (memory_at n q l p k).log (all_states n q l c r))
    unfolding stage planned_here kind_number collected
    sends_part few all some_planned =
        let y = brings_holds n q l c of_state k p (arrived_risen n q l c of_state k p (omega (arith, all))) in
        let s = is_state_lem y.0 y.2 in
        part s.0 (subst (λ z. Comes n q l p k z) s.1 y.1) (ap (λ z. z.regular) y.3)
      where
        part : (x : State) → Comes n q l p k (state x) → InCom n q l p k c
            → put_out n q l p ≡ map write (own_part n k 0 (memory_at n q l p k).log (all_states n q l c r))
        part x come here =
            let t = state_taken A p k x come c here in
            let a = t.0 in
            let o = (numbers n q k l p).memory in
            let e = sym (ap (λ z. states_in_of z.membership) a.memory_next) ∙ states_are A c r k (suc p) after full in
            let f : planned (memory_at n q l p k).servers (collected a.after) ≡ planned n (all_states n q l c r) = λ j. planned (o.servers j) (e j) in
            let z =
            part_records (subst (λ w. Transition (memory_at n q l p k) w a.after a.by.records a.stores) t.1 a.moves) collecting
            (omega (arith, late, ap (λ w. stage w.membership.mode) a.memory_next))
            (omega (arith, some_planned, f))
            in
            let log : (memory_at n q l (suc p) k).log ≡ (memory_at n q l p k).log = ap (λ w. w.log) a.memory_next ∙ z.log in
            let came : collected a.after ≡ states_in_of (membership_at n q l (suc p) k) = sym (ap (λ w. states_in_of w.membership) a.memory_next) in
            let there = nothing_gone A p k c here after collecting (ap (λ w. w.membership.mode) a.memory_next ∙ z.mode) full in
            a.put
            ∙ ap (map write)
            (z.part
            ∙ (λ j. own_part (o.servers j) (o.me j) (memory_at n q l p k).white (sym log j) (came j))
            ∙ there
            ∙ (λ j. own_part n k 0 (log j) (states_are A c r k (suc p) after full j)))
          where
            collecting : (membership_at n q l p k).mode ≡ Exchange_states
            collecting = go (dec_lt 0 (stage (membership_at n q l p k).mode))
              where
                go : Dec (0 < stage (membership_at n q l p k).mode) → (membership_at n q l p k).mode ≡ Exchange_states
                go (yes h) = absurd (omega (arith, past_collecting A c r agreed k p (before here) h))
                go (no h) = first_stage _ (omega arith)

            late : 1 ≤ stage (membership_at n q l (suc p) k).mode
            late = go (dec_lt 0 (stage (membership_at n q l (suc p) k).mode))
              where
                go : Dec (0 < stage (membership_at n q l (suc p) k).mode) → 1 ≤ stage (membership_at n q l (suc p) k).mode
                go (yes h) = h
                go (no h) = absurd (omega (arith, all, collecting_lacks A c r agreed k (suc p) u (first_stage _ (omega arith))))

            full : every_state_in (membership_at n q l (suc p) k) ≡ true
            full = states_in_lem A k c (suc p) after late (λ e. no_transitional_now A c r agreed k (suc p) u)

    pub sends_cpc : Exchanged n q l c r k (suc p) → (Exchanged n q l c r k p → ⊥) → put_out n q l p ≡ write (cpc k c.id) ∷ []
    unfolding stage here_set here_id the_set the_id
    sends_cpc now not_before = go (marked_in_stay A (suc p) k c after (exchanged_marked A c r agreed k (suc p) u now))
      where
        marked : (y : ℕ) → MarksAt n q l y k c → stage (membership_at n q l (suc y) k).mode ≡ 3
        marked y x = decide (ends_decide x.ending.ends)
          where
            decide : ((quorum (collected x.ending.judged) (here_set x.ending.judged) ≡ true) × (x.ending.acts.after.membership.mode ≡ Construct))
                ⊎ ((quorum (collected x.ending.judged) (here_set x.ending.judged) ≡ false) × (x.ending.acts.after.membership.mode ≡ Non_prim))
                → stage (membership_at n q l (suc y) k).mode ≡ 3
            decide (inl e) = ap (λ s. stage s.membership.mode) x.ending.acts.memory_next ∙ ap stage e.1
            decide (inr e) =
                not_both (sym e.0 ∙ ap (λ d. quorum (collected x.ending.judged) (the_set d)) x.ending.configuration ∙ x.has_quorum)

        at_marking : MarksAt n q l p k c → put_out n q l p ≡ write (cpc k c.id) ∷ []
        at_marking x =
            let e = x.ending in
            e.acts.put
            ∙ ap (map write)
            (cpc_records e.ends (ap (λ d. quorum (collected e.judged) (the_set d)) e.configuration ∙ x.has_quorum)
            ∙ (λ j. cpc (e.of_me j) (the_id (e.configuration j)) ∷ []))

        go : (y : ℕ) × (y < suc p) × MarksAt n q l y k c → put_out n q l p ≡ write (cpc k c.id) ∷ []
        go (y, h, x) = at (dec_lt y p)
          where
            at : Dec (y < p) → put_out n q l p ≡ write (cpc k c.id) ∷ []
            at (yes g) =
                let a = S.still_here A x.ending in
                let b = between A k c a after g (omega arith) in
                absurd
                (not_before
                (marked_exchanged A c r agreed k p (before b) (omega (arith, marked y x, stage_onward A k c (suc y) p a b g))))
            at (no g) = let e : y ≡ p = omega arith in at_marking (subst (λ z. MarksAt n q l z k c) e x)
