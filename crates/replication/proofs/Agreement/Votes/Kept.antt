-- Once a primary component is installed in c, every server that marked in c keeps that mark, with no installer's bit, until it knows the primary or a later one.
use Prim.Native.Nat.{ℕ, zero, suc, ◌+◌, ◌≤◌, ◌<◌}
use mathlib.Core.Path.{◌≡◌, sym, ap, subst, subst₂, ◌∙◌}
use mathlib.Core.Bool.{true}
use mathlib.Core.List.{List, Memᴰ}
use mathlib.Core.Logic.{◌⊎◌, inl, inr}
use mathlib.Core.Option.{some}
use native.Mathlib.Omega.{arith}
use native.Mathlib.Decide.{dec_lt}
use Rattle.base.proofs.Chains.{strong}
use Rattle.base.proofs.TestLaws.{not_both}
use Rattle.base.specs.Sets.{in_set}
use Rattle.base.proofs.SetLaws.{in_empty}
use Rattle.format.specs.Types.{State}
use Rattle.replication.specs.Machine.Types.{Trans_prim, No, Configuration, Server}
use Rattle.replication.specs.Machine.Exchange.{taken_primary, taken_attempt, judged_mark, kept_mark}
use Rattle.replication.specs.Machine.Step.{collected}
use Rattle.replication.specs.Laws.Modes.{ModeFacts, attempting}
use Rattle.replication.specs.Laws.Order.{in_exchange}
use Rattle.replication.specs.Runs.Run.{Run}
use Rattle.replication.specs.Runs.Happenings.{Takes}
use Rattle.replication.proofs.Runs.Roomy.{Roomy as Allowed}
use Rattle.replication.proofs.Runs.Coupling.{coupled}
use Rattle.replication.proofs.Runs.Modes.{mode_facts_at}
use Rattle.replication.proofs.Runs.Order.{taker_member}
use Rattle.replication.proofs.Runs.AllowedTurns.{memory_at}
use Rattle.replication.proofs.Runs.Sending.{regular_acts}
use Rattle.replication.proofs.Agreement.Terms.{Image, EndsAt, MarksAt, InstallsAt, ExchangeFacts}
use Rattle.replication.proofs.Agreement.Votes.Changes as C
use Rattle.replication.proofs.Agreement.Votes.Changes.{MarkJoins, Joins}
use Rattle.replication.proofs.Agreement.Votes.Turns.{votes_at, last_at, mode_at, VotesTurn, keeps, joins, ends, installs, votes_turn, Decides, with_quorum_lem, without_quorum_lem, ended, ended_last}
use Rattle.replication.proofs.Agreement.Votes.Events.{installing_at, ends_exchange}
use Rattle.replication.proofs.Agreement.Votes.Phases.{ExchangesIn, ends_entered, attempts_in}
use Rattle.replication.proofs.Agreement.Votes.Judging.{Alike, no_quorum}
use Rattle.replication.proofs.Agreement.Votes.Collected.{StateOf, own_state_lem, own_mark_judged}
use Rattle.replication.proofs.Agreement.Votes.Rising.{image_votes}
use Rattle.replication.proofs.Agreement.Votes.Marks.{taken_mark, marking_last, marking_mark, markings_agree}
use Rattle.replication.proofs.Agreement.Votes.Attempts.{OneInstall, marking_taken, one_attempt}
use Rattle.replication.proofs.Agreement.Votes.Present.{Waits, AfterAttempt, later_primary, waits, covered_index, installers_marking, mark_of, index_of, kept_present}

module _ {n q : ℕ} {l : Run} (A : Allowed n q l) (X : ExchangeFacts n q l) {p i : ℕ} {c : Configuration} (inst : InstallsAt n q l p i c) where
  abbrev pub AfterAttemptAt : ℕ → ℕ → Type 0
  AfterAttemptAt y v = AfterAttempt n q l c (mark_of A X inst) (index_of A X inst) (last_at n q l y v) (votes_at n q l y v).mark

  after_same : (y v : ℕ) → last_at n q l (suc y) v ≡ last_at n q l y v → (votes_at n q l (suc y) v).mark ≡ (votes_at n q l y v).mark → AfterAttemptAt y v
      → AfterAttemptAt (suc y) v
  after_same y v e f h = subst₂ (λ a b. AfterAttempt n q l c (mark_of A X inst) (index_of A X inst) a b) (sym e) (sym f) h

  -- The marking itself.
  after_marking : {y v : ℕ} → MarksAt n q l y v c → AfterAttemptAt (suc y) v
  unfolding mark_of index_of
  after_marking m =
      let xs = markings_agree A X m (installers_marking A X inst).marking in
      let e = marking_mark m in
      waits
      (record {
        index = ap (λ z. z.index) (marking_last m) ∙ ap (λ z. (taken_primary z).index) xs;
        alike = record {
          status = ap (λ z. z.status) e;
          index = ap (λ z. z.index) e ∙ ap (λ z. (taken_primary z).index) xs;
          attempt = ap (λ z. z.attempt) e ∙ ap (λ z. taken_attempt z + 1) xs;
          set = ap (λ z. z.set) e;
        };
        without = λ r j z. ap (λ o. in_set j o.bits) e ∙ in_empty j;
      })

  module _ (one : OneInstall n q l (index_of A X inst)) where
    -- Taking a configuration does not clear the mark.
    not_cleared : {y v : ℕ} {d : Configuration} → Takes n q l y v d → Waits n q l c (mark_of A X inst) (index_of A X inst) (last_at n q l y v) (votes_at n q l y v).mark
        → in_set v c.set ≡ true → (mode_at n q l y v ≡ No) ⊎ (mode_at n q l y v ≡ Trans_prim) → ⊥
    unfolding attempting mark_of index_of
    not_cleared {y} {v} {d} t h s (inl e) =
        let a = attempts_in A y v (ap attempting e) in
        let m = (installers_marking A X inst).marking in
        let k = one_attempt A X (index_of A X inst) one m a.1.marking (ap (λ z. z.index) (marking_mark m))
        (subst₂ (λ o u. Alike o u) (sym (marking_mark m)) a.1.votes.mark h.alike) in
        let up = (regular_acts A y v d t).0.up in
        X.none_leaves_late p y i v c d inst s
        (record { up = up; here = ap (λ z. z.regular) (sym (coupled A y v up)) ∙ a.1.configuration ∙ ap (λ z. some z) (sym k) }) t e
    not_cleared {y} {v} {d} t h s (inr e) =
        let f = (mode_facts_at n q l v y).memory in
        let w = memory_at n q l y v in
        let g : ModeFacts Trans_prim w.votes w.membership.configuration w.membership.transitional =
        subst (λ z. ModeFacts z w.votes w.membership.configuration w.membership.transitional) e f in
        omega (arith, g.1.index, h.index, h.alike.index)

    after_joins : {y v : ℕ} {d : Configuration} → Takes n q l y v d → Joins (memory_at n q l y v) d (memory_at n q l (suc y) v) → in_set v c.set ≡ true
        → AfterAttemptAt y v → AfterAttemptAt (suc y) v
    after_joins t j s (later_primary h) = later_primary (omega (arith, ap (λ z. z.index) j.last))
    after_joins {y} {v} t j s (waits h) = go j.mark
      where
        go : MarkJoins (memory_at n q l y v) (memory_at n q l (suc y) v) → AfterAttemptAt (suc y) v
        go (C.mark_kept e) = after_same y v j.last e (waits h)
        go (C.mark_cleared m e) = absurd (not_cleared t h s m)

    after_ends : {y v r : ℕ} {d : Configuration} (x : EndsAt n q l y v d) → in_exchange (mode_at n q l y v) ≡ true → MarksAt n q l r v c → r < y
        → ((z w r : ℕ) → z ≤ y → MarksAt n q l r w c → r < z → AfterAttemptAt z w) → AfterAttemptAt (suc y) v
    after_ends {y} {v} {r} {d} x h m o before = go (dec_lt (index_of A X inst) (taken_primary xs).index)
      where
        xs : List State
        xs = collected x.judged

        entered : ExchangesIn n q l y v d
        entered = ends_entered A x h

        own : (s : State) × Memᴰ s xs × StateOf n q l y v d s
        own = own_state_lem A X x

        order : (marking_taken m).took_at < entered.took_at
        order = first (dec_lt (marking_taken m).took_at entered.took_at)
          where
            first : Dec ((marking_taken m).took_at < entered.took_at) → (marking_taken m).took_at < entered.took_at
            first (yes a) = a
            first (no a) = not_both (sym (ends_exchange m.ending) ∙ entered.throughout (suc r) (omega (arith, (marking_taken m).earlier)) (omega arith))

        judged : (taken_primary xs).index ≤ index_of A X inst
            → (judged_mark xs own.0 ≡ kept_mark xs own.0) × Waits n q l c (mark_of A X inst) (index_of A X inst) own.0.last (kept_mark xs own.0)
        judged k =
            kept_present A X inst x (marking_taken m).took entered.took order k (λ z w u a b e. before z w u a b e) v own.0 own.1 own.2
            (taker_member (marking_taken m).took)

        waiting : (taken_primary xs).index ≤ index_of A X inst → Decides n q l y v d xs → AfterAttemptAt (suc y) v
        waiting k (with_quorum_lem g w e f) =
            let u = judged k in
            absurd (no_quorum xs d.set own.0 own.1 (ap (λ z. z.status) u.0 ∙ u.1.alike.status) g)
        waiting k (without_quorum_lem g w e) =
            let u = judged k in
            let f = taken_mark v xs w ∙ own_mark_judged A X x own.0 own.1 own.2 ∙ u.0 in
            subst (λ o. AfterAttempt n q l c (mark_of A X inst) (index_of A X inst) (last_at n q l (suc y) v) o) (sym f)
            (waits
            (record {
              index = omega (arith, ap (λ z. z.index) (ended_last x), covered_index own.1, u.1.index);
              alike = u.1.alike;
              without = u.1.without;
            }))

        go : Dec (index_of A X inst < (taken_primary xs).index) → AfterAttemptAt (suc y) v
        go (yes a) = later_primary (omega (arith, ap (λ z. z.index) (ended_last x)))
        go (no a) = waiting (omega arith) (ended x)

    after_next : (y : ℕ) → ((z : ℕ) → z < suc y → (v r : ℕ) → MarksAt n q l r v c → r < z → AfterAttemptAt z v) → (v r : ℕ) → MarksAt n q l r v c → r < y
        → VotesTurn n q l y v → AfterAttemptAt (suc y) v
    after_next y before v r m o (keeps w s) = after_same y v w.last w.mark (before y (omega arith) v r m o)
    after_next y before v r m o (joins d t j) = after_joins t j (taker_member (marking_taken m).took) (before y (omega arith) v r m o)
    after_next y before v r m o (ends d x h) = after_ends x h m o (λ z w u a. before z (omega arith) w u)
    after_next y before v r m o (installs d x) = go (before y (omega arith) v r m o)
      where
        go : AfterAttemptAt y v → AfterAttemptAt (suc y) v
        go (later_primary h) = later_primary (omega (arith, (installing_at x).index))
        go (waits h) = later_primary (omega (arith, (installing_at x).index, h.index))

    pub after_attempt : (y v r : ℕ) → MarksAt n q l r v c → r < y → AfterAttemptAt y v
    after_attempt = strong (λ y. (v r : ℕ) → MarksAt n q l r v c → r < y → AfterAttemptAt y v) step
      where
        step : (y : ℕ) → ((z : ℕ) → z < y → (v r : ℕ) → MarksAt n q l r v c → r < z → AfterAttemptAt z v) → (v r : ℕ) → MarksAt n q l r v c → r < y → AfterAttemptAt y v
        step zero before v r m h = absurd (omega arith)
        step (suc y) before v r m h = go (dec_lt r y)
          where
            go : Dec (r < y) → AfterAttemptAt (suc y) v
            go (yes a) = after_next y before v r m a (votes_turn A y v)
            go (no a) = let e : r ≡ y = omega arith in after_marking (subst (λ z. MarksAt n q l z v c) e m)

    -- .. in every image.
    pub image_after_attempt : {y v r : ℕ} {s : Server} → Image n q l y v s → MarksAt n q l r v c → r < y
        → AfterAttempt n q l c (mark_of A X inst) (index_of A X inst) s.votes.last s.votes.mark
    image_after_attempt {y} {v} {r} x m h =
        let e = image_votes x in
        subst₂ (λ a b. AfterAttempt n q l c (mark_of A X inst) (index_of A X inst) a b) (sym e.last) (sym e.mark) (after_attempt y v r m h)
