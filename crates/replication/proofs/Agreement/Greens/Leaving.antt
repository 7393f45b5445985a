-- A server that still has the mark of an attempt that was installed, but is no longer in its configuration, fell there, or nobody got further than the Install.
use Prim.Native.Nat.{ℕ, zero, suc, ◌≤◌, ◌<◌}
use mathlib.Core.Path.{◌≡◌, sym, ap, subst, ◌∙◌}
use mathlib.Core.List.{List, Memᴰ}
use mathlib.Core.Option.{some}
use native.Mathlib.Omega.{arith}
use Rattle.base.specs.Lists.{Each}
use Rattle.base.proofs.Chains.{strong}
use Rattle.base.proofs.AtLaws.{some_same}
use Rattle.base.proofs.TestLaws.{not_both, Known, holds, fails, known}
use Rattle.format.specs.Types.{Mark, Action, action, regular, request, recovery, State}
use Rattle.replication.specs.Machine.Types.{Trans_prim, Configuration, Server, cleared_mark, start}
use Rattle.replication.specs.Machine.Exchange.{judged_mark, kept_mark}
use Rattle.replication.specs.Machine.Step.{collected, unmarked, yellow_valid}
use Rattle.replication.specs.Images.{started}
use Rattle.replication.specs.Laws.Primary as Q
use Rattle.replication.specs.Laws.Primary.{TransitionalStep}
use Rattle.replication.specs.Runs.Run.{Run, place_at, beginning}
use Rattle.replication.proofs.Runs.DeliveryFacts.{within}
use Rattle.replication.specs.Runs.Happenings.{Takes, Falls}
use Rattle.replication.proofs.Runs.Roomy.{Roomy as Allowed}
use Rattle.replication.proofs.Step.Folds.{YellowRoom}
use Rattle.replication.proofs.Step.Primary.{transitional_step}
use Rattle.replication.proofs.Runs.LogActions.{carried}
use Rattle.replication.proofs.Runs.AllowedTurns.{memory_at, Acts}
use Rattle.replication.proofs.Runs.DeliveryLists.{within_holds, within_yes}
use Rattle.replication.proofs.Runs.Entries.{had}
use Rattle.replication.proofs.Runs.Order.{taker_member}
use Rattle.replication.proofs.Runs.Places.{world_at_start}
use Rattle.replication.proofs.Runs.Sending.{regular_acts}
use Rattle.replication.proofs.Runs.Shifts.{Shift, to_regular, to_transitional, to_nowhere, stays, shift}
use Rattle.replication.proofs.Agreement.Terms.{Within, MarksAt, InstallsAt, ExchangeFacts}
use Rattle.replication.proofs.Agreement.Votes.Changes as C
use Rattle.replication.proofs.Agreement.Votes.Changes.{MarkJoins}
use Rattle.replication.proofs.Agreement.Votes.Turns.{votes_at, VotesTurn, keeps, joins, ends, installs, votes_turn, Decides, with_quorum_lem, without_quorum_lem, ended}
use Rattle.replication.proofs.Agreement.Votes.Events.{installing_at}
use Rattle.replication.proofs.Agreement.Votes.Phases.{installs_attempt}
use Rattle.replication.proofs.Agreement.Votes.Judging.{Alike, Judged, cleared, kept, judged?}
use Rattle.replication.proofs.Agreement.Votes.Collected.{StateOf, own_state_lem, own_mark_judged}
use Rattle.replication.proofs.Agreement.Votes.Marks.{own_marking, taken_mark, marking_mark}
use Rattle.replication.proofs.Agreement.Votes.Unique.{unique_attempt}
use Rattle.replication.proofs.Agreement.Greens.Terms.{base_of, reach, mark_of_install}
use Rattle.replication.proofs.Agreement.Greens.Parts.{Parts}
use Rattle.replication.proofs.Agreement.Greens.Residues.{within_place}

alike_as : {m o u : Mark} → o ≡ u → Alike m o → Alike m u
alike_as {m} e h = subst (λ z. Alike m z) e h

cleared_unlike : {m o : Mark} → o ≡ cleared_mark → Alike m o → ⊥
unfolding cleared_mark
cleared_unlike e h = omega (arith, ap (λ z. z.status) e, h.status)

-- What judging keeps is like what it judges.
pub kept_alike : {m : Mark} (v : State) (o : Mark) (bits : ℕ)
    → o ≡ record { status = v.mark.status; index = v.mark.index; attempt = v.mark.attempt; set = v.mark.set; bits = bits }
    → Alike m o → Alike m v.mark
kept_alike v o bits e h = record {
  status = ap (λ z. z.status) (sym e) ∙ h.status;
  index = ap (λ z. z.index) (sym e) ∙ h.index;
  attempt = ap (λ z. z.attempt) (sym e) ∙ h.attempt;
  set = ap (λ z. z.set) (sym e) ∙ h.set;
}

module _ {n q : ℕ} {l : Run} (A : Allowed n q l) (X : ExchangeFacts n q l) {p i : ℕ} {c : Configuration} (x : InstallsAt n q l p i c) where
  -- A marking whose mark is like that of the Install is in the same configuration.
  same_marking : {r d : ℕ} {e : Configuration} → MarksAt n q l r d e → Alike (mark_of_install A x) (votes_at n q l (suc r) d).mark → c ≡ e
  same_marking {r} {d} m h =
      let a = installs_attempt A x in
      unique_attempt A X a.marking m (subst (λ z. Alike z (votes_at n q l (suc r) d).mark) a.votes.mark h)

  -- Whoever has a like mark marked in that configuration before.
  pub like_marked : (t d : ℕ) → Alike (mark_of_install A x) (votes_at n q l t d).mark → (r : ℕ) × (r < t) × MarksAt n q l r d c
  like_marked t d h =
      let o = own_marking A X t d h.status in
      let e : c ≡ o.configuration = same_marking o.marking
      (record {
        status = made_status o.same_attempt o.marking;
        index = sym o.same_attempt.index ∙ h.index;
        attempt = sym o.same_attempt.attempt ∙ h.attempt;
        set = sym o.same_attempt.set ∙ h.set;
      }) in
      (o.marked_at, o.earlier, subst (λ z. MarksAt n q l o.marked_at d z) (sym e) o.marking)
    where
      made_status : {r : ℕ} {e : Configuration} → Alike (votes_at n q l (suc r) d).mark (votes_at n q l t d).mark → MarksAt n q l r d e
          → (votes_at n q l (suc r) d).mark.status ≡ 1
      made_status k m = ap (λ z. z.status) (marking_mark m)

  pub data Departed (t d : ℕ) : Type 0 where
    with_none : reach A x d ≡ base_of A x → Departed t d
    by_fall : (y : ℕ) → y < t → Falls n q l y d → Within n q l y d c → Departed t d

  departed_later : {t d : ℕ} → Departed t d → Departed (suc t) d
  departed_later (with_none e) = with_none e
  departed_later (by_fall y h f w) = by_fall y (omega arith) f w

  departed_from : {t r d : ℕ} → t ≤ r → Departed t d → Departed r d
  departed_from h (with_none e) = with_none e
  departed_from h (by_fall y k f w) = by_fall y (omega arith) f w

  module _ (P : Parts A) where
    -- It leaves at t.
    leaves : (t d : ℕ) → Within n q l t d c → Alike (mark_of_install A x) (votes_at n q l (suc t) d).mark → (Within n q l (suc t) d c → ⊥) → Departed (suc t) d
    unfolding unmarked yellow_valid
    leaves t d w h o = go (shift n q l t d)
      where
        u : Server
        u = memory_at n q l t d

        no_trans : (e : Configuration) → Takes n q l t d e → u.membership.mode ≡ Trans_prim → ⊥
        no_trans e k m =
            let y = regular_acts A t d e k in
            step y.0 y.1 (transitional_step u m y.0.moves (subst (λ r. Each (YellowRoom u) (carried r)) (sym y.1) tt))
          where
            step : (y : Acts n q l t d) → y.by.event ≡ regular e.id e.set → TransitionalStep u y.by.event y.after → ⊥
            step y f (Q.delivers a r b g) = clash (sym f ∙ r)
              where
                clash : {a : Action} → regular e.id e.set ≡ action a → ⊥
                clash z = let v : ◌≡◌ {A = ℕ} 0 1 = cc in omega arith
            step y f (Q.numbers a r b g v) = clash (sym f ∙ r)
              where
                clash : {a : List ℕ} → regular e.id e.set ≡ request a → ⊥
                clash z = let v : ◌≡◌ {A = ℕ} 0 1 = cc in omega arith
            step y f (Q.joins a r b g v) = cleared_unlike (ap (λ z. z.votes.mark) y.memory_next ∙ ap (λ z. z.mark) g) h
            step y f (Q.recovers r) = clash (sym f ∙ r)
              where
                clash : regular e.id e.set ≡ recovery → ⊥
                clash z = let v : ◌≡◌ {A = ℕ} 0 1 = cc in omega arith

        go : Shift n q l t d → Departed (suc t) d
        go (to_regular e k m) =
            with_none (P.primaries.leaves_with_none t p i d d c e x k w (no_trans e k) (taker_member (had n q l t d c w.here).took)).1
        go (to_transitional s k m) = absurd (o (within_place A (ap (λ z. z.regular) m ∙ w.here)))
        go (to_nowhere f m) = by_fall t (omega arith) f w
        go (stays f g m) = absurd (o (within_place A (ap (λ z. z.regular) m ∙ w.here)))

    abbrev pub Departs : ℕ → Type 0
    Departs t = (d : ℕ) → Alike (mark_of_install A x) (votes_at n q l t d).mark → (Within n q l t d c → ⊥) → Departed t d

    -- It had left before.
    gone : (t : ℕ) → ((y : ℕ) → y < suc t → Departs y) → (d : ℕ) → Alike (mark_of_install A x) (votes_at n q l (suc t) d).mark → (Within n q l t d c → ⊥)
        → VotesTurn n q l t d → Departed (suc t) d
    unfolding kept_mark
    gone t below d h o (keeps v s) = departed_later (below t (omega arith) d (alike_as v.mark h) o)
    gone t below d h o (joins e k j) = go j.mark
      where
        go : MarkJoins (memory_at n q l t d) (memory_at n q l (suc t) d) → Departed (suc t) d
        go (C.mark_kept f) = departed_later (below t (omega arith) d (alike_as f h) o)
        go (C.mark_cleared m f) = absurd (cleared_unlike f h)
    gone t below d h o (ends e y k) = go (ended y)
      where
        own : (s : State) × Memᴰ s (collected y.judged) × StateOf n q l t d e s
        own = own_state_lem A X y

        out : Within n q l (suc own.2.took_at) d c → ⊥
        out w =
            let a = had n q l (suc own.2.took_at) d c w.here in
            let b = had n q l t d e (ap (λ z. z.regular) y.here) in
            let same : b.took_at ≡ own.2.took_at = A.allowed.once b.took_at own.2.took_at d e b.took own.2.took in
            let f : c ≡ e = some_same (sym w.here ∙ b.kept (suc own.2.took_at) (omega (arith, same)) own.2.earlier) in
            o (within_place A (ap (λ z. z.regular) y.here ∙ ap (λ z. some z) (sym f)))

        judging : (votes_at n q l (suc t) d).mark ≡ judged_mark (collected y.judged) own.0 → Judged (collected y.judged) own.0 → Departed (suc t) d
        judging f (cleared g) = absurd (cleared_unlike (f ∙ g) h)
        judging f (kept a g) =
            departed_from (omega (arith, own.2.earlier))
            (below (suc own.2.took_at) (omega (arith, own.2.earlier)) d (alike_as own.2.mark (kept_alike own.0 _ _ (f ∙ g) h)) out)

        go : Decides n q l t d e (collected y.judged) → Departed (suc t) d
        go (with_quorum_lem a v m b) =
            let f = same_marking (record { ending = y; has_quorum = a }) h in
            absurd (o (within_place A (ap (λ z. z.regular) y.here ∙ ap (λ z. some z) (sym f))))
        go (without_quorum_lem a v m) =
            judging (taken_mark d (collected y.judged) v ∙ own_mark_judged A X y own.0 own.1 own.2) (judged? (collected y.judged) own.0)
    gone t below d h o (installs e y) = departed_later (below t (omega arith) d (alike_as (installing_at y).mark h) o)

    pub departed : (t : ℕ) → Departs t
    unfolding beginning started start
    departed = strong Departs step
      where
        step : (t : ℕ) → ((y : ℕ) → y < t → Departs y) → Departs t
        step zero below d h o = absurd (cleared_unlike (ap (λ w. (w.images d).memory.votes.mark) (world_at_start n q l)) h)
        step (suc t) below d h o = go (known (within c (place_at n q l d t)))
          where
            go : Known (within c (place_at n q l d t)) → Departed (suc t) d
            go (holds a) = leaves t d (within_place A (within_holds c (place_at n q l d t) a)) h o
            go (fails a) = gone t below d h (λ w. not_both (sym a ∙ within_yes c (place_at n q l d t) w.here)) (votes_turn A t d)
