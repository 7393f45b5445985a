-- Marks and attempts: what a marking leaves, what is installed, and that every mark is of the server's own marking.
use Prim.Native.Nat.{ℕ, zero, suc, ◌+◌, ◌≤◌, ◌<◌}
use mathlib.Core.Path.{◌≡◌, refl, sym, ap, ◌∙◌}
use mathlib.Core.List.{List}
use native.Mathlib.Omega.{arith}
use Rattle.base.proofs.Chains.{strong}
use Rattle.base.proofs.TestLaws.{not_both}
use Rattle.format.specs.Types.{Primary, component, Mark, State}
use Rattle.replication.specs.Machine.Types.{Votes, Configuration, start, cleared_mark}
use Rattle.replication.specs.Machine.Exchange.{taken_primary, taken_attempt, taken_votes, attempted, own_mark, judged_mark, kept_mark}
use Rattle.replication.specs.Machine.Step.{collected}
use Rattle.replication.specs.Images.{started}
use Rattle.replication.specs.Runs.Run.{Run, beginning}
use Rattle.replication.proofs.Runs.Roomy.{Roomy as Allowed}
use Rattle.replication.proofs.Runs.Places.{world_at_start}
use Rattle.replication.proofs.Runs.AllowedTurns.{memory_at}
use Rattle.replication.proofs.Agreement.Terms.{EndsAt, MarksAt, InstallsAt, installed, ExchangeFacts}
use Rattle.replication.proofs.Agreement.Votes.Changes as C
use Rattle.replication.proofs.Agreement.Votes.Changes.{MarkJoins}
use Rattle.replication.proofs.Agreement.Votes.Turns.{votes_at, last_at, VotesTurn, keeps, joins, ends, installs, votes_turn, Decides, with_quorum_lem, without_quorum_lem, ended}
use Rattle.replication.proofs.Agreement.Votes.Events.{installing_at}
use Rattle.replication.proofs.Agreement.Votes.Phases.{installs_attempt}
use Rattle.replication.proofs.Agreement.Votes.Judging.{Alike, Judged, cleared, kept, judged?}
use Rattle.replication.proofs.Agreement.Votes.Collected.{StateOf, own_state_lem, own_mark_judged}

-- The mark that the States make with a quorum, and the primary component that it attempts.
abbrev pub attempt_mark : ℕ → List State → Mark
attempt_mark here xs = record { status = 1; index = (taken_primary xs).index; attempt = taken_attempt xs + 1; set = here; bits = 0 }

abbrev pub attempt_primary : ℕ → List State → Primary
attempt_primary here xs = component ((taken_primary xs).index + 1) (taken_attempt xs + 1) here

alike_trans : {m o u : Mark} → Alike m o → Alike o u → Alike m u
alike_trans h k = record { status = k.status; index = k.index ∙ h.index; attempt = k.attempt ∙ h.attempt; set = k.set ∙ h.set }

alike_same : {m o : Mark} → o ≡ m → o.status ≡ 1 → Alike m o
alike_same e h = record { status = h; index = ap (λ x. x.index) e; attempt = ap (λ x. x.attempt) e; set = ap (λ x. x.set) e }

pub taken_mark : {v : Votes} (i : ℕ) (xs : List State) → v ≡ taken_votes i xs → v.mark ≡ own_mark i xs xs
unfolding taken_votes
taken_mark i xs e = ap (λ v. v.mark) e

-- ---- what a marking leaves

module _ {n q : ℕ} {l : Run} where
  pub marking_votes : {p i : ℕ} {c : Configuration} (m : MarksAt n q l p i c)
      → votes_at n q l (suc p) i ≡ attempted c.set (taken_votes i (collected m.ending.judged))
  marking_votes {p} {i} {c} m = go (ended m.ending)
    where
      go : Decides n q l p i c (collected m.ending.judged) → votes_at n q l (suc p) i ≡ attempted c.set (taken_votes i (collected m.ending.judged))
      go (with_quorum_lem h v k d) = v
      go (without_quorum_lem h v k) = not_both (sym h ∙ m.has_quorum)

  pub marking_last : {p i : ℕ} {c : Configuration} (m : MarksAt n q l p i c) → last_at n q l (suc p) i ≡ taken_primary (collected m.ending.judged)
  unfolding attempted taken_votes
  marking_last m = ap (λ v. v.last) (marking_votes m)

  pub marking_attempt : {p i : ℕ} {c : Configuration} (m : MarksAt n q l p i c) → (votes_at n q l (suc p) i).attempt ≡ taken_attempt (collected m.ending.judged) + 1
  unfolding attempted taken_votes
  marking_attempt m = ap (λ v. v.attempt) (marking_votes m)

  pub marking_mark : {p i : ℕ} {c : Configuration} (m : MarksAt n q l p i c) → (votes_at n q l (suc p) i).mark ≡ attempt_mark c.set (collected m.ending.judged)
  unfolding attempted taken_votes
  marking_mark m = ap (λ v. v.mark) (marking_votes m)

module _ {n q : ℕ} {l : Run} (A : Allowed n q l) (X : ExchangeFacts n q l) where
  -- All who mark in c judge the same States.
  pub markings_agree : {p r i j : ℕ} {c : Configuration} (m : MarksAt n q l p i c) (o : MarksAt n q l r j c) → collected m.ending.judged ≡ collected o.ending.judged
  markings_agree {p} {r} {i} {j} {c} m o = X.same_states p r i j c m.ending o.ending

  -- What is installed in c is what the markings in c attempt.
  pub installed_attempted : {p r i j : ℕ} {c : Configuration} (x : InstallsAt n q l p i c) (m : MarksAt n q l r j c)
      → installed n q l x ≡ attempt_primary c.set (collected m.ending.judged)
  installed_attempted {p} {r} {i} {j} {c} x m =
      let a = installs_attempt A x in
      let g = installing_at x in
      let e = sym x.acts.memory_next in
      let xs = markings_agree a.marking m in
      let index = ap (λ z. z.index + 1) (a.votes.last ∙ marking_last a.marking) ∙ ap (λ z. (taken_primary z).index + 1) xs in
      let attempt = a.votes.attempt ∙ marking_attempt a.marking ∙ ap (λ z. taken_attempt z + 1) xs in
      let set = ap (λ z. z.set) (a.votes.mark ∙ marking_mark a.marking) in
      ap (λ s. s.votes.last) e ∙ g.last ∙ (λ z. component (index z) (attempt z) (set z))

  -- ---- where a mark is from

  -- The mark o of the server i was made by its marking in c, at `marked_at`.
  pub record OwnMarking (p i : ℕ) (o : Mark) : Type 0 where
    pub marked_at : ℕ
    pub configuration : Configuration
    pub earlier : marked_at < p
    pub marking : MarksAt n q l marked_at i configuration
    pub same_attempt : Alike (votes_at n q l (suc marked_at) i).mark o

  own_later : {p r i : ℕ} {o u : Mark} → p ≤ r → Alike o u → OwnMarking p i o → OwnMarking r i u
  own_later h k x = record {
    marked_at = x.marked_at;
    configuration = x.configuration;
    earlier = omega (arith, x.earlier);
    marking = x.marking;
    same_attempt = alike_trans x.same_attempt k;
  }

  own_kept : {p i : ℕ} {o u : Mark} → u ≡ o → u.status ≡ 1 → (o.status ≡ 1 → OwnMarking p i o) → OwnMarking (suc p) i u
  own_kept e h f = own_later (omega arith) (alike_same e h) (f (ap (λ z. z.status) (sym e) ∙ h))

  -- A mark kept at the end of an exchange is the own State's, but for the bits.
  own_judged : {p i : ℕ} (c : Configuration) (x : EndsAt n q l p i c) (s : State) (y : StateOf n q l p i c s) {u : Mark} → u ≡ kept_mark (collected x.judged) s
      → s.mark.status ≡ 1
      → ((votes_at n q l (suc y.took_at) i).mark.status ≡ 1 → OwnMarking (suc y.took_at) i (votes_at n q l (suc y.took_at) i).mark)
      → OwnMarking (suc p) i u
  unfolding kept_mark
  own_judged c x s y e h f =
      let g = y.mark in
      own_later (omega (arith, y.earlier))
      (record {
        status = ap (λ z. z.status) e ∙ h;
        index = ap (λ z. z.index) e ∙ ap (λ z. z.index) g;
        attempt = ap (λ z. z.attempt) e ∙ ap (λ z. z.attempt) g;
        set = ap (λ z. z.set) e ∙ ap (λ z. z.set) g;
      })
      (f (ap (λ z. z.status) (sym g) ∙ h))

  own_next_lem : (p : ℕ) → ((x : ℕ) → x < suc p → (i : ℕ) → (votes_at n q l x i).mark.status ≡ 1 → OwnMarking x i (votes_at n q l x i).mark) → (i : ℕ)
      → VotesTurn n q l p i → (votes_at n q l (suc p) i).mark.status ≡ 1 → OwnMarking (suc p) i (votes_at n q l (suc p) i).mark
  unfolding cleared_mark
  own_next_lem p below i (keeps v s) h = own_kept v.mark h (below p (omega arith) i)
  own_next_lem p below i (joins c t j) h = go j.mark
    where
      go : MarkJoins (memory_at n q l p i) (memory_at n q l (suc p) i) → OwnMarking (suc p) i (votes_at n q l (suc p) i).mark
      go (C.mark_kept e) = own_kept e h (below p (omega arith) i)
      go (C.mark_cleared m e) = absurd (omega (arith, ap (λ o. o.status) e))
  own_next_lem p below i (ends c x k) h = go (ended x)
    where
      judging : (votes_at n q l (suc p) i).mark ≡ judged_mark (collected x.judged) (own_state_lem A X x).0 → Judged (collected x.judged) (own_state_lem A X x).0
          → OwnMarking (suc p) i (votes_at n q l (suc p) i).mark
      judging e (cleared f) = absurd (omega (arith, ap (λ o. o.status) (e ∙ f)))
      judging e (kept f g) = own_judged c x (own_state_lem A X x).0 (own_state_lem A X x).2 (e ∙ g) f (λ z. below _ (omega (arith, (own_state_lem A X x).2.earlier)) i z)

      go : Decides n q l p i c (collected x.judged) → OwnMarking (suc p) i (votes_at n q l (suc p) i).mark
      go (with_quorum_lem e v m d) =
          record { marked_at = p; configuration = c; earlier = omega arith; marking = record { ending = x; has_quorum = e }; same_attempt = alike_same refl h }
      go (without_quorum_lem e v m) =
          let r = own_state_lem A X x in
          judging (taken_mark i (collected x.judged) v ∙ own_mark_judged A X x r.0 r.1 r.2) (judged? (collected x.judged) r.0)
  own_next_lem p below i (installs c x) h = own_kept (installing_at x).mark h (below p (omega arith) i)

  pub own_marking : (p i : ℕ) → (votes_at n q l p i).mark.status ≡ 1 → OwnMarking p i (votes_at n q l p i).mark
  unfolding beginning started start cleared_mark
  own_marking = strong (λ p. (i : ℕ) → (votes_at n q l p i).mark.status ≡ 1 → OwnMarking p i (votes_at n q l p i).mark) step
    where
      step : (p : ℕ) → ((x : ℕ) → x < p → (i : ℕ) → (votes_at n q l x i).mark.status ≡ 1 → OwnMarking x i (votes_at n q l x i).mark) → (i : ℕ)
          → (votes_at n q l p i).mark.status ≡ 1 → OwnMarking p i (votes_at n q l p i).mark
      step zero below i h = absurd (omega (arith, ap (λ w. (w.images i).memory.votes.mark.status) (world_at_start n q l)))
      step (suc p) below i h = own_next_lem p below i (votes_turn A p i) h
