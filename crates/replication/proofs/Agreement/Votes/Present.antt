-- A configuration c in which a primary component is installed, seen from a later exchange that takes no later primary: the members of c that are present have the
-- mark of c, no installer of c is present or in their bits, and so judging keeps their marks.
use Prim.Native.Nat.{ℕ, suc, ◌+◌, ◌≤◌, ◌<◌}
use mathlib.Core.Path.{◌≡◌, sym, ap, subst₂, ◌∙◌}
use mathlib.Core.Bool.{true, false}
use mathlib.Core.List.{List, Memᴰ}
use native.Mathlib.Omega.{arith}
use Rattle.base.specs.Sets.{in_set}
use Rattle.base.proofs.SetLaws.{member_below}
use Rattle.format.specs.Types.{Primary, Mark, State}
use Rattle.replication.specs.Machine.Types.{Configuration}
use Rattle.replication.specs.Machine.Exchange.{taken_primary, judged_mark, kept_mark, joined_bits}
use Rattle.replication.specs.Machine.Step.{collected}
use Rattle.replication.specs.Runs.Run.{Run}
use Rattle.replication.specs.Runs.Happenings.{Takes}
use Rattle.replication.proofs.Runs.Roomy.{Roomy as Allowed}
use Rattle.replication.proofs.Step.Taken.{NotLater, lower, level, taken_covers}
use Rattle.replication.proofs.Runs.Entries.{had}
use Rattle.replication.proofs.Runs.Order.{taker_member, configurations_ordered}
use Rattle.replication.proofs.Agreement.Terms.{EndsAt, MarksAt, InstallsAt, installed, ExchangeFacts}
use Rattle.replication.proofs.Agreement.Votes.Turns.{votes_at, last_at}
use Rattle.replication.proofs.Agreement.Votes.Events.{ends_exchange, installs_outside, done_before}
use Rattle.replication.proofs.Agreement.Votes.Phases.{AttemptsIn, installs_attempt}
use Rattle.replication.proofs.Agreement.Votes.Judging.{Alike, mark_kept, rule_a_no, rule_b_no, rule_c_no, joined_without}
use Rattle.replication.proofs.Agreement.Votes.Collected.{taken_below, StateOf, state_of_lem, state_from_lem}
use Rattle.replication.proofs.Agreement.Votes.Rising.{index_rises}
use Rattle.replication.proofs.Agreement.Votes.Marks.{attempt_mark, marking_mark, installed_attempted, own_marking}
use Rattle.replication.proofs.Agreement.Votes.Attempts.{marking_taken}

module _ (n q : ℕ) (l : Run) (c : Configuration) where
  -- No installer of c is in the set.
  abbrev pub NoInstaller : ℕ → Type 0
  NoInstaller bits = (p j : ℕ) → InstallsAt n q l p j c → in_set j bits ≡ false

  -- The last primary has the index k, and the mark is like m, with no installer's bit.
  pub record Waits (m : Mark) (k : ℕ) (last : Primary) (o : Mark) : Type 0 where
    pub index : last.index ≡ k
    pub alike : Alike m o
    pub without : NoInstaller o.bits

  -- What a server that marked in c has afterwards: a later primary, or the mark.
  pub data AfterAttempt (m : Mark) (k : ℕ) (last : Primary) (o : Mark) : Type 0 where
    later_primary : k < last.index → AfterAttempt m k last o
    waits : Waits m k last o → AfterAttempt m k last o

pub covered_index : {s : State} {xs : List State} → Memᴰ s xs → s.last.index ≤ (taken_primary xs).index
covered_index {s} {xs} m = go (taken_covers s xs m)
  where
    go : NotLater s.last (taken_primary xs) → s.last.index ≤ (taken_primary xs).index
    go (lower h) = omega arith
    go (level h e) = omega arith

module _ {n q : ℕ} {l : Run} (A : Allowed n q l) (X : ExchangeFacts n q l) {p i : ℕ} {c : Configuration} (inst : InstallsAt n q l p i c) where
  -- The marking of the installer, and what it marked.
  pub installers_marking : AttemptsIn n q l p i c
  installers_marking = installs_attempt A inst

  unfoldable pub mark_of : Mark
  mark_of = attempt_mark c.set (collected installers_marking.marking.ending.judged)

  unfoldable pub index_of : ℕ
  index_of = (taken_primary (collected installers_marking.marking.ending.judged)).index

  -- Every Install in c is of the next index.
  pub installed_next : {r j : ℕ} (y : InstallsAt n q l r j c) → (installed n q l y).index ≡ index_of + 1
  unfolding index_of
  installed_next y = ap (λ z. z.index) (installed_attempted A X y installers_marking.marking)

  -- The exchange of d, which e ends at y; t passed c before d; what is taken is not later than what the installer took.
  module _ {y e t tc td : ℕ} {d : Configuration} (x : EndsAt n q l y e d) (took-c : Takes n q l tc t c) (took-d : Takes n q l td t d) (order : tc < td)
      (not-later : (taken_primary (collected x.judged)).index ≤ index_of)
      (before : (z v r : ℕ) → z ≤ y → MarksAt n q l r v c → r < z → AfterAttempt n q l c mark_of index_of (last_at n q l z v) (votes_at n q l z v).mark)
    where
      -- A member of c that is present waits.
      pub present_waits : (w : ℕ) (s : State) → Memᴰ s (collected x.judged) → StateOf n q l y w d s → in_set w c.set ≡ true
          → Waits n q l c mark_of index_of s.last s.mark
      present_waits w s m o h = go (before (suc o.took_at) w k.0 (omega (arith, o.earlier)) k.2 (omega (arith, marked_first)))
        where
          k : (r : ℕ) × (r < p) × MarksAt n q l r w c
          k = X.all_marked p i c inst w (member_below n w c.set (taken_below took-c) h) h

          marked_first : k.0 < o.took_at
          marked_first =
              done_before A (marking_taken k.2).took o.took (ap (λ z. z.regular) k.2.ending.here) (ends_exchange k.2.ending)
              (configurations_ordered A took-c took-d (marking_taken k.2).took o.took order)

          go : AfterAttempt n q l c mark_of index_of (last_at n q l (suc o.took_at) w) (votes_at n q l (suc o.took_at) w).mark
              → Waits n q l c mark_of index_of s.last s.mark
          go (later_primary f) = absurd (omega (arith, covered_index m, ap (λ z. z.index) o.last))
          go (waits f) = subst₂ (λ a b. Waits n q l c mark_of index_of a b) (sym o.last) (sym o.mark) f

      -- No installer of c is present.
      installer_absent : (r j : ℕ) → InstallsAt n q l r j c → in_set j d.set ≡ true → ⊥
      installer_absent r j z h =
          let k = state_of_lem A X x j h in
          let v = had n q l r j c z.here in
          let f = done_before A v.took k.2.took z.here (installs_outside z).0 (configurations_ordered A took-c took-d v.took k.2.took order) in
          let rises = index_rises A j (suc r) (suc k.2.took_at) (omega arith) in
          let says = ap (λ a. a.index) k.2.last in
          let has = ap (λ a. a.votes.last.index) z.acts.memory_next in
          omega (arith, covered_index k.1, installed_next z)

      -- Whoever has a mark with the set of c is a member of c.
      marked_member : (w : ℕ) (s : State) → StateOf n q l y w d s → s.mark.status ≡ 1 → s.mark.set ≡ c.set → in_set w c.set ≡ true
      marked_member w s o h f =
          let k = own_marking A X (suc o.took_at) w (ap (λ a. a.status) (sym o.mark) ∙ h) in
          let g = ap (λ a. a.set) (sym (marking_mark k.marking)) ∙ sym k.same_attempt.set ∙ ap (λ a. a.set) (sym o.mark) ∙ f in
          ap (in_set w) (sym g) ∙ taker_member (marking_taken k.marking).took

      joined_without_installers : (w : ℕ) (s : State) → StateOf n q l y w d s → Waits n q l c mark_of index_of s.last s.mark
          → NoInstaller n q l c (joined_bits (collected x.judged) s)
      unfolding mark_of
      joined_without_installers w s o h r j z =
          joined_without (collected x.judged) s j (h.without r j z)
          (λ u m a.
          let k = state_from_lem A X x u m in
          let f = marked_member k.0 u k.2 a.status (a.set ∙ h.alike.set) in
          ((present_waits k.0 u m k.2 f).without r j z, λ g. installer_absent r j z (ap (λ b. in_set b d.set) (g ∙ k.2.sender) ∙ k.1)))

      pub kept_present : (w : ℕ) (s : State) → Memᴰ s (collected x.judged) → StateOf n q l y w d s → in_set w c.set ≡ true
          → (judged_mark (collected x.judged) s ≡ kept_mark (collected x.judged) s)
          × Waits n q l c mark_of index_of s.last (kept_mark (collected x.judged) s)
      unfolding mark_of index_of kept_mark
      kept_present w s m o h =
          let f = present_waits w s m o h in
          let b = joined_without_installers w s o f in
          let xs = collected x.judged in (
            mark_kept xs s f.alike.status
                (rule_a_no xs s (omega (arith, not-later, f.alike.index)))
                (rule_b_no xs s
                (λ u k g.
                let v = state_from_lem A X x u k in
                let z = (present_waits v.0 u k v.2 (ap (λ a. in_set a c.set) (sym v.2.sender) ∙ ap (in_set u.sender) (sym f.alike.set) ∙ g)).alike in
                (z.status, z.index ∙ sym f.alike.index, z.attempt ∙ sym f.alike.attempt)))
                (rule_c_no xs s i (ap (in_set i) f.alike.set ∙ taker_member (had n q l p i c inst.here).took) (b p i inst)),
            record {
              index = f.index;
              alike = record { status = f.alike.status; index = f.alike.index; attempt = f.alike.attempt; set = f.alike.set };
              without = b;
            },
          )
