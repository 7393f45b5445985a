-- Primary components are unique: Installs of one index are in one configuration and of one primary, and whoever knows a primary of that index knows that one.
use Prim.Native.Nat.{ℕ, zero, suc, ◌<◌, ◌^◌}
use mathlib.Core.Path.{◌≡◌, refl, sym, ap, subst, subst₂, ◌∙◌}
use mathlib.Core.Bool.{true}
use mathlib.Core.List.{List, Memᴰ}
use native.Mathlib.Omega.{arith}
use Rattle.base.specs.Sets.{in_set}
use Rattle.format.specs.Types.{Primary, Mark, State}
use Rattle.replication.specs.Machine.Types.{Configuration, Server}
use Rattle.replication.specs.Machine.Exchange.{taken_primary}
use Rattle.replication.specs.Machine.Step.{collected}
use Rattle.replication.specs.Runs.Run.{Run}
use Rattle.replication.specs.Runs.Happenings.{Takes}
use Rattle.replication.proofs.Runs.Roomy.{Roomy as Allowed}
use Rattle.replication.proofs.Runs.Places.{of_event}
use Rattle.replication.proofs.Runs.Numbers.{numbers, invariant_at}
use Rattle.replication.proofs.Agreement.Terms.{Image, MarksAt, InstallsAt, installed, ExchangeFacts}
use Rattle.replication.proofs.Agreement.Votes.Turns.{votes_at, last_at}
use Rattle.replication.proofs.Agreement.Votes.Events.{InOrder, first, same, second, in_order}
use Rattle.replication.proofs.Agreement.Votes.Phases.{AttemptsIn, installs_attempt}
use Rattle.replication.proofs.Agreement.Votes.Judging.{Alike, no_quorum}
use Rattle.replication.proofs.Agreement.Votes.Quorums.{quorums_meet}
use Rattle.replication.proofs.Agreement.Votes.Collected.{StateOf, state_of_lem}
use Rattle.replication.proofs.Agreement.Votes.Rising.{image_votes}
use Rattle.replication.proofs.Agreement.Votes.Marks.{marking_last, installed_attempted}
use Rattle.replication.proofs.Agreement.Votes.Attempts.{OneInstall, OneKnown, none_at_start, one_known, one_attempt}
use Rattle.replication.proofs.Agreement.Votes.Present.{AfterAttempt, mark_of, installers_marking, index_of, installed_next, kept_present}
use Rattle.replication.proofs.Agreement.Votes.Kept.{after_attempt, image_after_attempt}

-- The mark of the attempt at the primary a, of the index k + 1.
abbrev pub mark_for : ℕ → Primary → Mark
mark_for k a = record { status = 1; index = k; attempt = a.attempt; set = a.set; bits = 0 }

module _ {n q : ℕ} {l : Run} (A : Allowed n q l) (X : ExchangeFacts n q l) where
  -- The index that an installer took is one below the installed one.
  taken_index : {p i : ℕ} {c : Configuration} (x : InstallsAt n q l p i c) (k : ℕ) → (installed n q l x).index ≡ suc k → index_of A X x ≡ k
  taken_index x k e = let h = installed_next A X x x in omega arith

  -- A server passed c, where x installed, before d, where the exchange took no later primary: there is no quorum in d.
  no_second : {p i r j t tc td : ℕ} {c d : Configuration} (k : ℕ) → OneInstall n q l k → (x : InstallsAt n q l p i c) → (installed n q l x).index ≡ suc k
      → (m : MarksAt n q l r j d) → (taken_primary (collected m.ending.judged)).index ≡ k → Takes n q l tc t c → Takes n q l td t d → tc < td
      → in_set t c.set ≡ true → in_set t d.set ≡ true → ⊥
  no_second {p} {i} {r} {j} {t} {tc} {td} {c} {d} k one x e m f u v o g h =
      let z = taken_index x k e in
      let s = state_of_lem A X m.ending t h in
      let kept =
      kept_present A X x m.ending u v o (omega (arith, z, f)) (λ y w b a. after_attempt A X x (subst (λ a. OneInstall n q l a) (sym z) one) y w b) t
      s.0 s.1 s.2 g in
      no_quorum (collected m.ending.judged) d.set s.0 s.1 (ap (λ a. a.status) kept.0 ∙ kept.1.alike.status) m.has_quorum

  same_installed : {p r i j : ℕ} {c d : Configuration} (x : InstallsAt n q l p i c) (y : InstallsAt n q l r j d) → c ≡ d → installed n q l x ≡ installed n q l y
  same_installed {p} {r} {i} {j} {c} {d} x y e =
      let m = (installs_attempt A x).marking in
      subst (λ z. (y : InstallsAt n q l r j z) → installed n q l x ≡ installed n q l y) e (λ y. installed_attempted A X x m ∙ sym (installed_attempted A X y m)) y

  last_below : (p i : ℕ) → i < n → (last_at n q l p i).set < 2 ^ n
  last_below p i h =
      subst (λ z. (last_at n q l p i).set < 2 ^ z) (numbers n q i l p).memory.servers (invariant_at n q i A.allowed.sizes h l p).memory.well_formed_lem.votes.last.set

  one_install_next : (k : ℕ) → OneInstall n q l k → OneInstall n q l (suc k)
  unfolding OneInstall OneKnown
  one_install_next k one p r i j c d x y e f = go (in_order at_c.2.took at_d.2.took)
    where
      mark_c : AttemptsIn n q l p i c
      mark_c = installs_attempt A x

      mark_d : AttemptsIn n q l r j d
      mark_d = installs_attempt A y

      xs : List State
      xs = collected mark_c.marking.ending.judged

      ys : List State
      ys = collected mark_d.marking.ending.judged

      index_c : (taken_primary xs).index ≡ k
      index_c = omega (arith, e, ap (λ z. z.index) (installed_attempted A X x mark_c.marking))

      index_d : (taken_primary ys).index ≡ k
      index_d = omega (arith, f, ap (λ z. z.index) (installed_attempted A X y mark_d.marking))

      -- Both attempts are on one primary component, so they have a member of it in common.
      last_c : last_at n q l (suc mark_c.marked_at) i ≡ taken_primary xs
      last_c = marking_last mark_c.marking

      last_d : last_at n q l (suc mark_d.marked_at) j ≡ taken_primary ys
      last_d = marking_last mark_d.marking

      one_taken : taken_primary xs ≡ taken_primary ys
      one_taken = sym last_c ∙ one_known A X k one _ _ i j (ap (λ z. z.index) last_c ∙ index_c) (ap (λ z. z.index) last_d ∙ index_d) ∙ last_d

      common_member : (t : ℕ) × (in_set t (taken_primary xs).set ≡ true) × (in_set t c.set ≡ true) × (in_set t d.set ≡ true)
      common_member =
          let below = last_below (suc mark_c.marked_at) i (A.allowed.servers p i (of_event x.acts.here)) in
          quorums_meet n xs ys c.set d.set one_taken (subst (λ z. z.set < 2 ^ n) last_c below) mark_c.marking.has_quorum mark_d.marking.has_quorum

      at_c : (s : State) × Memᴰ s xs × StateOf n q l mark_c.marked_at common_member.0 c s
      at_c = state_of_lem A X mark_c.marking.ending common_member.0 common_member.2

      at_d : (s : State) × Memᴰ s ys × StateOf n q l mark_d.marked_at common_member.0 d s
      at_d = state_of_lem A X mark_d.marking.ending common_member.0 common_member.3

      go : InOrder at_c.2.took_at at_d.2.took_at c d → (c ≡ d) × (installed n q l x ≡ installed n q l y)
      go (first o) = absurd (no_second k one x e mark_d.marking index_d at_c.2.took at_d.2.took o common_member.2 common_member.3)
      go (same h o) = (h, same_installed x y h)
      go (second o) = absurd (no_second k one y f mark_c.marking index_c at_d.2.took at_c.2.took o common_member.3 common_member.2)

  pub one_install : (k : ℕ) → OneInstall n q l k
  one_install zero = none_at_start A X
  one_install (suc k) = one_install_next k (one_install k)

  -- ---- the theorems

  pub unique_install : {p r i j : ℕ} {c d : Configuration} (x : InstallsAt n q l p i c) (y : InstallsAt n q l r j d) → (installed n q l x).index ≡ (installed n q l y).index
      → (c ≡ d) × (installed n q l x ≡ installed n q l y)
  unfolding OneInstall
  unique_install {p} {r} {i} {j} {c} {d} x y e = one_install (installed n q l y).index p r i j c d x y e refl

  pub unique_known : {p r i j : ℕ} {s t : Server} → Image n q l p i s → Image n q l r j t → s.votes.last.index ≡ t.votes.last.index
      → s.votes.last ≡ t.votes.last
  unfolding OneKnown
  unique_known {p} {r} {i} {j} {s} {t} x y e =
      let a = (image_votes x).last in
      let b = (image_votes y).last in
      let k = t.votes.last.index in
      a ∙ one_known A X k (one_install k) p r i j (ap (λ z. z.index) (sym a) ∙ e) (ap (λ z. z.index) (sym b)) ∙ sym b

  -- An attempt, by the index, attempt and set that it marks, is of one configuration.
  pub unique_attempt : {p r i j : ℕ} {c d : Configuration} → MarksAt n q l p i c → MarksAt n q l r j d
      → Alike (votes_at n q l (suc p) i).mark (votes_at n q l (suc r) j).mark → c ≡ d
  unique_attempt {p} {r} {i} m o a = one_attempt A X (votes_at n q l (suc p) i).mark.index (one_install _) m o refl a

  -- Once a primary of the index k + 1 is installed in c, whoever marked in c has it or a later one, or still the mark, with no bit of an installer of c.
  pub kept_mark_lem : {p i y v r k : ℕ} {c : Configuration} {s : Server} (x : InstallsAt n q l p i c) → (installed n q l x).index ≡ suc k → Image n q l y v s
      → MarksAt n q l r v c → r < y → AfterAttempt n q l c (mark_for k (installed n q l x)) k s.votes.last s.votes.mark
  unfolding mark_of index_of
  kept_mark_lem {p} {i} {y} {v} {r} {k} {c} {s} x e z m h =
      let f = taken_index x k e in
      let g = installed_attempted A X x (installers_marking A X x).marking in
      let same_mark : mark_of A X x ≡ mark_for k (installed n q l x) =
      λ j. record { status = 1; index = f j; attempt = ap (λ a. a.attempt) (sym g) j; set = ap (λ a. a.set) (sym g) j; bits = 0 } in
      subst₂ (λ o b. AfterAttempt n q l c o b s.votes.last s.votes.mark) same_mark f
      (image_after_attempt A X x (one_install (index_of A X x)) z m h)
