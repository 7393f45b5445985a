-- How a taken event changes the votes.
use Prim.Native.Nat.{ℕ}
use mathlib.Core.Path.{◌≡◌, refl, ap, ◌∙◌}
use mathlib.Core.Bool.{Bool, true, false}
use mathlib.Core.List.{List}
use mathlib.Core.Logic.{inl, inr}
use Rattle.format.specs.Types.{State, Record}
use Rattle.replication.specs.Machine.Types.{Server}
use Rattle.replication.specs.Machine.Exchange.{taken_votes, attempted, quorum}
use Rattle.replication.specs.Machine.Install.{install, install_votes}
use Rattle.replication.specs.Machine.Requests.{numbered, send_waiting, recovered}
use Rattle.replication.specs.Machine.Step.{entering, unmarked, yellow_valid, here_set, collected, decided, attempting, with_state, resending, one_more, exchanged, with_cpc, leave, green_and_note}
use Rattle.replication.specs.Laws.Transitions as L
use Rattle.replication.specs.Laws.Transitions.{Ends, Transition}
use Rattle.replication.specs.Laws.Order.{hearing}
use Rattle.replication.specs.Laws.Votes as C
use Rattle.replication.specs.Laws.Votes.{EndsExchange, VotesChange, PrimaryChange}
use Rattle.replication.proofs.Step.Control.{control_yellow}

pub same_quorum : (xs ys : List State) (h k : ℕ) (b : Bool) → xs ≡ ys → h ≡ k → quorum xs h ≡ b → quorum ys k ≡ b
same_quorum xs ys h k b p q r = cc

same_attempt : (i j h k : ℕ) (xs ys : List State) → i ≡ j → h ≡ k → xs ≡ ys → attempted h (taken_votes i xs) ≡ attempted k (taken_votes j ys)
same_attempt i j h k xs ys p q r = cc

module _ (s : Server) where
  end_changes : (r : Record) (t u : Server) (rs : List Record) → EndsExchange s r → t.me ≡ s.me → collected t ≡ collected (hearing r s) → here_set t ≡ here_set s
      → Ends t u rs → VotesChange s r u
  unfolding attempting decided send_waiting numbered here_set
  end_changes r t u rs e m c h (L.with_quorum q) =
      C.VotesChange.attempted e refl (same_quorum (collected t) (collected (hearing r s)) (here_set t) (here_set s) true c h q)
      (same_attempt t.me s.me (here_set t) (here_set s) (collected t) (collected (hearing r s)) m h c)
  end_changes r t u rs e m c h (L.without_quorum q) =
      C.VotesChange.decided e refl (same_quorum (collected t) (collected (hearing r s)) (here_set t) (here_set s) false c h q)
      (ap (λ i. taken_votes i (collected t)) m ∙ ap (taken_votes s.me) c)

  pub votes_changes : {r : Record} {t : Server} {rs : List Record} {b : Bool} → Transition s r t rs b → VotesChange s r t
  unfolding green_and_note install exchanged one_more with_state resending with_cpc send_waiting numbered entering leave recovered hearing collected here_set
  votes_changes (L.ignores_state x e) = C.VotesChange.kept refl
  votes_changes (L.ignores_cpc k i e) = C.VotesChange.kept refl
  votes_changes (L.reddens a e) = C.VotesChange.kept refl
  votes_changes (L.reddens_resent k i a e) = C.VotesChange.kept refl
  votes_changes (L.reddens_in_exchange a e) = C.VotesChange.kept refl
  votes_changes (L.greens a e) = C.VotesChange.kept refl
  votes_changes (L.yellows a e) = C.yellowed a e refl refl
  votes_changes (L.installs_late a e) = C.installed_late a e refl refl refl
  votes_changes (L.exchanges k i a e c) = C.VotesChange.kept refl
  votes_changes (L.exchanges_last k i a u us e c x) = end_changes _ (exchanged i a s) u us (C.with_actions e refl) refl refl refl x
  votes_changes (L.collects x e c) = C.VotesChange.kept refl
  votes_changes (L.collects_last x e c d) = C.VotesChange.kept refl
  votes_changes (L.collects_whole x u us e c d y) = end_changes _ (with_state x s) u us (C.with_states e c) refl refl refl y
  votes_changes (L.counts k i e c) = C.VotesChange.kept refl
  votes_changes (L.installs k i e c) = C.VotesChange.installed k i e refl refl refl
  votes_changes (L.counts_late k i e c) = C.VotesChange.kept refl
  votes_changes (L.counts_all_late k i e c) = C.VotesChange.kept refl
  votes_changes (L.joins c e) = C.VotesChange.kept refl
  votes_changes (L.joins_marked c e) = C.VotesChange.kept refl
  votes_changes (L.joins_unmarked c e) = C.unmarked c e refl refl
  votes_changes (L.joins_yellow c e) = C.made_valid c e refl refl
  votes_changes (L.leaves m n x e q) = C.VotesChange.kept refl
  votes_changes (L.sends q c) = C.VotesChange.kept refl
  votes_changes (L.numbers q c) = C.VotesChange.kept refl
  votes_changes L.recovers = C.VotesChange.kept refl

  primary_change : {r : Record} {t : Server} → VotesChange s r t → PrimaryChange s r t
  unfolding install_votes unmarked yellow_valid taken_votes attempted install
  primary_change (C.VotesChange.kept p) = C.PrimaryChange.kept (ap (λ v. v.last) p) (ap (λ v. v.attempt) p)
  primary_change (C.yellowed a e q p) = C.PrimaryChange.kept (ap (λ v. v.last) p ∙ (control_yellow a s).last) (ap (λ v. v.attempt) p ∙ (control_yellow a s).attempt)
  primary_change (C.VotesChange.installed k i e f q p) =
      C.PrimaryChange.installed (inl e) (ap (λ v. v.last.index) p) (ap (λ v. v.last.attempt) p) (ap (λ v. v.last.set) p) (ap (λ v. v.attempt) p) (ap (λ v. v.mark) p)
  primary_change (C.installed_late a e f q p) =
      let y = control_yellow a (install s) in
      C.PrimaryChange.installed (inr e) (ap (λ v. v.last.index) p ∙ ap (λ x. x.index) y.last) (ap (λ v. v.last.attempt) p ∙ ap (λ x. x.attempt) y.last)
      (ap (λ v. v.last.set) p ∙ ap (λ x. x.set) y.last) (ap (λ v. v.attempt) p ∙ y.attempt) (ap (λ v. v.mark) p ∙ y.mark)
  primary_change (C.unmarked c e q p) = C.PrimaryChange.kept (ap (λ v. v.last) p) (ap (λ v. v.attempt) p)
  primary_change (C.made_valid c e q p) = C.PrimaryChange.kept (ap (λ v. v.last) p) (ap (λ v. v.attempt) p)
  primary_change (C.VotesChange.decided e f q p) = C.PrimaryChange.decided e (ap (λ v. v.last) p) (ap (λ v. v.attempt) p)
  primary_change (C.VotesChange.attempted e f q p) = C.PrimaryChange.attempted e (ap (λ v. v.last) p) (ap (λ v. v.attempt) p)

  pub primary_changes : {r : Record} {t : Server} {rs : List Record} {b : Bool} → Transition s r t rs b → PrimaryChange s r t
  primary_changes x = primary_change (votes_changes x)
