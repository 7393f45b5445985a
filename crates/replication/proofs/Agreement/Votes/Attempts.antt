-- Where the primary components of an index agree, an attempt on the next one (index, attempt and set) is of one configuration.
use Prim.Native.Nat.{ℕ, suc, ◌+◌, ◌<◌}
use mathlib.Core.Path.{◌≡◌, sym, ap, ◌∙◌}
use mathlib.Core.List.{Memᴰ}
use native.Mathlib.Omega.{arith}
use Rattle.base.specs.Sets.{in_set}
use Rattle.format.specs.Types.{State}
use Rattle.replication.specs.Machine.Types.{Configuration}
use Rattle.replication.specs.Machine.Exchange.{taken_primary}
use Rattle.replication.specs.Machine.Step.{collected}
use Rattle.replication.specs.Laws.Order.{AtMost, by_index, by_primary, by_attempt}
use Rattle.replication.specs.Runs.Run.{Run}
use Rattle.replication.specs.Runs.Happenings.{Takes}
use Rattle.replication.proofs.Runs.Roomy.{Roomy as Allowed}
use Rattle.replication.proofs.Step.Taken.{NotLater, lower, level, taken_covers, taken_attempt_covers}
use Rattle.replication.proofs.Runs.Entries.{Had, had}
use Rattle.replication.proofs.Runs.OwnStates.{votes_rise_between}
use Rattle.replication.proofs.Runs.Order.{taker_member, configurations_ordered}
use Rattle.replication.proofs.Agreement.Terms.{MarksAt, InstallsAt, installed, ExchangeFacts}
use Rattle.replication.proofs.Agreement.Votes.Turns.{votes_at, last_at}
use Rattle.replication.proofs.Agreement.Votes.Events.{installing_at, ends_exchange, done_before, InOrder, first, same, second, in_order}
use Rattle.replication.proofs.Agreement.Votes.Judging.{Alike}
use Rattle.replication.proofs.Agreement.Votes.Collected.{StateOf, state_of_lem}
use Rattle.replication.proofs.Agreement.Votes.Known.{KnownPrimary, of_start, of_install, known_primary}
use Rattle.replication.proofs.Agreement.Votes.Marks.{marking_last, marking_attempt, marking_mark}

module _ (n q : ℕ) (l : Run) where
  -- The Installs of the index k are in one configuration, and of one primary component.
  unfoldable pub OneInstall : ℕ → Type 0
  OneInstall k =
      (p r i j : ℕ) (c d : Configuration) (x : InstallsAt n q l p i c) (y : InstallsAt n q l r j d) → (installed n q l x).index ≡ k → (installed n q l y).index ≡ k
      → (c ≡ d) × (installed n q l x ≡ installed n q l y)

  -- Last primaries with the index k are the same.
  unfoldable pub OneKnown : ℕ → Type 0
  OneKnown k = (p r i j : ℕ) → (last_at n q l p i).index ≡ k → (last_at n q l r j).index ≡ k → last_at n q l p i ≡ last_at n q l r j

module _ {n q : ℕ} {l : Run} where
  pub installed_index : {p i : ℕ} {c : Configuration} (x : InstallsAt n q l p i c) → (installed n q l x).index ≡ (last_at n q l p i).index + 1
  installed_index x = ap (λ s. s.votes.last.index) (sym x.acts.memory_next) ∙ (installing_at x).index

  pub marking_taken : {p i : ℕ} {c : Configuration} → MarksAt n q l p i c → Had n q l i p c
  marking_taken {p} {i} {c} m = had n q l p i c (ap (λ z. z.regular) m.ending.here)

module _ {n q : ℕ} {l : Run} (A : Allowed n q l) (X : ExchangeFacts n q l) where
  -- No Install is of the start's index.
  pub none_at_start : OneInstall n q l 0
  unfolding OneInstall
  none_at_start p r i j c d x y e f = absurd (omega (arith, installed_index x))

  pub one_known : (k : ℕ) → OneInstall n q l k → OneKnown n q l k
  unfolding OneInstall OneKnown
  one_known k one p r i j e f = go (known_primary A X p i) (known_primary A X r j)
    where
      go : KnownPrimary A p i (last_at n q l p i) → KnownPrimary A r j (last_at n q l r j) → last_at n q l p i ≡ last_at n q l r j
      go (of_start g) (of_start h) = g ∙ sym h
      go (of_start g) (of_install u v w z c d x a b s t y o) = absurd (omega (arith, installed_index x, ap (λ m. m.index) g, ap (λ m. m.index) b))
      go (of_install u v w z c d x a b s t y o) (of_start h) = absurd (omega (arith, installed_index x, ap (λ m. m.index) h, ap (λ m. m.index) b))
      go (of_install u v w z c d x a b s t y o) (of_install u' v' w' z' c' d' x' a' b' s' t' y' o') =
          sym b ∙ (one u u' v v' c c' x x' (ap (λ m. m.index) b ∙ e) (ap (λ m. m.index) b' ∙ f)).1 ∙ b'

  -- Of two attempts on one index by servers of which one passed both configurations, the later one is higher.
  later_attempt : {p r i j w : ℕ} {c d : Configuration} {s : State} (k : ℕ) → OneKnown n q l k → (m : MarksAt n q l p i c) (o : MarksAt n q l r j d)
      → (last_at n q l (suc p) i).index ≡ k → (last_at n q l (suc r) j).index ≡ k → Memᴰ s (collected o.ending.judged) → (y : StateOf n q l r i d s)
      → Takes n q l w i c → w < y.took_at → (votes_at n q l (suc p) i).attempt < (votes_at n q l (suc r) j).attempt
  unfolding OneKnown
  later_attempt {p} {r} {i} {j} {w} {c} {d} {s} k one m o e f h y t a =
      go (votes_rise_between A i (suc p) (suc y.took_at) (omega (arith, marked_first))) (taken_covers s (collected o.ending.judged) h)
    where
      marked_first : p < y.took_at
      marked_first = done_before A t y.took (ap (λ z. z.regular) m.ending.here) (ends_exchange m.ending) a

      said : s.last.index ≡ (last_at n q l (suc y.took_at) i).index
      said = ap (λ z. z.index) y.last

      taken : (taken_primary (collected o.ending.judged)).index ≡ k
      taken = ap (λ z. z.index) (sym (marking_last o)) ∙ f

      go : AtMost (votes_at n q l (suc p) i) (votes_at n q l (suc y.took_at) i) → NotLater s.last (taken_primary (collected o.ending.judged))
          → (votes_at n q l (suc p) i).attempt < (votes_at n q l (suc r) j).attempt
      go (by_index g) (lower u) = absurd (omega (arith, said, taken))
      go (by_index g) (level u v) = absurd (omega (arith, said, taken))
      go (by_primary z g) (lower u) = absurd (omega (arith, said, taken))
      go (by_primary z g) (level u v) =
          absurd (omega (arith, ap (λ x. x.attempt) (one (suc p) (suc y.took_at) i i e (omega (arith, said, taken)))))
      go (by_attempt z b g) (lower u) = absurd (omega (arith, said, taken))
      go (by_attempt z b g) (level u v) =
          let same_last = y.last ∙ one (suc y.took_at) (suc r) i j (omega (arith, said, taken)) f ∙ marking_last o in
          omega (arith, taken_attempt_covers s (collected o.ending.judged) h u (ap (λ x. x.attempt) same_last), y.attempt, marking_attempt o)

  -- The attempt of a mark, index, attempt and set, is made in one configuration.
  pub one_attempt : (k : ℕ) → OneInstall n q l k → {p r i j : ℕ} {c d : Configuration} → MarksAt n q l p i c → MarksAt n q l r j d
      → (votes_at n q l (suc p) i).mark.index ≡ k → Alike (votes_at n q l (suc p) i).mark (votes_at n q l (suc r) j).mark → c ≡ d
  one_attempt k one {p} {r} {i} {j} {c} {d} m o e a = go (in_order x.took y.2.took)
    where
      sets : d.set ≡ c.set
      sets = ap (λ z. z.set) (sym (marking_mark o)) ∙ a.set ∙ ap (λ z. z.set) (marking_mark m)

      x : Had n q l i p c
      x = marking_taken m

      z : Had n q l j r d
      z = marking_taken o

      -- The State of each in the other's configuration.
      y : (s : State) × Memᴰ s (collected o.ending.judged) × StateOf n q l r i d s
      y = state_of_lem A X o.ending i (ap (in_set i) sets ∙ taker_member x.took)

      u : (s : State) × Memᴰ s (collected m.ending.judged) × StateOf n q l p j c s
      u = state_of_lem A X m.ending j (ap (in_set j) (sym sets) ∙ taker_member z.took)

      index_first : (last_at n q l (suc p) i).index ≡ k
      index_first = ap (λ v. v.index) (marking_last m) ∙ ap (λ v. v.index) (sym (marking_mark m)) ∙ e

      index_second : (last_at n q l (suc r) j).index ≡ k
      index_second = ap (λ v. v.index) (marking_last o) ∙ ap (λ v. v.index) (sym (marking_mark o)) ∙ a.index ∙ e

      attempts : (votes_at n q l (suc p) i).attempt ≡ (votes_at n q l (suc r) j).attempt
      attempts =
          marking_attempt m ∙ ap (λ v. v.attempt) (sym (marking_mark m)) ∙ sym a.attempt ∙ ap (λ v. v.attempt) (marking_mark o) ∙ sym (marking_attempt o)

      go : InOrder x.took_at y.2.took_at c d → c ≡ d
      go (first h) = absurd (omega (arith, attempts, later_attempt k (one_known k one) m o index_first index_second y.1 y.2 x.took h))
      go (same h f) = h
      go (second h) =
          let g = configurations_ordered A y.2.took x.took z.took u.2.took h in
          absurd (omega (arith, attempts, later_attempt k (one_known k one) o m index_second index_first u.1 u.2 z.took g))
