-- All who end the exchange in one configuration take the same primary, attempt and yellow list, decide alike, and with a quorum make the same mark.
use Prim.Native.Nat.{ℕ, suc, ◌+◌}
use mathlib.Core.Path.{◌≡◌, sym, ap, ◌∙◌}
use Rattle.base.proofs.TestLaws.{not_both}
use Rattle.replication.specs.Machine.Types.{Configuration}
use Rattle.replication.specs.Machine.Exchange.{taken_primary, taken_yellow, taken_attempt, quorum, taken_votes, attempted}
use Rattle.replication.specs.Machine.Step.{collected}
use Rattle.replication.specs.Runs.Run.{Run}
use Rattle.replication.proofs.Runs.Roomy.{Roomy as Allowed}
use Rattle.replication.proofs.Agreement.Terms.{EndsAt}
use Rattle.replication.proofs.Agreement.Votes.Turns.{votes_at, last_at, Decides, with_quorum_lem, without_quorum_lem, ended, ended_last}
use Rattle.replication.proofs.Agreement.Exchange.SameStates.{same_states}

module _ {n q : ℕ} {l : Run} {p i : ℕ} {c : Configuration} (x : EndsAt n q l p i c) where
  pub ended_yellow : (votes_at n q l (suc p) i).yellow ≡ taken_yellow (collected x.judged)
  unfolding attempted taken_votes
  ended_yellow = go (ended x)
    where
      go : Decides n q l p i c (collected x.judged) → (votes_at n q l (suc p) i).yellow ≡ taken_yellow (collected x.judged)
      go (with_quorum_lem h v m d) = ap (λ z. z.yellow) v
      go (without_quorum_lem h v m) = ap (λ z. z.yellow) v

-- What two ends of one exchange have in common.
pub record SameDecision (n q : ℕ) (l : Run) (c : Configuration) (p i : ℕ) (x : EndsAt n q l p i c) (r j : ℕ) (y : EndsAt n q l r j c) : Type 0 where
  pub primary : last_at n q l (suc p) i ≡ last_at n q l (suc r) j
  pub attempt : (votes_at n q l (suc p) i).attempt ≡ (votes_at n q l (suc r) j).attempt
  pub yellow : (votes_at n q l (suc p) i).yellow ≡ (votes_at n q l (suc r) j).yellow
  pub decision : quorum (collected x.judged) c.set ≡ quorum (collected y.judged) c.set

module _ {n q : ℕ} {l : Run} (A : Allowed n q l) {c : Configuration} where
  pub same_decision : {p r i j : ℕ} (x : EndsAt n q l p i c) (y : EndsAt n q l r j c) → SameDecision n q l c p i x r j y
  unfolding attempted taken_votes
  same_decision {p} {r} {i} {j} x y =
      record {
        primary = ended_last x ∙ ap taken_primary e ∙ sym (ended_last y);
        attempt = attempts (ended x) (ended y);
        yellow = ended_yellow x ∙ ap taken_yellow e ∙ sym (ended_yellow y);
        decision = ap (λ z. quorum z c.set) e;
      }
    where
      e : collected x.judged ≡ collected y.judged
      e = same_states A p r i j c x y

      f : quorum (collected x.judged) c.set ≡ quorum (collected y.judged) c.set
      f = ap (λ z. quorum z c.set) e

      attempts : Decides n q l p i c (collected x.judged) → Decides n q l r j c (collected y.judged)
          → (votes_at n q l (suc p) i).attempt ≡ (votes_at n q l (suc r) j).attempt
      attempts (with_quorum_lem h v m d) (with_quorum_lem k w o u) = ap (λ z. z.attempt) v ∙ ap (λ z. taken_attempt z + 1) e ∙ sym (ap (λ z. z.attempt) w)
      attempts (with_quorum_lem h v m d) (without_quorum_lem k w o) = not_both (sym k ∙ sym f ∙ h)
      attempts (without_quorum_lem h v m) (with_quorum_lem k w o u) = not_both (sym h ∙ f ∙ k)
      attempts (without_quorum_lem h v m) (without_quorum_lem k w o) = ap (λ z. z.attempt) v ∙ ap taken_attempt e ∙ sym (ap (λ z. z.attempt) w)
