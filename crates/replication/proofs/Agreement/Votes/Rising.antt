-- Last primary, attempt and mark are alike in memory and store, and (last primary's index, its attempt, attempt) never falls.
use Prim.Native.Nat.{ℕ, ◌≤◌}
use mathlib.Core.Path.{sym}
use native.Mathlib.Omega.{arith}
use Rattle.replication.specs.Machine.Types.{Server}
use Rattle.replication.specs.Laws.Order.{AtMost, by_index, by_primary, by_attempt}
use Rattle.replication.specs.Runs.Run.{Run}
use Rattle.replication.proofs.Runs.Roomy.{Roomy as Allowed}
use Rattle.replication.proofs.Runs.ControlPart.{control_at}
use Rattle.replication.proofs.Runs.OwnStates.{votes_rise_between}
use Rattle.replication.proofs.Agreement.Terms.{Image, in_memory, in_store}
use Rattle.replication.proofs.Agreement.Votes.Changes.{SameVotes, same_votes_refl}
use Rattle.replication.proofs.Agreement.Votes.Turns.{votes_at, last_at}

-- ---- one image for both

-- Every image has the votes of the memory, but for yellow.
pub image_votes : {n q : ℕ} {l : Run} {p i : ℕ} {s : Server} → Image n q l p i s → SameVotes (votes_at n q l p i) s.votes
image_votes (in_memory h) = same_votes_refl _
image_votes {n} {q} {l} {p} {i} in_store =
    let c = control_at n q l i p in
    record { last = sym c.last; attempt = sym c.attempt; mark = sym c.mark }

module _ {n q : ℕ} {l : Run} (A : Allowed n q l) where
  pub index_rises : (i p r : ℕ) → p ≤ r → (last_at n q l p i).index ≤ (last_at n q l r i).index
  index_rises i p r h = go (votes_rise_between A i p r h)
    where
      go : AtMost (votes_at n q l p i) (votes_at n q l r i) → (last_at n q l p i).index ≤ (last_at n q l r i).index
      go (by_index a) = omega arith
      go (by_primary e a) = omega arith
      go (by_attempt e f a) = omega arith
