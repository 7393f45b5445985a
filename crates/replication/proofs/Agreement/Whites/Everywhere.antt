-- An action white anywhere is green in every server's store.
use Prim.Native.Nat.{ℕ, ◌≤◌}
use mathlib.Core.Path.{sym, ap, subst, ◌∙◌}
use mathlib.Core.List.{List, ◌++◌}
use native.Mathlib.Omega.{arith}
use lib.ListN.{length, take, drop, take-append-drop}
use Rattle.base.specs.Lists.{Begins}
use Rattle.format.specs.Types.{Action}
use Rattle.replication.specs.Runs.Run.{Run}
use Rattle.replication.specs.Runs.Claim.{ListsAgree, stored_green, memory_green}
use Rattle.replication.specs.Runs.Whites.{WhiteEverywhere, WhitesAreGreen}
use Rattle.replication.proofs.Runs.Roomy.{Roomy as Allowed}
use Rattle.replication.proofs.Runs.Numbers.{invariant_at}
use Rattle.replication.proofs.Runs.Strays.{kept, world_kept}
use Rattle.replication.proofs.Agreement.Exchange.Facts.{exchange_facts}
use Rattle.replication.proofs.Agreement.Greens.Whole.{consequences}
use Rattle.replication.proofs.Agreement.Whites.Lengths.{within}
use Rattle.replication.proofs.Agreement.Whites.Sources.{sources}
use Rattle.replication.proofs.Agreement.Whites.Room.{agree_take, roomy}

taken_begins : (x y : List Action) (w : ℕ) → ListsAgree y x → w ≤ length x → w ≤ length y → Begins (take w x) y
unfolding Begins
taken_begins x y w a h k = (drop w y, sym (take-append-drop w y) ∙ ap (λ z. z ++ drop w y) (agree_take y x w a k h))

module _ {n q : ℕ} {l : Run} (A : Allowed n q l) where
  everywhere : WhiteEverywhere n q l
  unfolding stored_green memory_green
  everywhere = record {
    memory = λ p i j h k d.
        taken_begins _ _ _ ((consequences A).later p p j i (omega arith) k h d) (invariant_at n q i A.allowed.sizes h l p).memory.well_formed_lem.white
        ((within A (sources A (exchange_facts A)) p i).memory.white j k);
    store = λ p i j h k.
        taken_begins _ _ _ ((consequences A).stored p p j i k h) (invariant_at n q i A.allowed.sizes h l p).store.well_formed_lem.white
        ((within A (sources A (exchange_facts A)) p i).store.white j k);
  }

-- Strays leave the worlds.
pub whites_are_green : WhitesAreGreen
unfolding WhitesAreGreen stored_green memory_green
whites_are_green n q l S = record {
  memory = λ p i j h k d.
      subst (λ w. Begins (take (w.images i).memory.white (w.images i).memory.log.green) (w.images j).store.log.green) (sym (world_kept S p))
      ((everywhere (roomy S.rest)).memory (kept S.stray p) i j h k (ap (λ w. w.down i) (sym (world_kept S p)) ∙ d));
  store = λ p i j h k.
      subst (λ w. Begins (take (w.images i).store.white (w.images i).store.log.green) (w.images j).store.log.green) (sym (world_kept S p))
      ((everywhere (roomy S.rest)).store (kept S.stray p) i j h k);
}
