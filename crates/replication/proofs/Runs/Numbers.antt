-- A server keeps its own number, the number of servers and the quota; its images are well-formed at every place.
use Prim.Native.Nat.{ℕ, ◌<◌}
use mathlib.Core.Path.{◌≡◌}
use mathlib.Core.Bool.{true}
use Rattle.format.specs.Range.{sizes_ok}
use Rattle.replication.specs.Machine.Types.{Server, start}
use Rattle.replication.specs.Machine.WellFormed.{well_formed}
use Rattle.replication.proofs.WellFormed.Clauses.{Invariant}
use Rattle.replication.specs.Laws.Images.{OfBoth}
use Rattle.replication.specs.Laws.Order.{SameServer}
use Rattle.replication.specs.Runs.Run.{Run, world_at}
use Rattle.replication.proofs.Step.Identity.{identity}
use Rattle.replication.proofs.WellFormed.Runs.{lived_invariant, lived_well_formed}
use Rattle.replication.proofs.Runs.Lived.{at_place}

-- Server i of n, with the quota q.
pub record Numbered (n q i : ℕ) (s : Server) : Type 0 where
  pub servers : s.servers ≡ n
  pub quota : s.quota ≡ q
  pub me : s.me ≡ i

-- Both images of the server i, at every place of every run.
pub numbers : (n q i : ℕ) (l : Run) (p : ℕ) → OfBoth (Numbered n q i) ((world_at n q l p).images i)
unfolding start
numbers n q i l p =
    let h = at_place n q l (OfBoth (SameServer (start n q i))) i (identity (start n q i)) p in
    record {
      memory = record { servers = h.memory.servers; quota = h.memory.quota; me = h.memory.me };
      store = record { servers = h.store.servers; quota = h.store.quota; me = h.store.me };
    }

pub invariant_at : (n q i : ℕ) → sizes_ok n q ≡ true → i < n → (l : Run) (p : ℕ) → OfBoth Invariant ((world_at n q l p).images i)
invariant_at n q i h k l p = at_place n q l (OfBoth Invariant) i (lived_invariant n q i h k) p

pub well_formed_at : (n q i : ℕ) → sizes_ok n q ≡ true → i < n → (l : Run) (p : ℕ) → OfBoth (λ s. well_formed s ≡ true) ((world_at n q l p).images i)
well_formed_at n q i h k l p = at_place n q l (OfBoth (λ s. well_formed s ≡ true)) i (lived_well_formed n q i h k) p
