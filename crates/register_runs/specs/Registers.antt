-- The registers of a run's servers, in memory and in store, carried on by what each event turns green.
use Rattle.std.specs.Prelude.{ℕ, List, [], ◌∷◌, take}
use Rattle.base.specs.Tests.{pick}
use Rattle.base.specs.Lists.{upd}
use Rattle.format.specs.Read.{read}
use Rattle.replication.specs.Machine.Types.{Outcome, refused, taken, context_of}
use Rattle.replication.specs.Images.{Images, is_recovery, arrive}
use Rattle.replication.specs.Runs.Run.{Entry, event, crash, store, Run, World, beginning, world_after}
use Rattle.pegs.specs.Operations.{Peg}
use Rattle.pegs.specs.Register.{advance}
use Rattle.register_runs.specs.Joint.{payloads}

-- "the register, stored whenever the state is": both are stored as one.
pub record Registers : Type 0 where
  pub memory : List Peg
  pub store : List Peg

unfoldable pub empty_ones : Registers
empty_ones = record { memory = []; store = [] }

-- The register that an event finds: a recovery the stored one, as it finds the stored state.
unfoldable pub source_register : Images → List ℕ → Registers → List Peg
source_register i e r = pick (is_recovery (read (context_of i.memory) e)) r.store r.memory

-- What an outcome leaves, from the register that the event found.
unfoldable pub registers_left : Outcome (List ℕ) → List Peg → Registers → Registers
registers_left (refused k) l r = r
registers_left (taken t rs w g) l r =
    record { memory = advance l (payloads g); store = pick w (advance l (payloads g)) r.store }

unfoldable pub registers_after : World → (ℕ → Registers) → Entry → ℕ → Registers
registers_after w r (event i e k) = upd r i (registers_left (arrive (w.images i) e) (source_register (w.images i) e (r i)) (r i))
registers_after w r (crash i) = r
registers_after w r (store i) = upd r i (record { memory = (r i).memory; store = (r i).memory })

unfoldable pub registers_through : World → (ℕ → Registers) → Run → ℕ → Registers
registers_through w r [] = r
registers_through w r (x ∷ l) = registers_through (world_after w x) (registers_after w r x) l

-- Before the place p, all empty at first.
unfoldable pub registers_at : (n q : ℕ) → Run → ℕ → ℕ → Registers
registers_at n q l p = registers_through (beginning n q) (λ i. empty_ones) (take p l)
