-- What the code of a step may rely on in lent buffers, and records put into the outgoing one.
use Rattle.std.specs.Prelude.{ℕ, ◌≤◌, ◌≡◌, List, length}
use Rattle.base.specs.Bytes.{over}
use Rattle.format.specs.Types.{Record}
use Rattle.format.specs.Write.{record_bytes}
use Rattle.replication.specs.Machine.Types.{Server}
use Rattle.image.specs.Layout.{out_length}
use Rattle.image.specs.Holding.{Holds}

-- The buffer b holds a state of which P is known, and o has room for all that an event puts out.
pub record LentSuch (P : Server → Type 0) (b o : List ℕ) : Type 0 where
  pub state : Server
  pub holds : Holds state b
  pub fact : P state
  pub room : out_length state.servers state.quota ≤ length o

-- These records of the state that b holds are put at the front of the outgoing buffer, r bytes.
abbrev pub PutsRecords : (Server → List Record) → (r : ℕ) → (b o o' : List ℕ) → Type 0
PutsRecords f r b o o' = (s : Server) → Holds s b → (r ≡ length (record_bytes (f s))) × (o' ≡ over (record_bytes (f s)) o)
