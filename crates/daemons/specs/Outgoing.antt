-- What the outgoing buffer holds after a taken event.
-- Document 02, K3: "writing one changes only its own bytes there, next after the last record's, and they read back as it."
use Rattle.std.specs.Prelude.{ℕ, ◌+◌, ◌≤◌, ◌≡◌, Bool, List, [], ◌∷◌, map, length, drop}
use Rattle.std.proofs.Math.Option.{some}
use Rattle.base.specs.Bytes.{part_at}
use Rattle.format.specs.Types.{Action, Record, Context, says}
use Rattle.format.specs.Read.{read}
use Rattle.format.specs.Write.{write, record_bytes}
use Rattle.replication.specs.Machine.Types.{Server, taken}
use Rattle.replication.specs.Machine.Step.{step}
use Rattle.replication.specs.Laws.Sending.{Peer}
use Rattle.image.specs.Decode.{read_image}
use Rattle.image.specs.Outcome.{Result, step_on}

-- From `at` on the buffer o holds exactly the writing of r, and every server with the n and q of s reads it as r.
pub record Stands (s : Server) (r : Record) (at : ℕ) (o : List ℕ) : Type 0 where
  pub inside : at + length (write r) ≤ length o
  pub bytes : part_at (length (write r)) o at ≡ write r
  pub reads : (c : Context) → Peer s c → read c (part_at (length (write r)) o at) ≡ says r

-- The records rs stand one after another, the first at `at` and each next after the one before it; behind the last the buffer is as it was.
unfoldable pub StandFrom : Server → (at : ℕ) → List Record → (old new : List ℕ) → Type 0
StandFrom s at [] old new = drop at new ≡ drop at old
StandFrom s at (r ∷ rs) old new = Stands s r at new × StandFrom s (at + length (write r)) rs old new

-- The event e was taken over the buffers b and o, with the result x: what it put out.
pub record Outgoing (b e o : List ℕ) (x : Result) : Type 0 where
  pub before : Server
  pub after : Server
  pub records : List Record
  pub store : Bool
  pub greened : List Action
  pub held : read_image b ≡ some before
  pub answer : step before e ≡ taken after (map write records) store greened
  pub sent : x.sent ≡ length (record_bytes records)
  pub size : length x.out ≡ length o
  pub stand : StandFrom before 0 records o x.out

-- For every event that is taken: the number returned is 0.
unfoldable pub OutgoingRecords : Type 0
OutgoingRecords = (b e o : List ℕ) → (step_on b e o).number ≡ 0 → Outgoing b e o (step_on b e o)
