-- Facts of both images of a server, and what ties one moment's images to the next's.
use Rattle.std.specs.Prelude.{ℕ, List}
use Rattle.replication.specs.Machine.Types.{Server}
use Rattle.replication.specs.Images.{Images, arrive, left_by}

-- P holds of the state in memory and of the stored one.
pub record OfBoth (P : Server → Type 0) (i : Images) : Type 0 where
  pub memory : P i.memory
  pub store : P i.store

-- What a server has after one more event.
unfoldable pub next : Images → List ℕ → Images
next i e = left_by (arrive i e) i
