-- What is assumed of a configuration: the green lists that its members had when they took it agree, and each creator's actions stand in them in order.
use Prim.Native.Nat.{ℕ, suc, ◌≤◌, ◌<◌}
use mathlib.Core.List.{List}
use native.Mathlib.Omega.{arith}
use Rattle.base.proofs.Comparable.{Comparable}
use Rattle.format.specs.Types.{Id}
use Rattle.replication.specs.Machine.Types.{Configuration}
use Rattle.replication.specs.Machine.WellFormed.{ids_in}
use Rattle.replication.specs.Runs.Run.{Run}
use Rattle.replication.specs.Runs.Happenings.{Takes}
use Rattle.replication.proofs.Runs.AllowedTurns.{memory_at}
use Rattle.replication.proofs.Agreement.Lists.Fifo.{Fifo}

module _ (n q : ℕ) (l : Run) where
  -- The ids of the green list that the server i has at p.
  abbrev pub green_ids_at : ℕ → ℕ → List Id
  green_ids_at p i = ids_in (memory_at n q l p i).log.green

  -- Of those who took c before t.
  pub record Agreeable (t : ℕ) (c : Configuration) : Type 0 where
    pub comparable : (e f j k : ℕ) → e < t → f < t → Takes n q l e j c → Takes n q l f k c → Comparable (green_ids_at (suc e) j) (green_ids_at (suc f) k)
    pub fifo : (e j : ℕ) → e < t → Takes n q l e j c → Fifo (green_ids_at (suc e) j)

  pub agreeable_earlier : {t u : ℕ} {c : Configuration} → t ≤ u → Agreeable u c → Agreeable t c
  agreeable_earlier h G =
      record { comparable = λ e f j k a b. G.comparable e f j k (omega arith) (omega arith); fifo = λ e j a. G.fifo e j (omega arith) }
