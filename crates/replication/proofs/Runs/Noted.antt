-- Noted lengths over a run.
use Prim.Native.Nat.{ℕ}
use Rattle.replication.specs.Runs.Run.{Run}
use Rattle.replication.specs.Runs.Noted.{NotedRise, NotedInRun, NotedNeverFall}
use Rattle.replication.proofs.Step.Noted.{noted_same, noted_chain, taken_rises}
use Rattle.replication.proofs.Runs.Rising.{store_below_memory, store_rises_between, memory_rises_at}

in_run : (n q : ℕ) (l : Run) (i : ℕ) → NotedInRun n q l i
in_run n q l i = record {
  stored = store_rises_between NotedRise noted_same noted_chain taken_rises n q l i;
  memory = memory_rises_at NotedRise noted_same noted_chain taken_rises n q l i;
  below = store_below_memory NotedRise noted_same noted_chain taken_rises n q l i;
}

pub never_fall : NotedNeverFall
never_fall = record { one_event = taken_rises; run = in_run }
