-- A run at three servers that reaches all eight states (PartitionRun, samples/sources/partition.story): partitions, merges, a crash whose recovery enters an
-- action of the own list, four primary components, one of them installed from Un too. It is allowed with strays, which are its events refused 5 or 6.
-- samples/partition.bin is its input, samples/partition.txt its output.
use mathlib.Core.Path.{◌≡◌, refl}
use mathlib.Core.Bool.{true}
use Rattle.replication.specs.Replay.{replay}
use Rattle.replication.specs.Runs.Run.{Run}
use Rattle.replication.specs.Runs.Strays.{AllowedWithStraysUp}
use Rattle.replication.specs.Runs.Claim.{Agreement, Demand3}
use Rattle.replication.specs.Audit.Opened.{opened}
use Rattle.replication.specs.Audit.Strays.{audit_with_strays}
use Rattle.replication.proofs.Verdicts.Strays.{strays_sound}
use Rattle.replication.proofs.Agreement.Greens.Demand.{demand3}
use Rattle.examples.proofs.Rows.{digit, pairs_of, hex, events_in, lines_in, input_of, output_of, run_of}
use Rattle.examples.proofs.PartitionRun.{servers, quota, rows, strays, witness}

pub partition : replay 4 16 (input_of (record { servers = servers; quota = quota }) rows) ≡ output_of rows
unfolding opened rows digit pairs_of hex events_in lines_in input_of output_of
partition = refl

unfoldable pub run : Run
run = run_of rows

passes : audit_with_strays servers quota run strays witness ≡ true
unfolding opened rows digit pairs_of hex run_of run strays witness
passes = refl

-- Allowed without its strays ..
pub allowed : AllowedWithStraysUp servers quota run
allowed = strays_sound servers quota run strays witness passes

-- .. and with them all agree.
pub agrees : Agreement servers quota run
unfolding Demand3
agrees = demand3 servers quota run allowed.allowed
