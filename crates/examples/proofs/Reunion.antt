-- Three depots together, apart, one down, and together again (ReunionRun, samples/sources/reunion.story). samples/reunion.bin is its input,
-- samples/reunion.txt its output.
use mathlib.Core.Path.{◌≡◌, refl}
use mathlib.Core.Bool.{true}
use Rattle.replication.specs.Replay.{replay}
use Rattle.replication.specs.Runs.Run.{Run}
use Rattle.replication.specs.Runs.Allowed.{Allowed}
use Rattle.replication.specs.Audit.Opened.{opened}
use Rattle.replication.specs.Audit.Verdict.{audit}
use Rattle.replication.proofs.Verdicts.Sound.{audit_sound}
use Rattle.examples.proofs.Rows.{digit, pairs_of, hex, events_in, lines_in, input_of, output_of, run_of}
use Rattle.examples.proofs.ReunionRun.{servers, quota, rows, witness}

reunion : replay 4 16 (input_of (record { servers = servers; quota = quota }) rows) ≡ output_of rows
unfolding opened rows digit pairs_of hex events_in lines_in input_of output_of
reunion = refl

unfoldable pub run : Run
run = run_of rows

passes : audit servers quota run witness ≡ true
unfolding opened rows digit pairs_of hex run_of run witness
passes = refl

pub allowed : Allowed servers quota run
allowed = audit_sound servers quota run witness passes
