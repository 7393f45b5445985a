-- What an allowed run may do though a group layer seldom does (OddRun, samples/sources/odd.story): a recovery without a crash, transitional sets of one
-- at servers that both stay up, a transitional configuration before any regular one, a configuration that reaches two of its three members, a request
-- whose record is not sent. samples/odd.bin is its input, samples/odd.txt its output.
use mathlib.Core.Path.{◌≡◌, refl}
use mathlib.Core.Bool.{true}
use mathlib.Core.List.{[], ◌∷◌, map}
use lib.ListN.{replicate}
use Rattle.format.specs.Types.{Action}
use Rattle.replication.specs.Replay.{replay}
use Rattle.replication.specs.Runs.Run.{Run, world_at}
use Rattle.replication.specs.Runs.Allowed.{Allowed}
use Rattle.replication.specs.Runs.Claim.{Agreement, Demand3}
use Rattle.replication.specs.Audit.Opened.{opened}
use Rattle.replication.specs.Audit.Verdict.{audit}
use Rattle.replication.proofs.Runs.Strays.{no_strays}
use Rattle.replication.proofs.Verdicts.Sound.{audit_sound}
use Rattle.replication.proofs.Agreement.Greens.Demand.{demand3}
use Rattle.examples.proofs.Records.{made}
use Rattle.examples.proofs.Rows.{digit, pairs_of, hex, events_in, lines_in, input_of, output_of, run_of}
use Rattle.examples.proofs.OddRun.{servers, quota, rows, witness}

odd : replay 4 16 (input_of (record { servers = servers; quota = quota }) rows) ≡ output_of rows
unfolding opened rows digit pairs_of hex events_in lines_in input_of output_of
odd = refl

unfoldable pub run : Run
run = run_of rows

passes : audit servers quota run witness ≡ true
unfolding opened rows digit pairs_of hex run_of run witness
passes = refl

pub allowed : Allowed servers quota run
allowed = audit_sound servers quota run witness passes

pub agrees : Agreement servers quota run
unfolding Demand3
agrees = demand3 servers quota run (no_strays allowed)

-- ---- what it reaches

abbrev first : Action
first = made 0 1 0 (97 ∷ [])

abbrev second : Action
second = made 1 1 0 (98 ∷ [])

abbrev third : Action
third = made 2 1 2 (99 ∷ [])

-- Green at 1 and not stored there ..
green_before_lem : ((world_at servers quota run 25).images 1).memory.log.green ≡ first ∷ []
unfolding opened rows digit pairs_of hex run_of run
green_before_lem = refl

-- .. and gone by the recovery without a crash, which enters the own one.
gone : ((world_at servers quota run 26).images 1).memory.log.green ≡ []
unfolding opened rows digit pairs_of hex run_of run
gone = refl

entered : ((world_at servers quota run 26).images 1).memory.log.red ≡ second ∷ []
unfolding opened rows digit pairs_of hex run_of run
entered = refl

-- In the end all are green at all.
greens : map (λ i. ((world_at servers quota run 96).images i).memory.log.green) (0 ∷ 1 ∷ 2 ∷ []) ≡ replicate 3 (first ∷ second ∷ third ∷ [])
unfolding opened rows digit pairs_of hex run_of run
greens = refl
