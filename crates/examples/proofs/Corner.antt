-- Document 02, K4 (CornerRun, samples/sources/corner.story): a corner keyed while States are exchanged, a power cut before it is sent, and the corner
-- green at all in the end; another keyed in Construct, and sent when Install leads to Reg_prim. samples/corner.bin is its input, samples/corner.txt its
-- output.
use mathlib.Core.Path.{◌≡◌, refl}
use mathlib.Core.Bool.{true}
use mathlib.Core.List.{[], ◌∷◌, map}
use lib.ListN.{replicate}
use Rattle.format.specs.Types.{Action}
use Rattle.replication.specs.Replay.{replay}
use Rattle.replication.specs.Runs.Run.{Run, world_at}
use Rattle.replication.specs.Runs.Allowed.{Allowed}
use Rattle.replication.specs.Audit.Opened.{opened}
use Rattle.replication.specs.Audit.Verdict.{audit}
use Rattle.replication.proofs.Verdicts.Sound.{audit_sound}
use Rattle.examples.proofs.Records.{made}
use Rattle.examples.proofs.Rows.{digit, pairs_of, hex, events_in, lines_in, input_of, output_of, run_of}
use Rattle.examples.proofs.CornerRun.{servers, quota, rows, witness}

corner : replay 4 16 (input_of (record { servers = servers; quota = quota }) rows) ≡ output_of rows
unfolding opened rows digit pairs_of hex events_in lines_in input_of output_of
corner = refl

unfoldable pub run : Run
run = run_of rows

passes : audit servers quota run witness ≡ true
unfolding opened rows digit pairs_of hex run_of run witness
passes = refl

pub allowed : Allowed servers quota run
allowed = audit_sound servers quota run witness passes

-- ---- what becomes of the corners

-- K is keyed at 1 with nothing green, L at 0 likewise.
abbrev keyed : Action
keyed = made 1 1 0 (75 ∷ [])

abbrev later : Action
later = made 0 1 0 (76 ∷ [])

-- Before the power cut K is on the own list, in memory and store, and nothing is sent.
waits : ((world_at servers quota run 31).images 1).store.log.own ≡ keyed ∷ []
unfolding opened rows digit pairs_of hex run_of run
waits = refl

unsent : ((world_at servers quota run 31).images 1).store.log.sent ≡ 0
unfolding opened rows digit pairs_of hex run_of run
unsent = refl

-- After it K is red.
entered : ((world_at servers quota run 37).images 1).memory.log.red ≡ keyed ∷ []
unfolding opened rows digit pairs_of hex run_of run
entered = refl

-- In the end both are green at all.
greens : map (λ i. ((world_at servers quota run 65).images i).memory.log.green) (0 ∷ 1 ∷ 2 ∷ []) ≡ replicate 3 (keyed ∷ later ∷ [])
unfolding opened rows digit pairs_of hex run_of run
greens = refl
