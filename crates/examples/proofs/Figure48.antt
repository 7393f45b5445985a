-- The thesis's figure 4.8 carried on to a full merge (Figure48Run, samples/sources/figure48.story): p, q and r part, p alone, q and r to s and t. Of five
-- messages sent before, m1 is delivered in the regular configuration by all three and m2 by p alone; p delivers the rest in its transitional
-- configuration, q and r m2 and m4 in theirs, without m3 and so without m5. What p turned green is yellow at q and r, and keeps its place.
use mathlib.Core.Path.{◌≡◌, refl}
use mathlib.Core.Bool.{true}
use mathlib.Core.List.{[], ◌∷◌, map}
use lib.ListN.{replicate}
use Rattle.format.specs.Types.{Action}
use Rattle.replication.specs.Replay.{replay}
use Rattle.replication.specs.Runs.Run.{Run, world_at}
use Rattle.replication.specs.Runs.Allowed.{Allowed}
use Rattle.replication.specs.Runs.Claim.{Agreement, Demand3}
use Rattle.replication.specs.Audit.Opened.{opened}
use Rattle.replication.specs.Audit.Verdict.{audit}
use Rattle.replication.proofs.Runs.Strays.{no_strays}
use Rattle.replication.proofs.Verdicts.Sound.{audit_sound}
use Rattle.replication.proofs.Agreement.Greens.Demand.{demand3}
use Rattle.examples.proofs.Records.{named, made, yellows}
use Rattle.examples.proofs.Rows.{digit, pairs_of, hex, events_in, lines_in, input_of, output_of, run_of}
use Rattle.examples.proofs.Figure48Run.{servers, quota, rows, witness}

-- The program `replay` takes four servers at most, its definition any number.
figure : replay 5 16 (input_of (record { servers = servers; quota = quota }) rows) ≡ output_of rows
unfolding opened rows digit pairs_of hex events_in lines_in input_of output_of
figure = refl

unfoldable pub run : Run
run = run_of rows

passes : audit servers quota run witness ≡ true
unfolding opened rows digit pairs_of hex run_of run witness
passes = refl

pub allowed : Allowed servers quota run
allowed = audit_sound servers quota run witness passes

pub agrees : Agreement servers quota run
unfolding Demand3
agrees = demand3 servers quota run (no_strays allowed)

-- ---- what it reaches

abbrev m1 : Action
m1 = made 0 1 0 (49 ∷ [])

abbrev m2 : Action
m2 = made 1 1 0 (50 ∷ [])

abbrev m3 : Action
m3 = made 0 2 0 (51 ∷ [])

abbrev m4 : Action
m4 = made 2 1 0 (52 ∷ [])

abbrev m5 : Action
m5 = made 0 3 0 (53 ∷ [])

abbrev m' : Action
m' = made 3 1 0 (109 ∷ 39 ∷ [])

-- Where the figure ends: green at p, q and r ..
greens : map (λ i. ((world_at servers quota run 57).images i).memory.log.green) (0 ∷ 1 ∷ 2 ∷ []) ≡ (m1 ∷ m2 ∷ []) ∷ (m1 ∷ []) ∷ (m1 ∷ []) ∷ []
unfolding opened rows digit pairs_of hex run_of run
greens = refl

-- .. and yellow.
yellow : map (λ i. ((world_at servers quota run 57).images i).memory.votes.yellow) (0 ∷ 1 ∷ 2 ∷ [])
    ≡ yellows 1 (named 0 2 ∷ named 2 1 ∷ named 0 3 ∷ [])
    ∷ yellows 1 (named 1 1 ∷ named 2 1 ∷ [])
    ∷ yellows 1 (named 1 1 ∷ named 2 1 ∷ [])
    ∷ []
unfolding opened rows digit pairs_of hex run_of run
yellow = refl

-- In the end all have all.
merged : map (λ i. ((world_at servers quota run 194).images i).memory.log.green) (0 ∷ 1 ∷ 2 ∷ 3 ∷ 4 ∷ [])
    ≡ replicate 5 (m1 ∷ m2 ∷ m4 ∷ m' ∷ m3 ∷ m5 ∷ [])
unfolding opened rows digit pairs_of hex run_of run
merged = refl
