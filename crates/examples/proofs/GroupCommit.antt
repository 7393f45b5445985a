-- An allowed run of a daemon that takes several requests, stores once and then sends: two servers make a primary component, and server 1 takes three
-- requests. The first one's record is sent, then the server goes down. Its store has all three: recovery enters them red.
use mathlib.Core.Path.{◌≡◌, refl}
use mathlib.Core.Bool.{true}
use mathlib.Core.List.{[], ◌∷◌}
use Rattle.format.specs.Types.{action, state, cpc, regular, request, recovery}
use Rattle.format.specs.Write.{write}
use Rattle.replication.specs.Runs.Run.{event, crash, Run, world_at}
use Rattle.replication.specs.Runs.Allowed.{Allowed}
use Rattle.replication.specs.Audit.Witness.{Witness}
use Rattle.replication.specs.Audit.Verdict.{audit}
use Rattle.replication.proofs.Verdicts.Sound.{audit_sound}
use Rattle.examples.proofs.Records.{sent, made, primary, unmarked, no_yellow_lem, told}
use Rattle.examples.proofs.Shown.{opened}

unfoldable pub run : Run
run =
    event 0 (write (regular 1 3)) 1
    ∷ event 1 (write (regular 1 3)) 1
    ∷ event 0 (write (state (told 0 1 (0 ∷ 0 ∷ []) 0 0 (primary 0 0 3) unmarked no_yellow_lem))) 0
    ∷ event 1 (write (state (told 0 1 (0 ∷ 0 ∷ []) 0 0 (primary 0 0 3) unmarked no_yellow_lem))) 0
    ∷ event 0 (write (state (told 1 1 (0 ∷ 0 ∷ []) 0 0 (primary 0 0 3) unmarked no_yellow_lem))) 1
    ∷ event 1 (write (state (told 1 1 (0 ∷ 0 ∷ []) 0 0 (primary 0 0 3) unmarked no_yellow_lem))) 1
    ∷ event 0 (write (cpc 0 1)) 0
    ∷ event 1 (write (cpc 0 1)) 0
    ∷ event 0 (write (cpc 1 1)) 0
    ∷ event 1 (write (cpc 1 1)) 0
    ∷ event 1 (write (request (65 ∷ []))) 1
    ∷ event 1 (write (request (66 ∷ []))) 0
    ∷ event 1 (write (request (67 ∷ []))) 0
    ∷ crash 1
    ∷ event 1 (write recovery) 0
    ∷ event 0 (write (action (made 1 1 0 (65 ∷ [])))) 0
    ∷ []

unfoldable pub witness : Witness
witness = record {
  sources =
      sent 0 0 ∷ sent 0 0 ∷ sent 0 0 ∷ sent 0 0 ∷ sent 1 0 ∷ sent 1 0 ∷ sent 4 0 ∷ sent 4 0 ∷ sent 5 0 ∷ sent 5 0
      ∷ sent 0 0 ∷ sent 0 0 ∷ sent 0 0 ∷ sent 0 0 ∷ sent 0 0 ∷ sent 10 0
      ∷ [];
  names = [];
  ords = 0 ∷ 0 ∷ 3 ∷ 3 ∷ 4 ∷ 4 ∷ 7 ∷ 7 ∷ 8 ∷ 8 ∷ 9 ∷ 11 ∷ 12 ∷ 13 ∷ 14 ∷ 15 ∷ [];
  sending_ords = (1 ∷ []) ∷ (2 ∷ []) ∷ [] ∷ [] ∷ (5 ∷ []) ∷ (6 ∷ []) ∷ [] ∷ [] ∷ [] ∷ [] ∷ (10 ∷ []) ∷ [];
}

passes : audit 2 3 run witness ≡ true
unfolding opened run witness
passes = refl

pub allowed : Allowed 2 3 run
allowed = audit_sound 2 3 run witness passes

-- ---- what it reaches

entered : ((world_at 2 3 run 15).images 1).memory.log.red ≡ made 1 1 0 (65 ∷ []) ∷ made 1 2 0 (66 ∷ []) ∷ made 1 3 0 (67 ∷ []) ∷ []
unfolding opened run
entered = refl

-- Server 0 has the one that was sent, in the primary component.
green : ((world_at 2 3 run 16).images 0).memory.log.green ≡ made 1 1 0 (65 ∷ []) ∷ []
unfolding opened run
green = refl
