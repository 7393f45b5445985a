-- An allowed run with stores between events: two servers make a primary component and an action green. Server 0 stores; server 1 takes a request whose
-- record is not sent, stores once more, and goes down. Server 0 goes down too: what was green in its store keeps its place.
use mathlib.Core.Path.{◌≡◌, refl}
use mathlib.Core.Bool.{true}
use mathlib.Core.List.{[], ◌∷◌}
use Rattle.format.specs.Types.{action, state, cpc, regular, request, recovery}
use Rattle.format.specs.Write.{write}
use Rattle.replication.specs.Runs.Run.{event, crash, store, Run, world_at}
use Rattle.replication.specs.Runs.Allowed.{Allowed}
use Rattle.replication.specs.Audit.Witness.{Witness}
use Rattle.replication.specs.Audit.Verdict.{audit}
use Rattle.replication.proofs.Verdicts.Sound.{audit_sound}
use Rattle.examples.proofs.Records.{sent, made, primary, unmarked, no_yellow_lem, told}
use Rattle.examples.proofs.Shown.{opened}

unfoldable pub run : Run
run =
    event 0 (write (regular 1 3)) 1
    ∷ event 1 (write (regular 1 3)) 1
    ∷ event 0 (write (state (told 0 1 (0 ∷ 0 ∷ []) 0 0 (primary 0 0 3) unmarked no_yellow_lem))) 0
    ∷ event 1 (write (state (told 0 1 (0 ∷ 0 ∷ []) 0 0 (primary 0 0 3) unmarked no_yellow_lem))) 0
    ∷ event 0 (write (state (told 1 1 (0 ∷ 0 ∷ []) 0 0 (primary 0 0 3) unmarked no_yellow_lem))) 1
    ∷ event 1 (write (state (told 1 1 (0 ∷ 0 ∷ []) 0 0 (primary 0 0 3) unmarked no_yellow_lem))) 1
    ∷ event 0 (write (cpc 0 1)) 0
    ∷ event 1 (write (cpc 0 1)) 0
    ∷ event 0 (write (cpc 1 1)) 0
    ∷ event 1 (write (cpc 1 1)) 0
    ∷ event 0 (write (request (65 ∷ []))) 1
    ∷ event 0 (write (action (made 0 1 0 (65 ∷ [])))) 0
    ∷ event 1 (write (action (made 0 1 0 (65 ∷ [])))) 0
    ∷ store 0
    ∷ event 1 (write (request (66 ∷ []))) 0
    ∷ store 1
    ∷ crash 1
    ∷ crash 0
    ∷ event 0 (write recovery) 0
    ∷ []

unfoldable pub witness : Witness
witness = record {
  sources =
      sent 0 0 ∷ sent 0 0 ∷ sent 0 0 ∷ sent 0 0 ∷ sent 1 0 ∷ sent 1 0 ∷ sent 4 0 ∷ sent 4 0 ∷ sent 5 0 ∷ sent 5 0
      ∷ sent 0 0 ∷ sent 10 0 ∷ sent 10 0
      ∷ [];
  names = [];
  ords = 0 ∷ 0 ∷ 3 ∷ 3 ∷ 4 ∷ 4 ∷ 7 ∷ 7 ∷ 8 ∷ 8 ∷ 9 ∷ 11 ∷ 11 ∷ 12 ∷ 12 ∷ 13 ∷ 14 ∷ 13 ∷ 14 ∷ [];
  sending_ords = (1 ∷ []) ∷ (2 ∷ []) ∷ [] ∷ [] ∷ (5 ∷ []) ∷ (6 ∷ []) ∷ [] ∷ [] ∷ [] ∷ [] ∷ (10 ∷ []) ∷ [];
}

passes : audit 2 2 run witness ≡ true
unfolding opened run witness
passes = refl

pub allowed : Allowed 2 2 run
allowed = audit_sound 2 2 run witness passes

-- ---- what it reaches

-- Green and not stored at server 0 before its store, stored after it, and green after its recovery.
unstored : ((world_at 2 2 run 13).images 0).store.log.green ≡ []
unfolding opened run
unstored = refl

kept : ((world_at 2 2 run 14).images 0).store.log.green ≡ made 0 1 0 (65 ∷ []) ∷ []
unfolding opened run
kept = refl

recovered : ((world_at 2 2 run 19).images 0).memory.log.green ≡ made 0 1 0 (65 ∷ []) ∷ []
unfolding opened run
recovered = refl
