-- An allowed run: servers 1 and 2 attempt a primary component, go down before they know how the attempt ended, come back, meet again, and make one.
-- Both sent the mark of their attempt, so by rule (c) the marks are cleared.
use mathlib.Core.Path.{◌≡◌, refl}
use mathlib.Core.Bool.{true, false}
use mathlib.Core.List.{[], ◌∷◌}
use Rattle.base.specs.Lists.{at, gather}
use Rattle.format.specs.Types.{state, cpc, regular, recovery}
use Rattle.format.specs.Write.{write}
use Rattle.replication.specs.Machine.Types.{Non_prim, Reg_prim, Exchange_states, Construct}
use Rattle.replication.specs.Runs.Run.{event, crash, Run, world_at}
use Rattle.replication.specs.Runs.Allowed.{Allowed}
use Rattle.replication.specs.Audit.Witness.{Witness}
use Rattle.replication.specs.Audit.Verdict.{audit}
use Rattle.replication.proofs.Verdicts.Sound.{audit_sound}
use Rattle.examples.proofs.Records.{sent, primary, unmarked, marked, no_yellow_lem, told}
use Rattle.examples.proofs.Shown.{shows, shown, installed, own_rules, judged, opened}

unfoldable pub run : Run
run =
    event 1 (write (regular 1 6)) 1
    ∷ event 2 (write (regular 1 6)) 1
    ∷ event 1 (write (state (told 1 1 (0 ∷ 0 ∷ 0 ∷ []) 0 0 (primary 0 0 7) unmarked no_yellow_lem))) 0
    ∷ event 2 (write (state (told 1 1 (0 ∷ 0 ∷ 0 ∷ []) 0 0 (primary 0 0 7) unmarked no_yellow_lem))) 0
    ∷ event 1 (write (state (told 2 1 (0 ∷ 0 ∷ 0 ∷ []) 0 0 (primary 0 0 7) unmarked no_yellow_lem))) 1
    ∷ event 2 (write (state (told 2 1 (0 ∷ 0 ∷ 0 ∷ []) 0 0 (primary 0 0 7) unmarked no_yellow_lem))) 1
    ∷ crash 1
    ∷ crash 2
    ∷ event 1 (write recovery) 0
    ∷ event 2 (write recovery) 0
    ∷ event 1 (write (regular 2 6)) 1
    ∷ event 2 (write (regular 2 6)) 1
    ∷ event 1 (write (state (told 1 2 (0 ∷ 0 ∷ 0 ∷ []) 0 1 (primary 0 0 7) (marked 0 1 6 0) no_yellow_lem))) 0
    ∷ event 2 (write (state (told 1 2 (0 ∷ 0 ∷ 0 ∷ []) 0 1 (primary 0 0 7) (marked 0 1 6 0) no_yellow_lem))) 0
    ∷ event 1 (write (state (told 2 2 (0 ∷ 0 ∷ 0 ∷ []) 0 1 (primary 0 0 7) (marked 0 1 6 0) no_yellow_lem))) 1
    ∷ event 2 (write (state (told 2 2 (0 ∷ 0 ∷ 0 ∷ []) 0 1 (primary 0 0 7) (marked 0 1 6 0) no_yellow_lem))) 1
    ∷ event 1 (write (cpc 1 2)) 0
    ∷ event 2 (write (cpc 1 2)) 0
    ∷ event 1 (write (cpc 2 2)) 0
    ∷ event 2 (write (cpc 2 2)) 0
    ∷ []

unfoldable pub witness : Witness
witness = record {
  sources =
      sent 0 0 ∷ sent 0 0 ∷ sent 0 0 ∷ sent 0 0 ∷ sent 1 0 ∷ sent 1 0 ∷ sent 0 0 ∷ sent 0 0 ∷ sent 0 0 ∷ sent 0 0
      ∷ sent 0 0 ∷ sent 0 0 ∷ sent 10 0 ∷ sent 10 0 ∷ sent 11 0 ∷ sent 11 0 ∷ sent 14 0 ∷ sent 14 0 ∷ sent 15 0 ∷ sent 15 0
      ∷ [];
  names = [];
  ords =
      0 ∷ 0 ∷ 3 ∷ 3 ∷ 4 ∷ 4 ∷ 7 ∷ 8 ∷ 9 ∷ 10
      ∷ 11 ∷ 11 ∷ 14 ∷ 14 ∷ 15 ∷ 15 ∷ 18 ∷ 18 ∷ 19 ∷ 19
      ∷ [];
  sending_ords =
      (1 ∷ []) ∷ (2 ∷ []) ∷ [] ∷ [] ∷ (5 ∷ []) ∷ (6 ∷ []) ∷ [] ∷ [] ∷ [] ∷ []
      ∷ (12 ∷ []) ∷ (13 ∷ []) ∷ [] ∷ [] ∷ (16 ∷ []) ∷ (17 ∷ []) ∷ [] ∷ [] ∷ [] ∷ []
      ∷ [];
}

passes : audit 3 4 run witness ≡ true
unfolding opened run witness
passes = refl

pub allowed : Allowed 3 4 run
allowed = audit_sound 3 4 run witness passes

-- ---- what it reaches

installs : installed 3 4 run ≡ primary 1 2 6 ∷ primary 1 2 6 ∷ []
unfolding opened run
installs = refl

-- Server 1 attempts (4), is back from a crash (8), meets 2 again (10), attempts again (14) and has the primary component (18).
reaches : gather (at (shown 3 4 run)) (4 ∷ 8 ∷ 10 ∷ 14 ∷ 18 ∷ [])
    ≡ shows 1 Construct 0 0
    ∷ shows 1 Non_prim 0 0
    ∷ shows 1 Exchange_states 0 0
    ∷ shows 1 Construct 0 0
    ∷ shows 1 Reg_prim 0 1
    ∷ []
unfolding opened run
reaches = refl

-- What server 1 judges at 14: its State is marked, and cleared by (c) alone.
cleared_by_c : own_rules ((world_at 3 4 run 15).images 1).memory ≡ true ∷ false ∷ false ∷ true ∷ []
unfolding opened run
cleared_by_c = refl

cleared_by_c_mark : judged ((world_at 3 4 run 15).images 1).memory ≡ unmarked
unfolding opened run
cleared_by_c_mark = refl
