-- An allowed run: server 2 attempts a primary component with 1 and goes down; 1, who knows nothing of it, makes one with 0; server 2 comes back with
-- its mark and meets 0. The primary component that 0 knows is later than the mark and without 2, so by rule (a) the mark is cleared. Server 0 is
-- half of that component's members and the lowest-numbered one: with 2 it makes the next.
use mathlib.Core.Path.{◌≡◌, refl}
use mathlib.Core.Bool.{true, false}
use mathlib.Core.List.{[], ◌∷◌}
use Rattle.base.specs.Lists.{at, gather}
use Rattle.format.specs.Types.{state, cpc, regular, transitional, recovery}
use Rattle.format.specs.Write.{write}
use Rattle.replication.specs.Machine.Types.{Non_prim, Reg_prim, Trans_prim, Construct}
use Rattle.replication.specs.Runs.Run.{event, crash, Run, world_at}
use Rattle.replication.specs.Runs.Allowed.{Allowed}
use Rattle.replication.specs.Audit.Witness.{Witness}
use Rattle.replication.specs.Audit.Verdict.{audit}
use Rattle.replication.proofs.Verdicts.Sound.{audit_sound}
use Rattle.examples.proofs.Records.{sent, primary, unmarked, marked, no_yellow_lem, yellows, told}
use Rattle.examples.proofs.Shown.{shows, shown, installed, own_rules, judged, opened}

unfoldable pub run : Run
run =
    event 1 (write (regular 1 6)) 1
    ∷ event 2 (write (regular 1 6)) 1
    ∷ event 2 (write (state (told 1 1 (0 ∷ 0 ∷ 0 ∷ []) 0 0 (primary 0 0 7) unmarked no_yellow_lem))) 0
    ∷ event 2 (write (state (told 2 1 (0 ∷ 0 ∷ 0 ∷ []) 0 0 (primary 0 0 7) unmarked no_yellow_lem))) 1
    ∷ crash 2
    ∷ event 1 (write (transitional 2)) 0
    ∷ event 1 (write (state (told 1 1 (0 ∷ 0 ∷ 0 ∷ []) 0 0 (primary 0 0 7) unmarked no_yellow_lem))) 0
    ∷ event 1 (write (state (told 2 1 (0 ∷ 0 ∷ 0 ∷ []) 0 0 (primary 0 0 7) unmarked no_yellow_lem))) 0
    ∷ event 0 (write (regular 2 3)) 1
    ∷ event 1 (write (regular 2 3)) 1
    ∷ event 0 (write (state (told 0 2 (0 ∷ 0 ∷ 0 ∷ []) 0 0 (primary 0 0 7) unmarked no_yellow_lem))) 0
    ∷ event 1 (write (state (told 0 2 (0 ∷ 0 ∷ 0 ∷ []) 0 0 (primary 0 0 7) unmarked no_yellow_lem))) 0
    ∷ event 0 (write (state (told 1 2 (0 ∷ 0 ∷ 0 ∷ []) 0 0 (primary 0 0 7) unmarked no_yellow_lem))) 1
    ∷ event 1 (write (state (told 1 2 (0 ∷ 0 ∷ 0 ∷ []) 0 0 (primary 0 0 7) unmarked no_yellow_lem))) 1
    ∷ event 0 (write (cpc 0 2)) 0
    ∷ event 1 (write (cpc 0 2)) 0
    ∷ event 0 (write (cpc 1 2)) 0
    ∷ event 1 (write (cpc 1 2)) 0
    ∷ event 2 (write recovery) 0
    ∷ event 0 (write (transitional 1)) 0
    ∷ event 0 (write (regular 3 5)) 1
    ∷ event 2 (write (regular 3 5)) 1
    ∷ event 0 (write (state (told 0 3 (0 ∷ 0 ∷ 0 ∷ []) 0 0 (primary 1 1 3) unmarked (yellows 1 [])))) 0
    ∷ event 2 (write (state (told 0 3 (0 ∷ 0 ∷ 0 ∷ []) 0 0 (primary 1 1 3) unmarked (yellows 1 [])))) 0
    ∷ event 0 (write (state (told 2 3 (0 ∷ 0 ∷ 0 ∷ []) 0 1 (primary 0 0 7) (marked 0 1 6 0) no_yellow_lem))) 1
    ∷ event 2 (write (state (told 2 3 (0 ∷ 0 ∷ 0 ∷ []) 0 1 (primary 0 0 7) (marked 0 1 6 0) no_yellow_lem))) 1
    ∷ event 0 (write (cpc 0 3)) 0
    ∷ event 2 (write (cpc 0 3)) 0
    ∷ event 0 (write (cpc 2 3)) 0
    ∷ event 2 (write (cpc 2 3)) 0
    ∷ []

unfoldable pub witness : Witness
witness = record {
  sources =
      sent 0 0 ∷ sent 0 0 ∷ sent 0 0 ∷ sent 1 0 ∷ sent 0 0 ∷ sent 0 0 ∷ sent 0 0 ∷ sent 1 0 ∷ sent 0 0 ∷ sent 0 0
      ∷ sent 8 0 ∷ sent 8 0 ∷ sent 9 0 ∷ sent 9 0 ∷ sent 12 0 ∷ sent 12 0 ∷ sent 13 0 ∷ sent 13 0 ∷ sent 0 0 ∷ sent 0 0
      ∷ sent 0 0 ∷ sent 0 0 ∷ sent 20 0 ∷ sent 20 0 ∷ sent 21 0 ∷ sent 21 0 ∷ sent 24 0 ∷ sent 24 0 ∷ sent 25 0 ∷ sent 25 0
      ∷ [];
  names =
      0 ∷ 0 ∷ 0 ∷ 0 ∷ 0 ∷ 1 ∷ 0 ∷ 0 ∷ 0 ∷ 0
      ∷ 0 ∷ 0 ∷ 0 ∷ 0 ∷ 0 ∷ 0 ∷ 0 ∷ 0 ∷ 0 ∷ 2
      ∷ 0 ∷ 0 ∷ 0 ∷ 0 ∷ 0 ∷ 0 ∷ 0 ∷ 0 ∷ 0 ∷ 0
      ∷ [];
  ords =
      0 ∷ 0 ∷ 4 ∷ 5 ∷ 7 ∷ 3 ∷ 4 ∷ 5 ∷ 8 ∷ 8
      ∷ 11 ∷ 11 ∷ 12 ∷ 12 ∷ 15 ∷ 15 ∷ 16 ∷ 16 ∷ 17 ∷ 18
      ∷ 19 ∷ 19 ∷ 22 ∷ 22 ∷ 23 ∷ 23 ∷ 26 ∷ 26 ∷ 27 ∷ 27
      ∷ [];
  sending_ords =
      (1 ∷ []) ∷ (2 ∷ []) ∷ [] ∷ (6 ∷ []) ∷ [] ∷ [] ∷ [] ∷ [] ∷ (9 ∷ []) ∷ (10 ∷ [])
      ∷ [] ∷ [] ∷ (13 ∷ []) ∷ (14 ∷ []) ∷ [] ∷ [] ∷ [] ∷ [] ∷ [] ∷ []
      ∷ (20 ∷ []) ∷ (21 ∷ []) ∷ [] ∷ [] ∷ (24 ∷ []) ∷ (25 ∷ []) ∷ [] ∷ [] ∷ [] ∷ []
      ∷ [];
}

passes : audit 3 4 run witness ≡ true
unfolding opened run witness
passes = refl

pub allowed : Allowed 3 4 run
allowed = audit_sound 3 4 run witness passes

-- ---- what it reaches

installs : installed 3 4 run ≡ primary 1 1 3 ∷ primary 1 1 3 ∷ primary 2 1 5 ∷ primary 2 1 5 ∷ []
unfolding opened run
installs = refl

-- Server 2 attempts (3), 1 leaves (5), 0 has the primary component (16), 2 is back (18), 0 leaves it (19), the exchange with 2 ends (25), and
-- 2 has the next one (29).
reaches : gather (at (shown 3 4 run)) (3 ∷ 5 ∷ 16 ∷ 18 ∷ 19 ∷ 25 ∷ 29 ∷ [])
    ≡ shows 2 Construct 0 0
    ∷ shows 1 Non_prim 0 0
    ∷ shows 0 Reg_prim 0 1
    ∷ shows 2 Non_prim 0 0
    ∷ shows 0 Trans_prim 0 1
    ∷ shows 2 Construct 0 1
    ∷ shows 2 Reg_prim 0 2
    ∷ []
unfolding opened run
reaches = refl

-- What server 2 judges at 25: its State is marked, and cleared by (a) alone.
cleared_by_a : own_rules ((world_at 3 4 run 26).images 2).memory ≡ true ∷ true ∷ false ∷ false ∷ []
unfolding opened run
cleared_by_a = refl

cleared_by_a_mark : judged ((world_at 3 4 run 26).images 2).memory ≡ unmarked
unfolding opened run
cleared_by_a_mark = refl
