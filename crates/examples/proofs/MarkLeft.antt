-- An allowed run: three servers attempt a primary component. Server 0 installs it; 1 and 2 are cut off before the last CPC, which comes to them in their
-- transitional configuration, and go on from Un with their marks. They meet without 0: nothing says whether 0 has installed, and the marks are left.
use mathlib.Core.Path.{◌≡◌, refl}
use mathlib.Core.Bool.{true}
use mathlib.Core.List.{[], ◌∷◌}
use Rattle.format.specs.Types.{state, cpc, regular, transitional}
use Rattle.format.specs.Write.{write}
use Rattle.replication.specs.Runs.Run.{event, Run, world_at}
use Rattle.replication.specs.Runs.Allowed.{Allowed}
use Rattle.replication.specs.Audit.Witness.{Witness}
use Rattle.replication.specs.Audit.Verdict.{audit}
use Rattle.replication.proofs.Verdicts.Sound.{audit_sound}
use Rattle.examples.proofs.Records.{sent, primary, unmarked, marked, no_yellow_lem, told}
use Rattle.examples.proofs.Shown.{installed, judged, opened}

unfoldable pub run : Run
run =
    event 0 (write (regular 1 7)) 1
    ∷ event 1 (write (regular 1 7)) 1
    ∷ event 2 (write (regular 1 7)) 1
    ∷ event 0 (write (state (told 0 1 (0 ∷ 0 ∷ 0 ∷ []) 0 0 (primary 0 0 7) unmarked no_yellow_lem))) 0
    ∷ event 0 (write (state (told 1 1 (0 ∷ 0 ∷ 0 ∷ []) 0 0 (primary 0 0 7) unmarked no_yellow_lem))) 0
    ∷ event 0 (write (state (told 2 1 (0 ∷ 0 ∷ 0 ∷ []) 0 0 (primary 0 0 7) unmarked no_yellow_lem))) 1
    ∷ event 1 (write (state (told 0 1 (0 ∷ 0 ∷ 0 ∷ []) 0 0 (primary 0 0 7) unmarked no_yellow_lem))) 0
    ∷ event 1 (write (state (told 1 1 (0 ∷ 0 ∷ 0 ∷ []) 0 0 (primary 0 0 7) unmarked no_yellow_lem))) 0
    ∷ event 1 (write (state (told 2 1 (0 ∷ 0 ∷ 0 ∷ []) 0 0 (primary 0 0 7) unmarked no_yellow_lem))) 1
    ∷ event 2 (write (state (told 0 1 (0 ∷ 0 ∷ 0 ∷ []) 0 0 (primary 0 0 7) unmarked no_yellow_lem))) 0
    ∷ event 2 (write (state (told 1 1 (0 ∷ 0 ∷ 0 ∷ []) 0 0 (primary 0 0 7) unmarked no_yellow_lem))) 0
    ∷ event 2 (write (state (told 2 1 (0 ∷ 0 ∷ 0 ∷ []) 0 0 (primary 0 0 7) unmarked no_yellow_lem))) 1
    ∷ event 0 (write (cpc 0 1)) 0
    ∷ event 0 (write (cpc 1 1)) 0
    ∷ event 0 (write (cpc 2 1)) 0
    ∷ event 1 (write (cpc 0 1)) 0
    ∷ event 1 (write (cpc 1 1)) 0
    ∷ event 2 (write (cpc 0 1)) 0
    ∷ event 2 (write (cpc 1 1)) 0
    ∷ event 1 (write (transitional 6)) 0
    ∷ event 2 (write (transitional 6)) 0
    ∷ event 1 (write (cpc 2 1)) 0
    ∷ event 2 (write (cpc 2 1)) 0
    ∷ event 1 (write (regular 2 6)) 1
    ∷ event 2 (write (regular 2 6)) 1
    ∷ event 1 (write (state (told 1 2 (0 ∷ 0 ∷ 0 ∷ []) 0 1 (primary 0 0 7) (marked 0 1 7 0) no_yellow_lem))) 0
    ∷ event 1 (write (state (told 2 2 (0 ∷ 0 ∷ 0 ∷ []) 0 1 (primary 0 0 7) (marked 0 1 7 0) no_yellow_lem))) 0
    ∷ event 2 (write (state (told 1 2 (0 ∷ 0 ∷ 0 ∷ []) 0 1 (primary 0 0 7) (marked 0 1 7 0) no_yellow_lem))) 0
    ∷ event 2 (write (state (told 2 2 (0 ∷ 0 ∷ 0 ∷ []) 0 1 (primary 0 0 7) (marked 0 1 7 0) no_yellow_lem))) 0
    ∷ []

unfoldable pub witness : Witness
witness = record {
  sources =
      sent 0 0 ∷ sent 0 0 ∷ sent 0 0 ∷ sent 0 0 ∷ sent 1 0 ∷ sent 2 0 ∷ sent 0 0 ∷ sent 1 0 ∷ sent 2 0 ∷ sent 0 0
      ∷ sent 1 0 ∷ sent 2 0 ∷ sent 5 0 ∷ sent 8 0 ∷ sent 11 0 ∷ sent 5 0 ∷ sent 8 0 ∷ sent 5 0 ∷ sent 8 0 ∷ sent 0 0
      ∷ sent 0 0 ∷ sent 11 0 ∷ sent 11 0 ∷ sent 0 0 ∷ sent 0 0 ∷ sent 23 0 ∷ sent 24 0 ∷ sent 23 0 ∷ sent 24 0
      ∷ [];
  names =
      0 ∷ 0 ∷ 0 ∷ 0 ∷ 0 ∷ 0 ∷ 0 ∷ 0 ∷ 0 ∷ 0 ∷ 0 ∷ 0 ∷ 0 ∷ 0 ∷ 0 ∷ 0 ∷ 0 ∷ 0 ∷ 0 ∷ 1
      ∷ 1 ∷ 0 ∷ 0 ∷ 0 ∷ 0 ∷ 0 ∷ 0 ∷ 0 ∷ 0
      ∷ [];
  ords =
      0 ∷ 0 ∷ 0 ∷ 4 ∷ 5 ∷ 6 ∷ 4 ∷ 5 ∷ 6 ∷ 4 ∷ 5 ∷ 6 ∷ 10 ∷ 11 ∷ 13 ∷ 10 ∷ 11 ∷ 10 ∷ 11 ∷ 12
      ∷ 12 ∷ 13 ∷ 13 ∷ 14 ∷ 14 ∷ 17 ∷ 18 ∷ 17 ∷ 18
      ∷ [];
  sending_ords =
      (1 ∷ []) ∷ (2 ∷ []) ∷ (3 ∷ []) ∷ [] ∷ [] ∷ (7 ∷ []) ∷ [] ∷ [] ∷ (8 ∷ []) ∷ []
      ∷ [] ∷ (9 ∷ []) ∷ [] ∷ [] ∷ [] ∷ [] ∷ [] ∷ [] ∷ [] ∷ []
      ∷ [] ∷ [] ∷ [] ∷ (15 ∷ []) ∷ (16 ∷ []) ∷ [] ∷ [] ∷ [] ∷ []
      ∷ [];
}

passes : audit 3 4 run witness ≡ true
unfolding opened run witness
passes = refl

pub allowed : Allowed 3 4 run
allowed = audit_sound 3 4 run witness passes

-- ---- what it reaches

installs : installed 3 4 run ≡ primary 1 1 7 ∷ []
unfolding opened run
installs = refl

-- What server 1 judges at 26: its mark is kept, with the bits of both.
kept_mark_lem : judged ((world_at 3 4 run 27).images 1).memory ≡ marked 0 1 7 6
unfolding opened run
kept_mark_lem = refl
