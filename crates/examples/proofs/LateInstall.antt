-- An allowed run: three servers attempt a primary component. Server 0 installs it and sends an action; 1 and 2 are cut off before the last CPC and get
-- it in their transitional configurations, and 1 the action too: it installs from Un. Server 2 goes on from Un with its mark. Then 0 and 1 meet, both
-- with a valid yellow list, and the action turns green with the next primary component.
use mathlib.Core.Path.{◌≡◌, refl}
use mathlib.Core.Bool.{true, false}
use mathlib.Core.List.{[], ◌∷◌}
use Rattle.base.specs.Lists.{at, gather}
use Rattle.format.specs.Types.{action, state, cpc, regular, transitional, request}
use Rattle.format.specs.Write.{write}
use Rattle.replication.specs.Machine.Types.{Non_prim, Reg_prim, Trans_prim, Exchange_states, Construct, No, Un}
use Rattle.replication.specs.Runs.Run.{event, Run, world_at}
use Rattle.replication.specs.Runs.Allowed.{Allowed}
use Rattle.replication.specs.Audit.Witness.{Witness}
use Rattle.replication.specs.Audit.Verdict.{audit}
use Rattle.replication.proofs.Verdicts.Sound.{audit_sound}
use Rattle.examples.proofs.Records.{sent, named, made, primary, unmarked, marked, no_yellow_lem, yellows, told}
use Rattle.examples.proofs.Shown.{shows, shown, installed, own_rules, judged, opened}

unfoldable pub run : Run
run =
    event 0 (write (regular 1 7)) 1
    ∷ event 1 (write (regular 1 7)) 1
    ∷ event 2 (write (regular 1 7)) 1
    ∷ event 0 (write (state (told 0 1 (0 ∷ 0 ∷ 0 ∷ []) 0 0 (primary 0 0 7) unmarked no_yellow_lem))) 0
    ∷ event 1 (write (state (told 0 1 (0 ∷ 0 ∷ 0 ∷ []) 0 0 (primary 0 0 7) unmarked no_yellow_lem))) 0
    ∷ event 2 (write (state (told 0 1 (0 ∷ 0 ∷ 0 ∷ []) 0 0 (primary 0 0 7) unmarked no_yellow_lem))) 0
    ∷ event 0 (write (state (told 1 1 (0 ∷ 0 ∷ 0 ∷ []) 0 0 (primary 0 0 7) unmarked no_yellow_lem))) 0
    ∷ event 1 (write (state (told 1 1 (0 ∷ 0 ∷ 0 ∷ []) 0 0 (primary 0 0 7) unmarked no_yellow_lem))) 0
    ∷ event 2 (write (state (told 1 1 (0 ∷ 0 ∷ 0 ∷ []) 0 0 (primary 0 0 7) unmarked no_yellow_lem))) 0
    ∷ event 0 (write (state (told 2 1 (0 ∷ 0 ∷ 0 ∷ []) 0 0 (primary 0 0 7) unmarked no_yellow_lem))) 1
    ∷ event 1 (write (state (told 2 1 (0 ∷ 0 ∷ 0 ∷ []) 0 0 (primary 0 0 7) unmarked no_yellow_lem))) 1
    ∷ event 2 (write (state (told 2 1 (0 ∷ 0 ∷ 0 ∷ []) 0 0 (primary 0 0 7) unmarked no_yellow_lem))) 1
    ∷ event 0 (write (cpc 0 1)) 0
    ∷ event 0 (write (cpc 1 1)) 0
    ∷ event 0 (write (cpc 2 1)) 0
    ∷ event 0 (write (request (65 ∷ []))) 1
    ∷ event 0 (write (transitional 1)) 0
    ∷ event 0 (write (action (made 0 1 0 (65 ∷ [])))) 0
    ∷ event 1 (write (transitional 2)) 0
    ∷ event 1 (write (cpc 0 1)) 0
    ∷ event 1 (write (cpc 1 1)) 0
    ∷ event 1 (write (cpc 2 1)) 0
    ∷ event 1 (write (action (made 0 1 0 (65 ∷ [])))) 0
    ∷ event 2 (write (transitional 4)) 0
    ∷ event 2 (write (cpc 0 1)) 0
    ∷ event 2 (write (cpc 1 1)) 0
    ∷ event 2 (write (cpc 2 1)) 0
    ∷ event 2 (write (regular 2 4)) 1
    ∷ event 2 (write (state (told 2 2 (0 ∷ 0 ∷ 0 ∷ []) 0 1 (primary 0 0 7) (marked 0 1 7 0) no_yellow_lem))) 0
    ∷ event 0 (write (regular 3 3)) 1
    ∷ event 1 (write (regular 3 3)) 1
    ∷ event 0 (write (state (told 0 3 (1 ∷ 0 ∷ 0 ∷ []) 0 0 (primary 1 1 7) unmarked (yellows 1 (named 0 1 ∷ []))))) 0
    ∷ event 1 (write (state (told 0 3 (1 ∷ 0 ∷ 0 ∷ []) 0 0 (primary 1 1 7) unmarked (yellows 1 (named 0 1 ∷ []))))) 0
    ∷ event 0 (write (state (told 1 3 (1 ∷ 0 ∷ 0 ∷ []) 0 0 (primary 1 1 7) unmarked (yellows 1 (named 0 1 ∷ []))))) 1
    ∷ event 1 (write (state (told 1 3 (1 ∷ 0 ∷ 0 ∷ []) 0 0 (primary 1 1 7) unmarked (yellows 1 (named 0 1 ∷ []))))) 1
    ∷ event 0 (write (cpc 0 3)) 0
    ∷ event 1 (write (cpc 0 3)) 0
    ∷ event 0 (write (cpc 1 3)) 0
    ∷ event 1 (write (cpc 1 3)) 0
    ∷ []

unfoldable pub witness : Witness
witness = record {
  sources =
      sent 0 0 ∷ sent 0 0 ∷ sent 0 0 ∷ sent 0 0 ∷ sent 0 0 ∷ sent 0 0 ∷ sent 1 0 ∷ sent 1 0 ∷ sent 1 0 ∷ sent 2 0
      ∷ sent 2 0 ∷ sent 2 0 ∷ sent 9 0 ∷ sent 10 0 ∷ sent 11 0 ∷ sent 0 0 ∷ sent 0 0 ∷ sent 15 0 ∷ sent 0 0 ∷ sent 9 0
      ∷ sent 10 0 ∷ sent 11 0 ∷ sent 15 0 ∷ sent 0 0 ∷ sent 9 0 ∷ sent 10 0 ∷ sent 11 0 ∷ sent 0 0 ∷ sent 27 0 ∷ sent 0 0
      ∷ sent 0 0 ∷ sent 29 0 ∷ sent 29 0 ∷ sent 30 0 ∷ sent 30 0 ∷ sent 33 0 ∷ sent 33 0 ∷ sent 34 0 ∷ sent 34 0
      ∷ [];
  names =
      0 ∷ 0 ∷ 0 ∷ 0 ∷ 0 ∷ 0 ∷ 0 ∷ 0 ∷ 0 ∷ 0
      ∷ 0 ∷ 0 ∷ 0 ∷ 0 ∷ 0 ∷ 0 ∷ 1 ∷ 0 ∷ 2 ∷ 0
      ∷ 0 ∷ 0 ∷ 0 ∷ 3 ∷ 0 ∷ 0 ∷ 0 ∷ 0 ∷ 0 ∷ 0
      ∷ 0 ∷ 0 ∷ 0 ∷ 0 ∷ 0 ∷ 0 ∷ 0 ∷ 0 ∷ 0
      ∷ [];
  ords =
      0 ∷ 0 ∷ 0 ∷ 4 ∷ 4 ∷ 4 ∷ 5 ∷ 5 ∷ 5 ∷ 6
      ∷ 6 ∷ 6 ∷ 12 ∷ 13 ∷ 14 ∷ 15 ∷ 17 ∷ 18 ∷ 10 ∷ 12
      ∷ 13 ∷ 14 ∷ 18 ∷ 11 ∷ 12 ∷ 13 ∷ 14 ∷ 19 ∷ 21 ∷ 22
      ∷ 22 ∷ 25 ∷ 25 ∷ 26 ∷ 26 ∷ 29 ∷ 29 ∷ 30 ∷ 30
      ∷ [];
  sending_ords =
      (1 ∷ []) ∷ (2 ∷ []) ∷ (3 ∷ []) ∷ [] ∷ [] ∷ [] ∷ [] ∷ [] ∷ [] ∷ (7 ∷ [])
      ∷ (8 ∷ []) ∷ (9 ∷ []) ∷ [] ∷ [] ∷ [] ∷ (16 ∷ []) ∷ [] ∷ [] ∷ [] ∷ []
      ∷ [] ∷ [] ∷ [] ∷ [] ∷ [] ∷ [] ∷ [] ∷ (20 ∷ []) ∷ [] ∷ (23 ∷ [])
      ∷ (24 ∷ []) ∷ [] ∷ [] ∷ (27 ∷ []) ∷ (28 ∷ []) ∷ [] ∷ [] ∷ [] ∷ []
      ∷ [];
}

passes : audit 3 4 run witness ≡ true
unfolding opened run witness
passes = refl

pub allowed : Allowed 3 4 run
allowed = audit_sound 3 4 run witness passes

-- ---- what it reaches

installs : installed 3 4 run ≡ primary 1 1 7 ∷ primary 1 1 7 ∷ primary 2 1 3 ∷ primary 2 1 3 ∷ []
unfolding opened run
installs = refl

-- Server 0 attempts (9), installs (14), leaves (16); 1 leaves (18), has all CPCs (21), installs (22); 2 has all CPCs (26) and alone no quorum (28); 0
-- meets 1 (29), attempts (33), installs (37).
reaches : gather (at (shown 3 4 run)) (9 ∷ 14 ∷ 16 ∷ 18 ∷ 21 ∷ 22 ∷ 26 ∷ 28 ∷ 29 ∷ 33 ∷ 37 ∷ [])
    ≡ shows 0 Construct 0 0
    ∷ shows 0 Reg_prim 0 1
    ∷ shows 0 Trans_prim 0 1
    ∷ shows 1 No 0 0
    ∷ shows 1 Un 0 0
    ∷ shows 1 Trans_prim 0 1
    ∷ shows 2 Un 0 0
    ∷ shows 2 Non_prim 0 0
    ∷ shows 0 Exchange_states 0 1
    ∷ shows 0 Construct 0 1
    ∷ shows 0 Reg_prim 1 2
    ∷ []
unfolding opened run
reaches = refl

-- The yellow list at the end of the exchange at 33.
valid_yellow_lem : ((world_at 3 4 run 34).images 0).memory.votes.yellow ≡ yellows 1 (named 0 1 ∷ [])
unfolding opened run
valid_yellow_lem = refl

-- What server 2 judges at 28: its mark is kept, with its own bit.
kept : own_rules ((world_at 3 4 run 29).images 2).memory ≡ true ∷ false ∷ false ∷ false ∷ []
unfolding opened run
kept = refl

kept_mark_lem : judged ((world_at 3 4 run 29).images 2).memory ≡ marked 0 1 7 4
unfolding opened run
kept_mark_lem = refl
