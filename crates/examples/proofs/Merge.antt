-- An allowed run: three servers make a primary component and an action green. Server 2 sends another and is cut off; 0 and 1 make the next primary
-- component and a further action green. Server 1 goes down, which loses that green action, comes back and meets 0 and 2: what each lacks is resent,
-- green and red, and the three make the third primary component, with all three actions green.
use mathlib.Core.Path.{◌≡◌, refl}
use mathlib.Core.Bool.{true, false}
use mathlib.Core.List.{[], ◌∷◌}
use Rattle.base.specs.Lists.{at, gather}
use Rattle.format.specs.Types.{action, retransmission, state, cpc, regular, transitional, request, recovery}
use Rattle.format.specs.Write.{write}
use Rattle.replication.specs.Machine.Types.{Non_prim, Reg_prim, Trans_prim, Exchange_actions, Construct}
use Rattle.replication.specs.Runs.Run.{event, crash, Run, world_at}
use Rattle.replication.specs.Runs.Allowed.{Allowed}
use Rattle.replication.specs.Audit.Witness.{Witness}
use Rattle.replication.specs.Audit.Verdict.{audit}
use Rattle.replication.proofs.Verdicts.Sound.{audit_sound}
use Rattle.examples.proofs.Records.{sent, named, made, primary, unmarked, marked, no_yellow_lem, yellows, told}
use Rattle.examples.proofs.Shown.{shows, shown, installed, own_rules, judged, opened}

unfoldable pub run : Run
run =
    event 0 (write (regular 1 7)) 1
    ∷ event 1 (write (regular 1 7)) 1
    ∷ event 2 (write (regular 1 7)) 1
    ∷ event 0 (write (state (told 0 1 (0 ∷ 0 ∷ 0 ∷ []) 0 0 (primary 0 0 7) unmarked no_yellow_lem))) 0
    ∷ event 1 (write (state (told 0 1 (0 ∷ 0 ∷ 0 ∷ []) 0 0 (primary 0 0 7) unmarked no_yellow_lem))) 0
    ∷ event 2 (write (state (told 0 1 (0 ∷ 0 ∷ 0 ∷ []) 0 0 (primary 0 0 7) unmarked no_yellow_lem))) 0
    ∷ event 0 (write (state (told 1 1 (0 ∷ 0 ∷ 0 ∷ []) 0 0 (primary 0 0 7) unmarked no_yellow_lem))) 0
    ∷ event 1 (write (state (told 1 1 (0 ∷ 0 ∷ 0 ∷ []) 0 0 (primary 0 0 7) unmarked no_yellow_lem))) 0
    ∷ event 2 (write (state (told 1 1 (0 ∷ 0 ∷ 0 ∷ []) 0 0 (primary 0 0 7) unmarked no_yellow_lem))) 0
    ∷ event 0 (write (state (told 2 1 (0 ∷ 0 ∷ 0 ∷ []) 0 0 (primary 0 0 7) unmarked no_yellow_lem))) 1
    ∷ event 1 (write (state (told 2 1 (0 ∷ 0 ∷ 0 ∷ []) 0 0 (primary 0 0 7) unmarked no_yellow_lem))) 1
    ∷ event 2 (write (state (told 2 1 (0 ∷ 0 ∷ 0 ∷ []) 0 0 (primary 0 0 7) unmarked no_yellow_lem))) 1
    ∷ event 0 (write (cpc 0 1)) 0
    ∷ event 1 (write (cpc 0 1)) 0
    ∷ event 2 (write (cpc 0 1)) 0
    ∷ event 0 (write (cpc 1 1)) 0
    ∷ event 1 (write (cpc 1 1)) 0
    ∷ event 2 (write (cpc 1 1)) 0
    ∷ event 0 (write (cpc 2 1)) 0
    ∷ event 1 (write (cpc 2 1)) 0
    ∷ event 2 (write (cpc 2 1)) 0
    ∷ event 0 (write (request (65 ∷ []))) 1
    ∷ event 0 (write (action (made 0 1 0 (65 ∷ [])))) 0
    ∷ event 1 (write (action (made 0 1 0 (65 ∷ [])))) 0
    ∷ event 2 (write (action (made 0 1 0 (65 ∷ [])))) 0
    ∷ event 2 (write (request (66 ∷ []))) 1
    ∷ event 0 (write (transitional 3)) 0
    ∷ event 1 (write (transitional 3)) 0
    ∷ event 2 (write (transitional 4)) 0
    ∷ event 2 (write (action (made 2 1 1 (66 ∷ [])))) 0
    ∷ event 2 (write (regular 2 4)) 1
    ∷ event 2 (write (state (told 2 2 (1 ∷ 0 ∷ 1 ∷ []) 1 0 (primary 1 1 7) unmarked (yellows 1 (named 2 1 ∷ []))))) 0
    ∷ event 0 (write (regular 3 3)) 1
    ∷ event 1 (write (regular 3 3)) 1
    ∷ event 0 (write (state (told 0 3 (1 ∷ 0 ∷ 0 ∷ []) 1 0 (primary 1 1 7) unmarked (yellows 1 [])))) 0
    ∷ event 1 (write (state (told 0 3 (1 ∷ 0 ∷ 0 ∷ []) 1 0 (primary 1 1 7) unmarked (yellows 1 [])))) 0
    ∷ event 0 (write (state (told 1 3 (1 ∷ 0 ∷ 0 ∷ []) 1 0 (primary 1 1 7) unmarked (yellows 1 [])))) 1
    ∷ event 1 (write (state (told 1 3 (1 ∷ 0 ∷ 0 ∷ []) 1 0 (primary 1 1 7) unmarked (yellows 1 [])))) 1
    ∷ event 0 (write (cpc 0 3)) 0
    ∷ event 1 (write (cpc 0 3)) 0
    ∷ event 0 (write (cpc 1 3)) 0
    ∷ event 1 (write (cpc 1 3)) 0
    ∷ event 1 (write (request (67 ∷ []))) 1
    ∷ event 0 (write (action (made 1 1 1 (67 ∷ [])))) 0
    ∷ event 1 (write (action (made 1 1 1 (67 ∷ [])))) 0
    ∷ crash 1
    ∷ event 1 (write recovery) 0
    ∷ event 0 (write (transitional 1)) 0
    ∷ event 2 (write (transitional 4)) 0
    ∷ event 0 (write (regular 4 7)) 1
    ∷ event 1 (write (regular 4 7)) 1
    ∷ event 2 (write (regular 4 7)) 1
    ∷ event 0 (write (state (told 0 4 (1 ∷ 1 ∷ 0 ∷ []) 2 0 (primary 2 1 3) unmarked (yellows 1 [])))) 0
    ∷ event 1 (write (state (told 0 4 (1 ∷ 1 ∷ 0 ∷ []) 2 0 (primary 2 1 3) unmarked (yellows 1 [])))) 0
    ∷ event 2 (write (state (told 0 4 (1 ∷ 1 ∷ 0 ∷ []) 2 0 (primary 2 1 3) unmarked (yellows 1 [])))) 0
    ∷ event 0 (write (state (told 1 4 (1 ∷ 1 ∷ 0 ∷ []) 1 0 (primary 2 1 3) (marked 1 1 3 0) no_yellow_lem))) 0
    ∷ event 1 (write (state (told 1 4 (1 ∷ 1 ∷ 0 ∷ []) 1 0 (primary 2 1 3) (marked 1 1 3 0) no_yellow_lem))) 0
    ∷ event 2 (write (state (told 1 4 (1 ∷ 1 ∷ 0 ∷ []) 1 0 (primary 2 1 3) (marked 1 1 3 0) no_yellow_lem))) 0
    ∷ event 0 (write (state (told 2 4 (1 ∷ 0 ∷ 1 ∷ []) 1 0 (primary 1 1 7) unmarked (yellows 1 (named 2 1 ∷ []))))) 2
    ∷ event 1 (write (state (told 2 4 (1 ∷ 0 ∷ 1 ∷ []) 1 0 (primary 1 1 7) unmarked (yellows 1 (named 2 1 ∷ []))))) 0
    ∷ event 2 (write (state (told 2 4 (1 ∷ 0 ∷ 1 ∷ []) 1 0 (primary 1 1 7) unmarked (yellows 1 (named 2 1 ∷ []))))) 1
    ∷ event 0 (write (retransmission 0 2 (made 1 1 1 (67 ∷ [])))) 0
    ∷ event 1 (write (retransmission 0 2 (made 1 1 1 (67 ∷ [])))) 0
    ∷ event 2 (write (retransmission 0 2 (made 1 1 1 (67 ∷ [])))) 0
    ∷ event 0 (write (retransmission 0 0 (made 1 1 1 (67 ∷ [])))) 0
    ∷ event 1 (write (retransmission 0 0 (made 1 1 1 (67 ∷ [])))) 0
    ∷ event 2 (write (retransmission 0 0 (made 1 1 1 (67 ∷ [])))) 0
    ∷ event 0 (write (retransmission 2 0 (made 2 1 1 (66 ∷ [])))) 1
    ∷ event 1 (write (retransmission 2 0 (made 2 1 1 (66 ∷ [])))) 1
    ∷ event 2 (write (retransmission 2 0 (made 2 1 1 (66 ∷ [])))) 1
    ∷ event 0 (write (cpc 0 4)) 0
    ∷ event 1 (write (cpc 0 4)) 0
    ∷ event 2 (write (cpc 0 4)) 0
    ∷ event 0 (write (cpc 1 4)) 0
    ∷ event 1 (write (cpc 1 4)) 0
    ∷ event 2 (write (cpc 1 4)) 0
    ∷ event 0 (write (cpc 2 4)) 0
    ∷ event 1 (write (cpc 2 4)) 0
    ∷ event 2 (write (cpc 2 4)) 0
    ∷ []

unfoldable pub witness : Witness
witness = record {
  sources =
      sent 0 0 ∷ sent 0 0 ∷ sent 0 0 ∷ sent 0 0 ∷ sent 0 0 ∷ sent 0 0 ∷ sent 1 0 ∷ sent 1 0 ∷ sent 1 0 ∷ sent 2 0
      ∷ sent 2 0 ∷ sent 2 0 ∷ sent 9 0 ∷ sent 9 0 ∷ sent 9 0 ∷ sent 10 0 ∷ sent 10 0 ∷ sent 10 0 ∷ sent 11 0 ∷ sent 11 0
      ∷ sent 11 0 ∷ sent 0 0 ∷ sent 21 0 ∷ sent 21 0 ∷ sent 21 0 ∷ sent 0 0 ∷ sent 0 0 ∷ sent 0 0 ∷ sent 0 0 ∷ sent 25 0
      ∷ sent 0 0 ∷ sent 30 0 ∷ sent 0 0 ∷ sent 0 0 ∷ sent 32 0 ∷ sent 32 0 ∷ sent 33 0 ∷ sent 33 0 ∷ sent 36 0 ∷ sent 36 0
      ∷ sent 37 0 ∷ sent 37 0 ∷ sent 0 0 ∷ sent 42 0 ∷ sent 42 0 ∷ sent 0 0 ∷ sent 0 0 ∷ sent 0 0 ∷ sent 0 0 ∷ sent 0 0
      ∷ sent 0 0 ∷ sent 0 0 ∷ sent 49 0 ∷ sent 49 0 ∷ sent 49 0 ∷ sent 50 0 ∷ sent 50 0 ∷ sent 50 0 ∷ sent 51 0 ∷ sent 51 0
      ∷ sent 51 0 ∷ sent 58 0 ∷ sent 58 0 ∷ sent 58 0 ∷ sent 58 1 ∷ sent 58 1 ∷ sent 58 1 ∷ sent 60 0 ∷ sent 60 0 ∷ sent 60 0
      ∷ sent 67 0 ∷ sent 67 0 ∷ sent 67 0 ∷ sent 68 0 ∷ sent 68 0 ∷ sent 68 0 ∷ sent 69 0 ∷ sent 69 0 ∷ sent 69 0
      ∷ [];
  names =
      0 ∷ 0 ∷ 0 ∷ 0 ∷ 0 ∷ 0 ∷ 0 ∷ 0 ∷ 0 ∷ 0
      ∷ 0 ∷ 0 ∷ 0 ∷ 0 ∷ 0 ∷ 0 ∷ 0 ∷ 0 ∷ 0 ∷ 0
      ∷ 0 ∷ 0 ∷ 0 ∷ 0 ∷ 0 ∷ 0 ∷ 1 ∷ 1 ∷ 2 ∷ 0
      ∷ 0 ∷ 0 ∷ 0 ∷ 0 ∷ 0 ∷ 0 ∷ 0 ∷ 0 ∷ 0 ∷ 0
      ∷ 0 ∷ 0 ∷ 0 ∷ 0 ∷ 0 ∷ 0 ∷ 0 ∷ 3 ∷ 4 ∷ 0
      ∷ 0 ∷ 0 ∷ 0 ∷ 0 ∷ 0 ∷ 0 ∷ 0 ∷ 0 ∷ 0 ∷ 0
      ∷ 0 ∷ 0 ∷ 0 ∷ 0 ∷ 0 ∷ 0 ∷ 0 ∷ 0 ∷ 0 ∷ 0
      ∷ 0 ∷ 0 ∷ 0 ∷ 0 ∷ 0 ∷ 0 ∷ 0 ∷ 0 ∷ 0
      ∷ [];
  ords =
      0 ∷ 0 ∷ 0 ∷ 4 ∷ 4 ∷ 4 ∷ 5 ∷ 5 ∷ 5 ∷ 6
      ∷ 6 ∷ 6 ∷ 10 ∷ 10 ∷ 10 ∷ 11 ∷ 11 ∷ 11 ∷ 12 ∷ 12
      ∷ 12 ∷ 13 ∷ 15 ∷ 15 ∷ 15 ∷ 16 ∷ 18 ∷ 18 ∷ 19 ∷ 20
      ∷ 21 ∷ 23 ∷ 24 ∷ 24 ∷ 27 ∷ 27 ∷ 28 ∷ 28 ∷ 31 ∷ 31
      ∷ 32 ∷ 32 ∷ 33 ∷ 35 ∷ 35 ∷ 36 ∷ 37 ∷ 38 ∷ 39 ∷ 40
      ∷ 40 ∷ 40 ∷ 44 ∷ 44 ∷ 44 ∷ 45 ∷ 45 ∷ 45 ∷ 46 ∷ 46
      ∷ 46 ∷ 50 ∷ 50 ∷ 50 ∷ 51 ∷ 51 ∷ 51 ∷ 52 ∷ 52 ∷ 52
      ∷ 56 ∷ 56 ∷ 56 ∷ 57 ∷ 57 ∷ 57 ∷ 58 ∷ 58 ∷ 58
      ∷ [];
  sending_ords =
      (1 ∷ []) ∷ (2 ∷ []) ∷ (3 ∷ []) ∷ [] ∷ [] ∷ [] ∷ [] ∷ [] ∷ [] ∷ (7 ∷ [])
      ∷ (8 ∷ []) ∷ (9 ∷ []) ∷ [] ∷ [] ∷ [] ∷ [] ∷ [] ∷ [] ∷ [] ∷ []
      ∷ [] ∷ (14 ∷ []) ∷ [] ∷ [] ∷ [] ∷ (17 ∷ []) ∷ [] ∷ [] ∷ [] ∷ []
      ∷ (22 ∷ []) ∷ [] ∷ (25 ∷ []) ∷ (26 ∷ []) ∷ [] ∷ [] ∷ (29 ∷ []) ∷ (30 ∷ []) ∷ [] ∷ []
      ∷ [] ∷ [] ∷ (34 ∷ []) ∷ [] ∷ [] ∷ [] ∷ [] ∷ [] ∷ [] ∷ (41 ∷ [])
      ∷ (42 ∷ []) ∷ (43 ∷ []) ∷ [] ∷ [] ∷ [] ∷ [] ∷ [] ∷ [] ∷ (47 ∷ 48 ∷ []) ∷ []
      ∷ (49 ∷ []) ∷ [] ∷ [] ∷ [] ∷ [] ∷ [] ∷ [] ∷ (53 ∷ []) ∷ (54 ∷ []) ∷ (55 ∷ [])
      ∷ [] ∷ [] ∷ [] ∷ [] ∷ [] ∷ [] ∷ [] ∷ [] ∷ []
      ∷ [];
}

passes : audit 3 4 run witness ≡ true
unfolding opened run witness
passes = refl

pub allowed : Allowed 3 4 run
allowed = audit_sound 3 4 run witness passes

-- ---- what it reaches

installs : installed 3 4 run ≡ primary 1 1 7 ∷ primary 1 1 7 ∷ primary 1 1 7 ∷ primary 2 1 3 ∷ primary 2 1 3 ∷ primary 3 1 7 ∷ primary 3 1 7 ∷ primary 3 1 7 ∷ []
unfolding opened run
installs = refl

-- 0 attempts (9), installs (18), has the first action green (22), 1 too (23), 2 too (24); 2 is cut off (28), has its own action yellow (29) and alone
-- no quorum (31); 0 and 1 install (40, 41) and have the next action green (43, 44); 1 goes down (45) and is back (46); 0 resends (58); 1 and 2 get
-- the green action again or at last (62, 63), the exchange ends at 0 and 1 (67, 68); all install (76, 77, 78).
reaches : gather (at (shown 3 4 run)) (9 ∷ 18 ∷ 22 ∷ 23 ∷ 24 ∷ 28 ∷ 29 ∷ 31 ∷ 40 ∷ 41 ∷ 43 ∷ 44 ∷ 45 ∷ 46 ∷ 58 ∷ 62 ∷ 63 ∷ 67 ∷ 68 ∷ 76 ∷ 77 ∷ 78 ∷ [])
    ≡ shows 0 Construct 0 0
    ∷ shows 0 Reg_prim 0 1
    ∷ shows 0 Reg_prim 1 1
    ∷ shows 1 Reg_prim 1 1
    ∷ shows 2 Reg_prim 1 1
    ∷ shows 2 Trans_prim 1 1
    ∷ shows 2 Trans_prim 1 1
    ∷ shows 2 Non_prim 1 1
    ∷ shows 0 Reg_prim 1 2
    ∷ shows 1 Reg_prim 1 2
    ∷ shows 0 Reg_prim 2 2
    ∷ shows 1 Reg_prim 2 2
    ∷ shows 1 Reg_prim 2 2
    ∷ shows 1 Non_prim 1 2
    ∷ shows 0 Exchange_actions 2 2
    ∷ shows 1 Exchange_actions 2 2
    ∷ shows 2 Exchange_actions 2 1
    ∷ shows 0 Construct 2 2
    ∷ shows 1 Construct 2 2
    ∷ shows 0 Reg_prim 3 3
    ∷ shows 1 Reg_prim 3 3
    ∷ shows 2 Reg_prim 3 3
    ∷ []
unfolding opened run
reaches = refl

-- The yellow list at the end of the exchange at 31, in which server 2 is alone.
valid_yellow_lem : ((world_at 3 4 run 32).images 2).memory.votes.yellow ≡ yellows 1 (named 2 1 ∷ [])
unfolding opened run
valid_yellow_lem = refl

-- What server 1 judges at 68: its State is marked, and cleared by (b) alone.
cleared_by_b : own_rules ((world_at 3 4 run 69).images 1).memory ≡ true ∷ false ∷ true ∷ false ∷ []
unfolding opened run
cleared_by_b = refl

cleared_by_b_mark : judged ((world_at 3 4 run 69).images 1).memory ≡ unmarked
unfolding opened run
cleared_by_b_mark = refl
