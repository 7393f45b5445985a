-- A run that Specifications 2.3 and 2.4 forbid, and in which one index is installed twice. Server 1 takes configuration 1, sends its State and goes down;
-- back, it attempts a primary component with 2 in configuration 2, and installs it. Server 2 goes down with its mark, and then takes configuration 1,
-- which came to 1 before configuration 2: the State that 1 sent there has no mark, so by rule (b) the mark is cleared, and 2 makes another with 0.
use Prim.Native.Nat.{ℕ}
use mathlib.Core.Path.{◌≡◌, refl, ap}
use mathlib.Core.List.{[], ◌∷◌}
use native.Mathlib.Omega.{arith}
use Rattle.format.specs.Types.{Primary, state, cpc, regular, transitional, recovery}
use Rattle.format.specs.Write.{write}
use Rattle.replication.specs.Machine.Types.{Configuration}
use Rattle.replication.specs.Runs.Run.{event, crash, Run, heard_at}
use Rattle.replication.specs.Runs.Happenings.{entry_at, regularly, Of, Takes, to_regular, in_turn_lem, Precedes, causes, before_all, along}
use Rattle.replication.specs.Runs.Allowed.{Allowed}
use Rattle.replication.specs.Runs.Claim.{IsPrimary, Agreement}
use Rattle.replication.specs.Audit.Witness.{Witness}
use Rattle.examples.proofs.Records.{sent, primary, unmarked, marked, no_yellow_lem, told}
use Rattle.examples.proofs.Shown.{Refused, installed, installed_primary, opened}

unfoldable pub run : Run
run =
    event 1 (write (regular 1 6)) 1
    ∷ crash 1
    ∷ event 1 (write recovery) 0
    ∷ event 1 (write (regular 2 6)) 1
    ∷ event 2 (write (regular 2 6)) 1
    ∷ event 1 (write (state (told 1 2 (0 ∷ 0 ∷ 0 ∷ []) 0 0 (primary 0 0 7) unmarked no_yellow_lem))) 0
    ∷ event 2 (write (state (told 1 2 (0 ∷ 0 ∷ 0 ∷ []) 0 0 (primary 0 0 7) unmarked no_yellow_lem))) 0
    ∷ event 1 (write (state (told 2 2 (0 ∷ 0 ∷ 0 ∷ []) 0 0 (primary 0 0 7) unmarked no_yellow_lem))) 1
    ∷ event 2 (write (state (told 2 2 (0 ∷ 0 ∷ 0 ∷ []) 0 0 (primary 0 0 7) unmarked no_yellow_lem))) 1
    ∷ event 1 (write (cpc 1 2)) 0
    ∷ event 1 (write (cpc 2 2)) 0
    ∷ crash 2
    ∷ event 2 (write recovery) 0
    ∷ event 2 (write (regular 1 6)) 1
    ∷ event 2 (write (state (told 1 1 (0 ∷ 0 ∷ 0 ∷ []) 0 0 (primary 0 0 7) unmarked no_yellow_lem))) 0
    ∷ event 2 (write (state (told 2 1 (0 ∷ 0 ∷ 0 ∷ []) 0 1 (primary 0 0 7) (marked 0 1 6 0) no_yellow_lem))) 1
    ∷ event 2 (write (cpc 2 1)) 0
    ∷ event 2 (write (transitional 4)) 0
    ∷ event 0 (write (regular 3 5)) 1
    ∷ event 2 (write (regular 3 5)) 1
    ∷ event 0 (write (state (told 0 3 (0 ∷ 0 ∷ 0 ∷ []) 0 0 (primary 0 0 7) unmarked no_yellow_lem))) 0
    ∷ event 2 (write (state (told 0 3 (0 ∷ 0 ∷ 0 ∷ []) 0 0 (primary 0 0 7) unmarked no_yellow_lem))) 0
    ∷ event 0 (write (state (told 2 3 (0 ∷ 0 ∷ 0 ∷ []) 0 2 (primary 0 0 7) unmarked no_yellow_lem))) 1
    ∷ event 2 (write (state (told 2 3 (0 ∷ 0 ∷ 0 ∷ []) 0 2 (primary 0 0 7) unmarked no_yellow_lem))) 1
    ∷ event 0 (write (cpc 0 3)) 0
    ∷ event 2 (write (cpc 0 3)) 0
    ∷ event 0 (write (cpc 2 3)) 0
    ∷ event 2 (write (cpc 2 3)) 0
    ∷ []

unfoldable pub witness : Witness
witness = record {
  sources =
      sent 0 0 ∷ sent 0 0 ∷ sent 0 0 ∷ sent 0 0 ∷ sent 0 0 ∷ sent 3 0 ∷ sent 3 0 ∷ sent 4 0 ∷ sent 4 0 ∷ sent 7 0
      ∷ sent 8 0 ∷ sent 0 0 ∷ sent 0 0 ∷ sent 0 0 ∷ sent 0 0 ∷ sent 13 0 ∷ sent 15 0 ∷ sent 0 0 ∷ sent 0 0 ∷ sent 0 0
      ∷ sent 18 0 ∷ sent 18 0 ∷ sent 19 0 ∷ sent 19 0 ∷ sent 22 0 ∷ sent 22 0 ∷ sent 23 0 ∷ sent 23 0
      ∷ [];
  names =
      0 ∷ 0 ∷ 0 ∷ 0 ∷ 0 ∷ 0 ∷ 0 ∷ 0 ∷ 0 ∷ 0
      ∷ 0 ∷ 0 ∷ 0 ∷ 0 ∷ 0 ∷ 0 ∷ 0 ∷ 1 ∷ 0 ∷ 0
      ∷ 0 ∷ 0 ∷ 0 ∷ 0 ∷ 0 ∷ 0 ∷ 0 ∷ 0
      ∷ [];
  ords =
      0 ∷ 2 ∷ 3 ∷ 4 ∷ 4 ∷ 7 ∷ 7 ∷ 8 ∷ 8 ∷ 11
      ∷ 12 ∷ 13 ∷ 14 ∷ 0 ∷ 16 ∷ 17 ∷ 19 ∷ 20 ∷ 21 ∷ 21
      ∷ 24 ∷ 24 ∷ 25 ∷ 25 ∷ 28 ∷ 28 ∷ 29 ∷ 29
      ∷ [];
  sending_ords =
      (1 ∷ []) ∷ [] ∷ [] ∷ (5 ∷ []) ∷ (6 ∷ []) ∷ [] ∷ [] ∷ (9 ∷ []) ∷ (10 ∷ []) ∷ []
      ∷ [] ∷ [] ∷ [] ∷ (15 ∷ []) ∷ [] ∷ (18 ∷ []) ∷ [] ∷ [] ∷ (22 ∷ []) ∷ (23 ∷ [])
      ∷ [] ∷ [] ∷ (26 ∷ []) ∷ (27 ∷ []) ∷ [] ∷ [] ∷ [] ∷ []
      ∷ [];
}

refused : Refused 3 4 run witness ("rises" ∷ [])
unfolding opened run witness
refused = (refl, refl)

-- Two primary components of index 1.
installs : installed 3 4 run ≡ primary 1 1 6 ∷ primary 1 3 5 ∷ primary 1 3 5 ∷ []
unfolding opened run
installs = refl

one : IsPrimary 3 4 run (primary 1 1 6)
unfolding opened run
one = installed_primary 3 4 run 10 (event 1 (write (cpc 2 2)) 0) (primary 1 1 6) refl refl

another : IsPrimary 3 4 run (primary 1 3 5)
unfolding opened run
another = installed_primary 3 4 run 26 (event 0 (write (cpc 2 3)) 0) (primary 1 3 5) refl refl

-- So the claim of demand 3 fails of it.
pub disagree : Agreement 3 4 run → ⊥
disagree a = omega (arith, ap (λ (x : Primary). x.attempt) ((a.primary (primary 1 1 6) (primary 1 3 5) one another).1 refl))

-- With no other witness is it allowed: by 2.4 the first entry would precede itself.
first_at_1 : Takes 3 4 run 0 1 (record { id = 1; set = 6 })
unfolding opened run heard_at
first_at_1 = record { bytes = write (regular 1 6); sent = 1; here = refl; heard = refl }

second_at_1 : Takes 3 4 run 3 1 (record { id = 2; set = 6 })
unfolding opened run heard_at
second_at_1 = record { bytes = write (regular 2 6); sent = 1; here = refl; heard = refl }

second_at_2 : Takes 3 4 run 4 2 (record { id = 2; set = 6 })
unfolding opened run heard_at
second_at_2 = record { bytes = write (regular 2 6); sent = 1; here = refl; heard = refl }

first_at_2 : Takes 3 4 run 13 2 (record { id = 1; set = 6 })
unfolding opened run heard_at
first_at_2 = record { bytes = write (regular 1 6); sent = 1; here = refl; heard = refl }

its : (p i : ℕ) (c : Configuration) → Takes 3 4 run p i c → Of run p i
unfolding opened
its p i c t = record { entry = event i t.bytes t.sent; here = t.here; its = refl }

module _ (a : Allowed 3 4 run) where
  to_second : Precedes 3 4 run a.source a.name (entry_at 0) (entry_at 4)
  to_second =
      before_all 1 2 (regularly (record { id = 2; set = 6 })) (to_regular _ second_at_1) (to_regular _ second_at_2)
      (causes (in_turn_lem 1 (its 0 1 _ first_at_1) (its 3 1 _ second_at_1) (omega arith)))

  circle : Precedes 3 4 run a.source a.name (entry_at 0) (entry_at 0)
  circle =
      before_all 2 1 (regularly (record { id = 1; set = 6 })) (to_regular _ first_at_2) (to_regular _ first_at_1)
      (along to_second (causes (in_turn_lem 2 (its 4 2 _ second_at_2) (its 13 2 _ first_at_2) (omega arith))))

pub not_allowed : Allowed 3 4 run → ⊥
not_allowed a = omega (arith, a.rises (entry_at 0) (entry_at 0) (circle a))
