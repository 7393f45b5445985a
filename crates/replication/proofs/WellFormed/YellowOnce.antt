-- Row 8 allows yellow ids above the cuts. In Trans_prim such an id is on the yellow list already when its action is entered, and stands there once.
-- No run reaches such a state.
use Prim.Native.Nat.{ℕ}
use mathlib.Core.Path.{◌≡◌, refl}
use mathlib.Core.Bool.{true}
use mathlib.Core.List.{List, [], ◌∷◌}
use mathlib.Core.Option.{Option, none, some}
use Rattle.format.specs.Types.{Id, Action, first_primary, action}
use Rattle.format.specs.Write.{write}
use Rattle.replication.specs.Opened.{opened}
use Rattle.replication.specs.Machine.Types.{Trans_prim, Server, Outcome, taken, refused, cleared_mark}
use Rattle.replication.specs.Machine.Step.{step}
use Rattle.replication.specs.Machine.WellFormed.{well_formed}

abbrev yellow_id : Id
yellow_id = record { creator = 1; index = 1 }

abbrev yellow_action : Action
yellow_action = record { id = yellow_id; green_length = 0; white_length = 0; payload = [] }

-- Server 0 of 2, quota 1, in Trans_prim: nothing held, and server 1's first action on the yellow list.
abbrev before : Server
before = record {
  servers = 2;
  quota = 1;
  me = 0;
  log = record { green = []; red = []; cuts = 0 ∷ 0 ∷ []; own = []; numbered = 0; sent = 0 };
  votes = record { last = first_primary 3; attempt = 0; mark = cleared_mark; yellow = record { status = 0; ids = yellow_id ∷ [] } };
  membership = record { mode = Trans_prim; configuration = some (record { id = 1; set = 3 }); transitional = some 3; states = none ∷ none ∷ []; cpcs = 0; come = 0 };
  noted = 0 ∷ 0 ∷ [];
  white = 0;
}

-- The red actions and the yellow ids of the new state.
abbrev red_and_yellow : Outcome (List ℕ) → Option (List Action × List Id)
red_and_yellow (refused k) = none
red_and_yellow (taken t r b g) = some (t.log.red, t.votes.yellow.ids)

pub before_well_formed : well_formed before ≡ true
unfolding opened
before_well_formed = refl

-- That action is delivered.
pub joined_once : red_and_yellow (step before (write (action yellow_action))) ≡ some (yellow_action ∷ [], yellow_id ∷ [])
unfolding opened
joined_once = refl
