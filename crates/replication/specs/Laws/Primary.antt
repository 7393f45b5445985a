-- What an event does in a primary component (Reg_prim, Trans_prim), and what it does to the configuration that the server has.
use Rattle.std.specs.Prelude.{ℕ, ◌≡◌, List, [], ◌∷◌}
use Rattle.format.specs.Types.{Action, Record, action, regular, transitional, request, recovery}
use Rattle.replication.specs.Machine.Types.{Trans_prim, Exchange_states, Configuration, Server, mode_of}
use Rattle.replication.specs.Machine.Step.{unmarked, yellow_valid}
use Rattle.replication.specs.Laws.Folds.{Greened, Yellowed}
use Rattle.replication.specs.Laws.Order.{SameHeld}

-- In Reg_prim: an action is greened, a request is sent, a transitional configuration leads to Trans_prim.
pub data RegularStep (s : Server) (r : Record) (t : Server) : Type 0 where
  delivers : (a : Action) → r ≡ action a → t.membership ≡ s.membership → t.votes ≡ s.votes
      → Greened (a ∷ []) s.log t.log → RegularStep s r t
  sends : (p : List ℕ) → r ≡ request p → t.membership ≡ s.membership → t.votes ≡ s.votes
      → Greened [] s.log t.log → RegularStep s r t
  leaves : (x : ℕ) → r ≡ transitional x → mode_of t ≡ Trans_prim → t.votes ≡ s.votes → t.log ≡ s.log → RegularStep s r t
  recovers : r ≡ recovery → RegularStep s r t

-- In Trans_prim: an action is yellowed, a request is numbered, a regular configuration leads to Exchange_states with yellow made valid.
pub data TransitionalStep (s : Server) (r : Record) (t : Server) : Type 0 where
  delivers : (a : Action) → r ≡ action a → t.membership ≡ s.membership → Yellowed (a ∷ []) s t → TransitionalStep s r t
  numbers : (p : List ℕ) → r ≡ request p → t.membership ≡ s.membership → t.votes ≡ s.votes → SameHeld s.log t.log
      → TransitionalStep s r t
  joins : (c : Configuration) → r ≡ regular c.id c.set → mode_of t ≡ Exchange_states → t.votes ≡ yellow_valid (unmarked s.votes)
      → t.log ≡ s.log → TransitionalStep s r t
  recovers : r ≡ recovery → TransitionalStep s r t
