-- Document 02, K4, on the buffers, whatever the three slices hold: what a request's answer says.
use Rattle.std.specs.Prelude.{ℕ, ◌≡◌}
use mathlib.Core.List.{List, Memᴰ}
use Rattle.format.specs.Types.{request, says}
use Rattle.format.specs.Read.{read}
use Rattle.replication.specs.Machine.Types.{context_of}
use Rattle.replication.specs.Machine.Requests.{made_of}
use Rattle.image.specs.Decode.{decoded}
use Rattle.image.specs.Outcome.{step_on}

-- "4 never occurs"
unfoldable pub NeverFour : Type 0
NeverFour = (b e o : List ℕ) → (step_on b e o).number ≡ 4 → ⊥

-- "numbered, put on the own list and stored whenever it comes": a request that is answered 0 is to be stored, and the state's buffer then has the
-- action that was made of it on its own list.
unfoldable pub RequestStored : Type 0
RequestStored =
    (b e o p : List ℕ) → read (context_of (decoded b)) e ≡ says (request p) → (step_on b e o).number ≡ 0
    → ((step_on b e o).store ≡ 1) × Memᴰ (made_of p (decoded b)) (decoded (step_on b e o).state).log.own

pub record RequestAnswers : Type 0 where
  pub never_four : NeverFour
  pub stored : RequestStored
