-- What a search for a name answers.
use Rattle.std.specs.Prelude.{ℕ, Bool, true, false, List, Result, Ok, Err}
use Rattle.base.specs.Lists.{is_there}
use Rattle.pegs.specs.Operations.{Peg}
use Rattle.pegs.specs.Register.{find}
use Rattle.pegs.specs.Outcome.{position}

abbrev pub there_or_not : Bool → ℕ → Result ℕ ℕ
there_or_not true k = Ok k
there_or_not false k = Err k

-- Where the name stands, or, as an error, where it belongs.
abbrev pub search_in : (name : List ℕ) → List Peg → Result ℕ ℕ
search_in m l = there_or_not (is_there (find m l)) (position m l)
