-- What the code has of a payload, in the definitions' terms.
use Rattle.std.specs.Prelude.{◌≤◌, Option, Some, None, length}
use Rattle.std.proofs.Math.Option.{Option as MayBe, none, some}
use Rattle.pegs.specs.Operations.{Place, Operation, set, move, retire, most_name}
use Rattle.register.specs.declared.payload.Place.{Place as Given}
use Rattle.register.specs.declared.payload.Operation.{Operation as Read}
use Rattle.register.specs.declared.payload.Operation.TheVariants.{Set, Move, Retire}

abbrev pub placed : Given → Place
placed p = record { easting = p.easting; northing = p.northing }

abbrev pub meaning : Option Read → MayBe Operation
meaning None = none
meaning (Some (Set m p)) = some (set m.now (placed p))
meaning (Some (Move m p)) = some (move m.now (placed p))
meaning (Some (Retire m)) = some (retire m.now)

-- Its name fits a slot.
abbrev pub Fitting : Read → Type 0
Fitting (Set m p) = length m.now ≤ most_name
Fitting (Move m p) = length m.now ≤ most_name
Fitting (Retire m) = length m.now ≤ most_name
