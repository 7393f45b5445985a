-- What the exported functions give back, in the definitions' terms.
use Rattle.pegs.specs.Outcome.{Found}
use Rattle.register_check.specs.declared.RegisterFind.{RegisterFind}

unfoldable pub located : RegisterFind → Found
located r = record { number = r.number; found = r.found; index = r.index; easting = r.easting; northing = r.northing }
