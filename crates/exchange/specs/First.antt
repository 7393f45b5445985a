-- The first list as the code holds it.
use Rattle.std.specs.Prelude.{List}
use Rattle.format.specs.Types.{Id}
use Rattle.exchange.specs.declared.first_list.FirstList.{FirstList}
use Rattle.exchange.specs.Hints.{sought_in}

abbrev pub the_list : FirstList → List Id
the_list x = sought_in x.count x.bytes.now
