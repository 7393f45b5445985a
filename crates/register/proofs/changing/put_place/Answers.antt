use Rattle.register.proofs.Made.{place_put}
use borrow.Author.Rules.{rules}
use Rattle.register.proofs.changing.put_place.Goals as goal

pub returns : goal.returns
returns c = search (rules, place_put)
