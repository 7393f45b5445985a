use Rattle.image.proofs.PlaceLaws.{queue_place}
use borrow.Author.Rules.{rules}
use Rattle.image.proofs.sizes.Sizes.queue_at.Goals as goal

pub returns : goal.returns
returns c = search (rules, queue_place)
