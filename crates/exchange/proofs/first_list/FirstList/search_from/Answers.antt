use Rattle.exchange.proofs.PlaceLaws.{hint_stands}
use Rattle.exchange.proofs.first_list.FirstList.search_from.Goals as goal

pub returns-then-is_there : goal.returns-then-is_there
returns-then-is_there c = hint_stands _ _ _ _ _ c.args.self.now.sought c.is_there.ensures c.if-is_there.true
