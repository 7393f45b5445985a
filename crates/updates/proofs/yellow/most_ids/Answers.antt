use Rattle.updates.proofs.YellowLaws.{servers_low, quota_low, product_read}
use borrow.Author.Rules.{rules}
use Rattle.updates.proofs.yellow.most_ids.Goals as goal

pub product-requires : goal.product-requires
product-requires c = search (rules, servers_low, quota_low)

pub returns : goal.returns
returns c = search (rules, product_read)
