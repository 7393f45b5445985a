use Rattle.octets.proofs.CountedLaws.{counted_blocks}
use borrow.Author.Rules.{rules}
use Rattle.octets.proofs.blocks.put_counted.Goals as goal

pub returns : goal.returns
returns c = search (rules, counted_blocks)
