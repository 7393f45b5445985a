use Rattle.writer.proofs.PartLaws.{primary_blocks}
use borrow.Author.Rules.{rules}
use Rattle.writer.proofs.parts.put_primary.Goals as goal

pub returns : goal.returns
returns c = search (rules, primary_blocks)
