use Rattle.writer.proofs.PartLaws.{head_blocks}
use borrow.Author.Rules.{rules}
use Rattle.writer.proofs.parts.put_head.Goals as goal

pub returns : goal.returns
returns c = search (rules, head_blocks)
