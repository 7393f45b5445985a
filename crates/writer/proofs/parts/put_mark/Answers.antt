use Rattle.writer.proofs.PartLaws.{mark_blocks}
use borrow.Author.Rules.{rules}
use Rattle.writer.proofs.parts.put_mark.Goals as goal

pub returns : goal.returns
returns c = search (rules, mark_blocks)
