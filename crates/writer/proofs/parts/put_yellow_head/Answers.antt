use Rattle.writer.specs.Blocks.{yellow_head_bytes}
use Rattle.writer.proofs.PartLaws.{blocks}
use borrow.Author.Rules.{rules}
use Rattle.writer.proofs.parts.put_yellow_head.Goals as goal

pub returns : goal.returns
unfolding yellow_head_bytes
returns c = search (rules, blocks)
