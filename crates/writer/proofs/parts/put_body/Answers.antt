use Rattle.format.specs.Write.{payload_bytes}
use Rattle.writer.proofs.PartLaws.{body_blocks}
use borrow.Author.Rules.{rules}
use Rattle.writer.proofs.parts.put_body.Goals as goal

pub returns : goal.returns
unfolding payload_bytes
returns c = search (rules, body_blocks)
