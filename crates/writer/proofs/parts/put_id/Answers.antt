use Rattle.record.specs.Values.{id_of}
use Rattle.format.specs.Write.{id_bytes}
use Rattle.writer.proofs.PartLaws.{blocks}
use borrow.Author.Rules.{rules}
use Rattle.writer.proofs.parts.put_id.Goals as goal

pub returns : goal.returns
unfolding id_bytes id_of
returns c = search (rules, blocks)
