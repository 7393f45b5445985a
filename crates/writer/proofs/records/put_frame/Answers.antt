use Rattle.writer.proofs.RecordLaws.{frame_put}
use borrow.Author.Rules.{rules}
use Rattle.writer.proofs.records.put_frame.Goals as goal

pub returns : goal.returns
returns c = search (rules, frame_put)
