use Rattle.install.proofs.TableLaws.{id_read}
use borrow.Author.Rules.{rules}
use Rattle.install.proofs.table.queue_id.Goals as goal

pub returns : goal.returns
returns c = search (rules, id_read)
