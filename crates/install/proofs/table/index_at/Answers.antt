use Rattle.install.proofs.TableLaws.{index_read}
use borrow.Author.Rules.{rules}
use Rattle.install.proofs.table.index_at.Goals as goal

pub returns : goal.returns
returns c = search (rules, index_read)
