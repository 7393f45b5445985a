use Rattle.install.proofs.TableLaws.{entry_in, entry_made}
use borrow.Author.Rules.{rules}
use Rattle.install.proofs.table.entry_at.Goals as goal

pub entry-requires : goal.entry-requires
entry-requires c = search (rules, entry_in)

pub returns : goal.returns
returns c = search (rules, entry_made)
