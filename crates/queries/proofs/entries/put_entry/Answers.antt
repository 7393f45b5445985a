use Rattle.queries.proofs.EntryLaws.{entry_put}
use Rattle.base.proofs.BytesLaws.{given_bytes_lem}
use borrow.Author.Rules.{rules}
use Rattle.queries.proofs.entries.put_entry.Goals as goal

pub returns : goal.returns
returns c = search (rules, entry_put, given_bytes_lem)
