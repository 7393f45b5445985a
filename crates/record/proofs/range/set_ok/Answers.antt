use Rattle.record.proofs.Ranges.{set_law}
use Rattle.format.specs.Range.{set_ok}
use Rattle.record.specs.Context.{context_of}
use borrow.Author.Rules.{rules}
use Rattle.record.proofs.range.set_ok.Goals as goal

pub returns : goal.returns
unfolding set_ok context_of
returns c = search (rules, set_law)
