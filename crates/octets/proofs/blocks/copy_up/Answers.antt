use borrow.Author.Rules.{rules}
use Rattle.octets.proofs.Cuts.{up_patched}
use Rattle.octets.proofs.blocks.copy_up.Goals as goal

pub returns : goal.returns
returns c = search (rules, up_patched)
