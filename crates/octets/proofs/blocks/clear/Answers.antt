use borrow.Author.Rules.{rules}
use lib.ListN.{length-replicate}
use Rattle.octets.proofs.Cuts.{put_patched}
use Rattle.octets.proofs.blocks.clear.Goals as goal

pub returns : goal.returns
returns c = search (rules, put_patched, length-replicate)
