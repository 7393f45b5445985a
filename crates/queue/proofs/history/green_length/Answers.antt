use Rattle.queue.proofs.WhiteLaws.{green_made, green_computed}
use native.Mathlib.Omega.{arith}
use borrow.Author.Rules.{rules}
use Rattle.queue.proofs.history.green_length.Goals as goal

pub returns : goal.returns
returns c = record {
  value = (search (rules, green_made), omega arith);
  computes = search (rules, green_computed);
}
