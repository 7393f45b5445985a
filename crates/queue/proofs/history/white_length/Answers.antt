use Rattle.queue.proofs.WhiteLaws.{white_made, white_computed}
use native.Mathlib.Omega.{arith}
use borrow.Author.Rules.{rules}
use Rattle.queue.proofs.history.white_length.Goals as goal

pub returns : goal.returns
returns c = record {
  value = (search (rules, white_made), omega arith);
  computes = search (rules, white_computed);
}
