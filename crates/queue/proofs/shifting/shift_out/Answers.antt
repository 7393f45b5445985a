use Rattle.queue.proofs.ShiftLaws.{shift_made}
use borrow.Author.Rules.{rules}
use Rattle.queue.proofs.shifting.shift_out.Goals as goal

pub returns : goal.returns
returns c = search (rules, shift_made)
