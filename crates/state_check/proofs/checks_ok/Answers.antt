use Rattle.state_check.proofs.CheckCode.{context_made, buffer_made, counts_made}
use borrow.Author.Rules.{rules}
use Rattle.state_check.proofs.checks_ok.Goals as goal

pub numbers_ok-requires : goal.numbers_ok-requires
numbers_ok-requires c = search (rules, context_made)

pub lists_ok-requires : goal.lists_ok-requires
lists_ok-requires c = counts_made _ _ _ c.numbers_ok.ensures c.if-numbers_ok.true

pub invariant_of-image : goal.invariant_of-image
invariant_of-image c = record { ready = search (rules, buffer_made) }
