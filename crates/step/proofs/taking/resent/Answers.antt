use Rattle.step.proofs.TakingLaws.{resent_ready, resent_done}
use borrow.Author.Rules.{rules}
use Rattle.step.proofs.taking.resent.Goals as goal

pub on_retransmission-requires : goal.on_retransmission-requires
on_retransmission-requires c = search (rules, resent_ready)

pub returns : goal.returns
returns c = search (rules, resent_done)
