use Rattle.step.proofs.RequestLaws.{waiting_ready, waiting_put}
use borrow.Author.Rules.{rules}
use Rattle.step.proofs.requests.send_all.Goals as goal

pub send_waiting-requires : goal.send_waiting-requires
send_waiting-requires c = search (rules, waiting_ready)

pub returns : goal.returns
returns c = search (rules, waiting_put)
