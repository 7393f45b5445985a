use Rattle.install.proofs.InstallLaws.{log_some, installed}
use borrow.Author.Rules.{rules}
use Rattle.install.proofs.installing.install.Goals as goal

pub install_votes-requires : goal.install_votes-requires
install_votes-requires c = search (rules, log_some)

pub returns : goal.returns
returns c = installed _ _ _ c.install_log.ensures c.install_votes.ensures
