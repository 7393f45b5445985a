use Rattle.install.proofs.InstallLaws.{log_installed}
use borrow.Author.Rules.{rules}
use Rattle.install.proofs.installing.install_log.Goals as goal

pub returns : goal.returns
returns c = search (rules, log_installed)
