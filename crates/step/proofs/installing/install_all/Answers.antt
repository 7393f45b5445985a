use Rattle.step.proofs.Installed.{primary_installs, primary_lent, primary_sent}
use borrow.Author.Rules.{rules}
use Rattle.step.proofs.installing.install_all.Goals as goal

pub install_in-requires : goal.install_in-requires
install_in-requires c = search (rules, primary_installs)

pub send_all-requires : goal.send_all-requires
send_all-requires c = search (rules, primary_lent)

pub returns : goal.returns
returns c =
    primary_sent _ _
    c.requires
    _ c.install_in.ensures
    _ _ _ c.send_all.ensures
