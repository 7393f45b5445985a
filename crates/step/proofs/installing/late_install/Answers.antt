use Rattle.step.proofs.LateLaws.{late_pass, late_installs, late_placed, late_yellow}
use Rattle.image.proofs.InPlace.{such_some}
use borrow.Author.Rules.{rules}
use Rattle.step.proofs.installing.late_install.Goals as goal

pub install_log-requires : goal.install_log-requires
install_log-requires c = search (rules, such_some)

pub pass-x-requires : goal.pass-x-requires
pass-x-requires c =
    late_pass _ _ _ c.requires _ c.install_log.ensures

pub end_install-requires : goal.end_install-requires
end_install-requires c =
    late_installs _ _ _ c.requires _ c.install_log.ensures _ _ c.pass-x.ensures

pub yellow-requires : goal.yellow-requires
yellow-requires c =
    late_placed _ _ _ c.requires _ c.install_log.ensures _ _ c.pass-x.ensures _ c.end_install.ensures

pub returns : goal.returns
returns c =
    late_yellow _ _ _ c.requires _ c.install_log.ensures _ _ c.pass-x.ensures _ c.end_install.ensures _ c.yellow.ensures
