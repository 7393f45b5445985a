use Rattle.step.proofs.InstallingLaws.{cpc_room, cpc_some, cpc_lent, cpc_waiting, cpc_complete}
use borrow.Author.Rules.{rules}
use borrow.Author.Tests.{not-true, not-false}
use mathlib.Core.Path.{ap}
use mathlib.Core.Bool.{not}
use Rattle.step.proofs.installing.collect_cpc.Goals as goal

pub add_cpc-requires : goal.add_cpc-requires
add_cpc-requires c = cpc_room _ _ _ c.requires.holds c.requires.fact.0

pub all_cpcs_in-requires : goal.all_cpcs_in-requires
all_cpcs_in-requires c = cpc_some _ _ _ _ c.requires c.add_cpc.ensures

pub returns-then-not-all_cpcs_in : goal.returns-then-not-all_cpcs_in
returns-then-not-all_cpcs_in c = search (rules, cpc_waiting, not-true)

pub install_all-requires : goal.install_all-requires
install_all-requires c =
    cpc_lent _ _ _ _
    c.requires
    c.add_cpc.ensures

pub returns : goal.returns
returns c =
    cpc_complete _ _ _ _
    c.requires
    c.add_cpc.ensures
    _ c.all_cpcs_in.ensures
    (not-false _ (ap not c.if-not-all_cpcs_in.false))
    _ _ _ c.install_all.ensures
