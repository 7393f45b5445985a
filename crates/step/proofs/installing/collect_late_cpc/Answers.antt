use mathlib.Core.Path.{◌∙◌}
use Rattle.step.proofs.InstallingLaws.{cpc_room, late_some, late_header, late_waiting, late_complete}
use Rattle.step.proofs.installing.collect_late_cpc.Goals as goal

pub add_cpc-requires : goal.add_cpc-requires
add_cpc-requires c = cpc_room _ _ _ c.requires.holds c.requires.fact.0

pub all_cpcs_in-requires : goal.all_cpcs_in-requires
all_cpcs_in-requires c = late_some _ _ _ c.requires c.add_cpc.ensures

pub returns-else-all_cpcs_in : goal.returns-else-all_cpcs_in
returns-else-all_cpcs_in c =
    late_waiting _ _ _
    c.requires
    c.add_cpc.ensures
    _ c.all_cpcs_in.ensures c.if-all_cpcs_in.false

pub set_mode-requires : goal.set_mode-requires
set_mode-requires c =
    late_header _ _ _
    c.requires
    c.add_cpc.ensures

pub returns-then-all_cpcs_in : goal.returns-then-all_cpcs_in
returns-then-all_cpcs_in c =
    late_complete _ _ _
    c.requires
    c.add_cpc.ensures
    _ c.all_cpcs_in.ensures
    _ c.if-all_cpcs_in.true
    (λ s m h e. c.set_mode.ensures s m h (c.from.ensures ∙ e))
