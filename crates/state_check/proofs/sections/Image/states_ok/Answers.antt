use Rattle.state_check.proofs.SectionCode.{by_sizes, states_inside, states_told}
use Rattle.state_check.proofs.sections.Image.states_ok.Goals as goal

pub collected_ok-requires : goal.collected_ok-requires
collected_ok-requires c = states_inside _ _ c.args.self.now.ready _ (by_sizes c.args.self.now.context _ _ _ _ c.sizes.ensures c.states_at-at.ensures.0)

pub returns : goal.returns
returns c = states_told _ _ _ _ _ _ (by_sizes c.args.self.now.context _ _ _ _ c.sizes.ensures c.states_at-at.ensures.0) c.collected_ok.ensures
