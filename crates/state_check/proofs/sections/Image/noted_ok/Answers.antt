use Rattle.state_check.proofs.SectionCode.{by_sizes, noted_inside, noted_told}
use Rattle.state_check.proofs.sections.Image.noted_ok.Goals as goal

pub noted_fit-requires : goal.noted_fit-requires
noted_fit-requires c = (c.args.self.now.ready.context, noted_inside _ _ c.args.self.now.ready _ (by_sizes c.args.self.now.context _ _ _ _ c.sizes.ensures c.noted_at-at.ensures))

pub returns : goal.returns
returns c = noted_told _ _ _ _ (by_sizes c.args.self.now.context _ _ _ _ c.sizes.ensures c.noted_at-at.ensures) c.noted_fit.ensures
