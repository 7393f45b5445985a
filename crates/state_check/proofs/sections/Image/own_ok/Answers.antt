use Rattle.state_check.proofs.SectionCode.{by_sizes, own_inside, own_told}
use native.Mathlib.Omega.{arith}
use Rattle.state_check.proofs.sections.Image.own_ok.Goals as goal

pub own_fits-requires : goal.own_fits-requires
own_fits-requires c = (c.args.self.now.ready.context, omega arith, own_inside _ _ c.args.self.now.ready _ _ (by_sizes c.args.self.now.context _ _ _ _ c.sizes.ensures c.own_at-at.ensures.0) c.requires)

pub returns : goal.returns
returns c = own_told _ _ _ _ _ _ (by_sizes c.args.self.now.context _ _ _ _ c.sizes.ensures c.own_at-at.ensures.0) c.own_cut-cut.ensures c.own_fits.ensures
