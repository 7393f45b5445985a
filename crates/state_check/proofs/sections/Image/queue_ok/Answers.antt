use Rattle.state_check.proofs.SectionCode.{by_sizes, cuts_inside, queue_inside, queue_told}
use Rattle.state_check.proofs.sections.Image.queue_ok.Goals as goal

pub queue_fits-requires : goal.queue_fits-requires
queue_fits-requires c = record { context = c.args.self.now.ready.context; cuts_end = cuts_inside _ _ c.args.self.now.ready; slots_end = queue_inside _ _ c.args.self.now.ready _ _ (by_sizes c.args.self.now.context _ _ _ _ c.sizes.ensures c.queue_at-at.ensures) c.requires }

pub returns : goal.returns
returns c = queue_told _ _ _ _ _ (by_sizes c.args.self.now.context _ _ _ _ c.sizes.ensures c.queue_at-at.ensures) c.queue_fits.ensures
