use Rattle.state_check.proofs.SectionCode.{by_sizes}
use Rattle.state_check.proofs.TallyCode.{tally_room, quotas_denied, places_answered}
use Rattle.state_check.proofs.sections.Image.places_ok.Goals as goal

pub tally-t-requires : goal.tally-t-requires
tally-t-requires c = tally_room _ _ _ c.args.self.now.ready c.requires _ (by_sizes c.args.self.now.context _ _ _ _ c.sizes.ensures c.queue_at-at.ensures)

pub returns-then-tally_fits : goal.returns-then-tally_fits
returns-then-tally_fits c = places_answered _ _ _ c.args.self.now.ready c.requires _ (by_sizes c.args.self.now.context _ _ _ _ c.sizes.ensures c.queue_at-at.ensures) _ c.tally-t.ensures _ c.tally_fits.ensures _ _ c.if-tally_fits.true c.own_room.ensures

pub returns-else-tally_fits : goal.returns-else-tally_fits
returns-else-tally_fits c = quotas_denied _ _ _ c.args.self.now.ready c.requires _ (by_sizes c.args.self.now.context _ _ _ _ c.sizes.ensures c.queue_at-at.ensures) _ c.tally-t.ensures _ c.tally_fits.ensures _ c.if-tally_fits.false
