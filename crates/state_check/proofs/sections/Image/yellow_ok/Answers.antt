use Rattle.state_check.proofs.SectionCode.{by_sizes, ids_inside, no_ids, ids_told}
use borrow.Author.Rules.{rules}
use Rattle.state_check.proofs.sections.Image.yellow_ok.Goals as goal

pub ids_ok-requires : goal.ids_ok-requires
ids_ok-requires c = (c.args.self.now.ready.context, ids_inside _ _ c.args.self.now.ready _ _ (by_sizes c.args.self.now.context _ _ _ _ c.sizes.ensures c.yellow_at-at.ensures.0) c.requires)

pub returns-then-count-eq0 : goal.returns-then-count-eq0
returns-then-count-eq0 c = search (rules, no_ids)

pub returns-else-count-eq0 : goal.returns-else-count-eq0
returns-else-count-eq0 c = ids_told _ _ _ _ _ (by_sizes c.args.self.now.context _ _ _ _ c.sizes.ensures c.yellow_at-at.ensures.0) c.ids_ok.ensures
