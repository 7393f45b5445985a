use Rattle.state_check.proofs.SectionCode.{cut_room, cut_told}
use borrow.Author.Rules.{rules}
use Rattle.state_check.proofs.sections.Image.own_cut.Goals as goal

pub num16-requires : goal.num16-requires
num16-requires c = search (rules, cut_room, c.args.self.now.ready)

pub returns : goal.returns
returns c = search (rules, cut_told)
