use Rattle.state_check.proofs.TallyCode.{creators_made}
use borrow.Author.Rules.{rules}
use Rattle.state_check.proofs.sections.Image.lists_ok.Goals as goal

pub places_ok-requires : goal.places_ok-requires
places_ok-requires c = search (rules, creators_made)
