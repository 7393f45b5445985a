use Rattle.state_check.proofs.SlotCode.{payload_denied, payload_answered}
use borrow.Author.Rules.{rules}
use Rattle.state_check.proofs.slots.SlotBytes.payload_fits.Goals as goal

pub returns-then-m-le-MOST_PAYLOAD : goal.returns-then-m-le-MOST_PAYLOAD
returns-then-m-le-MOST_PAYLOAD c = search (rules, payload_answered)

pub returns-else-m-le-MOST_PAYLOAD : goal.returns-else-m-le-MOST_PAYLOAD
returns-else-m-le-MOST_PAYLOAD c = search (rules, payload_denied)
