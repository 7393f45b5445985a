use Rattle.state_check.proofs.CollectedCode.{refused_state, good_state}
use borrow.Author.Rules.{rules}
use Rattle.state_check.proofs.collected.says_state.Goals as goal

pub returns-in_default : goal.returns-in_default
returns-in_default c = search (rules, refused_state)

pub returns : goal.returns
returns c = search (rules, good_state)
