use Rattle.replay_turns.proofs.TurnLaws.{answer_made}
use Rattle.std.proofs.Common.{rules}
use Rattle.replay_turns.proofs.answer.Goals as goal

pub returns : goal.returns
returns g c = search (rules, answer_made)
