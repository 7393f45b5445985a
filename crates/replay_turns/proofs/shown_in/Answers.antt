use Rattle.base.proofs.BytesLaws.{given_bytes_lem}
use Rattle.replay_turns.proofs.TurnLaws.{cuts_inside, shown_made}
use Rattle.std.proofs.Common.{rules}
use Rattle.replay_turns.proofs.shown_in.Goals as goal

pub entered_count-requires : goal.entered_count-requires
entered_count-requires c = search (rules, cuts_inside, given_bytes_lem)

pub returns : goal.returns
returns c = search (rules, shown_made)
