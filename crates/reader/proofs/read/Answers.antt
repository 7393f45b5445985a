use Rattle.reader.proofs.Returns.{refusal_one, refusal_two, read_unframed, read_context, read_ranges, read_good, read_placed, read_readable}
use borrow.Author.Rules.{rules}
use Rattle.reader.proofs.read.Goals as goal
use Rattle.reader.proofs.read.Goals.{else-context_ok-via-then-context_ok+else-event_ok, else-context_ok-via-else-context_ok}

pub returns-in_default : goal.returns-in_default
returns-in_default c = search (rules, read_unframed, refusal_one)

pub event_ok-requires : goal.event_ok-requires
event_ok-requires c = search (rules, read_readable)

pub returns-else-context_ok-clause-e_value : goal.returns-else-context_ok-clause-e_value
returns-else-context_ok-clause-e_value c =
    elim c.else-context_ok.branch [
      | else-context_ok-via-then-context_ok+else-event_ok w ↦ search (rules, read_ranges)
      | else-context_ok-via-else-context_ok w ↦ search (rules, read_context)
    ]

pub returns-else-context_ok-clause-placed : goal.returns-else-context_ok-clause-placed
returns-else-context_ok-clause-placed c = search (rules, refusal_two)

pub returns-then-event_ok : goal.returns-then-event_ok
returns-then-event_ok c = search (rules, read_good, read_placed)
