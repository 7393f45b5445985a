use Rattle.writer.proofs.RecordLaws.{frame_room, body_room, action_full, action_next}
use Rattle.format.specs.Types.{kind_number}
use borrow.Author.Rules.{rules}
use Rattle.writer.proofs.records.write_action.Goals as goal

pub returns-then-not-fits : goal.returns-then-not-fits
returns-then-not-fits c = search (rules, action_full)

pub put_frame-requires : goal.put_frame-requires
put_frame-requires c = search (rules, frame_room)

pub put_body-requires : goal.put_body-requires
put_body-requires c = search (rules, body_room)

pub returns : goal.returns
unfolding kind_number
returns c = search (rules, action_next)
