use Rattle.writer.proofs.RecordLaws.{opening_room, resent_room, retransmission_full, retransmission_next}
use Rattle.format.specs.Types.{kind_number}
use borrow.Author.Rules.{rules}
use Rattle.writer.proofs.records.write_retransmission.Goals as goal

pub returns-then-not-fits : goal.returns-then-not-fits
returns-then-not-fits c = search (rules, retransmission_full)

pub put_opening-requires : goal.put_opening-requires
put_opening-requires c = search (rules, opening_room)

pub put_body-requires : goal.put_body-requires
put_body-requires c = search (rules, resent_room)

pub returns : goal.returns
unfolding kind_number
returns c = search (rules, retransmission_next)
