use Rattle.queries.proofs.SummaryLaws.{above_zero, summary_refused, summary_some, summary_queue, summary_header, summary_counts, summary_sent, summary_read}
use borrow.Author.Rules.{rules}
use Rattle.queries.proofs.summary_on.Goals as goal

pub returns-in-Err : goal.returns-in-Err
returns-in-Err c = search (rules, summary_refused, above_zero)

pub resent_planned-planned-requires : goal.resent_planned-planned-requires
resent_planned-planned-requires c = search (rules, summary_some)

pub load-requires : goal.load-requires
load-requires c = search (rules, summary_header)

pub green_length-requires : goal.green_length-requires
green_length-requires c = let e = c.in-Ok.ensures in search (rules, summary_queue)

pub white_length-requires : goal.white_length-requires
white_length-requires c = let e = c.in-Ok.ensures in search (rules, summary_queue)

pub of-requires : goal.of-requires
of-requires c = search (rules, summary_counts, summary_sent)

pub returns-in-Ok : goal.returns-in-Ok
returns-in-Ok c = let e = c.in-Ok.ensures in search (rules, summary_read)
