use Rattle.queries.proofs.ListingLaws.{brief_entries, refused_entries_lem, whole_queue, white_entries, past_entries, put_listed}
use Rattle.queries.proofs.SummaryLaws.{above_zero}
use borrow.Author.Rules.{rules}
use Rattle.queries.proofs.read_entries.Goals as goal

pub returns-then-entries-lt-MOST_ENTRY : goal.returns-then-entries-lt-MOST_ENTRY
returns-then-entries-lt-MOST_ENTRY c = search (rules, brief_entries)

pub returns-in_err-check_image : goal.returns-in_err-check_image
returns-in_err-check_image c = search (rules, refused_entries_lem, above_zero)

pub white_length-white-requires : goal.white_length-white-requires
white_length-white-requires c = let e = c.in_ok-check_image.ensures in search (rules, whole_queue)

pub returns-then-from-white : goal.returns-then-from-white
returns-then-from-white c = let e = c.in_ok-check_image.ensures in search (rules, white_entries)

pub green_length-green-requires : goal.green_length-green-requires
green_length-green-requires c = let e = c.in_ok-check_image.ensures in search (rules, whole_queue)

pub returns-then-green-from : goal.returns-then-green-from
returns-then-green-from c = let e = c.in_ok-check_image.ensures in search (rules, past_entries)

pub put_entries-requires : goal.put_entries-requires
put_entries-requires c = let e = c.in_ok-check_image.ensures in record {
  queue_in = (search (rules, whole_queue), search rules, search rules);
  white_le_from = (search rules, search rules);
}

pub returns : goal.returns
returns c = let e = c.in_ok-check_image.ensures in search (rules, put_listed)
