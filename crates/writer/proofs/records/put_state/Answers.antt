use Rattle.writer.proofs.StateLaws.{cuts_given, ids_given, cuts_fit_lem, ids_fit, state_filled}
use Rattle.format.specs.Types.{kind_number}
use borrow.Author.Rules.{rules}
use Rattle.writer.proofs.records.put_state.Goals as goal

pub slice_bounds-copy-end : goal.slice_bounds-copy-end
slice_bounds-copy-end c = search (rules, cuts_given)

pub copy-requires : goal.copy-requires
copy-requires c = search (rules, cuts_fit_lem)

pub slice_bounds-copy-end-2 : goal.slice_bounds-copy-end-2
slice_bounds-copy-end-2 c = search (rules, ids_given)

pub copy-requires-2 : goal.copy-requires-2
copy-requires-2 c = rw (c.from-n.ensures, c.from-m.ensures) (ids_fit _ _ _ _ c.requires _ (search rules))

pub returns : goal.returns
unfolding kind_number
returns c = search (rules, state_filled)
