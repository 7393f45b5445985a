use mathlib.Core.Path.{refl}
use Rattle.record.specs.Values.{ids_by}
use Rattle.record.proofs.Turns.{before_inside, here_inside}
use Rattle.state_check.proofs.QueueCode.{slots_inside, queue_start, queue_denied, queue_marked, queue_size, queue_again, queue_end_lem}
use native.Mathlib.Omega.{arith}
use borrow.Author.Rules.{rules}
use Rattle.state_check.proofs.slots.SlotBytes.queue_fits_by.Goals as goal

pub loop-k-init : goal.loop-k-init
unfolding ids_by
loop-k-init c = record { size = refl; marked = search rules; passed = queue_start _ _ _ _ _ }

pub next_fits-requires : goal.next_fits-requires
next_fits-requires c = (
  record { context = search rules; cuts_end = search rules; slots_end = omega arith },
  record {
    before = search (rules, slots_inside, before_inside);
    inside = search (rules, slots_inside, here_inside);
    places = omega arith;
    marked = search rules;
  },
)

pub returns-then-not-next_fits : goal.returns-then-not-next_fits
returns-then-not-next_fits c = search (rules, queue_denied)

pub loop-k-preserved : goal.loop-k-preserved
loop-k-preserved c = record { size = search (rules, queue_size); marked = search (rules, queue_marked); passed = search (rules, queue_again) }

pub returns : goal.returns
returns c = search (rules, queue_end_lem)
