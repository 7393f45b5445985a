use Rattle.image.proofs.SizeLaws.{sizes_answered}
use Rattle.image.proofs.StartLaws.{short_outside, outside, short_inside, own_outside, start_taken, begin_room, servers_fit, quota_fits, own_fits_lem}
use borrow.Author.Rules.{rules}
use Rattle.image.proofs.start.Goals as goal

pub returns-then-state-least_state_length : goal.returns-then-state-least_state_length
returns-then-state-least_state_length c = search (rules, short_outside)

pub returns-then-not-sizes_ok : goal.returns-then-not-sizes_ok
returns-then-not-sizes_ok c = search (rules, outside)

pub invariant_of-state_length : goal.invariant_of-state_length
invariant_of-state_length c = search (rules, sizes_answered)

pub returns-then-state-state_length : goal.returns-then-state-state_length
returns-then-state-state_length c = search (rules, short_inside)

pub returns-then-servers-me : goal.returns-then-servers-me
returns-then-servers-me c = search (rules, own_outside)

pub overflow_cast-servers : goal.overflow_cast-servers
overflow_cast-servers c = search (rules, servers_fit)

pub overflow_cast-quota : goal.overflow_cast-quota
overflow_cast-quota c = search (rules, quota_fits)

pub overflow_cast-me : goal.overflow_cast-me
overflow_cast-me c = search (rules, own_fits_lem)

pub begin-requires : goal.begin-requires
begin-requires c = search (rules, begin_room)

pub returns : goal.returns
returns c = search (rules, start_taken)
