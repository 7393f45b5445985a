use Rattle.image.proofs.InPlace.{such_some}
use Rattle.step.proofs.EndLaws.{taken_count, taken_room, all_decided}
use lib.ListN.{length-take}
use native.Mathlib.Omega.{arith}
use borrow.Author.Rules.{rules}
use Rattle.step.proofs.exchanging.decide_all.Goals as goal

pub taken_votes-v-requires : goal.taken_votes-v-requires
taken_votes-v-requires c = search (rules, such_some)

pub taken_yellow-count-requires : goal.taken_yellow-count-requires
taken_yellow-count-requires c = search (rules, such_some)

pub overflow_mul-end : goal.overflow_mul-end
overflow_mul-end c =
    search (
      rules,
      taken_count _ _ _ c.requires c.taken_yellow-count.ensures,
    )

pub overflow_cast-count : goal.overflow_cast-count
overflow_cast-count c =
    search (
      rules,
      taken_count _ _ _ c.requires c.taken_yellow-count.ensures,
    )

pub slice_bounds-ids-end : goal.slice_bounds-ids-end
slice_bounds-ids-end c =
    omega (
      arith,
      taken_count _ _ _ c.requires
          c.taken_yellow-count.ensures,
    )

pub slice_bounds-decide-end : goal.slice_bounds-decide-end
slice_bounds-decide-end c =
    simp length-take (omega (
      arith,
      taken_count _ _ _ c.requires
          c.taken_yellow-count.ensures,
    ))

pub decide-requires : goal.decide-requires
decide-requires c =
    taken_room _ _ _ c.requires
    c.taken_yellow-count.ensures

pub returns : goal.returns
returns c =
    all_decided _ _ _ c.requires
    c.taken_yellow-count.ensures _ _ _
    c.taken_votes-v.ensures
    c.with_count-votes.ensures c.decide.ensures
