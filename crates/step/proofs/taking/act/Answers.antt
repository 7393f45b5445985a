use Rattle.step.proofs.ReadingLaws.{above_zero, ready_header, act_unread, act_ready, act_refused, act_taken}
use Rattle.std.proofs.lemmas.Result.{err_from_is_err_and}
use mathlib.Core.Path.{refl}
use borrow.Author.Rules.{rules}
use Rattle.step.proofs.taking.act.Goals as goal

pub load-h-requires : goal.load-h-requires
load-h-requires c = search (rules, ready_header)

pub returns-in_err-v : goal.returns-in_err-v
returns-in_err-v c =
    let p = err_from_is_err_and c.from_residual.result c.from_residual.ensures.1 in
    rw (p.1, p.2) (act_unread _ _ _ c.requires _ c.load-h.ensures _ c.context.ensures _ c.read.ensures.e_value _ c.in_err-v.was)

pub on_event-requires : goal.on_event-requires
on_event-requires c = search (rules, act_ready)

pub returns-in_err-taken : goal.returns-in_err-taken
returns-in_err-taken c =
    let p = err_from_is_err_and c.from_residual-in_err-taken.result c.from_residual-in_err-taken.ensures.1 in
    rw (p.1, p.2)
    (act_refused _ _ _ c.requires _ c.load-h.ensures _ c.context.ensures _ c.read.ensures.e_value _ c.in_ok-v.was _ _ _ c.in_err-taken.ensures _
    c.is_ignored-ignored.ensures (above_zero _))

pub returns : goal.returns
returns c =
    act_taken _ _ _ c.requires _ c.load-h.ensures _ c.context.ensures _ c.read.ensures.e_value _ c.in_ok-v.was _ _ _ c.in_ok-taken.ensures _
    c.is_ignored-ignored.ensures refl
