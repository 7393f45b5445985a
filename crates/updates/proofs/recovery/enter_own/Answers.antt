use Rattle.updates.proofs.Recovered.{own_entered}
use native.Mathlib.Omega.{arith}
use borrow.Author.Rules.{rules}
use Rattle.updates.proofs.recovery.enter_own.Goals as goal

pub num16-own-requires : goal.num16-own-requires
num16-own-requires c = omega arith

pub num32-queue-requires : goal.num32-queue-requires
num32-queue-requires c = omega arith

pub num16-numbered-requires : goal.num16-numbered-requires
num16-numbered-requires c = omega arith

pub overflow_add-to : goal.overflow_add-to
overflow_add-to c = omega arith

pub copy_up-requires : goal.copy_up-requires
copy_up-requires c = (omega arith, omega arith)

pub overflow_add-queue : goal.overflow_add-queue
overflow_add-queue c = omega arith

pub put_entered-requires : goal.put_entered-requires
put_entered-requires c = (omega arith, omega arith)

pub returns : goal.returns
returns c = search (rules, own_entered)
