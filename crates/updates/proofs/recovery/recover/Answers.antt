use Rattle.updates.proofs.Recovered.{enter_room, recovery_made}
use Rattle.image.proofs.InPlace.{such_header}
use native.Mathlib.Omega.{arith}
use borrow.Author.Rules.{rules}
use Rattle.updates.proofs.recovery.recover.Goals as goal

pub enter_own-requires : goal.enter_own-requires
enter_own-requires c = search (rules, enter_room)

pub drop_membership-requires : goal.drop_membership-requires
drop_membership-requires c = omega (arith, such_header _ _ c.requires)

pub returns : goal.returns
returns c = recovery_made _ _ _ c.enter_own.ensures c.drop_membership.ensures
