use mathlib.Core.Path.{sym}
use borrow.Author.Rules.{rules}
use Rattle.base.proofs.PatchedLaws.{patched_none}
use Rattle.base.proofs.Shifts.{down_turn}
use Rattle.octets.proofs.moves.shift_down.Goals as goal

pub loop-i-init : goal.loop-i-init
loop-i-init c = sym (patched_none _ _)

pub loop-i-preserved : goal.loop-i-preserved
loop-i-preserved c = search (rules, down_turn)
