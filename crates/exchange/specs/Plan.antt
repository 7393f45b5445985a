-- The part of the plan by the green length or the cut of one creator, as a server's own, if it is the one that resends, or another's:
-- `missing f xs` is `above low high`.
use Rattle.std.specs.Prelude.{ℕ, List}
use Rattle.base.specs.Tests.{pick}
use Rattle.format.specs.Types.{State}
use Rattle.replication.specs.Machine.Plan.{highest, lowest, resender, is_me}
use Rattle.exchange.specs.declared.plan.Part.{Part}
use Rattle.exchange.specs.declared.plan.Share.{Share}
use Rattle.exchange.specs.declared.plan.Share.TheVariants.{Own, Others}

unfoldable pub part_of : (State → ℕ) → (me : ℕ) → List State → Share
part_of f me xs = let part : Part = record { low = lowest f xs; high = highest f xs } in pick (is_me me (resender f xs)) (Own part) (Others part)
