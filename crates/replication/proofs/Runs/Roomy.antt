-- An allowed run in which each action that comes and is its creator's next has room where it comes. Every allowed run is one (Agreement.Whites.Room);
-- until that is known what is proved of runs is proved of these.
use Prim.Native.Nat.{ℕ}
use mathlib.Core.Path.{◌≡◌}
use mathlib.Core.Bool.{false}
use mathlib.Core.Option.{some}
use Rattle.format.specs.Types.{Record}
use Rattle.replication.specs.Machine.Types.{mode_of}
use Rattle.replication.specs.Machine.Rules.{Rule, rule_for}
use Rattle.replication.specs.Machine.White.{full}
use Rattle.replication.specs.Runs.Run.{Run, world_at}
use Rattle.replication.specs.Runs.Happenings.{Comes}
use Rattle.replication.specs.Runs.Allowed.{Allowed}

-- What comes to a server that is up is not sieved out.
abbrev pub Room : (n q : ℕ) → Run → (p i : ℕ) → Type 0
Room n q l p i =
    (r : Record) (k : Rule) → Comes n q l p i r → (world_at n q l p).down i ≡ false → rule_for (mode_of ((world_at n q l p).images i).memory) r ≡ some k
    → full k ((world_at n q l p).images i).memory ≡ false

pub record Roomy (n q : ℕ) (l : Run) : Type 0 where
  pub allowed : Allowed n q l
  pub room : (p i : ℕ) → Room n q l p i
