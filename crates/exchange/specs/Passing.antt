-- Whose yellow lists count.
use Rattle.std.specs.Prelude.{ℕ, ◌<◌, ◌≡◌, true, List}
use Rattle.base.specs.Lists.{filter}
use Rattle.base.specs.Sets.{in_set}
use Rattle.replication.specs.Machine.Exchange.{is_valid, updated_group}
use Rattle.exchange.specs.declared.slots.Slots.{Slots}
use Rattle.exchange.specs.Slots.{with_here, states_of}

-- The slots w in the bytes c are those of the updated group who sent a valid yellow list.
pub record Voters (v : Slots) (b : List ℕ) (w : Slots) (c : List ℕ) : Type 0 where
  pub slots : w ≡ with_here w.here v
  pub bytes : c ≡ b
  pub states : states_of w c ≡ filter is_valid (updated_group (states_of v b))
  pub among : (k : ℕ) → k < v.servers → in_set k w.here ≡ true → in_set k v.here ≡ true
