-- The daemons of a run's servers that keep a register beside each state, and call the joint step: what they keep at each place.
use Rattle.std.specs.Prelude.{ℕ, zero, suc, ◌≤◌, ◌<◌, Bool, true, false, List, length}
use Rattle.std.proofs.Math.Option.{Option, none, some}
use Rattle.base.specs.Tests.{◌=?◌, pick}
use Rattle.base.specs.Lists.{at, upd}
use Rattle.replication.specs.Runs.Run.{Entry, event, crash, store, Run}
use Rattle.daemons.specs.Buffers.{Buffers, source_in, begun, saved}
use Rattle.daemons.specs.Daemons.{Lending, LongEnough}
use Rattle.pegs.specs.Image.{register_length}
use Rattle.pegs.specs.Outcome.{empty_on}
use Rattle.register_runs.specs.Joint.{Joint, joint_on}

-- One server's buffers: the state's and its stored image, the register's and its stored image.
pub record Depot : Type 0 where
  pub states : Buffers
  pub registers : Buffers

-- Both are stored as one.
unfoldable pub saved_all : Depot → Depot
saved_all d = record { states = saved d.states; registers = saved d.registers }

-- The start and the empty register are made in the buffers, and stored.
unfoldable pub begun_all : (n q me : ℕ) → Depot → Depot
begun_all n q i d = record {
  states = begun n q i d.states;
  registers = saved (record { state = (empty_on d.registers.state).register; store = d.registers.store });
}

-- The joint step's answer to an event; for a recovery both stored images are put into the buffers first.
unfoldable pub joint_in : Depot → (event out : List ℕ) → Joint
joint_in d e o = joint_on (source_in d.states e) (source_in d.registers e) e o

-- What it leaves: both are stored where the store word is 1.
unfoldable pub depot_after : Depot → Joint → Depot
depot_after d x = record {
  states = record { state = x.state; store = pick (x.store =? 1) x.state d.states.store };
  registers = record { state = x.register; store = pick (x.store =? 1) x.register d.registers.store };
}

pub record Depots : Type 0 where
  pub depot : ℕ → Depot
  pub down : ℕ → Bool

-- The bytes that a run leaves open: those of the states, and the same of the registers: their buffers at first, and after a crash at each place.
pub record Lent : Type 0 where
  pub states : Lending
  pub registers : ℕ → Buffers
  pub crashed : ℕ → List ℕ

-- Any bytes, as long as they must be.
pub record LongEnoughAll (n q : ℕ) (l : Run) (x : Lent) : Type 0 where
  pub states : LongEnough n q l x.states
  pub registers : (i : ℕ) → i < n → register_length ≤ length (x.registers i).state

unfoldable pub depots_after : Depots → (out state register : List ℕ) → Option Entry → Depots
depots_after d o c r none = d
depots_after d o c r (some (event i e k)) = record {
  depot = upd d.depot i (depot_after (d.depot i) (joint_in (d.depot i) e o));
  down = upd d.down i (pick ((joint_in (d.depot i) e o).number =? 0) false (d.down i));
}
depots_after d o c r (some (crash i)) = record {
  depot = upd d.depot i (record {
    states = record { state = c; store = (d.depot i).states.store };
    registers = record { state = r; store = (d.depot i).registers.store };
  });
  down = upd d.down i true;
}
depots_after d o c r (some (store i)) = record { depot = upd d.depot i (saved_all (d.depot i)); down = d.down }

-- Before the place p.
unfoldable pub depots_at : (n q : ℕ) → Run → Lent → ℕ → Depots
depots_at n q l x zero =
    record { depot = λ i. begun_all n q i (record { states = x.states.first i; registers = x.registers i }); down = λ i. false }
depots_at n q l x (suc p) = depots_after (depots_at n q l x p) (x.states.out p) (x.states.crashed p) (x.crashed p) (at l p)
