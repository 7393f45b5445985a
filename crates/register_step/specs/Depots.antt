-- Daemons that keep registers and take several waiting events by one joint burst: what they keep before each of their calls.
use Rattle.std.specs.Prelude.{ℕ, ◌≤◌, ◌<◌, false, List, [], ◌∷◌, length, take}
use Rattle.std.proofs.Math.Option.{some}
use Rattle.base.specs.Tests.{◌=?◌, pick}
use Rattle.base.specs.Lists.{upd}
use Rattle.replication.specs.Runs.Run.{Run}
use Rattle.daemons.specs.Buffers.{source_in}
use Rattle.daemons.specs.Sending.{first_size}
use Rattle.burst.specs.Calls.{Call, alone, together, came_by, events_at, System, ran_by, call_of}
use Rattle.burst.specs.Daemons.{LongEnoughFor}
use Rattle.pegs.specs.Image.{register_length}
use Rattle.register_runs.specs.Depots.{Depot, Depots, Lent, depots_after, depots_at}
use Rattle.register_step.specs.Burst.{JointBurst, joint_burst_on}

-- ---- one call

-- The joint burst's answer; where a recovery stands first, both stored images are put into the buffers first.
unfoldable pub burst_in : Depot → (events out : List ℕ) → JointBurst
burst_in d e o = joint_burst_on (source_in d.states (take (first_size e) e)) (source_in d.registers (take (first_size e) e)) e o

-- What it leaves: both are stored where the store word is 1.
unfoldable pub depot_after_burst : Depot → JointBurst → Depot
depot_after_burst d x = record {
  states = record { state = x.state; store = pick (x.store =? 1) x.state d.states.store };
  registers = record { state = x.register; store = pick (x.store =? 1) x.register d.registers.store };
}

-- The events of the slice e that came by it.
unfoldable pub came_in : JointBurst → List ℕ → List (List ℕ)
came_in x e = came_by x.number x.events x.bytes e

-- What a call makes of the depots, with the outgoing buffer o, or c and r in the buffers of state and register after a crash.
unfoldable pub called_after : Depots → (out state register : List ℕ) → Call → Depots
called_after d o c r (alone x) = depots_after d o c r (some x)
called_after d o c r (together i e k) = record {
  depot = upd d.depot i (depot_after_burst (d.depot i) (burst_in (d.depot i) e o));
  down = upd d.down i (pick ((burst_in (d.depot i) e o).events =? 0) (d.down i) false);
}

-- Its entries of the run.
unfoldable pub entries_of : Depots → (out : List ℕ) → Call → Run
entries_of d o (alone x) = x ∷ []
entries_of d o (together i e k) = events_at i k (came_in (burst_in (d.depot i) e o) e)

-- ---- calls one after another

-- Outgoing buffers, and what is in the buffers after a crash, go by the number of the call.
unfoldable pub burst_depots : (n q : ℕ) → List Call → Lent → System Depots
burst_depots n q cs x = record {
  first = depots_at n q [] x 0;
  after = λ j d. called_after d (x.states.out j) (x.states.crashed j) (x.crashed j);
  entries = λ j d. entries_of d (x.states.out j);
  calls = cs;
}

-- Any bytes, as long as they must be.
pub record LongEnoughForAll (n q : ℕ) (cs : List Call) (x : Lent) : Type 0 where
  pub states : LongEnoughFor n q cs x.states
  pub registers : (i : ℕ) → i < n → register_length ≤ length (x.registers i).state

module _ (n q : ℕ) (cs : List Call) (x : Lent) where
  abbrev pub system : System Depots
  system = burst_depots n q cs x

  -- Each place of the run with the buffers of its call.
  unfoldable pub by_places : Lent
  by_places = record {
    states = record { first = x.states.first; out = λ p. x.states.out (call_of system p); crashed = λ p. x.states.crashed (call_of system p) };
    registers = x.registers;
    crashed = λ p. x.crashed (call_of system p);
  }

  -- The daemons that take each event by the joint step, before the place p.
  abbrev pub stepwise : ℕ → Depots
  stepwise p = depots_at n q (ran_by system) by_places p
