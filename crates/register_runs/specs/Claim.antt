-- Registers over runs: each is the fold of its server's green list, white part included, and over allowed runs they agree as the green lists do.
-- Document 02, K6: "the register, stored whenever the state is, keeps what white entries did."
use Rattle.std.specs.Prelude.{ℕ, ◌≤◌, ◌<◌, ◌≡◌, false, List, length, drop}
use Rattle.std.proofs.Math.Option.{some}
use Rattle.base.specs.Tests.{pick}
use Rattle.base.specs.Lists.{at}
use Rattle.format.specs.Types.{Action}
use Rattle.replication.specs.Images.{source_of, arrive}
use Rattle.replication.specs.Runs.Run.{event, Run, world_at}
use Rattle.replication.specs.Runs.Strays.{AllowedWithStrays, AllowedWithStraysUp}
use Rattle.replication.specs.Runs.Claim.{stored_green, memory_green, green_at}
use Rattle.image.specs.Decode.{greens_in}
use Rattle.image.specs.Outcome.{image_after}
use Rattle.daemons.specs.Buffers.{source_in, step_in}
use Rattle.daemons.specs.Daemons.{daemons_at}
use Rattle.daemons.specs.Claim.{HistoryIn}
use Rattle.pegs.specs.Operations.{Peg}
use Rattle.pegs.specs.Register.{advance, register_of}
use Rattle.pegs.specs.Image.{pegs_in, read_register, used_in}
use Rattle.register_runs.specs.Joint.{step_part, payloads, joint_of}
use Rattle.register_runs.specs.Registers.{registers_at}
use Rattle.register_runs.specs.Depots.{joint_in, Depots, Lent, LongEnoughAll, depots_at}

-- ---- the machine's

module _ (n q : ℕ) (l : Run) where
  -- At every moment, in memory and in store, the register is the fold of that server's green list.
  pub record RegistersFold : Type 0 where
    pub memory : (p i : ℕ) → (registers_at n q l p i).memory ≡ register_of (payloads (memory_green n q l p i))
    pub store : (p i : ℕ) → (registers_at n q l p i).store ≡ register_of (payloads (stored_green n q l p i))

  -- The register of a server: from memory, or from the store while it is down.
  unfoldable pub register_at : ℕ → ℕ → List Peg
  register_at p i = pick ((world_at n q l p).down i) (registers_at n q l p i).store (registers_at n q l p i).memory

  -- Equally long green lists have equal registers; otherwise the longer's register is the shorter's, carried on.
  pub record RegistersAgree : Type 0 where
    pub equal : (p i j : ℕ) → i < n → j < n → length (green_at n q l p i) ≡ length (green_at n q l p j) → register_at p i ≡ register_at p j
    pub further : (p i j : ℕ) → i < n → j < n → length (green_at n q l p i) ≤ length (green_at n q l p j)
        → register_at p j ≡ advance (register_at p i) (payloads (drop (length (green_at n q l p i)) (green_at n q l p j)))

-- ---- in the buffers of daemons

-- The register's buffer of a server: its stored image while it is down; and the state's.
unfoldable pub shown_register : Depots → ℕ → List ℕ
shown_register d i = pick (d.down i) (d.depot i).registers.store (d.depot i).registers.state

unfoldable pub shown_green : Depots → ℕ → List Action
shown_green d i = greens_in (pick (d.down i) (d.depot i).states.store (d.depot i).states.state)

-- The register's buffer r reads as the fold of the whole history g, white part included, of the state in the buffer b beside it.
pub record FoldIn (b r : List ℕ) (g : List Action) : Type 0 where
  pub history : HistoryIn b g
  pub register : read_register r ≡ some (register_of (payloads g))

module _ (n q : ℕ) (l : Run) (x : Lent) where
  abbrev depots : ℕ → Depots
  depots p = depots_at n q l x p

  -- The states' buffers are those of daemons without registers, so all that is proved of these holds of them. Each register's buffer reads as the
  -- fold of the whole history of the state's buffer beside it, which is the machine's by the run alone.
  pub record DepotsFollow : Type 0 where
    pub states : (p i : ℕ) → i < n → ((depots p).depot i).states ≡ (daemons_at n q l x.states p).buffers i
    pub down : (p i : ℕ) → i < n → (depots p).down i ≡ (daemons_at n q l x.states p).down i
    pub memory : (p i : ℕ) → i < n → (depots p).down i ≡ false
        → FoldIn ((depots p).depot i).states.state ((depots p).depot i).registers.state (memory_green n q l p i)
    pub store : (p i : ℕ) → i < n
        → FoldIn ((depots p).depot i).states.store ((depots p).depot i).registers.store (stored_green n q l p i)
    -- Number, store word, length of records, state and outgoing buffer are the step's on the states' buffers: so what `BuffersFollow` says of
    -- answers, bytes, records and what is sent holds of the joint step ..
    pub answer : (p i k : ℕ) (e : List ℕ) → at l p ≡ some (event i e k)
        → step_part (joint_in ((depots p).depot i) e (x.states.out p)) ≡ step_in ((daemons_at n q l x.states p).buffers i) e (x.states.out p)
    -- .. and all of its answer is made of the machine's: the actions that it counts and applies are those that turned green.
    pub outcome : (p i k : ℕ) (e : List ℕ) → at l p ≡ some (event i e k)
        → joint_in ((depots p).depot i) e (x.states.out p)
        ≡ joint_of (image_after (source_of ((world_at n q l p).images i) e) e) (arrive ((world_at n q l p).images i) e)
        (source_in ((depots p).depot i).states e) (source_in ((depots p).depot i).registers e) (x.states.out p)

  pub record DepotsAgree : Type 0 where
    -- "equal registers, byte for byte in use"
    pub equal : (p i j : ℕ) → i < n → j < n → length (shown_green (depots p) i) ≡ length (shown_green (depots p) j)
        → used_in (shown_register (depots p) i) ≡ used_in (shown_register (depots p) j)
    pub further : (p i j : ℕ) → i < n → j < n → length (shown_green (depots p) i) ≤ length (shown_green (depots p) j)
        → pegs_in (shown_register (depots p) j)
        ≡ advance (pegs_in (shown_register (depots p) i)) (payloads (drop (length (shown_green (depots p) i)) (green_at n q l p j)))

pub record RegistersClaim : Type 0 where
  pub folds : (n q : ℕ) (l : Run) → RegistersFold n q l
  pub agree : (n q : ℕ) (l : Run) → AllowedWithStrays n q l → RegistersAgree n q l
  pub depots : (n q : ℕ) (l : Run) → AllowedWithStraysUp n q l → (x : Lent) → LongEnoughAll n q l x
      → DepotsFollow n q l x × DepotsAgree n q l x
