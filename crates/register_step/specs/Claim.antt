-- Daemons that keep registers and take events by joint bursts keep what daemons keep that take each event of the same run by the joint step: so what
-- is proved of these holds of them.
use Rattle.std.specs.Prelude.{ℕ, suc, ◌+◌, ◌≤◌, ◌<◌, ◌≡◌, false, List, [], length, take, drop}
use Rattle.std.proofs.Math.Option.{some}
use Rattle.base.specs.Lists.{at}
use Rattle.replication.specs.Runs.Run.{event, put_out, sent_at}
use Rattle.replication.specs.Runs.Strays.{AllowedWithStraysUp}
use Rattle.replication.specs.Runs.Claim.{stored_green, memory_green, green_at}
use Rattle.daemons.specs.Sending.{cut_records}
use Rattle.daemons.specs.Daemons.{daemons_at}
use Rattle.burst.specs.Calls.{Call, together, IsStep, kept_at, place_of, ran_by, call_of}
use Rattle.pegs.specs.Register.{advance}
use Rattle.pegs.specs.Image.{pegs_in, used_in}
use Rattle.register_runs.specs.Joint.{Joint, step_part, unjoined, payloads}
use Rattle.register_runs.specs.Depots.{joint_in, Depots, Lent, LongEnoughAll}
use Rattle.register_runs.specs.Claim.{shown_register, shown_green, FoldIn}
use Rattle.register_step.specs.Burst.{JointBurst}
use Rattle.register_step.specs.Depots.{burst_in, came_in, LongEnoughForAll, system, by_places, stepwise}

-- The joint step's answer a to the event at m of the burst y: before the last one taken it has stored and put out nothing, the last one's is the
-- burst's, and the one that is refused gets the burst's number.
abbrev pub AnswersAs : JointBurst → (m : ℕ) → Joint → Type 0
AnswersAs y m a =
    IsStep y.number y.events m ((a.number ≡ 0) × (a.store ≡ 0) × (a.sent ≡ 0))
    ((step_part a ≡ record { number = 0; store = y.store; sent = y.sent; state = y.state; out = y.out }) × (a.register ≡ y.register))
    (a ≡ unjoined y.number y.state y.register y.out)

module _ (n q : ℕ) (cs : List Call) (x : Lent) where
  -- Before the call j, and the place of the run at which it begins.
  abbrev depots : ℕ → Depots
  depots j = kept_at (system n q cs x) j

  abbrev place : ℕ → ℕ
  place j = place_of (system n q cs x) j

  -- Of all calls, whether their run is allowed or not.
  pub record CallsFollow : Type 0 where
    pub kept : (j : ℕ) → depots j ≡ stepwise n q cs x (place j)
    -- The places of a call are those from its own up to the next one's.
    pub call : (j p : ℕ) → place j ≤ p → p < place (suc j) → call_of (system n q cs x) p ≡ j
    -- As many events came by a burst as it says that it took ..
    pub taken : (j i k m : ℕ) (e : List ℕ) (y : JointBurst) → at cs j ≡ some (together i e k)
        → burst_in ((depots j).depot i) e (x.states.out j) ≡ y → m < y.events → (v : List ℕ) × (at (came_in y e) m ≡ some v)
    -- .. and all that came stand at its places, and their steps answer as the burst does.
    pub steps : (j i k m : ℕ) (e v : List ℕ) (y : JointBurst) → at cs j ≡ some (together i e k)
        → burst_in ((depots j).depot i) e (x.states.out j) ≡ y → at (came_in y e) m ≡ some v
        → (at (ran_by (system n q cs x)) (place j + m) ≡ some (event i v k))
        × AnswersAs y m (joint_in ((stepwise n q cs x (place j + m)).depot i) v (x.states.out j))
    pub long : LongEnoughForAll n q cs x → LongEnoughAll n q (ran_by (system n q cs x)) (by_places n q cs x)

  -- The states' buffers before each call are those of daemons without registers that take each event by the step; each register's buffer reads as
  -- the fold of the whole history, white part included, of the state's buffer beside it, which is the machine's by the run alone; the registers
  -- agree as the green lists do; and what is sent is what the run says.
  pub record CallsAgree : Type 0 where
    pub states : (j i : ℕ) → i < n
        → ((depots j).depot i).states ≡ (daemons_at n q (ran_by (system n q cs x)) (by_places n q cs x).states (place j)).buffers i
    pub down : (j i : ℕ) → i < n → (depots j).down i ≡ (daemons_at n q (ran_by (system n q cs x)) (by_places n q cs x).states (place j)).down i
    pub memory : (j i : ℕ) → i < n → (depots j).down i ≡ false
        → FoldIn ((depots j).depot i).states.state ((depots j).depot i).registers.state (memory_green n q (ran_by (system n q cs x)) (place j) i)
    pub store : (j i : ℕ) → i < n
        → FoldIn ((depots j).depot i).states.store ((depots j).depot i).registers.store (stored_green n q (ran_by (system n q cs x)) (place j) i)
    -- "equal registers, byte for byte in use"
    pub equal : (j i k : ℕ) → i < n → k < n → length (shown_green (depots j) i) ≡ length (shown_green (depots j) k)
        → used_in (shown_register (depots j) i) ≡ used_in (shown_register (depots j) k)
    pub further : (j i k : ℕ) → i < n → k < n → length (shown_green (depots j) i) ≤ length (shown_green (depots j) k)
        → pegs_in (shown_register (depots j) k)
        ≡ advance (pegs_in (shown_register (depots j) i))
        (payloads (drop (length (shown_green (depots j) i)) (green_at n q (ran_by (system n q cs x)) (place j) k)))
    -- The first k records that a burst leaves in the outgoing buffer are those that the run says were sent, by the last event taken ..
    pub sent : (j i k m : ℕ) (e : List ℕ) (y : JointBurst) → at cs j ≡ some (together i e k)
        → burst_in ((depots j).depot i) e (x.states.out j) ≡ y → suc m ≡ y.events
        → take k (cut_records (take y.sent y.out)) ≡ sent_at n q (ran_by (system n q cs x)) (place j + m)
    -- .. and its other events put out nothing.
    pub unsent : (j i k m : ℕ) (e v : List ℕ) (y : JointBurst) → at cs j ≡ some (together i e k)
        → burst_in ((depots j).depot i) e (x.states.out j) ≡ y → at (came_in y e) m ≡ some v → (suc m ≡ y.events → ⊥)
        → put_out n q (ran_by (system n q cs x)) (place j + m) ≡ []

unfoldable pub JointBurstsFollow : Type 0
JointBurstsFollow = (n q : ℕ) (cs : List Call) (x : Lent) → CallsFollow n q cs x

-- For any bytes in the lent buffers, if they are long enough.
unfoldable pub JointBurstsAgree : Type 0
JointBurstsAgree =
    (n q : ℕ) (cs : List Call) (x : Lent) → AllowedWithStraysUp n q (ran_by (system n q cs x)) → LongEnoughForAll n q cs x
    → CallsAgree n q cs x
