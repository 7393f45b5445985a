-- For each kind of record that a taken event puts out: when it is put out, what it says, and what is put out with it.
use Rattle.std.specs.Prelude.{ℕ, ◌≡◌, Bool, true, false, List, [], ◌∷◌}
use Rattle.std.proofs.Math.Option.{some}
use Rattle.format.specs.Types.{State, Record, state, cpc, regular}
use Rattle.replication.specs.Machine.Types.{Exchange_states, Exchange_actions, Construct, Configuration, Server, mode_of}
use Rattle.replication.specs.Machine.Exchange.{quorum}
use Rattle.replication.specs.Machine.Plan.{own_part}
use Rattle.replication.specs.Machine.Step.{own_state, here_set, here_id, collected, all_states_in}
use Rattle.replication.specs.Laws.Order.{hearing}
use Rattle.replication.specs.Laws.Votes.{EndsExchange}
use Rattle.replication.specs.Laws.Sending.{Resent}

-- The State x: on entering a regular configuration, alone, stored first; it says what the server then has.
pub record StateSent (r : Record) (t : Server) (rs : List Record) (b : Bool) (x : State) : Type 0 where
  pub entered : Configuration
  pub brought : r ≡ regular entered.id entered.set
  pub there : t.membership.configuration ≡ some entered
  pub to : mode_of t ≡ Exchange_states
  pub says : x ≡ own_state entered t
  pub alone : rs ≡ state x ∷ []
  pub stored : b ≡ true

-- The retransmission e: when every member's State is in, with one's whole part of the plan.
pub record PartSent (s : Server) (r : Record) (t : Server) (rs : List Record) (b : Bool) (e : Record) : Type 0 where
  pub last : State
  pub brought : r ≡ state last
  pub from : mode_of s ≡ Exchange_states
  pub to : mode_of t ≡ Exchange_actions
  pub complete : all_states_in t ≡ true
  pub whole : rs ≡ own_part t.servers t.me t.white t.log (collected t)
  pub planned : Resent t.me t.white t.log (collected t) e
  pub unstored : b ≡ false

-- The CPC of k in the configuration i: at the end of an exchange with a quorum, alone, stored first.
pub record CpcSent (s : Server) (r : Record) (t : Server) (rs : List Record) (b : Bool) (k i : ℕ) : Type 0 where
  pub ended : EndsExchange s r
  pub agreed : quorum (collected (hearing r s)) (here_set s) ≡ true
  pub to : mode_of t ≡ Construct
  pub sender : k ≡ t.me
  pub configuration : i ≡ here_id t
  pub alone : rs ≡ cpc k i ∷ []
  pub stored : b ≡ true
