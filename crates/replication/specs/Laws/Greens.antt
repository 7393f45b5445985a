-- The ways in which a taken event changes the green list.
use Rattle.std.specs.Prelude.{ℕ, ◌+◌, ◌≡◌, true, length}
use Rattle.format.specs.Types.{Action, Record, action, retransmission, cpc}
use Rattle.replication.specs.Machine.Types.{Reg_prim, Exchange_actions, Construct, Un, Server, mode_of}
use Rattle.replication.specs.Machine.Colours.{green}
use Rattle.replication.specs.Machine.Install.{install_log}
use Rattle.replication.specs.Machine.Step.{with_cpc, all_cpcs_in}

pub data GreenChange (s : Server) (r : Record) (t : Server) : Type 0 where
  -- not at all
  unchanged : t.log.green ≡ s.log.green → GreenChange s r t
  -- "Reg_prim: action green"
  delivered : (a : Action) → mode_of s ≡ Reg_prim → r ≡ action a → t.log.green ≡ (green a s.log).green → GreenChange s r t
  -- "a retransmission at position green length + 1 is green"
  resent : (k p : ℕ) (a : Action) → mode_of s ≡ Exchange_actions → r ≡ retransmission k p a → p ≡ length s.log.green + 1
      → t.log.green ≡ (green a s.log).green → GreenChange s r t
  -- "Construct: when every member's CPC is in: Install"
  installed : (k i : ℕ) → mode_of s ≡ Construct → r ≡ cpc k i → all_cpcs_in (with_cpc k s) ≡ true
      → t.log.green ≡ (install_log s.votes.yellow.ids s.log).green → GreenChange s r t
  -- "Un: action does Install"
  installed_late : (a : Action) → mode_of s ≡ Un → r ≡ action a
      → t.log.green ≡ (install_log s.votes.yellow.ids s.log).green → GreenChange s r t
