-- How a taken event changes the last primary, the attempt, the mark and the yellow list.
use Rattle.std.specs.Prelude.{ℕ, ◌+◌, ◌≡◌, true, false, ◌⊎◌, List}
use Rattle.format.specs.Types.{Action, State, Record, action, cpc, regular}
use Rattle.replication.specs.Machine.Types.{Non_prim, Reg_prim, Trans_prim, Exchange_states, Exchange_actions, Construct, No, Un}
use Rattle.replication.specs.Machine.Types.{Configuration, Server, mode_of}
use Rattle.replication.specs.Machine.Colours.{yellow}
use Rattle.replication.specs.Machine.Exchange as X
use Rattle.replication.specs.Machine.Exchange.{taken_primary, taken_attempt, taken_votes, quorum}
use Rattle.replication.specs.Machine.Install.{install, install_votes}
use Rattle.replication.specs.Machine.Step as M
use Rattle.replication.specs.Machine.Step.{here_set, collected, all_states_in, yellow_valid}
use Rattle.replication.specs.Laws.Order.{hearing}

-- The States that s has with the record r.
abbrev pub states_with : Record → Server → List State
states_with r s = collected (hearing r s)

-- The record ends the exchange: the last State with nothing planned, or the last retransmission.
pub data EndsExchange (s : Server) (r : Record) : Type 0 where
  with_states : mode_of s ≡ Exchange_states → all_states_in (hearing r s) ≡ true → EndsExchange s r
  with_actions : mode_of s ≡ Exchange_actions → hearing r s ≡ s → EndsExchange s r

pub data VotesChange (s : Server) (r : Record) (t : Server) : Type 0 where
  kept : t.votes ≡ s.votes → VotesChange s r t
  yellowed : (a : Action) → mode_of s ≡ Trans_prim → r ≡ action a → t.votes ≡ (yellow a s).votes → VotesChange s r t
  installed : (k i : ℕ) → mode_of s ≡ Construct → mode_of t ≡ Reg_prim → r ≡ cpc k i → t.votes ≡ install_votes s.votes
      → VotesChange s r t
  installed_late : (a : Action) → mode_of s ≡ Un → mode_of t ≡ Trans_prim → r ≡ action a → t.votes ≡ (yellow a (install s)).votes
      → VotesChange s r t
  unmarked : (c : Configuration) → mode_of s ≡ No → r ≡ regular c.id c.set → t.votes ≡ M.unmarked s.votes → VotesChange s r t
  made_valid : (c : Configuration) → mode_of s ≡ Trans_prim → r ≡ regular c.id c.set
      → t.votes ≡ yellow_valid (M.unmarked s.votes) → VotesChange s r t
  decided : EndsExchange s r → mode_of t ≡ Non_prim → quorum (states_with r s) (here_set s) ≡ false
      → t.votes ≡ taken_votes s.me (states_with r s) → VotesChange s r t
  attempted : EndsExchange s r → mode_of t ≡ Construct → quorum (states_with r s) (here_set s) ≡ true
      → t.votes ≡ X.attempted (here_set s) (taken_votes s.me (states_with r s)) → VotesChange s r t

-- The same for the last primary and the attempt alone.
pub data PrimaryChange (s : Server) (r : Record) (t : Server) : Type 0 where
  kept : t.votes.last ≡ s.votes.last → t.votes.attempt ≡ s.votes.attempt → PrimaryChange s r t
  -- by Install: "primary index + 1, its attempt the current one, its set the mark's; attempt 0"
  installed : (mode_of s ≡ Construct) ⊎ (mode_of s ≡ Un) → t.votes.last.index ≡ s.votes.last.index + 1
      → t.votes.last.attempt ≡ s.votes.attempt → t.votes.last.set ≡ s.votes.mark.set → t.votes.attempt ≡ 0
      → t.votes.mark ≡ s.votes.mark → PrimaryChange s r t
  -- by the end of an exchange, without and with a quorum
  decided : EndsExchange s r → t.votes.last ≡ taken_primary (states_with r s) → t.votes.attempt ≡ taken_attempt (states_with r s)
      → PrimaryChange s r t
  attempted : EndsExchange s r → t.votes.last ≡ taken_primary (states_with r s) → t.votes.attempt ≡ taken_attempt (states_with r s) + 1
      → PrimaryChange s r t
