-- What each rule may rely on: the record was in range, the state takes it by this rule, and rows 5, 6 and 3 do not apply.
use Rattle.std.specs.Prelude.{ℕ, ◌≤◌, ◌<◌, ◌≡◌, true}
use Rattle.format.specs.Limits.{most_number_limit, most_length_limit}
use Rattle.format.specs.Types.{Action, State}
use Rattle.replication.specs.Machine.Types.{Reg_prim, Trans_prim, Exchange_states, Exchange_actions, Construct, No, Un}
use Rattle.replication.specs.Machine.Types.{Server, mode_of}
use Rattle.replication.specs.Machine.Requests.{quota_left}
use Rattle.replication.specs.Machine.Rules.{Rule, ignoring, reddening, greening, yellowing, late_installing, exchanging, collecting_state}
use Rattle.replication.specs.Machine.Rules.{collecting_cpc, collecting_late_cpc, joining, joining_unmarked, joining_yellow, leaving, requesting}
use Rattle.replication.specs.Machine.Rules.{recovering, member_of, is_of}
use Rattle.replication.specs.Machine.WellFormedRanges.{PayloadFits, StateFits, ConfigurationFits, TransitionalFits}
use Rattle.replication.specs.Laws.Transitions.{Leads}

-- An own action is among those numbered.
abbrev pub Numbered : (me k : ℕ) → Action → Type 0
Numbered me k a = a.id.creator ≡ me → a.id.index ≤ k

-- What is asked of an action that comes: its index is asked to be 1 or more only by being entered.
pub record Came (n q : ℕ) (a : Action) : Type 0 where
  pub creator : a.id.creator < n
  pub most : a.id.index ≤ most_number_limit
  pub green_length : a.green_length ≤ most_length_limit
  pub white_length : a.white_length ≤ most_length_limit
  pub payload : PayloadFits a.payload

-- An action that was delivered, or resent: in range, and numbered already if it is the server's own.
pub record Delivered (s : Server) (a : Action) : Type 0 where
  pub fits : Came s.servers s.quota a
  pub own : Numbered s.me s.log.numbered a

-- A State that row 6 does not refuse.
pub record StateCame (s : Server) (x : State) : Type 0 where
  pub fits : StateFits s.servers s.quota x
  pub member : member_of s.membership.configuration x.sender ≡ true
  pub configuration : is_of s.membership.configuration x.configuration ≡ true

abbrev pub RuleFits : Rule → Server → Type 0
RuleFits ignoring s = Unit {0}
RuleFits (reddening a) s = Delivered s a
RuleFits (greening a) s = Delivered s a × (mode_of s ≡ Reg_prim)
RuleFits (yellowing a) s = Delivered s a × (mode_of s ≡ Trans_prim)
RuleFits (late_installing a) s = Delivered s a × (mode_of s ≡ Un)
RuleFits (exchanging p a) s = Delivered s a × (mode_of s ≡ Exchange_actions)
RuleFits (collecting_state x) s = StateCame s x × (mode_of s ≡ Exchange_states)
RuleFits (collecting_cpc k) s = (k < s.servers) × (mode_of s ≡ Construct)
RuleFits (collecting_late_cpc k) s = (k < s.servers) × (mode_of s ≡ No)
RuleFits (joining c) s = ConfigurationFits s.servers s.me c
RuleFits (joining_unmarked c) s = ConfigurationFits s.servers s.me c
RuleFits (joining_yellow c) s = ConfigurationFits s.servers s.me c
RuleFits (leaving m t) s = TransitionalFits s.servers s.me s.membership.configuration t × Leads (mode_of s) m
RuleFits (requesting p) s = PayloadFits p × (quota_left s ≡ true)
RuleFits recovering s = Unit {0}
