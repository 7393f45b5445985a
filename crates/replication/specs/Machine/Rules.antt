-- Document 01, 'What each event does': which state takes which event, and the conditions of rows 5, 6 and 3 of 'Returned numbers'.
use Rattle.std.specs.Prelude.{ℕ, Bool, true, false, not, List, get_or}
use Rattle.std.proofs.Math.Option.{Option, none, some}
use Rattle.base.specs.Tests.{◌and◌, ◌or◌, ◌=?◌, ◌≤?◌}
use Rattle.base.specs.Lists.{is_there}
use Rattle.base.specs.Sets.{in_set}
use Rattle.format.specs.Types.{Action, State, Record, action, retransmission, state, cpc, regular, transitional, request, recovery}
use Rattle.replication.specs.Machine.Types.{Mode, Non_prim, Reg_prim, Trans_prim, Exchange_states, Exchange_actions, Construct, No, Un}
use Rattle.replication.specs.Machine.Types.{Configuration, Membership, Server}
use Rattle.replication.specs.Machine.Requests.{quota_left}

-- What an event that a state takes does there.
pub data Rule : Type 0 where
  -- nothing
  ignoring : Rule
  -- an action entered red, green, yellow
  reddening : Action → Rule
  greening : Action → Rule
  yellowing : Action → Rule
  -- Install, then yellow
  late_installing : Action → Rule
  -- a retransmission in an exchange: position and action
  exchanging : (position : ℕ) → Action → Rule
  collecting_state : State → Rule
  -- a CPC in Construct, and in No
  collecting_cpc : (sender : ℕ) → Rule
  collecting_late_cpc : (sender : ℕ) → Rule
  -- a regular configuration: with the mark kept; with the mark cleared; with the mark cleared and yellow made valid
  joining : Configuration → Rule
  joining_unmarked : Configuration → Rule
  joining_yellow : Configuration → Rule
  -- a transitional configuration's set, and the state it leads to
  leaving : Mode → ℕ → Rule
  requesting : List ℕ → Rule
  recovering : Rule

-- ---- the table: a state takes an event by a rule, or not at all ("Any pair not named is refused 5")

-- "Non_prim: action .. red"; "Reg_prim: action green"; "Trans_prim: action yellow"; "Exchange_states: .. Action red."; "Un: action does Install,
-- then yellow"
unfoldable pub on_action : Mode → Action → Option Rule
on_action Non_prim a = some (reddening a)
on_action Reg_prim a = some (greening a)
on_action Trans_prim a = some (yellowing a)
on_action Exchange_states a = some (reddening a)
on_action Exchange_actions a = none
on_action Construct a = none
on_action No a = none
on_action Un a = some (late_installing a)

-- "Non_prim: .. retransmission red"; "Exchange_actions: a retransmission .."
unfoldable pub on_retransmission : Mode → ℕ → Action → Option Rule
on_retransmission Non_prim p a = some (reddening a)
on_retransmission Reg_prim p a = none
on_retransmission Trans_prim p a = none
on_retransmission Exchange_states p a = none
on_retransmission Exchange_actions p a = some (exchanging p a)
on_retransmission Construct p a = none
on_retransmission No p a = none
on_retransmission Un p a = none

-- "Non_prim: .. State and CPC ignored."; "Exchange_states: .. When every member's State is in"
unfoldable pub on_state : Mode → State → Option Rule
on_state Non_prim x = some ignoring
on_state Reg_prim x = none
on_state Trans_prim x = none
on_state Exchange_states x = some (collecting_state x)
on_state Exchange_actions x = none
on_state Construct x = none
on_state No x = none
on_state Un x = none

-- "Construct: when every member's CPC is in"; "No: all CPCs in"
unfoldable pub on_cpc : Mode → ℕ → Option Rule
on_cpc Non_prim k = some ignoring
on_cpc Reg_prim k = none
on_cpc Trans_prim k = none
on_cpc Exchange_states k = none
on_cpc Exchange_actions k = none
on_cpc Construct k = some (collecting_cpc k)
on_cpc No k = some (collecting_late_cpc k)
on_cpc Un k = none

-- "Trans_prim: .. regular clears the mark, makes yellow valid, to Exchange_states."; "No: .. regular clears the mark, to Exchange_states.";
-- "Un: .. regular to Exchange_states, mark kept."; "Regular takes Non_prim to Exchange_states."
unfoldable pub on_regular : Mode → Configuration → Option Rule
on_regular Non_prim c = some (joining c)
on_regular Reg_prim c = none
on_regular Trans_prim c = some (joining_yellow c)
on_regular Exchange_states c = none
on_regular Exchange_actions c = none
on_regular Construct c = none
on_regular No c = some (joining_unmarked c)
on_regular Un c = some (joining c)

-- "transitional to Trans_prim"; "transitional to No"; "Transitional takes both exchange states to Non_prim and leaves Non_prim there."
unfoldable pub on_transitional : Mode → ℕ → Option Rule
on_transitional Non_prim t = some (leaving Non_prim t)
on_transitional Reg_prim t = some (leaving Trans_prim t)
on_transitional Trans_prim t = none
on_transitional Exchange_states t = some (leaving Non_prim t)
on_transitional Exchange_actions t = some (leaving Non_prim t)
on_transitional Construct t = some (leaving No t)
on_transitional No t = none
on_transitional Un t = none

-- "request and recovery come in every state."
unfoldable pub rule_for : Mode → Record → Option Rule
rule_for m (action a) = on_action m a
rule_for m (retransmission s p a) = on_retransmission m p a
rule_for m (state x) = on_state m x
rule_for m (cpc s i) = on_cpc m s
rule_for m (regular i s) = on_regular m (record { id = i; set = s })
rule_for m (transitional s) = on_transitional m s
rule_for m (request p) = some (requesting p)
rule_for m recovery = some recovering

-- ---- row 5, apart from the table

-- "an action or retransmission of this server's own action above those it has numbered" does not apply.
unfoldable pub numbered_own : Server → Action → Bool
numbered_own s a = not (a.id.creator =? s.me) or a.id.index ≤? s.log.numbered

-- "A regular configuration needs a transitional since the last one, or none yet since start or recovery"
unfoldable pub regular_due : Membership → Bool
regular_due m = is_there m.transitional or not (is_there m.configuration)

-- "a second transitional cannot come"
unfoldable pub transitional_due : Membership → Bool
transitional_due m = not (is_there m.transitional)

unfoldable pub possible : Server → Record → Bool
possible s (action a) = numbered_own s a
possible s (retransmission k p a) = numbered_own s a
possible s (state x) = true
possible s (cpc k i) = true
possible s (regular i t) = regular_due s.membership
possible s (transitional t) = transitional_due s.membership
possible s (request p) = true
possible s recovery = true

-- ---- row 6

-- "record's sender outside the last regular set (with no configuration, every sender is)" does not apply.
unfoldable pub member_of : Option Configuration → ℕ → Bool
member_of none k = false
member_of (some c) k = in_set k c.set

-- "a State or CPC whose id is not that configuration's" does not apply.
unfoldable pub is_of : Option Configuration → ℕ → Bool
is_of none i = false
is_of (some c) i = i =? c.id

unfoldable pub state_in : Membership → ℕ → Bool
state_in m k = is_there (get_or m.states k none)

unfoldable pub cpc_in : Membership → ℕ → Bool
cpc_in m k = in_set k m.cpcs

-- "second State or CPC of that sender" does not apply either.
unfoldable pub from_member : Membership → Record → Bool
from_member m (action a) = member_of m.configuration a.id.creator
from_member m (retransmission k p a) = member_of m.configuration k
from_member m (state x) =
    member_of m.configuration x.sender and is_of m.configuration x.configuration and not (state_in m x.sender)
from_member m (cpc k i) = member_of m.configuration k and is_of m.configuration i and not (cpc_in m k)
from_member m (regular i t) = true
from_member m (transitional t) = true
from_member m (request p) = true
from_member m recovery = true

-- "Ignored State and CPC skip 6."
unfoldable pub is_ignored : Rule → Bool
is_ignored ignoring = true
is_ignored (reddening a) = false
is_ignored (greening a) = false
is_ignored (yellowing a) = false
is_ignored (late_installing a) = false
is_ignored (exchanging p a) = false
is_ignored (collecting_state x) = false
is_ignored (collecting_cpc k) = false
is_ignored (collecting_late_cpc k) = false
is_ignored (joining c) = false
is_ignored (joining_unmarked c) = false
is_ignored (joining_yellow c) = false
is_ignored (leaving m t) = false
is_ignored (requesting p) = false
is_ignored recovering = false

-- ---- row 3

unfoldable pub within_quota : Server → Record → Bool
within_quota s (action a) = true
within_quota s (retransmission k p a) = true
within_quota s (state x) = true
within_quota s (cpc k i) = true
within_quota s (regular i t) = true
within_quota s (transitional t) = true
within_quota s (request p) = quota_left s
within_quota s recovery = true
