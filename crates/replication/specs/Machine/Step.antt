-- Document 01, 'What each event does': each rule's effect, and the step.
use Rattle.std.specs.Prelude.{ℕ, ◌+◌, Bool, true, false, not, List, [], ◌∷◌, map, length, drop, set}
use Rattle.std.proofs.Math.Option.{Option, none, some}
use Rattle.base.specs.Tests.{◌and◌, ◌or◌, ◌=?◌, ◌≤?◌, pick}
use Rattle.base.specs.Lists.{present, is_there}
use Rattle.base.specs.Sets.{in_set, inside, with_member}
use Rattle.format.specs.Types.{Action, State, Record, state, cpc, Reading, says}
use Rattle.format.specs.Read.{read}
use Rattle.format.specs.Write.{write}
use Rattle.replication.specs.Machine.Types.{Mode, Non_prim, Reg_prim, Trans_prim, Exchange_states, Exchange_actions, Construct, Un}
use Rattle.replication.specs.Machine.Types.{Log, Votes, Configuration, Server, Outcome, refused, taken, with_log, with_votes, with_membership}
use Rattle.replication.specs.Machine.Types.{with_noted, with_yellow, with_mode, with_transitional, with_states, with_cpcs, with_come}
use Rattle.replication.specs.Machine.Types.{in_mode, cleared_mark, no_states, context_of}
use Rattle.replication.specs.Machine.Colours.{red, green, yellow, note}
use Rattle.replication.specs.Machine.Plan.{planned, own_part}
use Rattle.replication.specs.Machine.Exchange.{note_all, taken_votes, attempted, quorum}
use Rattle.replication.specs.Machine.Install.{install}
use Rattle.replication.specs.Machine.Requests.{sends_now, numbered, send_waiting, waiting_records, recovered}
use Rattle.replication.specs.Machine.White.{full, sieved, raised}
use Rattle.replication.specs.Machine.Rules.{Rule, ignoring, reddening, greening, yellowing, late_installing, exchanging, collecting_state}
use Rattle.replication.specs.Machine.Rules.{collecting_cpc, collecting_late_cpc, joining, joining_unmarked, joining_yellow, leaving, requesting}
use Rattle.replication.specs.Machine.Rules.{recovering, rule_for, possible, from_member, is_ignored, within_quota}

-- ---- outcomes: from s to t

-- What turned green: what the green list gained.
unfoldable pub greened : Server → Server → List Action
greened s t = drop (length s.log.green) t.log.green

-- Nothing stored, nothing sent.
unfoldable pub quiet : Server → Server → Outcome Record
quiet s t = taken t [] false (greened s t)

-- "stored first", then these records sent.
unfoldable pub stored : Server → Server → List Record → Outcome Record
stored s t r = taken t r true (greened s t)

-- Sent with nothing stored.
unfoldable pub sent : Server → Server → List Record → Outcome Record
sent s t r = taken t r false (greened s t)

-- ---- entering Exchange_states: "on entry collected States and CPCs are dropped, the state is stored, a State sent."

unfoldable pub entering : Configuration → Server → Server
entering c s =
    with_membership (record {
      mode = Exchange_states;
      configuration = some c;
      transitional = none;
      states = no_states s.servers;
      cpcs = 0;
      come = s.membership.come;
    }) s

unfoldable pub own_state : Configuration → Server → State
own_state c s = record {
  sender = s.me;
  configuration = c.id;
  cuts = s.log.cuts;
  green_length = length s.log.green;
  attempt = s.votes.attempt;
  last = s.votes.last;
  mark = s.votes.mark;
  yellow = s.votes.yellow;
}

unfoldable pub join : Server → Configuration → Server → Outcome Record
join s c t = stored s (entering c t) (state (own_state c t) ∷ [])

-- "clears the mark"
unfoldable pub unmarked : Votes → Votes
unmarked v = record { last = v.last; attempt = v.attempt; mark = cleared_mark; yellow = v.yellow }

-- "makes yellow valid"
unfoldable pub yellow_valid : Votes → Votes
yellow_valid v = with_yellow (record { status = 1; ids = v.yellow.ids }) v

-- ---- the end of an exchange

-- The configuration that a server in an exchange or in Construct has.
unfoldable pub the_set : Option Configuration → ℕ
the_set none = 0
the_set (some c) = c.set

unfoldable pub the_id : Option Configuration → ℕ
the_id none = 0
the_id (some c) = c.id

unfoldable pub here_set : Server → ℕ
here_set s = the_set s.membership.configuration

unfoldable pub here_id : Server → ℕ
here_id s = the_id s.membership.configuration

unfoldable pub collected : Server → List State
collected s = present s.membership.states

-- Noted lengths and votes as the States decide.
unfoldable pub decided : Server → Server
decided s = with_noted (note_all (collected s) s.noted) (with_votes (taken_votes s.me (collected s)) s)

-- "If so attempt + 1, mark .., store, send CPC, Construct"
unfoldable pub attempting : Server → Server
attempting s = in_mode Construct (with_votes (attempted (here_set s) s.votes) s)

-- "else store, Non_prim."
unfoldable pub end_exchange : Server → Server → Outcome Record
end_exchange s t =
    pick (quorum (collected t) (here_set t))
    (stored s (attempting (decided t)) (cpc t.me (here_id t) ∷ []))
    (stored s (send_waiting (in_mode Non_prim (decided t))) (waiting_records (in_mode Non_prim (decided t))))

-- ---- States: "When every member's State is in: send one's part of the plan, to Exchange_actions."

unfoldable pub with_state : State → Server → Server
with_state x s = with_membership (with_states (set s.membership.states x.sender (some x)) s.membership) s

-- Each member from the number k on has its State in.
unfoldable pub all_from : ℕ → ℕ → List (Option State) → Bool
all_from here k [] = true
all_from here k (x ∷ xs) = (not (in_set k here) or is_there x) and all_from here (k + 1) xs

unfoldable pub all_states_in : Server → Bool
all_states_in s = all_from (here_set s) 0 s.membership.states

-- How many retransmissions are planned.
unfoldable pub planned_now : Server → ℕ
planned_now s = planned s.servers (collected s)

unfoldable pub resending : Server → Server
resending s = with_membership (with_mode Exchange_actions (with_come 0 s.membership)) s

unfoldable pub after_states : Server → Server → Outcome Record
after_states s t =
    pick (planned_now t =? 0) (end_exchange s t) (sent s (resending t) (own_part t.servers t.me t.white t.log (collected t)))

unfoldable pub collect_state : State → Server → Outcome Record
collect_state x s = pick (all_states_in (with_state x s)) (after_states s (with_state x s)) (quiet s (with_state x s))

-- ---- retransmissions: "a retransmission at position green length + 1 is green; one at a lower nonzero position is ignored; any other is red."

unfoldable pub placed : ℕ → Action → Log → Log
placed p a l =
    pick (p =? length l.green + 1) (green a l) (pick (1 ≤? p and p ≤? length l.green) l (red a l))

unfoldable pub one_more : Server → Server
one_more s = with_membership (with_come (s.membership.come + 1) s.membership) s

unfoldable pub exchanged : ℕ → Action → Server → Server
exchanged p a s = one_more (with_log (placed p a s.log) s)

-- "When as many have come as planned, possibly none, the exchange ends."
unfoldable pub all_come_of : Server → Bool
all_come_of s = planned_now s ≤? s.membership.come

unfoldable pub exchange : ℕ → Action → Server → Outcome Record
exchange p a s = pick (all_come_of (exchanged p a s)) (end_exchange s (exchanged p a s)) (quiet s (exchanged p a s))

-- ---- CPCs

unfoldable pub with_cpc : ℕ → Server → Server
with_cpc k s = with_membership (with_cpcs (with_member k s.membership.cpcs) s.membership) s

unfoldable pub all_cpcs_in : Server → Bool
all_cpcs_in s = inside (here_set s) s.membership.cpcs

-- "Construct: when every member's CPC is in: Install, to Reg_prim"
unfoldable pub installing : Server → Server → Outcome Record
installing s t = stored s (send_waiting (in_mode Reg_prim (install t))) (waiting_records (in_mode Reg_prim (install t)))

unfoldable pub collect_cpc : ℕ → Server → Outcome Record
collect_cpc k s = pick (all_cpcs_in (with_cpc k s)) (installing s (with_cpc k s)) (quiet s (with_cpc k s))

-- "No: all CPCs in, to Un"
unfoldable pub collect_late_cpc : ℕ → Server → Outcome Record
collect_late_cpc k s = pick (all_cpcs_in (with_cpc k s)) (quiet s (in_mode Un (with_cpc k s))) (quiet s (with_cpc k s))

-- ---- the other events

unfoldable pub leave : Mode → ℕ → Server → Server
leave m t s = with_membership (with_mode m (with_transitional t s.membership)) s

-- "Reg_prim: action green; the creator's green length is noted"
unfoldable pub green_and_note : Action → Server → Server
green_and_note a s = with_noted (note a.id.creator a.green_length s.noted) (with_log (green a s.log) s)

-- "numbered, put on the own list and stored first", and sent where requests are sent; K4: elsewhere it waits.
unfoldable pub requested : List ℕ → Server → Outcome Record
requested p s =
    pick (sends_now s.membership) (stored s (send_waiting (numbered p s)) (waiting_records (numbered p s))) (stored s (numbered p s) [])

-- ---- the step

unfoldable pub apply : Rule → Server → Outcome Record
apply ignoring s = quiet s s
apply (reddening a) s = quiet s (with_log (red a s.log) s)
apply (greening a) s = quiet s (green_and_note a s)
apply (yellowing a) s = quiet s (yellow a s)
apply (late_installing a) s = stored s (in_mode Trans_prim (yellow a (install s))) []
apply (exchanging p a) s = exchange p a s
apply (collecting_state x) s = collect_state x s
apply (collecting_cpc k) s = collect_cpc k s
apply (collecting_late_cpc k) s = collect_late_cpc k s
apply (joining c) s = join s c s
apply (joining_unmarked c) s = join s c (with_votes (unmarked s.votes) s)
apply (joining_yellow c) s = join s c (with_votes (yellow_valid (unmarked s.votes)) s)
apply (leaving m t) s = quiet s (leave m t s)
apply (requesting p) s = requested p s
apply recovering s = stored s (recovered s) []

-- 'Returned numbers': 5, 6, 3, "Checked in this order."; K4: "4 never occurs".
unfoldable pub apply_rule : Option Rule → Server → Record → Outcome Record
apply_rule none s r = refused 5
apply_rule (some k) s r =
    pick (possible s r)
    (pick (is_ignored k or from_member s.membership r)
    (pick (within_quota s r) (raised k s (apply (sieved (full k s) k) s)) (refused 3))
    (refused 6))
    (refused 5)

unfoldable pub answer : Server → Record → Outcome Record
answer s r = apply_rule (rule_for s.membership.mode r) s r

-- "A record that does not read ends the step with its number."
unfoldable pub on_reading : Server → Reading Record → Outcome Record
on_reading s (says r) = answer s r
on_reading s (Reading.refused k) = refused k

-- The records of an outcome as bytes.
unfoldable pub in_bytes : Outcome Record → Outcome (List ℕ)
in_bytes (refused k) = refused k
in_bytes (taken t r b g) = taken t (map write r) b g

-- One event at one server: its state and the event's bytes. For a recovery the state is the stored image.
unfoldable pub step : Server → List ℕ → Outcome (List ℕ)
step s e = in_bytes (on_reading s (read (context_of s) e))

-- ---- Install, read off an event

unfoldable pub installs_by : Option Rule → Server → Bool
installs_by none s = false
installs_by (some ignoring) s = false
installs_by (some (reddening a)) s = false
installs_by (some (greening a)) s = false
installs_by (some (yellowing a)) s = false
installs_by (some (late_installing a)) s = true
installs_by (some (exchanging p a)) s = false
installs_by (some (collecting_state x)) s = false
installs_by (some (collecting_cpc k)) s = all_cpcs_in (with_cpc k s)
installs_by (some (collecting_late_cpc k)) s = false
installs_by (some (joining c)) s = false
installs_by (some (joining_unmarked c)) s = false
installs_by (some (joining_yellow c)) s = false
installs_by (some (leaving m t)) s = false
installs_by (some (requesting p)) s = false
installs_by (some recovering) s = false

unfoldable pub installs_on : Server → Reading Record → Bool
installs_on s (says r) = installs_by (rule_for s.membership.mode r) s
installs_on s (Reading.refused k) = false

-- The event e, if taken, installs a primary component.
unfoldable pub installs : Server → List ℕ → Bool
installs s e = installs_on s (read (context_of s) e)
