-- Document 02, K6: white actions. The number `white` of a server says how many of its first green actions are white. An event is the rule's, behind a
-- sieve that lets an action for which there is no place pass as one beyond a gap, and then raises that number.
use Rattle.std.specs.Prelude.{ℕ, max, min, Bool, true, false, not, List, [], ◌∷◌, length}
use Rattle.std.proofs.Math.Option.{Option, none, some}
use Rattle.base.specs.Tests.{◌and◌, ◌≤?◌, ◌<?◌, pick}
use Rattle.format.specs.Types.{Action, Record, action, retransmission, state, cpc, regular, transitional, request, recovery}
use Rattle.replication.specs.Machine.Types.{Log, Server, Outcome, refused, taken, with_white}
use Rattle.replication.specs.Machine.Colours.{is_next, unwhite}
use Rattle.replication.specs.Machine.Install.{install_log}
use Rattle.replication.specs.Machine.Rules.{Rule, ignoring, reddening, greening, yellowing, late_installing, exchanging, collecting_state}
use Rattle.replication.specs.Machine.Rules.{collecting_cpc, collecting_late_cpc, joining, joining_unmarked, joining_yellow, leaving, requesting}
use Rattle.replication.specs.Machine.Rules.{recovering, is_ignored}

-- ---- counting

-- The lowest of these numbers, 0 of none.
unfoldable pub least : List ℕ → ℕ
least [] = 0
least (x ∷ []) = x
least (x ∷ y ∷ ys) = min x (least (y ∷ ys))

unfoldable pub highest_white : List Action → ℕ
highest_white [] = 0
highest_white (a ∷ l) = max a.white_length (highest_white l)

-- ---- what is entered, and what it meets

-- The action that the rule would enter.
unfoldable pub entrant : Rule → Server → Option Action
entrant ignoring s = none
entrant (reddening a) s = some a
entrant (greening a) s = some a
entrant (yellowing a) s = some a
entrant (late_installing a) s = some a
entrant (exchanging p a) s = pick (1 ≤? p and p ≤? length s.log.green) none (some a)
entrant (collecting_state x) s = none
entrant (collecting_cpc k) s = none
entrant (collecting_late_cpc k) s = none
entrant (joining c) s = none
entrant (joining_unmarked c) s = none
entrant (joining_yellow c) s = none
entrant (leaving m t) s = none
entrant (requesting p) s = none
entrant recovering s = none

-- The log that it meets: in Un after Install.
unfoldable pub met_log : Rule → Server → Log
met_log ignoring s = s.log
met_log (reddening a) s = s.log
met_log (greening a) s = s.log
met_log (yellowing a) s = s.log
met_log (late_installing a) s = install_log s.votes.yellow.ids s.log
met_log (exchanging p a) s = s.log
met_log (collecting_state x) s = s.log
met_log (collecting_cpc k) s = s.log
met_log (collecting_late_cpc k) s = s.log
met_log (joining c) s = s.log
met_log (joining_unmarked c) s = s.log
met_log (joining_yellow c) s = s.log
met_log (leaving m t) s = s.log
met_log (requesting p) s = s.log
met_log recovering s = s.log

-- "Before entering an action, and from no other, a server takes that white length if it is higher than its own, but never above its own green
-- length."
unfoldable pub taken_from : Option Action → Log → ℕ → ℕ
taken_from none l w = w
taken_from (some a) l w = pick (is_next l a) (max w (min (length l.green) a.white_length)) w

unfoldable pub is_recovering : Rule → Bool
is_recovering ignoring = false
is_recovering (reddening a) = false
is_recovering (greening a) = false
is_recovering (yellowing a) = false
is_recovering (late_installing a) = false
is_recovering (exchanging p a) = false
is_recovering (collecting_state x) = false
is_recovering (collecting_cpc k) = false
is_recovering (collecting_late_cpc k) = false
is_recovering (joining c) = false
is_recovering (joining_unmarked c) = false
is_recovering (joining_yellow c) = false
is_recovering (leaving m t) = false
is_recovering (requesting p) = false
is_recovering recovering = true

-- A recovery enters the own list.
unfoldable pub took_white : Rule → Server → ℕ
took_white k s =
    pick (is_recovering k) (max s.white (min (length s.log.green) (highest_white s.log.own)))
    (taken_from (entrant k s) (met_log k s) s.white)

-- "An action whose creator then still has q unwhite ones entered here is passed over like one beyond a gap"
unfoldable pub no_place : Option Action → Log → ℕ → ℕ → Bool
no_place none l w q = false
no_place (some a) l w q = is_next l a and not (unwhite a.id.creator w l <? q)

unfoldable pub full : Rule → Server → Bool
full k s = no_place (entrant k s) (met_log k s) (took_white k s) s.quota

-- ---- the sieve

-- An action that is nobody's next.
unfoldable pub beyond : Action → Action
beyond a = record {
  id = record { creator = a.id.creator; index = 0 };
  green_length = a.green_length;
  white_length = a.white_length;
  payload = a.payload;
}

unfoldable pub sifted : Bool → Action → Action
sifted b a = pick b (beyond a) a

unfoldable pub sieved : Bool → Rule → Rule
sieved b ignoring = ignoring
sieved b (reddening a) = reddening (sifted b a)
sieved b (greening a) = greening (sifted b a)
sieved b (yellowing a) = yellowing (sifted b a)
sieved b (late_installing a) = late_installing (sifted b a)
sieved b (exchanging p a) = exchanging p (sifted b a)
sieved b (collecting_state x) = collecting_state x
sieved b (collecting_cpc k) = collecting_cpc k
sieved b (collecting_late_cpc k) = collecting_late_cpc k
sieved b (joining c) = joining c
sieved b (joining_unmarked c) = joining_unmarked c
sieved b (joining_yellow c) = joining_yellow c
sieved b (leaving m t) = leaving m t
sieved b (requesting p) = requesting p
sieved b recovering = recovering

unfoldable pub sieved_record : Bool → Record → Record
sieved_record b (action a) = action (sifted b a)
sieved_record b (retransmission k p a) = retransmission k p (sifted b a)
sieved_record b (state x) = state x
sieved_record b (cpc k i) = cpc k i
sieved_record b (regular i t) = regular i t
sieved_record b (transitional t) = transitional t
sieved_record b (request p) = request p
sieved_record b recovery = recovery

-- ---- the raise

-- "An action green on every server, by the noted green lengths, becomes white": once, at the end of the event; an ignored State or CPC changes
-- nothing.
unfoldable pub white_after : Rule → Server → Server → ℕ
white_after k s t = pick (is_ignored k) s.white (max (took_white k s) (min (length t.log.green) (least t.noted)))

unfoldable pub raised : Rule → Server → Outcome Record → Outcome Record
raised k s (refused j) = refused j
raised k s (taken t r b g) = taken (with_white (white_after k s t) t) r b g
