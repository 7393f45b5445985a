-- Document 01, 'Returned numbers', row 8: which states are well-formed. In the row's order; since K4 "numbered plus held above q" is a range.
-- What the row does not name is accepted (docs/DECISIONS.md, 32). "out of range" is read so that these are tested too (24, 31, 73):
-- a configuration's set holds the server, a transitional one too and lies inside the configuration's, if any; a collected State stands at its
-- sender's number and is of the configuration's id and of one of its members, so that there is none without a configuration; own actions are
-- sent and entered up to the last numbered; no more have come than can be planned. Lists by server have n entries.
use Rattle.std.specs.Prelude.{ℕ, ◌+◌, Bool, true, false, not, List, [], ◌∷◌, ◌++◌, map, length}
use Rattle.std.proofs.Math.Option.{Option, none, some}
use Rattle.base.specs.Tests.{◌and◌, ◌=?◌, ◌≤?◌, ◌<?◌}
use Rattle.base.specs.Lists.{all, above, below, sum, is_there}
use Rattle.base.specs.Sets.{in_set, inside}
use Rattle.format.specs.Limits.{most_index_limit, most_number_limit, most_planned}
use Rattle.format.specs.Types.{Id, Action, State, Context}
use Rattle.format.specs.Range.{context_ok, length_ok, action_ok, cuts_ok, index_ok, set_ok, own_set_ok, primary_ok, mark_ok, yellow_ok}
use Rattle.format.specs.Range.{configuration_ok, state_ok, same_id, ids_differ}
use Rattle.replication.specs.Machine.Types.{Mode, Non_prim, Reg_prim, Trans_prim, Exchange_states, Exchange_actions, Construct, No, Un}
use Rattle.replication.specs.Machine.Types.{Log, Votes, Configuration, Membership, Server, context_of}
use Rattle.replication.specs.Machine.Colours.{cut}
use Rattle.replication.specs.Machine.Colours.{of_creator, shown}
use Rattle.replication.specs.Machine.Step.{all_states_in, all_come_of}

-- ---- "a number or set out of range"

unfoldable pub log_ranges : Context → Log → Bool
log_ranges c l =
    all (action_ok c) l.green
    and all (action_ok c) l.red
    and length l.cuts =? c.servers
    and cuts_ok most_number_limit l.cuts
    and all (action_ok c) l.own
    and l.numbered ≤? most_number_limit
    and l.sent ≤? l.numbered

unfoldable pub votes_ranges : Context → Votes → Bool
votes_ranges c v = primary_ok c v.last and index_ok v.attempt and mark_ok c v.mark and yellow_ok c v.yellow

unfoldable pub configuration_fits : Context → Option Configuration → Bool
configuration_fits c none = true
configuration_fits c (some d) = configuration_ok d.id and own_set_ok c d.set

-- Inside the regular one, if any.
unfoldable pub transitional_fits : Context → Option Configuration → Option ℕ → Bool
transitional_fits c d none = true
transitional_fits c none (some t) = own_set_ok c t
transitional_fits c (some d) (some t) = own_set_ok c t and inside t d.set

-- A collected State stands at its sender's number, and is of the configuration and of one of its members.
unfoldable pub collected_fits : Context → Option Configuration → ℕ → Option State → Bool
collected_fits c d k none = true
collected_fits c none k (some x) = false
collected_fits c (some d) k (some x) = state_ok c x and x.sender =? k and in_set k d.set and x.configuration =? d.id

unfoldable pub collected_fit : Context → Option Configuration → ℕ → List (Option State) → Bool
collected_fit c d k [] = true
collected_fit c d k (x ∷ xs) = collected_fits c d k x and collected_fit c d (k + 1) xs

unfoldable pub membership_ranges : Context → Membership → Bool
membership_ranges c m =
    configuration_fits c m.configuration
    and transitional_fits c m.configuration m.transitional
    and length m.states =? c.servers
    and collected_fit c m.configuration 0 m.states
    and set_ok c m.cpcs
    and m.come ≤? most_planned c.servers

unfoldable pub ranges : Context → Server → Bool
ranges c s =
    context_ok c
    and log_ranges c (shown s.white s.log)
    and votes_ranges c s.votes
    and membership_ranges c s.membership
    and length s.noted =? c.servers
    and all length_ok s.noted
    and s.white ≤? length s.log.green

-- ---- "an id twice in one list"; the ids of a yellow list differ by its range

unfoldable pub ids_in : List Action → List Id
ids_in l = map (λ a. a.id) l

unfoldable pub queue : Log → List Action
queue l = l.green ++ l.red

-- ---- "held actions of a creator that are not 1 to its cut"

unfoldable pub within_cut : Log → Action → Bool
within_cut l a = a.id.index ≤? cut l a.id.creator

unfoldable pub within_cuts : Log → Bool
within_cuts l = all (within_cut l) (queue l)

-- K6: "Number 8 counts white actions as held, and its q bounds only those not white."
unfoldable pub places_fit : (n q me w : ℕ) → Log → Bool
places_fit n q me w l =
    w + length (queue l) =? sum l.cuts
    and all (λ c. of_creator c (queue l) ≤? q) (below n)
    and of_creator me (queue l) + l.numbered ≤? q + cut l me

-- ---- "an own list that is not own cut + 1 to the last numbered"

unfoldable pub same_ids : List Id → List Id → Bool
same_ids [] [] = true
same_ids [] (y ∷ ys) = false
same_ids (x ∷ xs) [] = false
same_ids (x ∷ xs) (y ∷ ys) = same_id x y and same_ids xs ys

unfoldable pub own_list_fits : ℕ → Log → Bool
own_list_fits me l =
    cut l me ≤? l.numbered
    and same_ids (ids_in l.own) (map (λ i. record { creator = me; index = i }) (above (cut l me) l.numbered))

-- ---- the rest of the row

-- "a state other than Non_prim with no configuration" does not apply; "Exchange_actions without every member's State or with all planned in"
-- neither, nor "the primary index at 4,000,000,000 in Construct, No or Un".
unfoldable pub mode_fits : Mode → Server → Bool
mode_fits Non_prim s = true
mode_fits Reg_prim s = is_there s.membership.configuration
mode_fits Trans_prim s = is_there s.membership.configuration
mode_fits Exchange_states s = is_there s.membership.configuration
mode_fits Exchange_actions s = is_there s.membership.configuration and all_states_in s and not (all_come_of s)
mode_fits Construct s = is_there s.membership.configuration and s.votes.last.index <? most_index_limit
mode_fits No s = is_there s.membership.configuration and s.votes.last.index <? most_index_limit
mode_fits Un s = is_there s.membership.configuration and s.votes.last.index <? most_index_limit

unfoldable pub well_formed : Server → Bool
well_formed s =
    ranges (context_of s) s
    and ids_differ (ids_in (queue (shown s.white s.log)))
    and within_cuts (shown s.white s.log)
    and places_fit s.servers s.quota s.me s.white (shown s.white s.log)
    and own_list_fits s.me s.log
    and mode_fits s.membership.mode s
