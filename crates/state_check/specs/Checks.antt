-- What the code tests of a state's buffer: a conjunction of tests that take one pass each.
use Rattle.std.specs.Prelude.{ℕ, ◌+◌, ◌*◌, ◌≤◌, ◌<◌, Bool, true, List, length}
use Rattle.base.specs.Tests.{◌and◌, ◌≤?◌, ◌<?◌, ◌=?◌, pick}
use Rattle.base.specs.Bytes.{Bytes, number_at, numbers_at}
use Rattle.base.specs.Lists.{sum, Each}
use Rattle.base.specs.Sets.{inside}
use Rattle.format.specs.Limits.{most_index_limit}
use Rattle.format.specs.Places.{cut_size}
use Rattle.format.specs.Types.{Action, Context}
use Rattle.format.specs.Range.{sizes_ok, context_ok, ids_ok}
use Rattle.format.specs.Read.{ids_at}
use Rattle.replication.specs.Machine.Types.{Non_prim, Exchange_states, Exchange_actions, Un}
use Rattle.replication.specs.Machine.Colours.{of_creator}
use Rattle.record.specs.Context.{reading_context, context_of, ContextIn}
use Rattle.record.specs.declared.Context.{Context as CodeContext}
use Rattle.record.specs.declared.State.{State}
use Rattle.image.specs.Layout.{the_cuts, the_noted, the_states, the_yellow, the_own, the_queue, offset, state_length}
use Rattle.image.specs.Decode.{servers_in, quota_in, actions_at}
use Rattle.image.specs.Header.{header_in, mode_number}
use Rattle.state_check.specs.Slots.{queue_fits, own_fits, noted_fit}
use Rattle.state_check.specs.Tally.{quotas_fit}
use Rattle.state_check.specs.Numbers.{numbers_ok}
use Rattle.state_check.specs.Collected.{collected_ok, planned_in}

-- Where a section begins.
unfoldable pub place_of : Context → ℕ → ℕ
place_of c k = offset c.servers c.quota k

-- The server's own cut.
unfoldable pub own_cut : Context → List ℕ → ℕ
own_cut c b = number_at cut_size b (place_of c the_cuts + cut_size * c.self)

-- K6: "Number 8 counts white actions as held": those that were entered, by the cuts, and have no place in the queue.
unfoldable pub queue_cuts : Context → (actions : ℕ) → List ℕ → Bool
queue_cuts c actions b = actions ≤? sum (numbers_at cut_size c.servers b (place_of c the_cuts))

-- "own cut + 1 to the last numbered": so many are on the own list.
unfoldable pub own_next : Context → (own numbered : ℕ) → List ℕ → Bool
own_next c own numbered b = own_cut c b + own =? numbered

unfoldable pub cuts_fit : Context → State → List ℕ → Bool
cuts_fit c h b = queue_cuts c h.queue_length b and own_next c h.own_count h.numbered b

-- So many yellow ids.
abbrev pub yellow_ok : Context → (ids : ℕ) → List ℕ → Bool
yellow_ok c ids b = ids_ok c (ids_at ids b (place_of c the_yellow))

-- So many own actions.
abbrev pub own_ok : Context → (own : ℕ) → List ℕ → Bool
own_ok c own b = own_fits c (own_cut c b) own b (place_of c the_own)

-- The queue of so many actions.
abbrev pub queue_ok : Context → (actions : ℕ) → List ℕ → Bool
queue_ok c actions b = queue_fits c (place_of c the_cuts) actions b (place_of c the_queue)

-- So many actions of the queue.
abbrev pub queue_in : Context → (actions : ℕ) → List ℕ → List Action
queue_in c actions b = actions_at actions b (place_of c the_queue)

-- The own actions of the queue and those that are numbered and not entered are at most q together.
unfoldable pub own_room_of : Context → (numbered actions : ℕ) → List ℕ → Bool
own_room_of c numbered actions b = of_creator c.self (queue_in c actions b) + numbered ≤? c.quota + own_cut c b

unfoldable pub places_ok : Context → (numbered actions : ℕ) → List ℕ → Bool
places_ok c numbered actions b = quotas_fit c.servers c.quota (queue_in c actions b) and own_room_of c numbered actions b

-- Cuts and noted lengths; then so many yellow ids, own actions and actions in the queue.
unfoldable pub first_lists_ok : Context → State → List ℕ → Bool
first_lists_ok c h b = cuts_fit c h b and noted_fit c b (place_of c the_noted)

unfoldable pub last_lists_ok : Context → (ids own actions : ℕ) → List ℕ → Bool
last_lists_ok c ids own actions b =
    yellow_ok c ids b and own_ok c own b and queue_ok c actions b

unfoldable pub lists_ok : Context → State → List ℕ → Bool
lists_ok c h b =
    first_lists_ok c h b
    and last_lists_ok c h.yellow_count h.own_count h.queue_length b
    and places_ok c h.numbered h.queue_length b

-- Every member's State is in, and not all planned retransmissions have come.
unfoldable pub exchange_ok : Context → State → List ℕ → Bool
exchange_ok c h b =
    inside h.configuration_set h.states
    and h.come <? planned_in c.servers c.quota h.states b (place_of c the_states)

-- "a state other than Non_prim with no configuration, Exchange_actions without every member's State or with all planned in, or the primary index at
-- 4,000,000,000 in Construct, No or Un" does not apply to the state of this number, and there is no state of a number above 7.
unfoldable pub mode_test : ℕ → (configured exchange below : Bool) → Bool
mode_test k configured exchange below =
    pick (k =? mode_number Non_prim) true
    (configured
    and pick (k ≤? mode_number Exchange_states) true (pick (k =? mode_number Exchange_actions) exchange (k ≤? mode_number Un and below)))

unfoldable pub mode_ok : Context → State → List ℕ → Bool
mode_ok c h b = mode_test h.mode (h.configuration_status =? 1) (exchange_ok c h b) (h.last.index.0 <? most_index_limit)

unfoldable pub checks_of : Context → State → List ℕ → Bool
checks_of c h b =
    context_ok c
    and numbers_ok c h
    and lists_ok c h b
    and collected_ok c h.states h.configuration_id c.servers 0 b (place_of c the_states)
    and mode_ok c h b

-- The numbers that the bytes b begin with, and what records are read against in that state.
unfoldable pub context_in : List ℕ → Context
context_in b = context_of (reading_context (header_in b))

unfoldable pub checks : List ℕ → Bool
checks b = checks_of (context_in b) (header_in b) b

-- The numbers of servers and the quota that the bytes b say are in range.
abbrev pub sizes_in_range : List ℕ → Bool
sizes_in_range b = sizes_ok (servers_in b) (quota_in b)

-- ---- what the code rests on

-- A buffer that is long enough for a state of these sizes.
pub record Buffer (c : CodeContext) (b : List ℕ) : Type 0 where
  pub context : ContextIn c
  pub bytes : Bytes b
  pub long : state_length c.servers c.quota ≤ length b

-- So many actions of the queue, which has room for them, and each is of one of the servers.
pub record CreatorsIn (c : CodeContext) (actions : ℕ) (b : List ℕ) : Type 0 where
  pub few : actions ≤ c.servers * c.quota
  pub creators : Each (λ a. a.id.creator < c.servers) (queue_in (context_of c) actions b)
