-- What the code tests of the numbers h of a state.
use Rattle.std.specs.Prelude.{ℕ, ◌*◌, ◌≤◌, Bool}
use Rattle.base.specs.Tests.{◌and◌, ◌≤?◌, ◌=?◌, pick}
use Rattle.base.specs.Sets.{inside}
use Rattle.format.specs.Limits.{layout_number, most_planned}
use Rattle.format.specs.Types.{Context}
use Rattle.format.specs.Range.{index_ok, set_ok, status_ok, primary_ok, mark_ok, own_set_ok, inside_last}
use Rattle.record.specs.declared.State.{State}
use Rattle.record.specs.Values.{primary_of, mark_of}

-- None, and zeros; or one whose set holds the server itself.
unfoldable pub regular_ok : Context → State → Bool
regular_ok c h =
    pick (h.configuration_status =? 0) (h.configuration_id =? 0 and h.configuration_set =? 0)
    (h.configuration_status =? 1 and own_set_ok c h.configuration_set)

-- None, and zeros; or one whose set holds the server itself and lies inside the regular one, if any.
unfoldable pub transitional_ok : Context → State → Bool
transitional_ok c h =
    pick (h.transitional_status =? 0) (h.transitional_set =? 0)
    (h.transitional_status =? 1 and own_set_ok c h.transitional_set and inside_last c.last h.transitional_set)

-- Configurations, the sets of senders, and the number of retransmissions come. Senders of States are members.
unfoldable pub membership_ok : Context → State → Bool
membership_ok c h =
    regular_ok c h
    and transitional_ok c h
    and set_ok c h.states
    and inside h.states h.configuration_set
    and set_ok c h.cpcs
    and h.come ≤? most_planned c.servers

-- How many actions the queue may have: 0 to n × q.
unfoldable pub queue_count_ok : Context → ℕ → Bool
queue_count_ok c k = k ≤? c.servers * c.quota

-- How many ids a yellow list may have: 0 to n × q.
unfoldable pub yellow_count_ok : Context → ℕ → Bool
yellow_count_ok c k = k ≤? c.servers * c.quota

-- Every list has room, and the green actions are among those of the queue.
unfoldable pub room_ok : Context → (actions greens own ids : ℕ) → Bool
room_ok c actions greens own ids = queue_count_ok c actions and greens ≤? actions and own ≤? c.quota and yellow_count_ok c ids

-- And no own action is sent that is not numbered.
unfoldable pub counts_ok : Context → State → Bool
counts_ok c h = room_ok c h.queue_length h.green_count h.own_count h.yellow_count and h.sent ≤? h.numbered

unfoldable pub votes_ok : Context → State → Bool
votes_ok c h =
    index_ok h.attempt.0 and primary_ok c (primary_of h.last) and mark_ok c (mark_of h.mark) and status_ok h.yellow_status

unfoldable pub numbers_ok : Context → State → Bool
numbers_ok c h = h.layout =? layout_number and membership_ok c h and counts_ok c h and votes_ok c h

-- What the counts are, for the code that goes through the lists.
pub record CountsIn (n q : ℕ) (h : State) : Type 0 where
  pub actions : h.queue_length ≤ n * q
  pub own : h.own_count ≤ q
  pub ids : h.yellow_count ≤ n * q
