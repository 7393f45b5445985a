-- Reading an image back. Document 01, 'Returned numbers', row 8: a buffer reads exactly when it holds a well-formed state's image.
use Rattle.std.specs.Prelude.{ℕ, zero, suc, ◌+◌, ◌-◌, Bool, List, [], ◌∷◌, ◌++◌, take, drop, replicate}
use Rattle.std.proofs.Math.Option.{Option, none, some}
use Rattle.base.specs.Tests.{◌and◌, ◌=?◌, pick}
use Rattle.base.specs.Bytes.{numbers_at}
use Rattle.base.specs.Lists.{same, sum}
use Rattle.base.specs.Sets.{in_set}
use Rattle.format.specs.Types.{Action, State}
use Rattle.format.specs.Read.{action_at, ids_at, state_at}
use Rattle.record.specs.declared.State.{State as Numbers}
use Rattle.record.specs.Values.{primary_of, mark_of}
use Rattle.replication.specs.Machine.Types.{Mode, Non_prim, Reg_prim, Trans_prim, Exchange_states, Exchange_actions, Construct, No, Un}
use Rattle.replication.specs.Machine.Types.{Configuration, Server}
use Rattle.replication.specs.Machine.WellFormed.{well_formed}
use Rattle.image.specs.Layout.{slot_size, state_size, the_cuts, the_noted, the_states, the_yellow, the_own, the_queue, offset}
use Rattle.image.specs.Header.{mode_number, header_in}
use Rattle.image.specs.Image.{image}

-- Another number names no state: it is no image's.
unfoldable pub mode_named : ℕ → Mode
mode_named k =
    pick (k =? mode_number Reg_prim) Reg_prim
    (pick (k =? mode_number Trans_prim) Trans_prim
    (pick (k =? mode_number Exchange_states) Exchange_states
    (pick (k =? mode_number Exchange_actions) Exchange_actions
    (pick (k =? mode_number Construct) Construct
    (pick (k =? mode_number No) No
    (pick (k =? mode_number Un) Un Non_prim))))))

-- A field that may be absent is there where its status is 1.
unfoldable pub regular_of : Numbers → Option Configuration
regular_of h = pick (h.configuration_status =? 1) (some (record { id = h.configuration_id; set = h.configuration_set })) none

unfoldable pub transitional_in : Numbers → Option ℕ
transitional_in h = pick (h.transitional_status =? 1) (some h.transitional_set) none

-- m actions, a slot each, from `at` on
unfoldable pub actions_at : ℕ → List ℕ → ℕ → List Action
actions_at zero b at = []
actions_at (suc m) b at = action_at b at ∷ actions_at m b (at + slot_size)

-- m slots for States from `at` on, of the senders from the number k on; `here` is the set of those that are in
unfoldable pub states_at : (n q here m k : ℕ) → List ℕ → ℕ → List (Option State)
states_at n q here zero k b at = []
states_at n q here (suc m) k b at =
    pick (in_set k here) (some (state_at n (drop at b))) none ∷ states_at n q here m (k + 1) b (at + state_size n q)

-- What stands for a white action: no byte of it is kept.
unfoldable pub blank : Action
blank = record { id = record { creator = 0; index = 0 }; green_length = 0; white_length = 0; payload = [] }

unfoldable pub blanks : ℕ → List Action
blanks w = replicate {A = Action} w blank

-- How many actions are white: all that were entered, by the cuts, but those with a slot.
unfoldable pub white_at : (n q : ℕ) → Numbers → List ℕ → ℕ
white_at n q h b = sum (numbers_at 2 n b (offset n q the_cuts)) - h.queue_length

-- The state of n servers with the quota q and the further numbers h, with the lists that the bytes b hold.
unfoldable pub decoded_as : (n q : ℕ) → Numbers → List ℕ → Server
decoded_as n q h b = record {
  servers = n;
  quota = q;
  me = h.me;
  log = record {
    green = blanks (white_at n q h b) ++ take h.green_count (actions_at h.queue_length b (offset n q the_queue));
    red = drop h.green_count (actions_at h.queue_length b (offset n q the_queue));
    cuts = numbers_at 2 n b (offset n q the_cuts);
    own = actions_at h.own_count b (offset n q the_own);
    numbered = h.numbered;
    sent = h.sent;
  };
  votes = record {
    last = primary_of h.last;
    attempt = h.attempt.0;
    mark = mark_of h.mark;
    yellow = record { status = h.yellow_status; ids = ids_at h.yellow_count b (offset n q the_yellow) };
  };
  membership = record {
    mode = mode_named h.mode;
    configuration = regular_of h;
    transitional = transitional_in h;
    states = states_at n q h.states n 0 b (offset n q the_states);
    cpcs = h.cpcs;
    come = h.come;
  };
  noted = numbers_at 4 n b (offset n q the_noted);
  white = white_at n q h b;
}

unfoldable pub servers_in : List ℕ → ℕ
unfolding header_in
servers_in b = (header_in b).servers

unfoldable pub quota_in : List ℕ → ℕ
unfolding header_in
quota_in b = (header_in b).quota

-- What the bytes b say.
unfoldable pub decoded : List ℕ → Server
unfolding header_in
decoded b = decoded_as (servers_in b) (quota_in b) (header_in b) b

-- The bytes hold the image of a well-formed state: writing what they say leaves them as they are.
unfoldable pub reads : List ℕ → Bool
reads b = well_formed (decoded b) and same (image (decoded b) b) b

unfoldable pub read_image : List ℕ → Option Server
read_image b = pick (reads b) (some (decoded b)) none

-- How many actions are white, as the bytes say.
unfoldable pub white_in : List ℕ → ℕ
white_in b = (decoded b).white

-- The green list that the bytes say, its white part blank.
unfoldable pub greens_in : List ℕ → List Action
greens_in b = (decoded b).log.green
