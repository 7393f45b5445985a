-- The state that the bytes say, over the numbers that they begin with.
use Prim.Native.Nat.{ℕ, ◌≤◌}
use mathlib.Core.Path.{◌≡◌, refl, ap}
use mathlib.Core.List.{List, ◌++◌}
use native.Mathlib.Omega.{arith}
use lib.ListN.{length, take, drop, length-append, length-replicate}
use Rattle.base.specs.Bytes.{numbers_at}
use Rattle.format.specs.Types.{Action, Context}
use Rattle.format.specs.Read.{ids_at}
use Rattle.record.specs.Context.{reading_context, context_of}
use Rattle.record.specs.Values.{primary_of, mark_of}
use Rattle.record.specs.declared.State.{State}
use Rattle.replication.specs.Machine.Types.{Log, Votes, Membership, Server}
use Rattle.replication.specs.Machine.Colours.{shown}
use Rattle.image.specs.Layout.{the_cuts, the_noted, the_states, the_yellow, the_own, the_queue}
use Rattle.image.specs.Header.{header_in}
use Rattle.image.specs.Decode.{mode_named, regular_of, transitional_in, actions_at, states_at, blank, blanks, white_at, decoded_as, servers_in, quota_in, decoded}
use Rattle.image.proofs.Blanks.{behind_blanks}
use Rattle.state_check.specs.Checks.{place_of, context_in}

-- How many actions are white.
abbrev pub white_said : Context → State → List ℕ → ℕ
white_said c h b = white_at c.servers c.quota h b

-- The green actions that have a place, and behind them the red ones.
abbrev pub green_said : Context → State → List ℕ → List Action
green_said c h b = take h.green_count (actions_at h.queue_length b (place_of c the_queue))

abbrev pub red_said : Context → State → List ℕ → List Action
red_said c h b = drop h.green_count (actions_at h.queue_length b (place_of c the_queue))

-- The log with these green actions.
abbrev pub log_with : Context → State → List ℕ → List Action → Log
log_with c h b greens = record {
  green = greens;
  red = red_said c h b;
  cuts = numbers_at 2 c.servers b (place_of c the_cuts);
  own = actions_at h.own_count b (place_of c the_own);
  numbered = h.numbered;
  sent = h.sent;
}

-- The white ones are blank in the log; its places show none of them.
abbrev pub log_said : Context → State → List ℕ → Log
log_said c h b = log_with c h b (blanks (white_said c h b) ++ green_said c h b)

abbrev pub shown_said : Context → State → List ℕ → Log
shown_said c h b = log_with c h b (green_said c h b)

pub shown_said_lem : (c : Context) (h : State) (b : List ℕ) → shown (white_said c h b) (log_said c h b) ≡ shown_said c h b
shown_said_lem c h b = ap (log_with c h b) (behind_blanks (white_said c h b) (green_said c h b))

-- None is white that is not green.
pub white_said_lem : (c : Context) (h : State) (b : List ℕ) → white_said c h b ≤ length (log_said c h b).green
unfolding blanks
white_said_lem c h b = omega (arith, length-append (blanks (white_said c h b)) (green_said c h b), length-replicate (white_said c h b) blank)

abbrev pub votes_said : Context → State → List ℕ → Votes
votes_said c h b = record {
  last = primary_of h.last;
  attempt = h.attempt.0;
  mark = mark_of h.mark;
  yellow = record { status = h.yellow_status; ids = ids_at h.yellow_count b (place_of c the_yellow) };
}

abbrev pub membership_said : Context → State → List ℕ → Membership
membership_said c h b = record {
  mode = mode_named h.mode;
  configuration = regular_of h;
  transitional = transitional_in h;
  states = states_at c.servers c.quota h.states c.servers 0 b (place_of c the_states);
  cpcs = h.cpcs;
  come = h.come;
}

abbrev pub said : Context → State → List ℕ → Server
said c h b = record {
  servers = c.servers;
  quota = c.quota;
  me = c.self;
  log = log_said c h b;
  votes = votes_said c h b;
  membership = membership_said c h b;
  noted = numbers_at 4 c.servers b (place_of c the_noted);
  white = white_said c h b;
}

pub decoded_said : (b : List ℕ) → decoded b ≡ said (context_in b) (header_in b) b
unfolding decoded decoded_as servers_in quota_in context_in context_of reading_context place_of
decoded_said b = refl
