-- The state of one server, and what an event gives. Document 01, 'What each event does'.
use Rattle.std.specs.Prelude.{ℕ, ◌+◌, Bool, List, [], ◌∷◌, ◌++◌, replicate}
use Rattle.std.proofs.Math.Option.{Option, none, some}
use Rattle.base.specs.Sets.{everyone}
use Rattle.format.specs.Types.{Action, Primary, first_primary, Mark, Yellow, State, Context}

-- The eight states, named as document 01 names them. (`State` is the record of kind 3.)
pub data Mode : Type 0 where
  Non_prim Reg_prim Trans_prim Exchange_states Exchange_actions Construct No Un : Mode

-- The actions held: green ones (document 01's term: they have their lasting place) in their order, red ones (known, no lasting place yet) above
-- them in the order in which they came; each creator's cut (document 01's term: the highest index entered); and the own list (own actions
-- numbered and not yet entered) with the number of actions numbered so far, and up to which index own actions have been sent: those on the own
-- list with a higher one wait to be sent.
pub record Log : Type 0 where
  pub green : List Action
  pub red : List Action
  pub cuts : List ℕ
  pub own : List Action
  pub numbered : ℕ
  pub sent : ℕ

-- What primary components are decided by.
pub record Votes : Type 0 where
  pub last : Primary
  pub attempt : ℕ
  pub mark : Mark
  pub yellow : Yellow

-- A regular configuration.
pub record Configuration : Type 0 where
  pub id : ℕ
  pub set : ℕ

-- The state's name, the last regular configuration and the set of the transitional one after it (since start or recovery), the States and CPCs
-- collected in it, the former at their senders' numbers, and how many retransmissions have come in the exchange.
pub record Membership : Type 0 where
  pub mode : Mode
  pub configuration : Option Configuration
  pub transitional : Option ℕ
  pub states : List (Option State)
  pub cpcs : ℕ
  pub come : ℕ

-- One server. Cuts, noted lengths (document 01's term: the green length known of each server) and collected States are lists of `servers` entries.
pub record Server : Type 0 where
  pub servers : ℕ
  pub quota : ℕ
  pub me : ℕ
  pub log : Log
  pub votes : Votes
  pub membership : Membership
  pub noted : List ℕ
  pub white : ℕ

-- What an event gives: its refusal number, or the new state, the records to send in order, whether to store first, and the actions that turned
-- green, in order.
pub data Outcome (R : Type 0) : Type 0 where
  refused : ℕ → Outcome R
  taken : (after : Server) (records : List R) (store : Bool) (greened : List Action) → Outcome R

-- ---- changes of one part

-- The server s with these parts.
abbrev parts : Server → Log → Votes → Membership → List ℕ → Server
parts s l v m d = record { servers = s.servers; quota = s.quota; me = s.me; log = l; votes = v; membership = m; noted = d; white = s.white }

abbrev pub with_log : Log → Server → Server
with_log l s = parts s l s.votes s.membership s.noted

abbrev pub with_votes : Votes → Server → Server
with_votes v s = parts s s.log v s.membership s.noted

abbrev pub with_membership : Membership → Server → Server
with_membership m s = parts s s.log s.votes m s.noted

abbrev pub with_noted : List ℕ → Server → Server
with_noted d s = parts s s.log s.votes s.membership d

abbrev pub with_white : ℕ → Server → Server
with_white w s = record {
  servers = s.servers;
  quota = s.quota;
  me = s.me;
  log = s.log;
  votes = s.votes;
  membership = s.membership;
  noted = s.noted;
  white = w;
}

-- The green list g.
abbrev pub with_greens : List Action → Log → Log
with_greens g l = record { green = g; red = l.red; cuts = l.cuts; own = l.own; numbered = l.numbered; sent = l.sent }

abbrev pub with_green : List Action → Server → Server
with_green g s = with_log (with_greens g s.log) s

-- One more numbered, on the own list.
abbrev pub with_own : Action → Log → Log
with_own a l =
    record { green = l.green; red = l.red; cuts = l.cuts; own = l.own ++ (a ∷ []); numbered = l.numbered + 1; sent = l.sent }

-- Own actions sent up to the index k.
abbrev pub with_sent : ℕ → Log → Log
with_sent k l = record { green = l.green; red = l.red; cuts = l.cuts; own = l.own; numbered = l.numbered; sent = k }

abbrev pub with_yellow : Yellow → Votes → Votes
with_yellow y v = record { last = v.last; attempt = v.attempt; mark = v.mark; yellow = y }

-- The membership c, in its configuration, with these.
abbrev within : Membership → Mode → Option ℕ → List (Option State) → ℕ → ℕ → Membership
within c m t xs k n = record { mode = m; configuration = c.configuration; transitional = t; states = xs; cpcs = k; come = n }

abbrev pub with_mode : Mode → Membership → Membership
with_mode m c = within c m c.transitional c.states c.cpcs c.come

abbrev pub with_transitional : ℕ → Membership → Membership
with_transitional t c = within c c.mode (some t) c.states c.cpcs c.come

abbrev pub with_states : List (Option State) → Membership → Membership
with_states xs c = within c c.mode c.transitional xs c.cpcs c.come

abbrev pub with_cpcs : ℕ → Membership → Membership
with_cpcs k c = within c c.mode c.transitional c.states k c.come

abbrev pub with_come : ℕ → Membership → Membership
with_come n c = within c c.mode c.transitional c.states c.cpcs n

abbrev pub mode_of : Server → Mode
mode_of s = s.membership.mode

abbrev pub in_mode : Mode → Server → Server
in_mode m s = with_membership (with_mode m s.membership) s

-- ---- the start

-- "A cleared mark is all zeros."
unfoldable pub cleared_mark : Mark
cleared_mark = record { status = 0; index = 0; attempt = 0; set = 0; bits = 0 }

-- Invalid and empty.
unfoldable pub no_yellow : Yellow
no_yellow = record { status = 0; ids = [] }

unfoldable pub no_states : ℕ → List (Option State)
no_states n = replicate {A = Option State} n none

-- "At the start: Non_prim, no configuration, nothing held or marked, yellow invalid, attempt 0, last primary (index 0, attempt 0, all servers)."
unfoldable pub start : (servers quota me : ℕ) → Server
start n q i = record {
  servers = n;
  quota = q;
  me = i;
  log = record { green = []; red = []; cuts = replicate {A = ℕ} n 0; own = []; numbered = 0; sent = 0 };
  votes = record { last = first_primary (everyone n); attempt = 0; mark = cleared_mark; yellow = no_yellow };
  membership = record { mode = Non_prim; configuration = none; transitional = none; states = no_states n; cpcs = 0; come = 0 };
  noted = replicate {A = ℕ} n 0;
  white = 0;
}

-- ---- what a record is read against

unfoldable pub set_of : Option Configuration → Option ℕ
set_of none = none
set_of (some c) = some c.set

unfoldable pub context_of : Server → Context
context_of s = record { servers = s.servers; quota = s.quota; self = s.me; last = set_of s.membership.configuration }
