-- Orders and equalities of states that the laws of a step speak of.
use Rattle.std.specs.Prelude.{ℕ, ◌≤◌, ◌<◌, ◌≡◌, Bool, true, false, get_or, List}
use Rattle.std.proofs.Math.Option.{none, some}
use Rattle.base.specs.Lists.{Begins}
use Rattle.format.specs.Types.{State, Record, action, retransmission, state, cpc, regular, transitional, request, recovery, says}
use Rattle.format.specs.Read.{read}
use Rattle.replication.specs.Machine.Types.{Mode, Non_prim, Reg_prim, Trans_prim, Exchange_states, Exchange_actions, Construct, No, Un}
use Rattle.replication.specs.Machine.Types.{Log, Votes, Server, context_of, mode_of}
use Rattle.replication.specs.Machine.Colours.{cut}
use Rattle.replication.specs.Machine.Step.{with_state, all_states_in}

-- What a server never changes: the number of servers, the quota, its own number.
pub record SameServer (s t : Server) : Type 0 where
  pub servers : t.servers ≡ s.servers
  pub quota : t.quota ≡ s.quota
  pub me : t.me ≡ s.me

-- The control part: last primary, attempt, mark, how many actions are numbered and up to which index own ones are sent.
pub record SameControl (s t : Server) : Type 0 where
  pub last : t.votes.last ≡ s.votes.last
  pub attempt : t.votes.attempt ≡ s.votes.attempt
  pub mark : t.votes.mark ≡ s.votes.mark
  pub numbered : t.log.numbered ≡ s.log.numbered
  pub sent : t.log.sent ≡ s.log.sent

-- The own actions in the log l: k are numbered, and sent up to the index m.
pub record OwnNumbers (k m : ℕ) (l : Log) : Type 0 where
  pub numbered : l.numbered ≡ k
  pub sent : l.sent ≡ m

-- From the log l to the log m none was numbered and none sent.
abbrev pub SameNumbers : Log → Log → Type 0
SameNumbers l m = OwnNumbers l.numbered l.sent m

-- The logs hold the same, in the same colours.
pub record SameHeld (l m : Log) : Type 0 where
  pub green : m.green ≡ l.green
  pub red : m.red ≡ l.red
  pub cuts : m.cuts ≡ l.cuts

-- The log m has grown from the log l: the green list goes on, no cut and no number falls.
pub record Grows (l m : Log) : Type 0 where
  pub greens : Begins l.green m.green
  pub cuts : (c : ℕ) → cut l c ≤ cut m c
  pub numbers : l.numbered ≤ m.numbered

-- (last primary's index, its attempt, attempt) of v is at most that of w, by the first in which they differ.
pub data AtMost (v w : Votes) : Type 0 where
  by_index : v.last.index < w.last.index → AtMost v w
  by_primary : v.last.index ≡ w.last.index → v.last.attempt < w.last.attempt → AtMost v w
  by_attempt : v.last.index ≡ w.last.index → v.last.attempt ≡ w.last.attempt → v.attempt ≤ w.attempt → AtMost v w

-- ---- the own State

unfoldable pub in_exchange : Mode → Bool
in_exchange Non_prim = false
in_exchange Reg_prim = false
in_exchange Trans_prim = false
in_exchange Exchange_states = true
in_exchange Exchange_actions = true
in_exchange Construct = false
in_exchange No = false
in_exchange Un = false

-- In an exchange, when every member's State is in, the own one is, and says the last primary and the attempt that the server has.
unfoldable pub OwnStateTrue : Server → Type 0
OwnStateTrue s =
    in_exchange (mode_of s) ≡ true
    → all_states_in s ≡ true
    → (x : State) × (get_or s.membership.states s.me none ≡ some x) × (x.last ≡ s.votes.last) × (x.attempt ≡ s.votes.attempt)

-- The server with the State that the record brings, if it brings one.
unfoldable pub hearing : Record → Server → Server
hearing (action a) s = s
hearing (retransmission k p a) s = s
hearing (state x) s = with_state x s
hearing (cpc k i) s = s
hearing (regular i c) s = s
hearing (transitional c) s = s
hearing (request p) s = s
hearing recovery s = s

-- The same at the server that the event e comes to.
abbrev pub OwnStateTrueAt : Server → List ℕ → Type 0
OwnStateTrueAt s e = (r : Record) → read (context_of s) e ≡ says r → OwnStateTrue (hearing r s)
