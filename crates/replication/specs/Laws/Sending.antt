-- What a taken event puts out and numbers.
use Rattle.std.specs.Prelude.{ℕ, ◌+◌, ◌≤◌, ◌<◌, ◌≡◌, Bool, true, false, length}
use mathlib.Core.List.{List, [], ◌∷◌, ◌++◌, map, Memᴰ}
use Rattle.std.proofs.Math.Option.{some}
use Rattle.base.specs.Tests.{◌=?◌}
use Rattle.format.specs.Types.{Action, State, Record, Context, action, retransmission, state, cpc, regular, request}
use Rattle.replication.specs.Machine.Types.{Non_prim, Reg_prim, Exchange_states, Exchange_actions, Construct}
use Rattle.replication.specs.Machine.Types.{Log, Configuration, Server, mode_of}
use Rattle.replication.specs.Machine.Colours.{find, places_of}
use Rattle.replication.specs.Machine.Exchange.{quorum}
use Rattle.replication.specs.Machine.Plan.{missing, cut_in, green_in, held_at, own_part}
use Rattle.replication.specs.Machine.Requests.{sends_now, made_of, unsent}
use Rattle.replication.specs.Machine.Step.{own_state, here_set, here_id, collected, all_states_in, planned_now, with_cpc, all_cpcs_in}
use Rattle.replication.specs.Laws.Order.{SameNumbers}
use Rattle.replication.specs.Laws.Votes.{states_with, EndsExchange}

-- ---- own actions

-- "numbered, put on the own list": the action that s makes of the payload p.
pub record Numbers (s t : Server) (p : List ℕ) : Type 0 where
  pub numbered : t.log.numbered ≡ s.log.numbered + 1
  pub own : t.log.own ≡ s.log.own ++ (made_of p s ∷ [])

-- What t has on its own list above the index k is put out, and t has sent all that is numbered.
pub record SendsWaiting (k : ℕ) (t : Server) (rs : List Record) : Type 0 where
  pub records : rs ≡ map action (unsent k t.log.own)
  pub sent : t.log.sent ≡ t.log.numbered

-- ---- the records

-- The ways to put out records, with the store word.
pub data PutsOut (s : Server) (r : Record) (t : Server) : List Record → Bool → Type 0 where
  nothing : (b : Bool) → SameNumbers s.log t.log → PutsOut s r t [] b
  -- "on entry .. the state is stored, a State sent"
  state_on_entry : (c : Configuration) → r ≡ regular c.id c.set → mode_of t ≡ Exchange_states → t.membership.configuration ≡ some c
      → SameNumbers s.log t.log → PutsOut s r t (state (own_state c t) ∷ []) true
  -- "When every member's State is in: send one's part of the plan, to Exchange_actions."
  part_of_plan : (x : State) → r ≡ state x → mode_of s ≡ Exchange_states → mode_of t ≡ Exchange_actions → all_states_in t ≡ true
      → (planned_now t =? 0) ≡ false → SameNumbers s.log t.log
      → PutsOut s r t (own_part t.servers t.me t.white t.log (collected t)) false
  -- "attempt + 1, mark .., store, send CPC, Construct"
  cpc_on_attempt : EndsExchange s r → quorum (states_with r s) (here_set s) ≡ true → mode_of t ≡ Construct
      → SameNumbers s.log t.log → PutsOut s r t (cpc t.me (here_id t) ∷ []) true
  -- "Request: sent in Reg_prim, and in Non_prim .."
  request_at_once : (p : List ℕ) (rs : List Record) → r ≡ request p → sends_now s.membership ≡ true → t.membership ≡ s.membership
      → Numbers s t p → SendsWaiting s.log.sent t rs → PutsOut s r t rs true
  -- K4: "numbered, put on the own list and stored whenever it comes"
  request_waits : (p : List ℕ) → r ≡ request p → sends_now s.membership ≡ false → Numbers s t p → t.log.sent ≡ s.log.sent
      → PutsOut s r t [] true
  -- K4: "sent .. in order when the server reaches Reg_prim, or the part of Non_prim where requests are sent"
  waiting_after_exchange : (rs : List Record) → EndsExchange s r → quorum (states_with r s) (here_set s) ≡ false → mode_of t ≡ Non_prim
      → t.log.numbered ≡ s.log.numbered → SendsWaiting s.log.sent t rs → PutsOut s r t rs true
  waiting_after_install : (k i : ℕ) (rs : List Record) → r ≡ cpc k i → mode_of s ≡ Construct → all_cpcs_in (with_cpc k s) ≡ true
      → mode_of t ≡ Reg_prim → t.log.numbered ≡ s.log.numbered → SendsWaiting s.log.sent t rs → PutsOut s r t rs true

-- An own action that t has numbered after s: its creator, its index above those that s has numbered and among those that t has; it carries the green
-- and the white length of s, and is on the own list.
pub record Own (s t : Server) (a : Action) : Type 0 where
  pub creator : a.id.creator ≡ s.me
  pub above : s.log.numbered < a.id.index
  pub within : a.id.index ≤ t.log.numbered
  pub green_length_lem : a.green_length ≡ length s.log.green
  pub white_length_lem : a.white_length ≡ s.white
  pub listed : Memᴰ a t.log.own

-- A record of one's part of the plan: "positions from the shortest length + 1", or "for each creator .. from the lowest cut + 1 .., as red", of what
-- is held and not white.
pub data Resent (me w : ℕ) (l : Log) (xs : List State) (r : Record) : Type 0 where
  as_green : (p : ℕ) (a : Action) → Memᴰ p (missing green_in xs) → held_at w l p ≡ some a
      → r ≡ retransmission me p a → Resent me w l xs r
  as_red : (c i : ℕ) (a : Action) → Memᴰ i (missing (cut_in c) xs)
      → find (record { creator = c; index = i }) (places_of w l) ≡ some a
      → r ≡ retransmission me 0 a → Resent me w l xs r

-- ---- who reads them

-- A reader with the same n and q, and a number of its own.
pub record Peer (s : Server) (c : Context) : Type 0 where
  pub servers : c.servers ≡ s.servers
  pub quota : c.quota ≡ s.quota
  pub self : c.self < c.servers
