-- The facts of a well-formed state, clause by clause in row 8's order: they say what the test `well_formed` says. Beside them, what every state that
-- a run reaches satisfies.
use Prim.Native.Nat.{ℕ, ◌+◌, ◌^◌, ◌≤◌, ◌<◌}
use mathlib.Core.Path.{◌≡◌}
use mathlib.Core.Bool.{true}
use mathlib.Core.List.{List, [], ◌++◌, map, Memᴰ}
use mathlib.Core.Option.{Option, none, some}
use lib.ListN.{length, get_or}
use Rattle.base.specs.Lists.{Each, above, sum}
use Rattle.format.specs.Limits.{fewest_servers_limit, most_servers_limit, least_quota_limit, most_quota_limit, most_index_limit, most_number_limit, most_length_limit, most_planned}
use Rattle.format.specs.Types.{Id, Action, State}
use Rattle.replication.specs.Machine.Types.{Mode, Non_prim, Reg_prim, Trans_prim, Exchange_states, Exchange_actions, Construct, No, Un, Log, Votes, Configuration, Membership, Server}
use Rattle.replication.specs.Machine.Colours.{cut}
use Rattle.replication.specs.Machine.Rules.{member_of, is_of}
use Rattle.replication.specs.Machine.Colours.{of_creator, shown}
use Rattle.replication.specs.Machine.WellFormed.{ids_in, queue}
use Rattle.replication.specs.Machine.WellFormedRanges.{id_count, ActionFits, PrimaryFits, MarkFits, YellowFits, StateFits, ConfigurationFits, TransitionalFits}
use Rattle.replication.specs.Machine.WellFormedFacts.{ModeFits}
use Rattle.replication.specs.Laws.Folds.{entered}

-- ---- "a number or set out of range" does not apply

-- "Servers: 2 to 8, numbered from 0"; "Quota q: 1 to 256"
pub record SizesFit (n q me : ℕ) : Type 0 where
  pub fewest : fewest_servers_limit ≤ n
  pub most : n ≤ most_servers_limit
  pub least : least_quota_limit ≤ q
  pub highest : q ≤ most_quota_limit
  pub own : me < n

pub record LogRanges (n q : ℕ) (l : Log) : Type 0 where
  pub green : Each (ActionFits n q) l.green
  pub red : Each (ActionFits n q) l.red
  pub cuts_length : length l.cuts ≡ n
  pub cuts : (c : ℕ) → cut l c ≤ most_number_limit
  pub own : Each (ActionFits n q) l.own
  pub numbered : l.numbered ≤ most_number_limit
  pub sent : l.sent ≤ l.numbered

pub record VotesRanges (n q : ℕ) (v : Votes) : Type 0 where
  pub last : PrimaryFits n v.last
  pub attempt : v.attempt ≤ most_index_limit
  pub mark : MarkFits n v.mark
  pub yellow : YellowFits n q v.yellow

-- A State collected at the place k: of the configuration and of its member k.
pub record CollectedFits (n q : ℕ) (d : Option Configuration) (k : ℕ) (x : State) : Type 0 where
  pub fits : StateFits n q x
  pub sender : x.sender ≡ k
  pub member : member_of d k ≡ true
  pub configuration : is_of d x.configuration ≡ true

pub record MembershipRanges (n q me : ℕ) (m : Membership) : Type 0 where
  pub configuration : (d : Configuration) → m.configuration ≡ some d → ConfigurationFits n me d
  pub transitional : (t : ℕ) → m.transitional ≡ some t → TransitionalFits n me m.configuration t
  pub states_length : length m.states ≡ n
  pub states : (k : ℕ) (x : State) → get_or m.states k none ≡ some x → CollectedFits n q m.configuration k x
  pub cpcs : m.cpcs < 2 ^ n
  pub come : m.come ≤ most_planned n

-- ---- "an id twice in one list" does not apply

-- How often an action with the id d is held.
abbrev pub held_count : Id → Log → ℕ
held_count d l = id_count d (ids_in (queue l))

-- ---- "held actions of a creator that are not 1 to its cut" do not occur

pub record HeldToCuts (l : Log) : Type 0 where
  pub within : (d : Id) → 1 ≤ held_count d l → d.index ≤ cut l d.creator
  pub entered : (d : Id) → 1 ≤ d.index → d.index ≤ cut l d.creator → 1 ≤ held_count d l

-- ---- "an own list that is not own cut + 1 to the last numbered" does not occur

pub record OwnListFits (me : ℕ) (l : Log) : Type 0 where
  pub numbered : cut l me ≤ l.numbered
  pub ids : ids_in l.own ≡ map (λ i. record { creator = me; index = i }) (above (cut l me) l.numbered)

-- ---- K6: "Number 8 counts white actions as held, and its q bounds only those not white."

pub record PlacesFit (n q me w : ℕ) (l : Log) : Type 0 where
  pub counted : w + length (queue l) ≡ sum l.cuts
  pub unwhites : (c : ℕ) → c < n → of_creator c (queue l) ≤ q
  pub own_room : of_creator me (queue l) + l.numbered ≤ q + cut l me

-- What a state that a run reaches holds, white actions too.
pub record Whole (l : Log) : Type 0 where
  pub least : (d : Id) → 1 ≤ held_count d l → 1 ≤ d.index
  pub once : (d : Id) → held_count d l ≤ 1
  pub held_to_cuts : HeldToCuts l

-- ---- the whole

pub record WellFormed (s : Server) : Type 0 where
  pub sizes : SizesFit s.servers s.quota s.me
  pub log : LogRanges s.servers s.quota (shown s.white s.log)
  pub votes : VotesRanges s.servers s.quota s.votes
  pub membership : MembershipRanges s.servers s.quota s.me s.membership
  pub noted_length : length s.noted ≡ s.servers
  pub noted : (c : ℕ) → get_or s.noted c 0 ≤ most_length_limit
  pub white : s.white ≤ length s.log.green
  pub once : (d : Id) → held_count d (shown s.white s.log) ≤ 1
  pub within : (d : Id) → 1 ≤ held_count d (shown s.white s.log) → d.index ≤ cut s.log d.creator
  pub places : PlacesFit s.servers s.quota s.me s.white (shown s.white s.log)
  pub own_list : OwnListFits s.me s.log
  pub mode : ModeFits s.membership.mode s

-- ---- beside row 8

-- Each id of the yellow list is of an entered action.
abbrev pub YellowWithinCuts : Server → Type 0
YellowWithinCuts s = Each (λ d. d.index ≤ cut s.log d.creator) s.votes.yellow.ids

-- From s to t the yellow list gained the ids of those entered, and holds ids of entered actions only.
pub record YellowGained (delivered : List Action) (s t : Server) : Type 0 where
  pub ids : t.votes.yellow.ids ≡ s.votes.yellow.ids ++ map (λ a. a.id) (entered s.log.cuts delivered)
  pub within : YellowWithinCuts t

-- Each id of the yellow list is of a red action.
pub record YellowRed (s : Server) : Type 0 where
  pub within : YellowWithinCuts s
  pub reds : (d : Id) → Memᴰ d s.votes.yellow.ids → Memᴰ d (ids_in s.log.red)

-- In Reg_prim the list is empty, for Install empties it; in Trans_prim "its id joins the yellow list if it was entered". Row 8 does not ask for it; with
-- it each id that joins is new, and the list is not full.
abbrev pub YellowEntered : Mode → Server → Type 0
YellowEntered Non_prim s = Unit {0}
YellowEntered Reg_prim s = s.votes.yellow.ids ≡ []
YellowEntered Trans_prim s = YellowRed s
YellowEntered Exchange_states s = Unit {0}
YellowEntered Exchange_actions s = Unit {0}
YellowEntered Construct s = Unit {0}
YellowEntered No s = Unit {0}
YellowEntered Un s = Unit {0}

-- What every state that a run reaches satisfies.
pub record Invariant (s : Server) : Type 0 where
  pub well_formed_lem : WellFormed s
  pub whole : Whole s.log
  pub yellow : YellowEntered s.membership.mode s
