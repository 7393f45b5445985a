-- Document 02, K13: how much must arrive before corners settle.
use Rattle.std.specs.Prelude.{ℕ, zero, suc, ◌+◌, ◌<◌, ◌≡◌, Bool, true, false, not, ◌↔◌}
use mathlib.Core.List.{List, [], ◌∷◌, ◌++◌, map, Memᴰ}
use Rattle.std.proofs.Math.Option.{Option, none, some}
use Rattle.base.specs.Tests.{◌and◌, ◌=?◌, pick}
use Rattle.base.specs.Lists.{at, below, gather, is_there}
use Rattle.base.specs.Sets.{in_set, size}
use Rattle.format.specs.Types.{Action, State, Record, state, cpc, transitional, Reading, says, refused}
use Rattle.format.specs.Types.{Kind, kind_number, kind_of, of_state, of_retransmission, of_cpc}
use Rattle.format.specs.Write.{write}
use Rattle.replication.specs.Machine.Types.{Reg_prim, Configuration, Server}
use Rattle.replication.specs.Machine.Exchange.{quorum}
use Rattle.replication.specs.Machine.Plan.{planned, own_part}
use Rattle.replication.specs.Machine.Step.{own_state}
use Rattle.replication.specs.Runs.Run.{Entry, event, crash, store, Run, Place, world_at, place_at, heard_at, put_out, sent_at}
use Rattle.replication.specs.Runs.Happenings.{is_message, Comes, Falls, Takes}
use Rattle.replication.specs.Runs.Allowed.{Allowed}
use Rattle.replication.specs.Runs.Claim.{memory_green}

-- ---- "These counts are deliveries in that configuration, own ones included."

unfoldable pub is_configuration : Configuration → Option Configuration → Bool
is_configuration c none = false
is_configuration c (some d) = d.id =? c.id and d.set =? c.set

-- The server is in com(c): c is its last regular configuration.
unfoldable pub within : Configuration → Place → Bool
within c x = is_configuration c x.regular

-- The server is in regular c: c is its latest configuration.
unfoldable pub within_regular : Configuration → Place → Bool
within_regular c x = within c x and not (is_there x.transitional)

-- The event says a record of this kind.
unfoldable pub says_kind : Kind → Reading Record → Bool
says_kind k (says r) = kind_number (kind_of r) =? kind_number k
says_kind k (refused j) = false

-- How many of the numbers below p pass the test.
unfoldable pub how_many : (ℕ → Bool) → ℕ → ℕ
how_many t zero = 0
how_many t (suc p) = pick (t p) (how_many t p + 1) (how_many t p)

module _ (n q : ℕ) (l : Run) (c : Configuration) where
  -- The entry, which stands at p, brings a record of the kind k to the server i while c is its latest configuration.
  unfoldable pub brings_by : Kind → ℕ → ℕ → Option Entry → Bool
  brings_by k i p none = false
  brings_by k i p (some (crash j)) = false
  brings_by k i p (some (store j)) = false
  brings_by k i p (some (event j e m)) = j =? i and says_kind k (heard_at n q l p i e) and within_regular c (place_at n q l i p)

  unfoldable pub brings : Kind → ℕ → ℕ → Bool
  brings k i p = brings_by k i p (at l p)

  -- How many records of the kind k have been delivered to the server i in c before p.
  unfoldable pub arrived : Kind → ℕ → ℕ → ℕ
  arrived k i p = how_many (brings k i) p

  -- ---- "Suppose .. a regular configuration reaches all its m members"

  -- Each member k takes c, at `took k`.
  pub record ReachesAll : Type 0 where
    pub took : ℕ → ℕ
    pub takes : (k : ℕ) → in_set k c.set ≡ true → Takes n q l (took k) k c

  -- m
  abbrev pub how_many_members : ℕ
  how_many_members = size c.set

  module _ (r : ReachesAll) where
    -- What the member k has when it has taken c, and the State that says so.
    abbrev pub taker : ℕ → Server
    taker k = ((world_at n q l (suc (r.took k))).images k).memory

    unfoldable pub state_of : ℕ → State
    state_of k = own_state c (taker k)

    -- The States of all members, in the order of their numbers; what they plan.
    unfoldable pub member_state : ℕ → Option State
    member_state k = pick (in_set k c.set) (some (state_of k)) none

    unfoldable pub all_states : List State
    all_states = gather member_state (below n)

    unfoldable pub planned_here : ℕ
    planned_here = planned n all_states

    -- "none crashes, recovers or gets a transitional one": the member k, from taking c to p. To ask it of one member, up to the moment that is spoken
    -- of, is to ask less than of all of them for ever.
    pub record Undisturbed (k p : ℕ) : Type 0 where
      pub member : in_set k c.set ≡ true
      pub since : r.took k < p
      pub no_fall : (x : ℕ) → r.took k < x → x < p → Falls n q l x k → ⊥
      pub no_transitional : (x s : ℕ) → r.took k < x → x < p → Comes n q l x k (transitional s) → ⊥

    -- "m States", and the planned retransmissions, have been delivered to k before p.
    pub record Exchanged (k p : ℕ) : Type 0 where
      pub states : arrived of_state k p ≡ how_many_members
      pub retransmissions : arrived of_retransmission k p ≡ planned_here

    -- .. "and m CPCs"
    pub record Arrived (k p : ℕ) : Type 0 where
      pub exchanged : Exchanged k p
      pub cpcs : arrived of_cpc k p ≡ how_many_members

    -- The delivery at p is the one with which they have.
    pub record ArrivesAt (k p : ℕ) : Type 0 where
      pub undisturbed : Undisturbed k (suc p)
      pub now : Arrived k (suc p)
      pub not_before : Arrived k p → ⊥

    -- ---- "Then"

    pub record Settles : Type 0 where
      -- "each member sends its State,"
      pub sends_state : (k : ℕ) → in_set k c.set ≡ true → put_out n q l (r.took k) ≡ write (state (state_of k)) ∷ []
      -- "after m States its part of the plan,": the whole of it, nothing white left out (K6). With nothing planned it is empty, and its CPC goes out
      -- with the last State.
      pub sends_part : (k p : ℕ) → Undisturbed k (suc p) → arrived of_state k p < how_many_members → arrived of_state k (suc p) ≡ how_many_members
          → 0 < planned_here → put_out n q l p ≡ map write (own_part n k 0 ((world_at n q l p).images k).memory.log all_states)
      -- "after the planned retransmissions its CPC,"
      pub sends_cpc : (k p : ℕ) → Undisturbed k (suc p) → Exchanged k (suc p) → (Exchanged k p → ⊥)
          → put_out n q l p ≡ write (cpc k c.id) ∷ []
      -- What is put out is sent: a crash that kept part of it back would come before the next delivery to the member.
      pub is_sent : (k p x j : ℕ) (e : List ℕ) (y : Record) → Undisturbed k x → r.took k < suc p → p < x
          → at l p ≡ some (event k e j) → Comes n q l x k y → is_message y ≡ true → sent_at n q l p ≡ put_out n q l p
      -- "and is in Reg_prim from the moment that m States, the planned retransmissions and m CPCs have been delivered to it", and not before
      pub in_reg_prim_lem : (k p : ℕ) → Undisturbed k p → ((world_at n q l p).images k).memory.membership.mode ≡ Reg_prim ↔ Arrived k p
      -- there is such a delivery
      pub arrives : (k p : ℕ) → Undisturbed k p → Arrived k p → (x : ℕ) × (x < p) × ArrivesAt k x
      -- "The green lists that the members have at that delivery, each at its own, are equal"
      pub greens_equal : (j k p x : ℕ) → ArrivesAt j p → ArrivesAt k x → memory_green n q l (suc p) j ≡ memory_green n q l (suc x) k
      -- "and hold every action that any of them had coloured when the configuration came."
      pub greens_hold : (j k p : ℕ) → ArrivesAt k p → in_set j c.set ≡ true → (a : Action)
          → Memᴰ a ((taker j).log.green ++ (taker j).log.red) → Memᴰ a (memory_green n q l (suc p) k)

-- "no mark is left at the quorum test, both counters are below their limit, and the set is a quorum": `quorum` is these three.
unfoldable pub Settling : Type 0
Settling = (n q : ℕ) (l : Run) → Allowed n q l → (c : Configuration) (r : ReachesAll n q l c)
    → quorum (all_states n q l c r) c.set ≡ true → Settles n q l c r
