-- What a server delivers in a configuration, in order, and what a message says.
use Prim.Native.Nat.{ℕ, zero, suc}
use mathlib.Core.Bool.{Bool, false}
use mathlib.Core.List.{List, [], ◌∷◌, ◌++◌, map}
use mathlib.Core.Option.{Option, none, some}
use Rattle.base.specs.Tests.{◌and◌, ◌=?◌, pick}
use Rattle.base.specs.Lists.{at, gather}
use Rattle.format.specs.Types.{Action, Record, action, retransmission, state, cpc, regular, transitional, request, recovery, Reading, says, refused}
use Rattle.replication.specs.Runs.Run.{Entry, event, crash, store, Run, Place, nowhere, heard, place_at, heard_at, sent_at}
use Rattle.replication.specs.Runs.Happenings.{Message, is_message}
unfoldable pub use Rattle.replication.specs.Runs.Settling.{is_configuration, within, within_regular}

unfoldable pub says_message : Reading Record → Bool
says_message (says r) = is_message r
says_message (refused k) = false

unfoldable pub record_from : Reading Record → Option Record
record_from (says r) = some r
record_from (refused k) = none

-- The action of a record of kind 1.
unfoldable pub action_in : Record → Option Action
action_in (action a) = some a
action_in (retransmission k p a) = none
action_in (state x) = none
action_in (cpc k i) = none
action_in (regular i s) = none
action_in (transitional s) = none
action_in (request p) = none
action_in recovery = none

module _ (n q : ℕ) (l : Run) where
  -- The entry x, which stands at p, delivers a message to the server i while its place passes the test.
  unfoldable pub delivers_by : (Place → Bool) → ℕ → ℕ → Option Entry → Bool
  delivers_by t i p none = false
  delivers_by t i p (some (crash j)) = false
  delivers_by t i p (some (store j)) = false
  delivers_by t i p (some (event j e k)) = j =? i and says_message (heard_at n q l p i e) and t (place_at n q l i p)

  unfoldable pub delivers_at : (Place → Bool) → ℕ → ℕ → Bool
  delivers_at t i p = delivers_by t i p (at l p)

  -- The places before p at which the server i delivers a message while its place passes the test.
  unfoldable pub delivery_places : (Place → Bool) → ℕ → ℕ → List ℕ
  delivery_places t i zero = []
  delivery_places t i (suc p) = delivery_places t i p ++ pick (delivers_at t i p) (p ∷ []) []

  -- The messages that it delivers there, in order.
  unfoldable pub delivered : (ℕ → Message) → (Place → Bool) → ℕ → ℕ → List Message
  delivered source t i p = map source (delivery_places t i p)

  -- What a message says: the kinds 1 to 4 are read alike by every server, in every configuration.
  unfoldable pub record_in : Option (List ℕ) → Option Record
  record_in none = none
  record_in (some e) = record_from (heard n q 0 nowhere e)

  unfoldable pub record_of : Message → Option Record
  record_of m = record_in (at (sent_at n q l m.sending) m.number)

  -- The records that the server i delivers, in order.
  unfoldable pub delivered_records : (ℕ → Message) → (Place → Bool) → ℕ → ℕ → List Record
  delivered_records source t i p = gather record_of (delivered source t i p)

  -- The actions that it delivers, in order.
  unfoldable pub delivered_actions : (ℕ → Message) → (Place → Bool) → ℕ → ℕ → List Action
  delivered_actions source t i p = gather action_in (delivered_records source t i p)
