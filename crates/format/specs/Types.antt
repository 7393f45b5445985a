-- Document 01, 'Records': what the records say.
use Rattle.std.specs.Prelude.{ℕ, List}
use Rattle.std.proofs.Math.Option.{Option}

-- "ids (creator 1, index 2)": the name of an action.
pub record Id : Type 0 where
  pub creator : ℕ
  pub index : ℕ

-- "1 action: creator (1 byte), index (2), creator's green length (4), payload length (1), payload."; K6: "Action bodies gain the creator's white
-- length when numbered (4 bytes) after the green length".
pub record Action : Type 0 where
  pub id : Id
  pub green_length : ℕ
  pub white_length : ℕ
  pub payload : List ℕ

-- A primary component: "last primary's index (4), attempt (4), set (1)".
pub record Primary : Type 0 where
  pub index : ℕ
  pub attempt : ℕ
  pub set : ℕ

abbrev pub component : (index attempt set : ℕ) → Primary
component i a s = record { index = i; attempt = a; set = s }

-- The one with these members that no Install made.
abbrev pub first_primary : (set : ℕ) → Primary
first_primary s = component 0 0 s

-- A mark (document 01's term: what a server stores of the primary component that it attempts to create,
-- until it knows how the attempt ended): "mark status (1), index (4), attempt (4), set (1), bits (1)".
pub record Mark : Type 0 where
  pub status : ℕ
  pub index : ℕ
  pub attempt : ℕ
  pub set : ℕ
  pub bits : ℕ

-- The yellow list (document 01's term: ids of actions delivered while a primary component was ending):
-- "yellow status (1), count (2), ids".
pub record Yellow : Type 0 where
  pub status : ℕ
  pub ids : List Id

-- "3 State: sender (1), configuration id (4), n red cuts (2 each), green length (4), attempt (4), last primary's .., mark .., yellow .."
pub record State : Type 0 where
  pub sender : ℕ
  pub configuration : ℕ
  pub cuts : List ℕ
  pub green_length : ℕ
  pub attempt : ℕ
  pub last : Primary
  pub mark : Mark
  pub yellow : Yellow

-- The eight kinds, in the paper's order.
pub data Record : Type 0 where
  action : Action → Record
  retransmission : (sender position : ℕ) → Action → Record
  state : State → Record
  cpc : (sender configuration : ℕ) → Record
  regular : (configuration set : ℕ) → Record
  transitional : (set : ℕ) → Record
  request : List ℕ → Record
  recovery : Record

-- The kinds by name, and "kind byte": their numbers.
pub data Kind : Type 0 where
  of_action of_retransmission of_state of_cpc of_regular of_transitional of_request of_recovery : Kind

unfoldable pub kind_number : Kind → ℕ
kind_number of_action = 1
kind_number of_retransmission = 2
kind_number of_state = 3
kind_number of_cpc = 4
kind_number of_regular = 5
kind_number of_transitional = 6
kind_number of_request = 7
kind_number of_recovery = 8

unfoldable pub kind_of : Record → Kind
kind_of (action a) = of_action
kind_of (retransmission s p a) = of_retransmission
kind_of (state s) = of_state
kind_of (cpc s i) = of_cpc
kind_of (regular i s) = of_regular
kind_of (transitional s) = of_transitional
kind_of (request p) = of_request
kind_of recovery = of_recovery

-- What a record is read against: the number of servers, the quota, the server's own number, and the set of
-- the last regular configuration since start or recovery, if any.
pub record Context : Type 0 where
  pub servers : ℕ
  pub quota : ℕ
  pub self : ℕ
  pub last : Option ℕ

-- What bytes say: a value, or the refusal number.
pub data Reading (A : Type 0) : Type 0 where
  says : A → Reading A
  refused : ℕ → Reading A
