-- Document 01, 'Records': what it says of numbers and lists that the parts of a record are in range, with n servers and quota q.
use Rattle.std.specs.Prelude.{ℕ, ◌*◌, ◌^◌, ◌≤◌, ◌<◌, ◌≡◌, true, List, length, get_or}
use Rattle.std.proofs.Math.Option.{Option}
use Rattle.base.specs.Bytes.{Bytes}
use Rattle.base.specs.Lists.{Each}
use Rattle.base.specs.Counts.{count}
use Rattle.base.specs.Sets.{in_set}
use Rattle.format.specs.Limits.{most_payload_limit, most_index_limit, most_number_limit, most_length_limit}
use Rattle.format.specs.Types.{Id, Action, Primary, Mark, Yellow, State}
use Rattle.format.specs.Range.{same_id, inside_last}
use Rattle.replication.specs.Machine.Types.{Configuration, set_of}

-- How often the id d stands in a list.
abbrev pub id_count : Id → List Id → ℕ
id_count d xs = count (same_id d) xs

-- K6: "indexes and cuts run to 65,535"
pub record IdFits (n q : ℕ) (d : Id) : Type 0 where
  pub creator : d.creator < n
  pub least : 1 ≤ d.index
  pub most : d.index ≤ most_number_limit

-- "Payload: 0 to 48 bytes."
pub record PayloadFits (p : List ℕ) : Type 0 where
  pub most : length p ≤ most_payload_limit
  pub bytes : Bytes p

pub record ActionFits (n q : ℕ) (a : Action) : Type 0 where
  pub id : IdFits n q a.id
  pub green_length : a.green_length ≤ most_length_limit
  pub white_length : a.white_length ≤ most_length_limit
  pub payload : PayloadFits a.payload

pub record PrimaryFits (n : ℕ) (p : Primary) : Type 0 where
  pub index : p.index ≤ most_index_limit
  pub attempt : p.attempt ≤ most_index_limit
  pub set : p.set < 2 ^ n

pub record MarkFits (n : ℕ) (m : Mark) : Type 0 where
  pub status : m.status ≤ 1
  pub index : m.index ≤ most_index_limit
  pub attempt : m.attempt ≤ most_index_limit
  pub set : m.set < 2 ^ n
  pub bits : m.bits < 2 ^ n

-- "Ids in a yellow list differ."
pub record YellowFits (n q : ℕ) (y : Yellow) : Type 0 where
  pub status : y.status ≤ 1
  pub few : length y.ids ≤ n * q
  pub ids : Each (IdFits n q) y.ids
  pub once : (d : Id) → id_count d y.ids ≤ 1

pub record StateFits (n q : ℕ) (x : State) : Type 0 where
  pub sender : x.sender < n
  pub configuration : x.configuration < 2 ^ 32
  pub cuts_length : length x.cuts ≡ n
  pub cuts : (c : ℕ) → get_or x.cuts c 0 ≤ most_number_limit
  pub green_length : x.green_length ≤ most_length_limit
  pub attempt : x.attempt ≤ most_index_limit
  pub last : PrimaryFits n x.last
  pub mark : MarkFits n x.mark
  pub yellow : YellowFits n q x.yellow

-- "A regular set holds the server itself"; "a transitional set does too"
pub record OwnSetFits (n me t : ℕ) : Type 0 where
  pub below : t < 2 ^ n
  pub own : in_set me t ≡ true

pub record ConfigurationFits (n me : ℕ) (d : Configuration) : Type 0 where
  pub id : d.id < 2 ^ 32
  pub set : OwnSetFits n me d.set

-- "and lies inside the last regular one, if any"
pub record TransitionalFits (n me : ℕ) (d : Option Configuration) (t : ℕ) : Type 0 where
  pub set : OwnSetFits n me t
  pub inside : inside_last (set_of d) t ≡ true
