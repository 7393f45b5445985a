-- What it says of numbers that a record is in range.
use Prim.Native.Nat.{ℕ, ◌*◌, ◌^◌, ◌≤◌, ◌<◌}
use mathlib.Core.Path.{◌≡◌}
use mathlib.Core.Bool.{true}
use mathlib.Core.List.{List}
use native.Mathlib.Nat.{pow-le-pow_right}
use native.Mathlib.Omega.{arith}
use lib.ListN.{length}
use Rattle.base.proofs.TestLaws.{and_holds, le_holds, lt_holds, eq_holds}
use Rattle.base.specs.Bytes.{Bytes}
use Rattle.base.proofs.BytesLaws.{are_bytes_lem}
use Rattle.format.specs.Limits.{fewest_servers_limit, most_servers_limit, least_quota_limit, most_quota_limit, most_payload_limit, most_index_limit, most_number_limit, most_length_limit}
use Rattle.format.specs.Types.{Id, Action, Primary, Mark, Yellow, State, Context}
use Rattle.format.specs.Range.{sizes_ok, context_ok, id_ok, length_ok, payload_ok, action_ok, cuts_ok, index_ok, set_ok, status_ok, primary_ok, mark_ok, ids_in_range, ids_differ, ids_ok, yellow_ok, configuration_ok, state_ok}

-- n servers and quota q within the limits
pub record SizesRange (n q : ℕ) : Type 0 where
  pub fewest : fewest_servers_limit ≤ n
  pub most : n ≤ most_servers_limit
  pub least : least_quota_limit ≤ q
  pub highest : q ≤ most_quota_limit

pub sizes_range : (n q : ℕ) → sizes_ok n q ≡ true → SizesRange n q
unfolding sizes_ok
sizes_range n q ok =
    let a = and_holds _ _ ok in
    let b = and_holds _ _ a.1 in
    let c = and_holds _ _ b.1 in
    record { fewest = le_holds fewest_servers_limit n a.0; most = le_holds n most_servers_limit b.0; least = le_holds least_quota_limit q c.0; highest = le_holds q most_quota_limit c.1 }

pub record ContextRange (c : Context) : Type 0 where
  pub sizes : SizesRange c.servers c.quota
  pub own : c.self < c.servers

pub context_range : (c : Context) → context_ok c ≡ true → ContextRange c
unfolding context_ok
context_range c ok =
    let a = and_holds _ _ ok in
    record { sizes = sizes_range c.servers c.quota a.0; own = lt_holds c.self c.servers a.1 }

pub record IdRange (c : Context) (d : Id) : Type 0 where
  pub creator : d.creator < c.servers
  pub least : 1 ≤ d.index
  pub most : d.index ≤ most_number_limit

pub id_range : (c : Context) (d : Id) → id_ok c d ≡ true → IdRange c d
unfolding id_ok
id_range c d ok =
    let a = and_holds _ _ ok in
    let b = and_holds _ _ a.1 in
    record { creator = lt_holds d.creator c.servers a.0; least = le_holds 1 d.index b.0; most = le_holds d.index most_number_limit b.1 }

pub length_range : (l : ℕ) → length_ok l ≡ true → l ≤ most_length_limit
unfolding length_ok
length_range l ok = le_holds l most_length_limit ok

pub set_range : (c : Context) (s : ℕ) → ContextRange c → set_ok c s ≡ true → s < 2 ^ most_servers_limit
unfolding set_ok
set_range c s r ok =
    let power : 2 ^ c.servers ≤ 2 ^ most_servers_limit = pow-le-pow_right {n = 2} (omega arith) r.sizes.most in
    let below : s < 2 ^ c.servers = lt_holds s (2 ^ c.servers) ok in
    omega arith

pub index_range : (i : ℕ) → index_ok i ≡ true → i ≤ most_index_limit
unfolding index_ok
index_range i ok = le_holds i most_index_limit ok

pub status_range : (s : ℕ) → status_ok s ≡ true → s ≤ 1
unfolding status_ok
status_range s ok = le_holds s 1 ok

pub configuration_range : (i : ℕ) → configuration_ok i ≡ true → i < 2 ^ 32
unfolding configuration_ok
configuration_range i ok = lt_holds i (2 ^ 32) ok

pub record PayloadRange (p : List ℕ) : Type 0 where
  pub most : length p ≤ most_payload_limit
  pub bytes : Bytes p

pub payload_range : (p : List ℕ) → payload_ok p ≡ true → PayloadRange p
unfolding payload_ok
payload_range p ok = let a = and_holds _ _ ok in record { most = le_holds (length p) most_payload_limit a.0; bytes = are_bytes_lem p a.1 }

pub record ActionRange (c : Context) (a : Action) : Type 0 where
  pub id : IdRange c a.id
  pub green_length : a.green_length ≤ most_length_limit
  pub white_length : a.white_length ≤ most_length_limit
  pub payload : PayloadRange a.payload

pub action_range : (c : Context) (a : Action) → ContextRange c → action_ok c a ≡ true → ActionRange c a
unfolding action_ok
action_range c a r ok =
    let x = and_holds _ _ ok in
    let y = and_holds _ _ x.1 in
    let z = and_holds _ _ y.1 in
    record {
      id = id_range c a.id x.0;
      green_length = length_range a.green_length y.0;
      white_length = length_range a.white_length z.0;
      payload = payload_range a.payload z.1;
    }

pub record PrimaryRange (p : Primary) : Type 0 where
  pub index : p.index ≤ most_index_limit
  pub attempt : p.attempt ≤ most_index_limit
  pub set : p.set < 2 ^ most_servers_limit

pub primary_range : (c : Context) (p : Primary) → ContextRange c → primary_ok c p ≡ true → PrimaryRange p
unfolding primary_ok
primary_range c p r ok =
    let x = and_holds _ _ ok in
    let y = and_holds _ _ x.1 in
    record { index = index_range p.index x.0; attempt = index_range p.attempt y.0; set = set_range c p.set r y.1 }

pub record MarkRange (m : Mark) : Type 0 where
  pub status : m.status ≤ 1
  pub index : m.index ≤ most_index_limit
  pub attempt : m.attempt ≤ most_index_limit
  pub set : m.set < 2 ^ most_servers_limit
  pub bits : m.bits < 2 ^ most_servers_limit

pub mark_range : (c : Context) (m : Mark) → ContextRange c → mark_ok c m ≡ true → MarkRange m
unfolding mark_ok
mark_range c m r ok =
    let x = and_holds _ _ ok in
    let y = and_holds _ _ x.1 in
    let z = and_holds _ _ y.1 in
    let w = and_holds _ _ z.1 in
    record {
      status = status_range m.status x.0;
      index = index_range m.index y.0;
      attempt = index_range m.attempt z.0;
      set = set_range c m.set r w.0;
      bits = set_range c m.bits r w.1;
    }

pub record YellowRange (c : Context) (y : Yellow) : Type 0 where
  pub status : y.status ≤ 1
  pub few : length y.ids ≤ c.servers * c.quota
  pub ids : ids_in_range c y.ids ≡ true
  pub differ : ids_differ y.ids ≡ true

pub yellow_range : (c : Context) (y : Yellow) → yellow_ok c y ≡ true → YellowRange c y
unfolding yellow_ok ids_ok
yellow_range c y ok =
    let a = and_holds _ _ ok in
    let d = and_holds _ _ a.1 in
    let b = and_holds _ _ d.1 in
    record { status = status_range y.status a.0; few = le_holds _ _ d.0; ids = b.0; differ = b.1 }

pub record StateRange (c : Context) (s : State) : Type 0 where
  pub sender : s.sender < c.servers
  pub configuration : s.configuration < 2 ^ 32
  pub count : length s.cuts ≡ c.servers
  pub cuts : cuts_ok most_number_limit s.cuts ≡ true
  pub green_length : s.green_length ≤ most_length_limit
  pub attempt : s.attempt ≤ most_index_limit
  pub last : PrimaryRange s.last
  pub mark : MarkRange s.mark
  pub yellow : YellowRange c s.yellow

pub state_range : (c : Context) (s : State) → ContextRange c → state_ok c s ≡ true → StateRange c s
unfolding state_ok
state_range c s r ok =
    let a₁ = and_holds _ _ ok in
    let a₂ = and_holds _ _ a₁.1 in
    let a₃ = and_holds _ _ a₂.1 in
    let a₄ = and_holds _ _ a₃.1 in
    let a₅ = and_holds _ _ a₄.1 in
    let a₆ = and_holds _ _ a₅.1 in
    let a₇ = and_holds _ _ a₆.1 in
    let a₈ = and_holds _ _ a₇.1 in
    record {
      sender = lt_holds s.sender c.servers a₁.0;
      configuration = configuration_range s.configuration a₂.0;
      count = eq_holds (length s.cuts) c.servers a₃.0;
      cuts = a₄.0;
      green_length = length_range s.green_length a₅.0;
      attempt = index_range s.attempt a₆.0;
      last = primary_range c s.last r a₇.0;
      mark = mark_range c s.mark r a₈.0;
      yellow = yellow_range c s.yellow a₈.1;
    }
