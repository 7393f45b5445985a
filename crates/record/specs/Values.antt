-- What the code's structs stand for.
use Rattle.std.specs.Prelude.{ℕ, zero, suc, ◌+◌, ◌*◌, ◌%◌, ◌≤◌, ◌<◌, ◌≡◌, Bool, true, not, List, [], ◌∷◌, ◌++◌, length, get_or, Option, Some, None}
use Rattle.base.specs.Tests.{pick, ◌and◌}
use Rattle.base.specs.Bytes.{numbers_at}
use Rattle.base.specs.Lists.{Each}
use Rattle.format.specs.Limits.{most_quota_limit}
use Rattle.format.specs.Places.{cut_size, id_size}
use Rattle.format.specs.Types.{Id, Action, Primary, Mark as FormatMark, State, Record, retransmission, Context}
use Rattle.format.specs.Range.{id_ok, has_id}
use Rattle.format.specs.Read.{id_at, ids_at}
use Rattle.record.specs.declared.LastPrimary.{LastPrimary}
use Rattle.record.specs.declared.Mark.{Mark}
use Rattle.record.specs.declared.ActionId.{ActionId}
use Rattle.record.specs.declared.ActionHead.{ActionHead}
use Rattle.record.specs.declared.events.StateHead.{StateHead}

unfoldable pub id_of : (creator index : ℕ) → Id
id_of creator index = record { creator = creator; index = index }

abbrev pub the_id : ActionId → Id
the_id d = id_of d.creator d.index

abbrev pub id_in_head : ActionHead → ActionId
id_in_head h = record { creator = h.creator; index = h.index }

unfoldable pub primary_of : LastPrimary → Primary
primary_of p = record { index = p.index.0; attempt = p.attempt.0; set = p.set }

-- The struct that stands for it.
unfoldable pub last_of : Primary → LastPrimary
last_of p = record { index = record { 0 = p.index }; attempt = record { 0 = p.attempt }; set = p.set }

unfoldable pub mark_of : Mark → FormatMark
mark_of m = record { status = m.status; index = m.index.0; attempt = m.attempt.0; set = m.set; bits = m.bits }

unfoldable pub action_of : ActionHead → (payload : List ℕ) → Action
action_of h p = record {
  id = id_of h.creator h.index;
  green_length = h.green_length;
  white_length = h.white_length;
  payload = p;
}

-- A retransmission of an action.
abbrev pub resent : (sender position : ℕ) → ActionHead → (payload : List ℕ) → Record
resent sender position h p = retransmission sender position (action_of h p)

-- A State: its cuts lie in the bytes `cuts` from `at` on, and its yellow ids in the bytes `ids` from `start` on.
unfoldable pub state_of : StateHead → (cuts : List ℕ) → (at : ℕ) → (ids : List ℕ) → (start : ℕ) → State
state_of h cuts at ids start = record {
  sender = h.sender;
  configuration = h.configuration;
  cuts = numbers_at cut_size h.servers cuts at;
  green_length = h.green_length;
  attempt = h.attempt.0;
  last = primary_of h.last;
  mark = mark_of h.mark;
  yellow = record { status = h.yellow_status; ids = ids_at h.yellow_count ids start };
}

-- A table of ids has most_quota_limit places for each creator. The place of an id is a hint: ids of a creator whose indexes lie within one run of
-- most_quota_limit have places of their own, and those that lie farther apart may share one. So a place that is 0 tells that no id which has set its
-- place is this one; what any other says has to be looked at.
unfoldable pub slot : Id → ℕ
slot d = d.creator * most_quota_limit + d.index % most_quota_limit

-- An id that is out of range has none.
unfoldable pub table_place : Context → Id → Option ℕ
table_place c d = pick (id_ok c d) (Some (slot d)) None

-- m ids, each at the front of w bytes, from `at` on.
unfoldable pub ids_by : (w m : ℕ) → List ℕ → ℕ → List Id
ids_by w zero e at = []
ids_by w (suc m) e at = id_at e at ∷ ids_by w m e (at + w)

-- An id at the front of each of m entries of w bytes from `at` on lies inside the bytes e.
pub record IdsInside (w m : ℕ) (e : List ℕ) (at : ℕ) : Type 0 where
  pub wide : id_size ≤ w
  pub inside : at + w * m ≤ length e

-- The table t has a place for each id of n creators.
abbrev pub HasPlaces : (n : ℕ) → List ℕ → Type 0
HasPlaces n t = n * most_quota_limit ≤ length t

-- The ids xs have set their places in the table t.
abbrev pub Marked : List ℕ → List Id → Type 0
Marked t xs = Each (λ d. 0 < get_or t (slot d) 0) xs

-- The id at `here` is to be met behind m ids, each at the front of w bytes from `at` on, which have set their places in the table t for n creators.
pub record NextId (w m : ℕ) (e : List ℕ) (at here n : ℕ) (t : List ℕ) : Type 0 where
  pub before : IdsInside w m e at
  pub inside : here + id_size ≤ length e
  pub places : HasPlaces n t
  pub marked : Marked t (ids_by w m e at)

-- The answer r to whether the id d, behind the ids xs, is in range and none of them. If it is, the table u has the places of all of them set;
-- it is as long as the table t, which it was.
pub record Met (c : Context) (xs : List Id) (d : Id) (r : Bool) (t u : List ℕ) : Type 0 where
  pub answer : r ≡ (id_ok c d and not (has_id d xs))
  pub marked : r ≡ true → Marked u (xs ++ (d ∷ []))
  pub size : length u ≡ length t

-- The same of the id at `here`.
abbrev pub MetAt : Context → (w m : ℕ) → List ℕ → (at here : ℕ) → Bool → (t u : List ℕ) → Type 0
MetAt c w m e at here r t u = Met c (ids_by w m e at) (id_at e here) r t u
