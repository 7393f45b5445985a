-- The table by which the ids common to several lists are found in one pass over each: a place for each id of the first list, in its order.
use Rattle.std.specs.Prelude.{ℕ, suc, ◌+◌, ◌*◌, ◌≤◌, ◌<◌, ◌≡◌, Bool, true, List, [], ◌∷◌, Option, Some, None, length, get_or, set, take, replicate}
use Rattle.base.specs.Lists.{filter}
use Rattle.base.specs.Patched.{patched}
use Rattle.base.specs.Sets.{in_set}
use Rattle.base.specs.Tests.{◌and◌, ◌=?◌, ◌<?◌, pick}
use Rattle.format.specs.Limits.{most_ids}
use Rattle.format.specs.Types.{Id, State}
use Rattle.format.specs.Range.{same_id, ids_differ}
use Rattle.format.specs.Read.{id_at}
use Rattle.format.specs.Write.{id_bytes, ids_bytes}
use Rattle.exchange.specs.Hints.{sought_in}
use Rattle.exchange.specs.declared.slots.Slots.{Slots}
use Rattle.exchange.specs.Slots.{slot_at, state_in, states_left, if_meant}
use Rattle.format.specs.Places.{cut_size, id_size, state_head_size}

-- Where the id d stands in the list: the number of its ids where it has none.
unfoldable pub place_in : Id → List Id → ℕ
place_in d [] = 0
place_in d (x ∷ xs) = pick (same_id d x) 0 (suc (place_in d xs))

-- Where the id d stands among the m ids in the bytes e.
abbrev pub Stands : Id → (m : ℕ) → List ℕ → Option ℕ → Type 0
Stands d m e None = place_in d (sought_in m e) ≡ m
Stands d m e (Some k) = (k ≡ place_in d (sought_in m e)) × (k < m)

-- The place of d tells r.
unfoldable pub is_kept : List Id → ℕ → List ℕ → Id → Bool
is_kept l r t d = place_in d l <? length l and get_or t (place_in d l) 0 =? r

-- An id of the list after r others: its place is raised to r + 1 if it is at r.
unfoldable pub raised : List Id → ℕ → List ℕ → Id → List ℕ
raised l r t d = pick (is_kept l r t d) (set t (place_in d l) (r + 1)) t

unfoldable pub raised_all : List Id → ℕ → List ℕ → List Id → List ℕ
raised_all l r t [] = t
raised_all l r t (d ∷ ds) = raised_all l r (raised l r t d) ds

-- The first list is that of m ids in the bytes e.
abbrev pub raised_in : (m : ℕ) → List ℕ → ℕ → List ℕ → List Id → List ℕ
raised_in m e r t ds = raised_all (sought_in m e) r t ds

-- The yellow lists of these States, one after another.
unfoldable pub raised_lists : List Id → ℕ → List ℕ → List State → List ℕ
raised_lists l r t [] = t
raised_lists l r t (y ∷ ys) = raised_lists l (r + 1) (raised_all l r t y.yellow.ids) ys

-- The yellow list of the State in the slot k.
abbrev pub ids_in : Slots → List ℕ → ℕ → List Id
ids_in v b k = (state_in v b k).yellow.ids

-- If the slot k is meant, its list is one more: the table is t after r lists, and u after q.
pub record RaisedAt (l : List Id) (v : Slots) (b : List ℕ) (k r q : ℕ) (t u : List ℕ) : Type 0 where
  pub count : q ≡ if_meant v k (r + 1) r
  pub table : u ≡ if_meant v k (raised_all l r t (ids_in v b k)) t

-- The r lists of the States ys made u of the table t.
pub record RaisedBy (l : List Id) (ys : List State) (r : ℕ) (t u : List ℕ) : Type 0 where
  pub count : r ≡ length ys
  pub table : u ≡ raised_lists l 0 t ys

abbrev pub RaisedFrom : (m : ℕ) → List ℕ → List State → ℕ → (t u : List ℕ) → Type 0
RaisedFrom m e ys r t u = RaisedBy (sought_in m e) ys r t u

-- The list in the slot k lies in the buffer.
unfoldable pub ListInside : Slots → List ℕ → ℕ → Type 0
ListInside v b k = slot_at v k + (state_head_size + cut_size * v.servers + id_size * length (ids_in v b k)) ≤ length b

-- Those of the senders that are meant lie in it.
unfoldable pub ListsInside : Slots → List ℕ → Type 0
ListsInside v b = (k : ℕ) → k < v.servers → in_set k v.here ≡ true → ListInside v b k

-- The slot k with its list, and the slots from k on with the lists of those that are meant.
pub record SlotInside (v : Slots) (b : List ℕ) (k : ℕ) : Type 0 where
  pub low : k < v.servers
  pub list : ListInside v b k

pub record SlotsInside (v : Slots) (b : List ℕ) (k : ℕ) : Type 0 where
  pub most : k ≤ v.servers
  pub lists : ListsInside v b

-- If the id at `at` passes the test, it is one more: the bytes are o with n ids, and u with q.
pub record Keeps (t : Id → Bool) (e : List ℕ) (at n q : ℕ) (o u : List ℕ) : Type 0 where
  pub count : q ≡ pick (t (id_at e at)) (n + 1) n
  pub bytes : u ≡ pick (t (id_at e at)) (patched (id_size * n) (id_bytes (id_at e at)) o) o

-- The id number j of the first list, of m ids in the bytes e, if its place in the table t tells r.
abbrev pub KeepsAt : (m r j : ℕ) (e t : List ℕ) (n q : ℕ) (o u : List ℕ) → Type 0
KeepsAt m r j e t n q o u = Keeps (is_kept (sought_in m e) r t) e (id_size * j) n q o u

-- All ids of which that holds.
abbrev pub kept_of : (m r : ℕ) (e t : List ℕ) → List Id
kept_of m r e t = filter (is_kept (sought_in m e) r t) (sought_in m e)

-- Those of the list l that the table of the lists of the States ys tells to be in all of them.
unfoldable pub kept_ids : List Id → List State → List Id
kept_ids l ys = filter (is_kept l (length ys) (raised_lists l 0 (replicate {A = ℕ} most_ids 0) ys)) l

-- The ids of the list in the slot k that the lists of all slots behind it have, too.
abbrev pub common_from : Slots → List ℕ → ℕ → List Id
common_from v b k = kept_ids (ids_in v b k) (states_left v b (k + 1))

-- The bytes o begin with the ids ds, of which there are r.
pub record Listed (r : ℕ) (o : List ℕ) (ds : List Id) : Type 0 where
  pub count : r ≡ length ds
  pub bytes : take (id_size * r) o ≡ ids_bytes ds

-- The list in the slot k lies in the buffer b and has room in o, its ids differ, and they are as few as there can be.
pub record ListFits (v : Slots) (b o : List ℕ) (k : ℕ) : Type 0 where
  pub inside : ListInside v b k
  pub short : id_size * length (ids_in v b k) ≤ length o
  pub few : length (ids_in v b k) ≤ most_ids
  pub differ : ids_differ (ids_in v b k) ≡ true

-- So it is for the senders that are meant.
unfoldable pub ListsFit : Slots → (b o : List ℕ) → Type 0
ListsFit v b o = (k : ℕ) → k < v.servers → in_set k v.here ≡ true → ListFits v b o k
