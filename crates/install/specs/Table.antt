-- The table of places: hints to where in the queue the action of an id stands.
use Rattle.std.specs.Prelude.{ℕ, ◌+◌, ◌*◌, ◌≤◌, ◌<◌, ◌≡◌, List, map, length, get_or, drop, Option, Some, None, MatchOption}
use Rattle.base.specs.Tests.{◌<?◌, pick}
use Rattle.std.proofs.Math.Option.{some}
use Rattle.base.specs.Lists.{above, at, Each}
use Rattle.format.specs.Limits.{most_servers_limit, most_ids}
use Rattle.format.specs.Types.{Id, Action}
use Rattle.record.specs.Values.{id_of, slot}
use Rattle.replication.specs.Machine.Types.{Log, with_log}
use Rattle.replication.specs.Machine.Colours.{cut}
use Rattle.replication.specs.Machine.WellFormed.{queue}
use Rattle.image.specs.Header.{shown_log}
use Rattle.image.specs.Image.{image}
use Rattle.image.specs.Decode.{decoded}
use Rattle.image.specs.Holding.{HoldsSome}
use Rattle.queue.specs.Queue.{position}
use Rattle.install.specs.Swaps.{green_swaps}
use Rattle.image.specs.Counts.{CountsIn, queue_count, green_count, place}
use Rattle.image.specs.Layout.{the_queue, slot_size}
use Rattle.format.specs.Read.{id_at}
use Rattle.format.specs.Places.{id_size}
use Rattle.base.specs.Bytes.{number_at}

-- The log as the slots of the buffer show it.
unfoldable pub log_in : List ℕ → Log
log_in b = shown_log (decoded b)

unfoldable pub yellows_in : List ℕ → List Id
yellows_in b = (decoded b).votes.yellow.ids

-- The ids of the creator c up to its cut.
unfoldable pub ids_of : ℕ → List ℕ → List Id
ids_of c b = map (id_of c) (above 0 (cut (log_in b) c))

-- The place k, where it is one of n.
unfoldable pub one_of_places : (n k : ℕ) → Option ℕ
one_of_places n k = pick (k <? n) (Some k) None

-- The place in the queue, from `first` on, of the action with the id d.
unfoldable pub place_from : (first : ℕ) → Id → List ℕ → Option ℕ
place_from first d b = one_of_places (queue_count b) (first + position d (drop first (queue (log_in b))))

-- The id in the slot k of the queue.
abbrev pub id_in : List ℕ → (k : ℕ) → Id
id_in b k = id_at b (place the_queue b + slot_size * k)

-- P holds of the index of each action of the creator c from the place `first` of the queue on before the place `end`.
abbrev pub EachIndex : (end first c : ℕ) → List ℕ → (ℕ → Type 0) → Type 0
EachIndex end first c b P =
    (j : ℕ) (a : Action) → first ≤ j → j < end → at (queue (log_in b)) j ≡ some a → a.id.creator ≡ c → P a.id.index

-- Of these actions the one with the least index over i stands at k.
pub record NextAt (end first c i k : ℕ) (b : List ℕ) : Type 0 where
  pub low : first ≤ k
  pub high : k < queue_count b
  pub creator : (id_in b k).creator ≡ c
  pub over : i < (id_in b k).index
  pub least : EachIndex end first c b (λ x. i < x → (id_in b k).index ≤ x)

-- The place r of the one with the least index over i, or that none is over i.
abbrev pub NextBefore : (end first c i : ℕ) → (r : Option ℕ) → List ℕ → Type 0
NextBefore end first c i r b = MatchOption r (EachIndex end first c b (λ x. x ≤ i)) (λ k. NextAt end first c i k b)

-- The same of all from `first` on.
abbrev pub NextFrom : (first c i : ℕ) → (r : Option ℕ) → List ℕ → Type 0
NextFrom first c i r b = NextBefore (queue_count b) first c i r b

-- Where its place before the place k is p, its place before the place after k is r.
abbrev pub Nearer : (k c i : ℕ) → (p r : Option ℕ) → List ℕ → Type 0
Nearer k c i p r b = (first : ℕ) → first ≤ k → NextBefore k first c i p b → NextBefore (k + 1) first c i r b

-- An id lies at `at`, and its creator has places in the table.
pub record IdInside (at : ℕ) (b : List ℕ) : Type 0 where
  pub inside : at + id_size ≤ length b
  pub creator : number_at 1 b at < most_servers_limit

-- Each of these actions has left a hint in the table t.
abbrev pub Hinted : List ℕ → List Action → Type 0
Hinted t l = Each (λ a. 0 < get_or t (slot a.id) 0) l

-- The buffer b holds a state, and the table t has a hint to each action of its queue, in which actions from the place `first` on are sought. Which
-- place a hint tells does not matter.
pub record IndexedFrom (first : ℕ) (t b : List ℕ) : Type 0 where
  pub holds : HoldsSome b
  pub counts : CountsIn b
  pub size : length t ≡ most_ids
  pub low : first ≤ queue_count b
  pub hinted : Hinted t (queue (log_in b))

-- Red actions are sought.
abbrev pub Indexed : (t b : List ℕ) → Type 0
Indexed t b = IndexedFrom (green_count b) t b

-- The actions with the ids ds turned green one after the other: the buffer b became c, and u is a table for it.
pub record Turned (ds : List Id) (b u c : List ℕ) : Type 0 where
  pub written : c ≡ image (with_log (green_swaps ds (decoded b).log) (decoded b)) b
  pub indexed : Indexed u c

-- The creator c's red actions with the indexes over i up to r turned green, and r is not over `cut`; where r is none, it has none of them up to `cut`.
abbrev pub TurnedTo : (c i cut : ℕ) → (r : Option ℕ) → (b u v : List ℕ) → Type 0
TurnedTo c i cut r b u v =
    MatchOption r (Turned (map (id_of c) (above i cut)) b u v) (λ y. (i < y) × (y ≤ cut) × Turned (map (id_of c) (above i y)) b u v)

-- The same of each creator whose next red action over i stands at the place k.
abbrev pub TurnedAt : (k cut : ℕ) → (r : Option ℕ) → (b u v : List ℕ) → Type 0
TurnedAt k cut r b u v = (c i : ℕ) → NextAt (queue_count b) (green_count b) c i k b → i < cut → TurnedTo c i cut r b u v
