-- The first list, and the hints that its ids left.
use Rattle.std.specs.Prelude.{ℕ, ◌+◌, ◌*◌, ◌≤◌, ◌≡◌, true, List, [], ◌∷◌, length, set}
use Rattle.std.specs.Coded.{×_prop, Unit-prop, le_prop}
use Rattle.base.specs.Lists.{filter}
use Rattle.base.specs.Tests.{pick}
use Rattle.format.specs.Limits.{most_ids}
use Rattle.format.specs.Types.{Id, Context}
use Rattle.format.specs.Range.{id_ok, ids_differ}
use Rattle.format.specs.Read.{ids_at}
use Rattle.format.specs.Places.{id_size}
use Rattle.record.specs.Values.{slot, Marked}

-- The list whose ids are sought in the others: m ids in the bytes e. They differ, and the table has a place for each.
unfoldable pub sought_in : (m : ℕ) → List ℕ → List Id
sought_in m e = ids_at m e 0

pub record Sought (m : ℕ) (e : List ℕ) : Type 0 where
  pub inside : id_size * m ≤ length e
  pub few : m ≤ most_ids
  pub differ : ids_differ (sought_in m e) ≡ true

-- The id d at the place k leaves a hint in the table h if it is in range.
unfoldable pub hinted : Context → (k : ℕ) → Id → List ℕ → List ℕ
hinted c k d h = pick (id_ok c d) (set h (slot d) (k + 1)) h

-- Each id in range of the list l has left one.
unfoldable pub Hinted : Context → List Id → List ℕ → Type 0
Hinted c l h = Marked h (filter (id_ok c) l)

-- It is a fact: no two proofs of it differ.
marked_prop : (h : List ℕ) (xs : List Id) → IsProp (Marked h xs)
marked_prop h [] = Unit-prop
marked_prop h (x ∷ xs) = ×_prop le_prop (marked_prop h xs)

pub hinted_prop : (c : Context) (l : List Id) (h : List ℕ) → IsProp (Hinted c l h)
unfolding Hinted
hinted_prop c l h = marked_prop h (filter (id_ok c) l)
