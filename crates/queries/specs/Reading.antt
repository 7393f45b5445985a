-- What readings give: all green entries that are not white one behind another, and what turned green by an event.
use Rattle.std.specs.Prelude.{ℕ, ◌+◌, ◌≤◌, ◌<◌, ◌≡◌, List, [], ◌∷◌, ◌++◌, length, take, drop}
use Rattle.base.specs.Lists.{Each}
use Rattle.base.specs.Bytes.{over}
use Rattle.format.specs.Types.{Action}
use Rattle.replication.specs.Machine.Types.{Outcome, refused, taken}
use Rattle.replication.specs.Machine.Step.{step}
use Rattle.image.specs.Decode.{decoded, greens_in, white_in}
use Rattle.image.specs.Outcome.{step_on, image_number}
use Rattle.queries.specs.Queries.{entries_bytes, most_entry, Listing, entries_on}

-- ---- readings one behind another

-- The answer x to a reading of the state b behind the first `from` entries, into the buffer o.
pub record Reads (b : List ℕ) (from : ℕ) (o : List ℕ) (x : Listing) : Type 0 where
  pub green : x.green ≡ length (greens_in b)
  pub white : x.white ≡ white_in b
  -- None of its entries is white, so none is blank.
  pub behind : white_in b ≤ from
  -- They are the next ones of the green list, in their order, in front of what o holds behind them.
  pub inside : from + x.entries ≤ length (greens_in b)
  pub bytes : x.bytes ≡ length (entries_bytes (take x.entries (drop from (greens_in b))))
  pub out : x.out ≡ over (entries_bytes (take x.entries (drop from (greens_in b)))) o
  -- Where there is one more, one at least is put.
  pub some : from < length (greens_in b) → 1 ≤ x.entries

-- The bytes that readings of the state b put, each into the next of these buffers: the first behind the first `from` entries, each other behind what
-- the one before it put.
unfoldable pub readings : (b : List ℕ) → (from : ℕ) → (buffers : List (List ℕ)) → List ℕ
readings b f [] = []
readings b f (o ∷ os) = take (entries_on b f o).bytes (entries_on b f o).out ++ readings b (f + (entries_on b f o).entries) os

pub record ReadingsGiveAll : Type 0 where
  pub reading : (b : List ℕ) (from : ℕ) (o : List ℕ) → (entries_on b from o).number ≡ 0 → Reads b from o (entries_on b from o)
  -- Readings one behind another, as many as there are entries at most, give all that is green behind the first `from`, if none of it is white.
  pub all : (b : List ℕ) (from : ℕ) (os : List (List ℕ)) → image_number b ≡ 0 → Each (λ o. most_entry ≤ length o) os
      → white_in b ≤ from → from ≤ length (greens_in b) → length (greens_in b) ≤ from + length os
      → readings b from os ≡ entries_bytes (drop from (greens_in b))

-- ---- what turned green

-- The actions that an outcome names as newly green.
unfoldable pub turned_green : {R : Type 0} → Outcome R → List Action
turned_green (refused k) = []
turned_green (taken t r w g) = g

-- The event e, taken over the buffers b and o.
pub record GreenBy (b e o : List ℕ) : Type 0 where
  -- Both states can be read ..
  pub before : image_number b ≡ 0
  pub after : image_number (step_on b e o).state ≡ 0
  -- .. the new green list is as long as the old one and what the machine's step names as newly green, ..
  pub size : length (greens_in (step_on b e o).state) ≡ length (greens_in b) + length (turned_green (step (decoded b) e))
  -- .. and behind its white part, which is blank, it is those two one behind the other, in their order.
  pub gained : drop (white_in (step_on b e o).state) (greens_in (step_on b e o).state)
      ≡ drop (white_in (step_on b e o).state) (greens_in b ++ turned_green (step (decoded b) e))
  -- Where nothing of it is white already, what turned green so stands behind the old length.
  pub behind : white_in (step_on b e o).state ≤ length (greens_in b)
      → drop (length (greens_in b)) (greens_in (step_on b e o).state) ≡ turned_green (step (decoded b) e)

unfoldable pub NewlyGreen : Type 0
NewlyGreen = (b e o : List ℕ) → (step_on b e o).number ≡ 0 → GreenBy b e o
