-- Turning green without a shift: the action and the lowest red one change places. At Install all red actions turn green, so that
-- the order in which the others wait does not matter.
use Rattle.std.specs.Prelude.{ℕ, zero, suc, ◌+◌, ◌*◌, List, [], ◌∷◌, ◌++◌, set}
use Rattle.std.proofs.Math.Option.{Option, none, some}
use Rattle.base.specs.Bytes.{bytes_of, part_at}
use Rattle.base.specs.Patched.{patched}
use Rattle.format.specs.Types.{Id, Action}
use Rattle.replication.specs.Machine.Types.{Log}
use Rattle.replication.specs.Machine.Colours.{find}
use Rattle.image.specs.Layout.{slot_size, at_green_count, the_queue}
use Rattle.queue.specs.Queue.{position}
use Rattle.image.specs.Counts.{place, green_count}

-- The list without its element at k, whose place the first one takes.
unfoldable pub swap_out : ℕ → List Action → List Action
swap_out k [] = []
swap_out zero (y ∷ l) = l
swap_out (suc k) (y ∷ l) = set l k y

unfoldable pub green_found : Option Action → ℕ → Log → Log
green_found none k l = l
green_found (some x) k l = record {
  green = l.green ++ (x ∷ []);
  red = swap_out k l.red;
  cuts = l.cuts;
  own = l.own;
  numbered = l.numbered;
  sent = l.sent;
}

-- The action with the id d turns green, if it is held and red.
unfoldable pub green_swap : Id → Log → Log
green_swap d l = green_found (find d l.red) (position d l.red) l

unfoldable pub green_swaps : List Id → Log → Log
green_swaps [] l = l
green_swaps (d ∷ ds) l = green_swaps ds (green_swap d l)

-- ---- the bytes

-- The slots from i on and from j on change places.
unfoldable pub exchanged : (i j : ℕ) → List ℕ → List ℕ
exchanged i j b = patched j (part_at slot_size b i) (patched i (part_at slot_size b j) b)

-- The action at the place k of the queue and the lowest red one change places, and the green ones are one more.
unfoldable pub green_at : ℕ → List ℕ → List ℕ
green_at k b =
    patched at_green_count (bytes_of 4 (green_count b + 1)) (exchanged (place the_queue b + slot_size * green_count b) (place the_queue b + slot_size * k) b)
