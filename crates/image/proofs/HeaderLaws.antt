-- The state's numbers and the first section of its image.
use Prim.Native.Nat.{ℕ, ◌+◌, ◌≤◌}
use mathlib.Core.Path.{◌≡◌, refl, subst}
use mathlib.Core.List.{List, [], ◌∷◌, map}
use native.Mathlib.Omega.{arith}
use lib.ListN.{length}
use Rattle.base.specs.Bytes.{Bytes, bytes_of, number_at}
use Rattle.base.specs.Lists.{sum}
use Rattle.base.proofs.BytesLaws.{bytes_length}
use Rattle.base.proofs.Occurs.{Occurs, occurs_nil, occurs_append, occurs_at, parts_joined, number_occurs}
use Rattle.format.specs.Read.{primary_at, mark_at}
use Rattle.format.proofs.Lengths.{primary_length, mark_length}
use Rattle.format.proofs.Writing.{primary_written, mark_written}
use Rattle.record.specs.Events.{last_in, mark_in}
use Rattle.record.specs.Values.{primary_of, last_of, mark_of}
use Rattle.writer.specs.Blocks.{yellow_head_bytes}
use Rattle.replication.specs.Machine.Types.{Server}
use Rattle.image.specs.Layout.{the_header, sections, offset, header_size, at_queue_length, at_last, at_mark, at_yellow, at_yellow_count}
use Rattle.image.specs.Image.{header_bytes, parts}
use Rattle.image.specs.Header.{header_of, header_in, written, membership_numbers, counts_numbers, membership_bytes, counts_bytes, header_written}
use Rattle.image.specs.Holding.{Holds}
use Rattle.image.proofs.InRange.{in_range}
use Rattle.image.proofs.HeaderRead.{header_read}
use Rattle.image.proofs.Fit.{well_formed_fits}
use Rattle.image.proofs.Decoded.{image_part}
use Rattle.image.proofs.Saved.{membership_length, counts_length}

-- The numbers of a state, written, are its header.
pub header_written_lem : (s : Server) → header_written (header_of s) ≡ header_bytes s
unfolding header_bytes
header_written_lem s = refl

-- ---- loaded

-- What is loaded of a buffer that holds a state is the numbers of that state.
pub header_loaded : (s : Server) (b : List ℕ) → Holds s b → header_in b ≡ header_of s
unfolding parts offset sections sum header_bytes
header_loaded s b r =
    let here = image_part s (well_formed_fits s r.formed) b r.long the_header (omega arith) in
    header_read s b (in_range s r.formed) (subst (λ (c : List ℕ). Occurs (header_bytes s) c 0) r.written here)

-- ---- loaded and saved

-- Numbers of these widths, read one behind another from `at` on.
abbrev numbers_by : List ℕ → List ℕ → ℕ → List (ℕ × ℕ)
numbers_by [] b at = []
numbers_by (w ∷ ws) b at = (w, number_at w b at) ∷ numbers_by ws b (at + w)

-- Written again they occur there.
numbers_kept : (ws : List ℕ) (b : List ℕ) (at : ℕ) → Bytes b → at + sum ws ≤ length b → Occurs (written (numbers_by ws b at)) b at
unfolding written sum
numbers_kept [] b at k h = occurs_nil b at
numbers_kept (w ∷ ws) b at k h =
    occurs_append (bytes_of w (number_at w b at)) (written (numbers_by ws b (at + w))) b at (at + w) (omega (arith, bytes_length w (number_at w b at)))
    (number_occurs w b at refl k (omega arith)) (numbers_kept ws b (at + w) k (omega arith))

abbrev widths : List (ℕ × ℕ) → List ℕ
widths fs = map (λ (f : ℕ × ℕ). f.0) fs

membership_kept : (b : List ℕ) → Bytes b → header_size ≤ length b → Occurs (membership_bytes (header_in b)) b 0
unfolding membership_bytes header_in sum
membership_kept b k h = numbers_kept (widths (membership_numbers (header_in b))) b 0 k (omega arith)

counts_kept : (b : List ℕ) → Bytes b → header_size ≤ length b → Occurs (counts_bytes (header_in b)) b at_queue_length
unfolding counts_bytes header_in sum
counts_kept b k h = numbers_kept (widths (counts_numbers (header_in b))) b at_queue_length k (omega arith)

yellow_kept : (b : List ℕ) → Bytes b → header_size ≤ length b → Occurs (yellow_head_bytes (number_at 1 b at_yellow) (number_at 2 b at_yellow_count)) b at_yellow
unfolding yellow_head_bytes bytes_of
yellow_kept b k h = parts_joined _ b at_yellow (number_occurs 1 b at_yellow refl k (omega arith), (number_occurs 2 b at_yellow_count refl k (omega arith), tt))

-- What is loaded, written again, occurs where it was.
pub header_kept : (b : List ℕ) → Bytes b → header_size ≤ length b → Occurs (header_written (header_in b)) b 0
unfolding header_written header_in last_in last_of mark_in primary_of mark_of primary_at mark_at
header_kept b k h =
    let first = membership_length (header_in b) in
    let counts = counts_length (header_in b) in
    let last = primary_length (primary_at b at_last) in
    let mark = mark_length (mark_at b at_mark) in
    parts_joined _ b 0 (
      membership_kept b k h,
      (
        occurs_at (counts_kept b k h) (omega arith),
        (
          occurs_at (primary_written b at_last k (omega arith)) (omega arith),
          (occurs_at (mark_written b at_mark k (omega arith)) (omega arith), (occurs_at (yellow_kept b k h) (omega arith), tt)),
        ),
      ),
    )
