-- A number of a state's header written anew.
use Prim.Native.Nat.{ℕ}
use Rattle.base.specs.Bytes.{bytes_of, joined}
use Rattle.base.specs.Patched.{patched}
use Rattle.format.specs.Write.{primary_bytes, mark_bytes}
use Rattle.record.specs.Values.{primary_of, last_of, mark_of}
use Rattle.writer.specs.Blocks.{yellow_head_bytes}
use Rattle.image.specs.Header.{header_of, mark_numbers, written, membership_bytes, counts_bytes, header_written}
use Rattle.image.specs.Image.{header_bytes}

-- Whoever unfolds it unfolds all that a header is written by: the change of a number at its place then shows by computing.
unfoldable pub opened_header : ℕ
unfolding header_bytes header_of header_written membership_bytes counts_bytes written yellow_head_bytes last_of primary_of mark_numbers mark_of primary_bytes mark_bytes bytes_of joined patched
opened_header = 0
