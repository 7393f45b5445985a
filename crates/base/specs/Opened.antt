-- One name for all definitions of this crate: whoever unfolds it unfolds them, so that closed instances compute.
use Rattle.std.specs.Prelude.{ℕ}
use Rattle.std.specs.Int.Count.{ones}
use Rattle.base.specs.Bytes.{are_bytes, bytes_of, number_at, numbers_at, part_at, joined, over, zeros, slot, zero_at}
use Rattle.base.specs.Lists.{all, any, filter, at_front, present, gather, gather_all, after, above, below}
use Rattle.base.specs.Lists.{is_there, at, first_from, sum, same, upd, every_at}
use Rattle.base.specs.Sets.{in_set, inside, with_member, size, common, union, everyone, first_member, lowest_member}
use Rattle.base.specs.Tests.{◌≤?◌, ◌<?◌, ◌=?◌, ◌and◌, ◌or◌, pick}
use Rattle.base.specs.Text.{ascii, digits, decimal}

unfoldable pub opened : ℕ
unfolding
    ones
    are_bytes bytes_of number_at numbers_at part_at joined over zeros slot zero_at
    all any filter at_front present gather gather_all after above below is_there at first_from sum same upd every_at
    in_set inside with_member size common union everyone first_member lowest_member
    ◌≤?◌ ◌<?◌ ◌=?◌ ◌and◌ ◌or◌ pick
    ascii digits decimal
opened = 0
