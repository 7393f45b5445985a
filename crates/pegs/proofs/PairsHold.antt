-- The pairs hold by computation.
use mathlib.Core.Path.{refl}
use Rattle.base.specs.Opened.{opened}
use Rattle.pegs.specs.Names.{before}
use Rattle.pegs.specs.Operations.{place_at, name_fits, operation_as, operation_of, coordinate}
use Rattle.pegs.specs.Register.{find, insert, replace, remove, done, number_of, number_if, payload_number, after, after_if, after_payload, advance, register_of}
use Rattle.pegs.specs.Image.{leads, rising, peg_fits, formed}
use Rattle.pegs.specs.Pairs.{Pairs}

pub pairs_hold : Pairs
unfolding
    opened
    before place_at name_fits operation_as operation_of coordinate
    find insert replace remove done number_of number_if payload_number after after_if after_payload advance register_of
    leads rising peg_fits formed
pairs_hold = record {
  two_names = refl;
  bytes_first = refl;
  again = refl;
  moved = refl;
  name_24 = refl;
  name_25 = refl;
  no_name = refl;
  behind = refl;
  retire_placed = refl;
  set_alone = refl;
  byte_4 = refl;
  full_formed = refl;
  full_there = refl;
  full_other = refl;
  one_free = refl;
  move_absent = refl;
  retire_absent = refl;
  refused_set = refl;
  refused_move = refl;
  in_order = refl;
  out_of_order = refl;
  bytes_in_order = refl;
  bytes_out_of_order = refl;
  twice = refl;
  out_of_range = refl;
  highest = refl;
  lowest = refl;
  minus_one = refl;
}
