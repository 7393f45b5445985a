-- The used part of each section lies inside the buffer.
use Prim.Native.Nat.{ℕ, ◌+◌, ◌*◌, ◌≤◌}
use mathlib.Core.List.{List}
use native.Mathlib.Omega.{arith}
use lib.ListN.{length}
use Rattle.base.specs.Lists.{sum}
use Rattle.base.proofs.Sections.{begin_end}
use Rattle.image.specs.Layout.{header_size, slot_size, state_size, the_cuts, the_noted, the_states, the_yellow, the_own, the_queue, sections, section_size, offset, state_length}
use Rattle.format.specs.Places.{id_size}

module _ (n q : ℕ) (b : List ℕ) (h : state_length n q ≤ length b) where
  section_room : (k : ℕ) → offset n q k + section_size n q k ≤ length b
  unfolding offset section_size state_length
  section_room k = omega (arith, begin_end (sections n q) k)

  pub header_room : header_size ≤ length b
  unfolding state_length sections sum
  header_room = omega arith

  pub cuts_room : offset n q the_cuts + 2 * n ≤ length b
  unfolding section_size sections
  cuts_room = section_room the_cuts

  pub noted_room : offset n q the_noted + 4 * n ≤ length b
  unfolding section_size sections
  noted_room = section_room the_noted

  pub states_room : offset n q the_states + n * state_size n q ≤ length b
  unfolding section_size sections
  states_room = section_room the_states

  pub ids_room : (m : ℕ) → m ≤ n * q → offset n q the_yellow + id_size * m ≤ length b
  unfolding section_size sections
  ids_room m l = omega (arith, section_room the_yellow)

  pub own_room : (m : ℕ) → m ≤ q → offset n q the_own + slot_size * m ≤ length b
  unfolding section_size sections
  own_room m l = omega (arith, section_room the_own)

  pub queue_room : (m : ℕ) → m ≤ n * q → offset n q the_queue + slot_size * m ≤ length b
  unfolding section_size sections
  queue_room m l = omega (arith, section_room the_queue)
