-- Where sections begin, as the code computes it.
use Prim.Native.Nat.{ℕ, ◌+◌, ◌*◌}
use mathlib.Core.Path.{◌≡◌}
use native.Mathlib.Omega.{arith}
use Rattle.base.specs.Lists.{sum}
use Rattle.image.specs.Layout.{state_size, the_noted, the_states, the_yellow, the_own, the_queue, sections, offset, header_size, slot_size}
use Rattle.format.specs.Places.{state_head_size}

pub noted_place : (n q : ℕ) → header_size + 2 * n ≡ offset n q the_noted
unfolding offset sections sum
noted_place n q = omega arith

pub states_place : (n q : ℕ) → header_size + 6 * n ≡ offset n q the_states
unfolding offset sections sum
states_place n q = omega arith

pub size_made : (n q all : ℕ) → all ≡ n * q → state_head_size + 2 * n + 3 * all ≡ state_size n q
unfolding state_size
size_made n q all e = rw e

pub yellow_place : (n q at size all : ℕ) → at ≡ offset n q the_states → size ≡ state_size n q → all ≡ n * size → at + all ≡ offset n q the_yellow
unfolding offset sections sum
yellow_place n q at size all e f g = rw (e, g, f) (omega arith)

pub own_place : (n q at all : ℕ) → at ≡ offset n q the_yellow → all ≡ n * q → at + 3 * all ≡ offset n q the_own
unfolding offset sections sum
own_place n q at all e f = rw (e, f) (omega arith)

pub queue_place : (n q at : ℕ) → at ≡ offset n q the_own → at + slot_size * q ≡ offset n q the_queue
unfolding offset sections sum
queue_place n q at e = rw e (omega arith)
