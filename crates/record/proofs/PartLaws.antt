-- A State, from the parts that the code reads, is the one that the format reads.
use Prim.Native.Nat.{ℕ, ◌+◌, ◌*◌, ◌-◌}
use mathlib.Core.Path.{◌≡◌}
use mathlib.Core.List.{List}
use native.Mathlib.Omega.{arith}
use Rattle.format.specs.Places.{state_cuts_at, state_attempt_at, state_last_at, state_mark_at, state_yellow_at, state_count_at, standing_size, yellow_count_at, yellow_head_size}
use Rattle.format.specs.Read.{primary_at, mark_at, yellow_at_of, state_at}
use Rattle.record.specs.Values.{primary_of, last_of, mark_of, state_of}
use Rattle.record.specs.Events.{state_from, last_in, mark_in, head_in}
use Rattle.record.specs.declared.events.StateHead.{StateHead}
use Rattle.record.specs.declared.events.StateAt.{StateAt}

-- where its n cuts end
abbrev pub behind : ℕ → ℕ
behind n = state_cuts_at + 2 * n

-- its numbers behind the cuts begin at `at`
abbrev pub state_in : StateHead → ℕ → StateAt
state_in h at = record { head = h; cuts_at = state_cuts_at; yellow_at = at + standing_size }

pub state_is : (n : ℕ) (e : List ℕ) → state_from (state_in (head_in n e (behind n)) (behind n)) e ≡ state_at n e
unfolding state_from state_of head_in state_at primary_of last_in last_of primary_at mark_of mark_in mark_at yellow_at_of
state_is n e =
    let a₁ : behind n + (state_attempt_at - state_cuts_at) ≡ state_attempt_at + 2 * n = omega arith in
    let a₂ : behind n + (state_last_at - state_cuts_at) ≡ state_last_at + 2 * n = omega arith in
    let a₃ : behind n + (state_mark_at - state_cuts_at) ≡ state_mark_at + 2 * n = omega arith in
    let a₄ : behind n + (state_yellow_at - state_cuts_at) ≡ state_yellow_at + 2 * n = omega arith in
    let a₅ : behind n + (state_count_at - state_cuts_at) ≡ state_yellow_at + 2 * n + yellow_count_at = omega arith in
    let a₆ : behind n + standing_size ≡ state_yellow_at + 2 * n + yellow_head_size = omega arith in
    rw (a₁, a₂, a₃, a₄, a₅, a₆)
