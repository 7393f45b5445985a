-- Required lengths as the code computes them.
use Prim.Native.Nat.{ℕ, ◌+◌, ◌*◌}
use mathlib.Core.Path.{◌≡◌, sym, ◌∙◌}
use mathlib.Core.Bool.{Bool, false, not}
use native.Mathlib.Omega.{arith}
use borrow.Author.Tests.{not-false}
use Rattle.base.specs.Lists.{sum}
use Rattle.format.specs.Range.{sizes_ok}
use Rattle.format.proofs.Ranges.{sizes_range}
use Rattle.image.specs.declared.Lengths.{Lengths}
use Rattle.image.specs.Layout.{SizesIn, state_size, sections, state_length, out_length, slot_size, header_size}
use Rattle.format.specs.Places.{id_size, state_head_size, most_retransmission}

pub state_length_made : (n q all states : ℕ) → all ≡ n * q → states ≡ n * (state_head_size + 2 * n + id_size * all)
    → header_size + 6 * n + states + id_size * all + slot_size * q + slot_size * all ≡ state_length n q
unfolding state_length sections sum state_size
state_length_made n q all states e f = rw (f, e) (omega arith)

pub out_length_made : (n q all : ℕ) → all ≡ n * q → 2 * most_retransmission * all ≡ out_length n q
unfolding out_length
out_length_made n q all e = rw e

-- The code tested them.
pub sizes_answered : (t : Bool) (n q : ℕ) → t ≡ sizes_ok n q → not t ≡ false → SizesIn n q
sizes_answered t n q e h = let r = sizes_range n q (sym e ∙ not-false t h) in record { servers = r.most; quota = r.highest }

pub lengths_made : (n q a b : ℕ) → a ≡ state_length n q → b ≡ out_length n q
    → ◌≡◌ {A = Lengths} (record { number = 0; state = a; out = b }) (record { number = 0; state = state_length n q; out = out_length n q })
lengths_made n q a b e f = λ i. record { number = 0; state = e i; out = f i }
