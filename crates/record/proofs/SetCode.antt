-- A byte's bits, as the code reads and sets them, are a set's members.
use Prim.Native.Nat.{ℕ, ◌*◌, ◌%◌, ◌^◌, ◌≤◌, ◌<◌}
use mathlib.Core.Path.{◌≡◌, sym, ap, ◌∙◌}
use mathlib.Core.Bool.{false}
use native.Mathlib.Omega.{arith}
use lib.Bits.{bit_and, bit_or}
use lib.Dec.{eqb, ltb}
use mir.Syntax.{w8}
use mir.Val.{Fits}
use Rattle.format.specs.Limits.{most_servers_limit}
use Rattle.base.specs.Sets.{in_set, inside, with_member}
use Rattle.base.proofs.Branches.{told_eq, told_lt}
use Rattle.base.proofs.TestLaws.{lt_no, Known, known, holds, fails}
use Rattle.base.proofs.SetLaws.{power_below, member_below}

pub no_member : (k s : ℕ) → Fits w8 s → most_servers_limit ≤ k → ltb k 8 ≡ in_set k s
no_member k s h l = told_lt k 8 ∙ lt_no k 8 l ∙ go (known (in_set k s))
  where
    go : Known (in_set k s) → false ≡ in_set k s
    go (holds e) = absurd (omega (arith, member_below most_servers_limit k s h.fits e))
    go (fails e) = sym e

pub with_made : (k s : ℕ) → k < most_servers_limit → bit_or s (1 * 2 ^ k % 256) ≡ with_member k s
unfolding with_member
with_made k s h =
    let a : 2 ^ k < 256 = power_below k most_servers_limit h in
    let z : 1 * 2 ^ k % 256 ≡ 2 ^ k = omega arith in
    ap (bit_or s) z

pub inside_told : (s t : ℕ) → eqb (bit_and s t) s ≡ inside s t
unfolding inside
inside_told s t = told_eq (bit_and s t) s
