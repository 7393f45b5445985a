-- What each range test of the code answers.
use Prim.Native.Nat.{ℕ, zero, suc, ◌+◌, ◌*◌, ◌^◌, ◌%◌, ◌≤◌}
use mathlib.Core.Path.{◌≡◌, refl}
use mathlib.Core.Bool.{Bool, true}
use mathlib.Core.List.{List}
use native.Mathlib.Omega.{arith}
use native.Mathlib.Nat.{pow-le-pow_right, mod-eq_of_lt}
use lib.Dec.{eqb, ltb}
use Rattle.base.specs.Tests.{◌<?◌}
use Rattle.base.specs.Bytes.{Bytes, numbers_at}
use Rattle.base.specs.Sets.{inside}
use Rattle.base.proofs.TestLaws.{le_yes, both_yes}
use Rattle.base.proofs.Branches.{told_lt}
use Rattle.base.proofs.BytesLaws.{number_lt}
use Rattle.format.specs.Limits.{most_servers_limit, most_number_limit}
use Rattle.format.specs.Places.{cut_size}
use Rattle.format.specs.Range.{cuts_ok, inside_last}
use Rattle.record.specs.Context.{last_of}

-- cuts: any number of two bytes is one

pub cuts_law : (n : ℕ) (e : List ℕ) (at : ℕ) → Bytes e → cuts_ok most_number_limit (numbers_at cut_size n e at) ≡ true
unfolding cuts_ok numbers_at
cuts_law zero e at b = refl
cuts_law (suc n) e at b = both_yes _ _ (le_yes _ most_number_limit (omega (arith, number_lt cut_size e at b))) (cuts_law n e (at + cut_size) b)

-- sets

pub set_law : (n s r : ℕ) → n ≤ most_servers_limit → r ≡ s → ltb r (1 * 2 ^ n % 4294967296) ≡ (s <? 2 ^ n)
set_law n s r h e =
    let a : 2 ^ n ≤ 256 = pow-le-pow_right (omega arith) h in
    let b : 1 * 2 ^ n ≡ 2 ^ n = omega arith in
    let c : 2 ^ n % 4294967296 ≡ 2 ^ n = mod-eq_of_lt (omega arith) in
    rw (e, b, c) (told_lt s (2 ^ n))

pub inside_none : (k l s : ℕ) → k ≡ 0 → eqb k 0 ≡ inside_last (last_of k l) s
unfolding inside_last last_of
inside_none k l s h = rw h refl

pub inside_some : (k l s : ℕ) (r : Bool) → (k ≡ 0 → ⊥) → r ≡ inside s l → r ≡ inside_last (last_of k l) s
unfolding inside_last last_of
inside_some zero l s r h e = absurd (h refl)
inside_some (suc k) l s r h e = e
