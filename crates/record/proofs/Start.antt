-- The set of all servers, as the code makes it.
use Prim.Native.Nat.{ℕ, ◌*◌, ◌-◌, ◌%◌, ◌^◌, ◌≤◌}
use mathlib.Core.Path.{◌≡◌}
use native.Mathlib.Nat.{mod-eq_of_lt, one-le-pow, pow-le-pow_right}
use native.Mathlib.Omega.{arith}
use mir.Syntax.{w8}
use mir.Val.{Fits}
use Rattle.base.specs.Sets.{everyone}
use Rattle.format.specs.Limits.{most_servers_limit}

shifted : (n : ℕ) → n ≤ most_servers_limit → (1 * 2 ^ n % 4294967296 ≡ 2 ^ n) × (1 ≤ 2 ^ n) × (2 ^ n ≤ 256)
shifted n h =
    let most : 2 ^ n ≤ 2 ^ 8 = pow-le-pow_right {n = 2} (omega arith) h in
    let one : 1 * 2 ^ n ≡ 2 ^ n = omega arith in
    (rw one (mod-eq_of_lt (omega arith)), one-le-pow n 2 (omega arith), most)

pub some_shifted : (n : ℕ) → n ≤ most_servers_limit → 1 ≤ 1 * 2 ^ n % 4294967296
some_shifted n h = let e = shifted n h in omega (arith, e.0, e.1)

pub everyone_fits : (n : ℕ) → n ≤ most_servers_limit → Fits w8 (1 * 2 ^ n % 4294967296 - 1)
everyone_fits n h = let e = shifted n h in omega (arith, e.0, e.2)

pub everyone_made : (n : ℕ) → n ≤ most_servers_limit → 1 * 2 ^ n % 4294967296 - 1 ≡ everyone n
unfolding everyone
everyone_made n h = let e = shifted n h in omega (arith, e.0)
