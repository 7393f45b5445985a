-- A set of servers as a byte: bit k is server k.
use Rattle.std.specs.Prelude.{ℕ, zero, suc, ◌+◌, ◌-◌, ◌/◌, ◌%◌, ◌^◌, Bool}
use Rattle.std.specs.Int.Bits.{bit_and, bit_or}
use Rattle.std.specs.Int.Count.{ones}
use Rattle.base.specs.Tests.{◌=?◌, pick}

-- Server k is in the set s.
unfoldable pub in_set : ℕ → ℕ → Bool
in_set k s = s / 2 ^ k % 2 =? 1

-- Each member of s is in t.
unfoldable pub inside : ℕ → ℕ → Bool
inside s t = bit_and s t =? s

-- s with server k.
unfoldable pub with_member : ℕ → ℕ → ℕ
with_member k s = bit_or s (2 ^ k)

-- How many members s has.
unfoldable pub size : ℕ → ℕ
size s = ones s

-- The common members of s and t.
unfoldable pub common : ℕ → ℕ → ℕ
common s t = bit_and s t

-- The members of s or t.
unfoldable pub union : ℕ → ℕ → ℕ
union s t = bit_or s t

-- All of n servers.
unfoldable pub everyone : ℕ → ℕ
everyone n = 2 ^ n - 1

-- The first of the m servers from k on that is in s; the one behind them where none is.
unfoldable pub first_member : (m k s : ℕ) → ℕ
first_member zero k s = k
first_member (suc m) k s = pick (in_set k s) k (first_member m (k + 1) s)

-- The lowest-numbered member of s, a set of servers below n; an empty one has none, and n stands for it.
unfoldable pub lowest_member : (n s : ℕ) → ℕ
lowest_member n s = first_member n 0 s
