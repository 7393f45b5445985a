-- A number that code stores byte by byte: what is left to store at each turn.
use Prim.Native.Nat.{ℕ, zero, suc, ◌+◌, ◌-◌, ◌/◌, ◌%◌, ◌≤◌, ◌<◌}
use mathlib.Core.Path.{◌≡◌, sym, ◌∙◌}
use mathlib.Core.List.{List}
use native.Mathlib.Omega.{arith}
use lib.ListN.{length, set}
use Rattle.base.specs.Bytes.{bytes_of}
use Rattle.base.specs.Patched.{patched}
use Rattle.base.proofs.BytesLaws.{bytes_length}
use Rattle.base.proofs.PatchedLaws.{patched_none, patched_last}

-- From its last byte to its first: k bytes of v are left; the whole comes to z.

number_store : (t z : List ℕ) (at k v : ℕ) → at + suc k ≤ length t → z ≡ patched at (bytes_of (suc k) v) t → z ≡ patched at (bytes_of k (v / 256)) (set t (at + k) (v % 256))
unfolding bytes_of
number_store t z at k v h e =
    let l : length (bytes_of k (v / 256)) ≡ k = bytes_length k (v / 256) in
    e ∙ sym (patched_last at (bytes_of k (v / 256)) t (v % 256) (omega arith)) ∙ rw l

pub number_more : (t z : List ℕ) (at k v : ℕ) → 0 < k → at + k ≤ length t → z ≡ patched at (bytes_of k v) t
    → z ≡ patched at (bytes_of (k - 1) (v / 256)) (set t (at + (k - 1)) (v % 256))
number_more t z at zero v p h e = absurd (omega arith)
number_more t z at (suc k) v p h e = let a : suc k - 1 ≡ k = omega arith in rw a (number_store t z at k v h e)

pub number_all : (t z : List ℕ) (at k v : ℕ) → k ≤ 0 → z ≡ patched at (bytes_of k v) t → t ≡ z
unfolding bytes_of
number_all t z at zero v h e = sym (e ∙ patched_none at t)
number_all t z at (suc k) v h e = absurd (omega arith)
