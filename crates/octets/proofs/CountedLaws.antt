-- A count written, and the bytes behind it.
use Prim.Native.Nat.{ℕ, ◌+◌, ◌%◌, ◌≤◌}
use mathlib.Core.Path.{◌≡◌, sym, ap, ◌∙◌}
use mathlib.Core.List.{List, [], ◌∷◌}
use native.Mathlib.Omega.{arith}
use lib.ListN.{length}
use Rattle.base.specs.Bytes.{bytes_of}
use Rattle.base.proofs.BytesLaws.{bytes_length, bytes1}
use Rattle.base.specs.Patched.{patched}
use Rattle.base.proofs.Stores.{two_blocks}
use Rattle.octets.specs.Counted.{counted}

pub counted_blocks : (at k : ℕ) (p s s₁ s₂ : List ℕ) → at + k ≤ length s → s₁ ≡ patched at (bytes_of 1 (length p % 256)) s → s₂ ≡ patched (at + 1) p s₁
    → s₂ ≡ patched at (counted p) s
counted_blocks at k p s s₁ s₂ h e f =
    let m : bytes_of 1 (length p % 256) ≡ bytes_of 1 (length p) = bytes1 (length p % 256) ∙ ap (λ (n : ℕ). n ∷ []) (omega arith) ∙ sym (bytes1 (length p)) in
    two_blocks at 1 k (bytes_of 1 (length p)) p s s₁ s₂ h (rw m at e) f (bytes_length 1 (length p))
