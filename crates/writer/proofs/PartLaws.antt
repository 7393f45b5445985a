-- Blocks of bytes written one after another are one block: the parts of a record.
use Prim.Native.Nat.{ℕ, ◌+◌, ◌≤◌}
use mathlib.Core.Path.{◌≡◌, refl, ap, ◌∙◌}
use mathlib.Core.List.{List, [], ◌∷◌, append_assoc, append-nil}
use native.Mathlib.Omega.{arith}
use lib.ListN.{length}
use Rattle.base.specs.Bytes.{bytes_of, joined}
use Rattle.base.proofs.BytesLaws.{bytes_length}
use Rattle.base.specs.Patched.{patched}
use Rattle.base.proofs.Stores.{two_blocks, blocks_joined}
use Rattle.format.specs.Places.{action_green_at, action_white_at, action_payload_at, action_head_size, primary_attempt_at, primary_set_at, primary_size, mark_index_at, mark_attempt_at, mark_set_at, mark_bits_at, mark_size}
use Rattle.format.specs.Write.{payload_bytes, id_bytes, action_bytes, primary_bytes, mark_bytes}
use Rattle.format.proofs.Lengths.{id_length}
use Rattle.record.specs.declared.ActionHead.{ActionHead}
use Rattle.record.specs.declared.LastPrimary.{LastPrimary}
use Rattle.record.specs.declared.Mark.{Mark}
use Rattle.record.specs.Values.{id_of, primary_of, mark_of, action_of}
use Rattle.writer.specs.Blocks.{head_bytes}

pub ruleset blocks = (two_blocks, bytes_length, id_length)

-- ---- an action

module _ (h : ActionHead) where
  head_length : length (head_bytes h) ≡ action_payload_at
  unfolding head_bytes id_bytes joined bytes_of
  head_length = refl

  body_joined : (p : List ℕ) → joined (head_bytes h ∷ payload_bytes p ∷ []) ≡ action_bytes (action_of h p)
  unfolding head_bytes action_bytes action_of joined
  body_joined p = simp (append-nil, append_assoc)

module _ (at : ℕ) (h : ActionHead) (s s₁ s₂ : List ℕ) where
  pub head_blocks : (s₃ : List ℕ) → at + action_payload_at ≤ length s → s₁ ≡ patched at (id_bytes (id_of h.creator h.index)) s
      → s₂ ≡ patched (at + action_green_at) (bytes_of 4 h.green_length) s₁ → s₃ ≡ patched (at + action_white_at) (bytes_of 4 h.white_length) s₂
      → s₃ ≡ patched at (head_bytes h) s
  unfolding head_bytes
  head_blocks s₃ l e f g =
      rw (g, f, e)
      (blocks_joined at (at ∷ (at + action_green_at) ∷ (at + action_white_at) ∷ []) (_ ∷ _ ∷ _ ∷ []) s (omega arith)
      (refl, (omega (arith, id_length (id_of h.creator h.index)), (omega (arith, bytes_length 4 h.green_length), tt))))

  pub body_blocks : (p : List ℕ) → at + (action_head_size + length p) ≤ length s → s₁ ≡ patched at (head_bytes h) s
      → s₂ ≡ patched (at + action_payload_at) (payload_bytes p) s₁ → s₂ ≡ patched at (action_bytes (action_of h p)) s
  body_blocks p l e f =
      two_blocks at action_payload_at (action_head_size + length p) (head_bytes h) (payload_bytes p) s s₁ s₂ l e f (head_length h)
      ∙ ap (λ (b : List ℕ). patched at b s) (body_joined h p)

-- ---- a primary component, and a mark

module _ (at : ℕ) (s s₁ s₂ s₃ : List ℕ) where
  pub primary_blocks : (p : LastPrimary) → at + primary_size ≤ length s → s₁ ≡ patched at (bytes_of 4 p.index.0) s
      → s₂ ≡ patched (at + primary_attempt_at) (bytes_of 4 p.attempt.0) s₁ → s₃ ≡ patched (at + primary_set_at) (bytes_of 1 p.set) s₂
      → s₃ ≡ patched at (primary_bytes (primary_of p)) s
  unfolding primary_bytes primary_of bytes_of
  primary_blocks p h e f g =
      rw (g, f, e)
      (blocks_joined at (at ∷ (at + primary_attempt_at) ∷ (at + primary_set_at) ∷ []) (_ ∷ _ ∷ _ ∷ []) s (omega arith) (refl, (refl, (omega arith, tt))))

  pub mark_blocks : (m : Mark) (s₄ s₅ : List ℕ) → at + mark_size ≤ length s → s₁ ≡ patched at (bytes_of 1 m.status) s
      → s₂ ≡ patched (at + mark_index_at) (bytes_of 4 m.index.0) s₁ → s₃ ≡ patched (at + mark_attempt_at) (bytes_of 4 m.attempt.0) s₂
      → s₄ ≡ patched (at + mark_set_at) (bytes_of 1 m.set) s₃ → s₅ ≡ patched (at + mark_bits_at) (bytes_of 1 m.bits) s₄
      → s₅ ≡ patched at (mark_bytes (mark_of m)) s
  unfolding mark_bytes mark_of bytes_of
  mark_blocks m s₄ s₅ h e f g i j =
      rw (j, i, g, f, e)
      (blocks_joined at (at ∷ (at + mark_index_at) ∷ (at + mark_attempt_at) ∷ (at + mark_set_at) ∷ (at + mark_bits_at) ∷ []) (_ ∷ _ ∷ _ ∷ _ ∷ _ ∷ []) s (omega arith)
      (refl, (refl, (omega arith, (omega arith, (omega arith, tt))))))
