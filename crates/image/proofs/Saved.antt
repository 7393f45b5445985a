-- The state's numbers as the code stores them.
use Prim.Native.Nat.{ℕ, ◌/◌, ◌%◌, ◌-◌, ◌≤◌}
use mathlib.Core.Path.{◌≡◌, refl, ap, ◌∙◌}
use mathlib.Core.List.{List, [], ◌∷◌}
use native.Mathlib.Omega.{arith}
use native.Mathlib.Nat.{mod-eq_of_lt}
use lib.ListN.{length, get_or}
use mir.Syntax.{w8, w16, w32}
use mir.Val.{Fits}
use Rattle.std.specs.Int.{to_be_bytes}
use Rattle.base.specs.Bytes.{bytes_of}
use Rattle.base.proofs.BytesLaws.{bytes1, bytes2, bytes4}
use Rattle.base.specs.Patched.{patched}
use Rattle.base.proofs.Stores.{blocks_joined}
use Rattle.format.specs.Write.{primary_bytes, mark_bytes}
use Rattle.format.proofs.Lengths.{primary_length, mark_length}
use Rattle.writer.specs.Blocks.{yellow_head_bytes}
use Rattle.record.specs.Values.{primary_of, mark_of}
use Rattle.record.specs.declared.State.{State}
use Rattle.image.specs.Header.{written, membership_bytes, counts_bytes, header_written}
use Rattle.image.specs.Layout.{header_size, at_queue_length, at_last, at_mark, at_yellow}

-- ---- bytes as the code makes them of numbers one behind another

pub stored_none : [] ≡ written []
unfolding written
stored_none = refl

pub stored_one : (v : ℕ) (r : List ℕ) (fs : List (ℕ × ℕ)) → Fits w8 v → r ≡ written fs → v ∷ r ≡ written ((1, v) ∷ fs)
unfolding written
stored_one v r fs h e = let small : v % 256 ≡ v = mod-eq_of_lt (omega arith) in rw (bytes1 v, small) (ap (λ (l : List ℕ). v ∷ l) e)

pub stored_two : (v : ℕ) (r : List ℕ) (fs : List (ℕ × ℕ)) → r ≡ written fs → v / 256 % 256 ∷ v % 256 ∷ r ≡ written ((2, v) ∷ fs)
unfolding written
stored_two v r fs e = rw (bytes2 v) (ap (λ (l : List ℕ). v / 256 % 256 ∷ v % 256 ∷ l) e)

pub stored_four : (v : ℕ) (r : List ℕ) (fs : List (ℕ × ℕ)) → r ≡ written fs
    → v / 16777216 % 256 ∷ v / 65536 % 256 ∷ v / 256 % 256 ∷ v % 256 ∷ r ≡ written ((4, v) ∷ fs)
unfolding written
stored_four v r fs e =
    rw (bytes4 v) (ap (λ (l : List ℕ). v / 16777216 % 256 ∷ v / 65536 % 256 ∷ v / 256 % 256 ∷ v % 256 ∷ l) e)

pub stored_at : (at : ℕ) (x y s t : List ℕ) → t ≡ patched at x s → x ≡ y → t ≡ patched at y s
stored_at at x y s t e f = e ∙ ap (λ (l : List ℕ). patched at l s) f

pub ruleset stored = (stored_at, stored_none, stored_one, stored_two, stored_four)

-- The bytes of numbers that are kept as they were made.
module _ (h : State) where
  abbrev membership_made : (quota id come : List ℕ) → List ℕ
  membership_made q i c =
      h.layout
      ∷ h.servers
      ∷ get_or q 0 0
      ∷ get_or q 1 0
      ∷ h.me
      ∷ h.mode
      ∷ h.configuration_status
      ∷ get_or i 0 0
      ∷ get_or i 1 0
      ∷ get_or i 2 0
      ∷ get_or i 3 0
      ∷ h.configuration_set
      ∷ h.transitional_status
      ∷ h.transitional_set
      ∷ h.states
      ∷ h.cpcs
      ∷ get_or c 0 0
      ∷ get_or c 1 0
      ∷ get_or c 2 0
      ∷ get_or c 3 0
      ∷ []

  abbrev counts_made : (queue green numbered own held attempt : List ℕ) → List ℕ
  counts_made a b c d e f =
      get_or a 0 0
      ∷ get_or a 1 0
      ∷ get_or a 2 0
      ∷ get_or a 3 0
      ∷ get_or b 0 0
      ∷ get_or b 1 0
      ∷ get_or b 2 0
      ∷ get_or b 3 0
      ∷ get_or c 0 0
      ∷ get_or c 1 0
      ∷ get_or d 0 0
      ∷ get_or d 1 0
      ∷ get_or e 0 0
      ∷ get_or e 1 0
      ∷ get_or f 0 0
      ∷ get_or f 1 0
      ∷ get_or f 2 0
      ∷ get_or f 3 0
      ∷ []

  membership_is : Fits w8 h.layout → Fits w8 h.servers → Fits w8 h.me → Fits w8 h.mode → Fits w8 h.configuration_status → Fits w8 h.configuration_set
      → Fits w8 h.transitional_status → Fits w8 h.transitional_set → Fits w8 h.states → Fits w8 h.cpcs
      → membership_made (to_be_bytes w16 h.quota) (to_be_bytes w32 h.configuration_id) (to_be_bytes w32 h.come) ≡ membership_bytes h
  unfolding membership_bytes
  membership_is a a₀ a₁ a₂ a₃ a₄ a₅ a₆ a₇ a₈ = search stored depth 24

  pub membership_saved : (q i c s t : List ℕ) → q ≡ to_be_bytes w16 h.quota → i ≡ to_be_bytes w32 h.configuration_id → c ≡ to_be_bytes w32 h.come
      → Fits w8 h.layout → Fits w8 h.servers → Fits w8 h.me → Fits w8 h.mode → Fits w8 h.configuration_status → Fits w8 h.configuration_set
      → Fits w8 h.transitional_status → Fits w8 h.transitional_set → Fits w8 h.states → Fits w8 h.cpcs → t ≡ patched 0 (membership_made q i c) s
      → t ≡ patched 0 (membership_bytes h) s
  membership_saved q i c s t e f g a a₀ a₁ a₂ a₃ a₄ a₅ a₆ a₇ a₈ x =
      x ∙ (λ j. patched 0 (membership_made (e j) (f j) (g j)) s) ∙ ap (λ (l : List ℕ). patched 0 l s) (membership_is a a₀ a₁ a₂ a₃ a₄ a₅ a₆ a₇ a₈)

  counts_are : counts_made (to_be_bytes w32 h.queue_length) (to_be_bytes w32 h.green_count) (to_be_bytes w16 h.numbered) (to_be_bytes w16 h.own_count)
      (to_be_bytes w16 h.sent) (to_be_bytes w32 h.attempt.0)
      ≡ counts_bytes h
  unfolding counts_bytes
  counts_are = search stored depth 24

  pub counts_saved : (a b c d e f s t : List ℕ) → a ≡ to_be_bytes w32 h.queue_length → b ≡ to_be_bytes w32 h.green_count → c ≡ to_be_bytes w16 h.numbered
      → d ≡ to_be_bytes w16 h.own_count → e ≡ to_be_bytes w16 h.sent → f ≡ to_be_bytes w32 h.attempt.0 → t ≡ patched at_queue_length (counts_made a b c d e f) s
      → t ≡ patched at_queue_length (counts_bytes h) s
  counts_saved a b c d e f s t p₀ p₁ p₂ p₃ p₄ p₅ x =
      x ∙ (λ j. patched at_queue_length (counts_made (p₀ j) (p₁ j) (p₂ j) (p₃ j) (p₄ j) (p₅ j)) s) ∙ ap (λ (l : List ℕ). patched at_queue_length l s) counts_are

-- ---- one block after another

pub membership_length : (h : State) → length (membership_bytes h) ≡ at_queue_length
unfolding membership_bytes written bytes_of
membership_length h = refl

pub counts_length : (h : State) → length (counts_bytes h) ≡ at_last - at_queue_length
unfolding counts_bytes written bytes_of
counts_length h = refl

pub header_saved : (h : State) (s s₁ s₂ s₃ s₄ s₅ : List ℕ) → header_size ≤ length s → s₁ ≡ patched 0 (membership_bytes h) s
    → s₂ ≡ patched at_queue_length (counts_bytes h) s₁ → s₃ ≡ patched at_last (primary_bytes (primary_of h.last)) s₂
    → s₄ ≡ patched at_mark (mark_bytes (mark_of h.mark)) s₃ → s₅ ≡ patched at_yellow (yellow_head_bytes h.yellow_status h.yellow_count) s₄
    → s₅ ≡ patched 0 (header_written h) s
unfolding header_written
header_saved h s s₁ s₂ s₃ s₄ s₅ l e f g i j =
    rw (j, i, g, f, e)
    (blocks_joined 0 (0 ∷ at_queue_length ∷ at_last ∷ at_mark ∷ at_yellow ∷ []) (_ ∷ _ ∷ _ ∷ _ ∷ _ ∷ []) s (omega arith) (
      refl,
      (
        omega (arith, membership_length h),
        (omega (arith, counts_length h), (omega (arith, primary_length (primary_of h.last)), (omega (arith, mark_length (mark_of h.mark)), tt))),
      ),
    ))
