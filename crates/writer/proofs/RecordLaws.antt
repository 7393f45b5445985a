-- What each return of each writer is worth, but a State's.
use Prim.Native.Nat.{ℕ, ◌+◌, ◌-◌, ◌/◌, ◌%◌, ◌≤◌, ◌<◌}
use mathlib.Core.Path.{◌≡◌, refl, sym, ap, ◌∙◌}
use mathlib.Core.Bool.{Bool, true, false, not}
use mathlib.Core.List.{List, [], ◌∷◌}
use native.Mathlib.Omega.{arith}
use Rattle.std.specs.Prelude.{Some, None}
use lib.Dec.{leb}
use Rattle.base.proofs.Branches.{told_le}
use lib.ListN.{length}
use Rattle.base.specs.Bytes.{bytes_of}
use Rattle.base.proofs.BytesLaws.{bytes_length, bytes2}
use Rattle.base.proofs.Over.{over_front}
use Rattle.base.specs.Patched.{patched}
use Rattle.base.proofs.Stores.{next_block, blocks_joined}
use Rattle.base.specs.Tests.{◌≤?◌}
use Rattle.base.proofs.TestLaws.{pick_le, pick_gt, le_holds, le_fails, le_no, le_yes}
use Rattle.format.specs.Limits.{version}
use Rattle.format.specs.Places.{length_size, at_version, at_kind, at_body, sender_at, position_at, resent_at, cpc_size, action_head_size, action_size, retransmission_size}
use Rattle.format.specs.Types.{action, retransmission, cpc, kind_number, of_action, of_retransmission, of_cpc}
use Rattle.format.specs.Write.{action_bytes, write, length_of}
use Rattle.format.proofs.Lengths.{write_length}
use Rattle.record.specs.declared.ActionHead.{ActionHead}
use Rattle.record.specs.Values.{action_of}
use Rattle.writer.specs.Blocks.{frame_bytes, opening_bytes}
use Rattle.writer.specs.Written.{put, put_of}
use Rattle.writer.proofs.RecordBytes.{frame_length, opening_length, cpc_bytes, action_bytes_lem, retransmission_bytes}

-- ---- how `fits` answers

module _ (l size more : ℕ) where
  pub fits_not : l < size → leb size l ≡ (size + more ≤? l)
  fits_not h = told_le size l ∙ le_no size l h ∙ sym (le_no (size + more) l (omega arith))

  fits_by : (b : Bool) → size ≤ l → (b ≡ true → more ≤ l - size) → (b ≡ false → l - size < more) → b ≡ (size + more ≤? l)
  fits_by true h y n = let z = y refl in sym (le_yes (size + more) l (omega arith))
  fits_by false h y n = let z = n refl in sym (le_no (size + more) l (omega arith))

  pub fits_rest : size ≤ l → leb more (l - size) ≡ (size + more ≤? l)
  fits_rest h = told_le more (l - size) ∙ fits_by (more ≤? l - size) h (le_holds more (l - size)) (le_fails more (l - size))

-- ---- what every record begins with

low_two : (v : ℕ) → bytes_of 2 (v % 65536) ≡ bytes_of 2 v
low_two v =
    let a : v % 65536 / 256 % 256 ≡ v / 256 % 256 = omega arith in
    let b : v % 65536 % 256 ≡ v % 256 = omega arith in
    rw (bytes2 (v % 65536), bytes2 v, a, b)

module _ (s s₁ s₂ s₃ : List ℕ) where
  pub frame_put : (follows kind : ℕ) → s₁ ≡ patched 0 (bytes_of length_size (follows % 65536)) s → s₂ ≡ patched at_version (bytes_of 1 version) s₁
      → s₃ ≡ patched at_kind (bytes_of 1 kind) s₂ → s₃ ≡ patched 0 (frame_bytes follows kind) s
  unfolding frame_bytes
  frame_put follows kind e f g =
      rw (g, f, e, low_two follows)
      (blocks_joined 0 (0 ∷ at_version ∷ at_kind ∷ []) (_ ∷ _ ∷ _ ∷ []) s (omega arith)
      (refl, (omega (arith, bytes_length 2 follows), (omega (arith, bytes_length 1 version), tt))))

  pub opening_put : (follows kind sender number : ℕ) → s₁ ≡ patched 0 (frame_bytes follows kind) s → s₂ ≡ patched sender_at (bytes_of 1 sender) s₁
      → s₃ ≡ patched position_at (bytes_of 4 number) s₂ → s₃ ≡ patched 0 (opening_bytes follows kind sender number) s
  unfolding opening_bytes
  opening_put follows kind sender number e f g =
      rw (g, f, e)
      (blocks_joined 0 (0 ∷ sender_at ∷ position_at ∷ []) (_ ∷ _ ∷ _ ∷ []) s (omega arith)
      (refl, (omega (arith, frame_length follows kind), (omega (arith, bytes_length 1 sender), tt))))

-- ---- the bytes b at the front of the rest s

module _ (b s : List ℕ) where
  pub put_full : length s < length b → put_of None s ≡ put b s
  unfolding put_of put
  put_full h = pick_gt (length b) (length s) _ _ _ h refl

  pub put_next : (n : ℕ) (s₁ : List ℕ) → length b ≤ length s → n ≡ length b → s₁ ≡ patched 0 b s → put_of (Some n) s₁ ≡ put b s
  unfolding put_of put
  put_next n s₁ h e f = rw (e, f, over_front b s) (pick_le (length b) (length s) _ _ _ h refl)

-- ---- CPC

module _ (s : List ℕ) (sender configuration : ℕ) where
  cpc_size_lem : length (write (cpc sender configuration)) ≡ cpc_size
  unfolding length_of
  cpc_size_lem = write_length (cpc sender configuration)

  pub cpc_full : length s < cpc_size → put_of None s ≡ put (write (cpc sender configuration)) s
  cpc_full h = put_full _ s (omega (arith, cpc_size_lem))

  pub cpc_next : (s₁ : List ℕ) → cpc_size ≤ length s → s₁ ≡ patched 0 (opening_bytes (cpc_size - length_size) (kind_number of_cpc) sender configuration) s
      → put_of (Some cpc_size) s₁ ≡ put (write (cpc sender configuration)) s
  cpc_next s₁ h e = put_next _ s cpc_size s₁ (omega (arith, cpc_size_lem)) (sym cpc_size_lem) (e ∙ ap (λ (l : List ℕ). patched 0 l s) (cpc_bytes sender configuration))

-- ---- action and retransmission: t is what `fits` answered of the head's size and the payload's

-- What an answer says.
module _ (size more l : ℕ) (t : Bool) (e : t ≡ (size + more ≤? l)) where
  not-true : (u : Bool) → not u ≡ true → u ≡ false
  not-true true k = sym k
  not-true false k = refl

  not-false : (u : Bool) → not u ≡ false → u ≡ true
  not-false true k = refl
  not-false false k = sym k

  said_full : not t ≡ true → l < size + more
  said_full f = le_fails (size + more) l (sym e ∙ not-true t f)

  said_room : not t ≡ false → size + more ≤ l
  said_room f = le_holds (size + more) l (sym e ∙ not-false t f)

-- Each part has room.
module _ (more l : ℕ) (t : Bool) where
  pub frame_room : t ≡ (action_size + more ≤? l) → not t ≡ false → at_body ≤ l
  frame_room e f = omega (arith, said_room action_size more l t e f)

  pub body_room : (m : ℕ) → m ≡ l → t ≡ (action_size + more ≤? l) → not t ≡ false → at_body + (action_head_size + more) ≤ m
  body_room m k e f = omega (arith, said_room action_size more l t e f)

  pub opening_room : t ≡ (retransmission_size + more ≤? l) → not t ≡ false → cpc_size ≤ l
  opening_room e f = omega (arith, said_room retransmission_size more l t e f)

  pub resent_room : (m : ℕ) → m ≡ l → t ≡ (retransmission_size + more ≤? l) → not t ≡ false → resent_at + (action_head_size + more) ≤ m
  resent_room m k e f = omega (arith, said_room retransmission_size more l t e f)

module _ (h : ActionHead) (p s : List ℕ) (t : Bool) where
  abbrev body : List ℕ
  body = action_bytes (action_of h p)

  action_size_lem : length (write (action (action_of h p))) ≡ action_size + length p
  unfolding length_of action_of
  action_size_lem = write_length (action (action_of h p))

  module _ (e : t ≡ (action_size + length p ≤? length s)) where
    pub action_full : not t ≡ true → put_of None s ≡ put (write (action (action_of h p))) s
    action_full f = put_full _ s (omega (arith, action_size_lem, said_full action_size (length p) (length s) t e f))

    pub action_next : (s₁ s₂ : List ℕ) → not t ≡ false → s₁ ≡ patched 0 (frame_bytes (action_size - length_size + length p % 65536) (kind_number of_action)) s
        → s₂ ≡ patched at_body body s₁ → put_of (Some (action_size + length p)) s₂ ≡ put (write (action (action_of h p))) s
    action_next s₁ s₂ f g i =
        put_next _ s _ s₂ (omega (arith, action_size_lem, said_room action_size (length p) (length s) t e f)) (sym action_size_lem)
        (next_block 0 at_body _ body s s₁ s₂ (omega arith) g i (omega (arith, frame_length (action_size - length_size + length p % 65536) (kind_number of_action))) ∙ ap (λ (l : List ℕ). patched 0 l s) (action_bytes_lem h p))

  module _ (sender position : ℕ) where
    retransmission_size_lem : length (write (retransmission sender position (action_of h p))) ≡ retransmission_size + length p
    unfolding length_of action_of
    retransmission_size_lem = write_length (retransmission sender position (action_of h p))

    module _ (e : t ≡ (retransmission_size + length p ≤? length s)) where
      pub retransmission_full : not t ≡ true → put_of None s ≡ put (write (retransmission sender position (action_of h p))) s
      retransmission_full f = put_full _ s (omega (arith, retransmission_size_lem, said_full retransmission_size (length p) (length s) t e f))

      pub retransmission_next : (s₁ s₂ : List ℕ) → not t ≡ false
          → s₁ ≡ patched 0 (opening_bytes (retransmission_size - length_size + length p % 65536) (kind_number of_retransmission) sender position) s
          → s₂ ≡ patched cpc_size body s₁ → put_of (Some (retransmission_size + length p)) s₂ ≡ put (write (retransmission sender position (action_of h p))) s
      retransmission_next s₁ s₂ f g i =
          put_next _ s _ s₂ (omega (arith, retransmission_size_lem, said_room retransmission_size (length p) (length s) t e f)) (sym retransmission_size_lem)
          (next_block 0 cpc_size _ body s s₁ s₂ (omega arith) g i (omega (arith, opening_length (retransmission_size - length_size + length p % 65536) (kind_number of_retransmission) sender position))
          ∙ ap (λ (l : List ℕ). patched 0 l s) (retransmission_bytes h p sender position))
