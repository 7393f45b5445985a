-- What each return of the writer of a State is worth.
use Prim.Native.Nat.{ℕ, ◌+◌, ◌-◌, ◌*◌, ◌≤◌, ◌<◌}
use mathlib.Core.Path.{◌≡◌, refl, sym, ap, ◌∙◌}
use mathlib.Core.List.{List, [], ◌∷◌, ◌++◌}
use native.Mathlib.Omega.{arith}
use mir.Val.{Fits}
use mir.Syntax.{w8}
use Rattle.std.specs.Prelude.{Some, None}
use lib.ListN.{length, get_or, take, length-append}
use lib.Seq.{length-take-le}
use Rattle.base.specs.Tests.{◌≤?◌}
use Rattle.base.proofs.TestLaws.{pick_yes, pick_no, le_yes, le_no, both_yes, and_yes, and_no}
use Rattle.base.specs.Bytes.{Bytes, bytes_of, numbers_at, part_at}
use Rattle.base.proofs.BytesLaws.{bytes_length, numbers_length}
use Rattle.base.specs.Patched.{patched}
use Rattle.base.proofs.Stores.{next_block, blocks_joined}
use Rattle.format.specs.Places.{length_size, id_size, state_cuts_at, state_attempt_at, state_last_at, state_mark_at, state_yellow_at, standing_size, state_head_size}
use Rattle.format.specs.Types.{state, kind_number, of_state}
use Rattle.format.specs.Read.{ids_at}
use Rattle.format.specs.Write.{cuts_bytes, ids_bytes, primary_bytes, mark_bytes, write, length_of}
use Rattle.format.proofs.Lengths.{cuts_length, ids_length, primary_length, mark_length, write_length}
use Rattle.format.proofs.Writing.{cuts_written, ids_written, ids_number}
use Rattle.record.specs.declared.events.StateHead.{StateHead}
use Rattle.record.specs.Values.{primary_of, mark_of, state_of}
use Rattle.writer.specs.Blocks.{opening_bytes, yellow_head_bytes, standing_bytes, lists_size, StateRoom}
use Rattle.writer.specs.Written.{put, put_of, enough, put_state}
use Rattle.writer.proofs.RecordBytes.{opening_length, standing_length, state_bytes_lem}
use Rattle.writer.proofs.RecordLaws.{put_full, put_next}

-- ---- the bytes given

cuts_first : (n : ℕ) (e : List ℕ) → Bytes e → 2 * n ≤ length e → cuts_bytes (numbers_at 2 n e 0) ≡ take (2 * n) e
unfolding part_at
cuts_first n e b h =
    let l : length (cuts_bytes (numbers_at 2 n e 0)) ≡ 2 * n = cuts_length (numbers_at 2 n e 0) ∙ ap (λ (m : ℕ). 2 * m) (numbers_length 2 n e 0) in
    sym (cuts_written n e 0 b (omega arith)).part ∙ ap (λ (m : ℕ). take m e) l

ids_first : (n : ℕ) (e : List ℕ) → Bytes e → id_size * n ≤ length e → ids_bytes (ids_at n e 0) ≡ take (id_size * n) e
unfolding part_at
ids_first n e b h =
    let l : length (ids_bytes (ids_at n e 0)) ≡ id_size * n = ids_length (ids_at n e 0) ∙ ap (λ (m : ℕ). id_size * m) (ids_number n e 0) in
    sym (ids_written n e 0 b (omega arith)).part ∙ ap (λ (m : ℕ). take m e) l

-- ---- what stands behind the cuts, from `at` on

pub standing_put : (h : StateHead) (at : ℕ) (s s₁ s₂ s₃ s₄ s₅ : List ℕ) → at + standing_size ≤ length s → s₁ ≡ patched at (bytes_of 4 h.green_length) s
    → s₂ ≡ patched (at + (state_attempt_at - state_cuts_at)) (bytes_of 4 h.attempt.0) s₁
    → s₃ ≡ patched (at + (state_last_at - state_cuts_at)) (primary_bytes (primary_of h.last)) s₂
    → s₄ ≡ patched (at + (state_mark_at - state_cuts_at)) (mark_bytes (mark_of h.mark)) s₃
    → s₅ ≡ patched (at + (state_yellow_at - state_cuts_at)) (yellow_head_bytes h.yellow_status h.yellow_count) s₄ → s₅ ≡ patched at (standing_bytes h) s
unfolding standing_bytes
standing_put h at s s₁ s₂ s₃ s₄ s₅ l e f g i j =
    rw (j, i, g, f, e)
    (blocks_joined at (at ∷ (at + (state_attempt_at - state_cuts_at)) ∷ (at + (state_last_at - state_cuts_at)) ∷ (at + (state_mark_at - state_cuts_at)) ∷ (at + (state_yellow_at - state_cuts_at)) ∷ [])
    (_ ∷ _ ∷ _ ∷ _ ∷ _ ∷ []) s (omega arith) (
      refl,
      (
        omega (arith, bytes_length 4 h.green_length),
        (omega (arith, bytes_length 4 h.attempt.0), (omega (arith, primary_length (primary_of h.last)), (omega (arith, mark_length (mark_of h.mark)), tt))),
      ),
    ))

-- ---- the whole record

module _ (h : StateHead) (cuts ids s : List ℕ) (r : StateRoom h cuts ids s) where
  abbrev x : List ℕ
  x = take (2 * h.servers) cuts

  abbrev y : List ℕ
  y = take (id_size * h.yellow_count) ids

  pub cuts_given : 2 * h.servers ≡ length x
  cuts_given = sym (length-take-le (2 * h.servers) cuts r.enough_cuts)

  pub ids_given : id_size * h.yellow_count ≡ length y
  ids_given = sym (length-take-le (id_size * h.yellow_count) ids r.enough_ids)

  -- Each part has room.
  pub cuts_fit_lem : (l : ℕ) → l ≡ length s → state_cuts_at + length x ≤ l
  cuts_fit_lem l e = omega (arith, cuts_given, r.room)

  pub ids_fit : (l : ℕ) → l ≡ length s → state_head_size + 2 * h.servers + length y ≤ l
  ids_fit l e = omega (arith, ids_given, r.room)

  pub state_filled : (s₁ s₂ s₃ s₄ : List ℕ) → ((i : ℕ) → Fits w8 (get_or cuts i 0)) → ((i : ℕ) → Fits w8 (get_or ids i 0))
      → s₁ ≡ patched 0 (opening_bytes (state_head_size - length_size + (2 * h.servers + id_size * h.yellow_count)) (kind_number of_state) h.sender h.configuration) s
      → s₂ ≡ patched state_cuts_at x s₁ → s₃ ≡ patched (state_cuts_at + 2 * h.servers) (standing_bytes h) s₂ → s₄ ≡ patched (state_head_size + 2 * h.servers) y s₃
      → s₄ ≡ patched 0 (write (state (state_of h cuts 0 ids 0))) s
  state_filled s₁ s₂ s₃ s₄ b c e f g i =
      let lx : length x ≡ 2 * h.servers = sym cuts_given in
      let ly : length y ≡ id_size * h.yellow_count = sym ids_given in
      let ex : cuts_bytes (numbers_at 2 h.servers cuts 0) ≡ x = cuts_first h.servers cuts (λ i. (b i).fits) r.enough_cuts in
      let ey : ids_bytes (ids_at h.yellow_count ids 0) ≡ y = ids_first h.yellow_count ids (λ i. (c i).fits) r.enough_ids in
      let o : List ℕ = opening_bytes (state_head_size - length_size + (2 * h.servers + id_size * h.yellow_count)) (kind_number of_state) h.sender h.configuration in
      let lo : length o ≡ state_cuts_at = opening_length _ _ _ _ in
      let one : s₂ ≡ patched 0 (o ++ x) s = next_block 0 state_cuts_at o x s s₁ s₂ (omega arith) e f (omega arith) in
      let two : s₃ ≡ patched 0 ((o ++ x) ++ standing_bytes h) s =
      next_block 0 _ (o ++ x) (standing_bytes h) s s₂ s₃ (omega arith) one g (omega (arith, length-append o x)) in
      let three : s₄ ≡ patched 0 (((o ++ x) ++ standing_bytes h) ++ y) s =
      next_block 0 _ ((o ++ x) ++ standing_bytes h) y s s₃ s₄ (omega arith) two i
      (omega (arith, length-append (o ++ x) (standing_bytes h), length-append o x, standing_length h)) in
      three ∙ ap (λ (l : List ℕ). patched 0 l s) (sym (state_bytes_lem h x y cuts ids ex ey (ids_number h.yellow_count ids 0) ∙ rw (lx, ly)))

-- ---- the writer

module _ (h : StateHead) (cuts ids s : List ℕ) where
  abbrev written : List ℕ
  written = write (state (state_of h cuts 0 ids 0))

  state_size_lem : length written ≡ state_head_size + lists_size h
  unfolding length_of state_of
  state_size_lem =
      write_length (state (state_of h cuts 0 ids 0)) ∙ rw (numbers_length 2 h.servers cuts 0, ids_number h.yellow_count ids 0) (omega arith)

  pub few_cuts : length cuts < 2 * h.servers → put_of None s ≡ put_state h cuts ids s
  unfolding put_state put_of
  few_cuts k = pick_no (enough h (length cuts) (length ids)) _ _ _ (sym (and_no (2 * h.servers ≤? length cuts) _ (le_no _ _ k))) refl

  pub few_ids : 2 * h.servers ≤ length cuts → length ids < id_size * h.yellow_count → put_of None s ≡ put_state h cuts ids s
  unfolding put_state put_of
  few_ids k j = pick_no (enough h (length cuts) (length ids)) _ _ _ (sym (and_yes _ _ _ (le_yes _ _ k) (sym (le_no _ _ j)))) refl

  module _ (k : 2 * h.servers ≤ length cuts) (j : id_size * h.yellow_count ≤ length ids) where
    given : (z : _) → z ≡ put written s → z ≡ put_state h cuts ids s
    unfolding put_state
    given z e = pick_yes (enough h (length cuts) (length ids)) z _ _ (both_yes _ _ (le_yes _ _ k) (le_yes _ _ j)) e

    pub state_full : length s < state_head_size + lists_size h → put_of None s ≡ put_state h cuts ids s
    state_full l = given _ (put_full written s (omega (arith, state_size_lem)))

    pub state_next : (z : ℕ) (s₁ : List ℕ) → z ≡ state_head_size + lists_size h → z ≤ length s → s₁ ≡ patched 0 written s
        → put_of (Some z) s₁ ≡ put_state h cuts ids s
    state_next z s₁ f l e = given _ (put_next written s z s₁ (omega (arith, state_size_lem)) (f ∙ sym state_size_lem) e)
