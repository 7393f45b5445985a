-- The laws of a list with a part of it replaced by another of the same length.
use Prim.Native.Nat.{ℕ, zero, suc, ◌+◌, ◌≤◌, ◌<◌, zero-le}
use mathlib.Core.Path.{◌≡◌, refl, sym, ap, ◌∙◌}
use mathlib.Core.List.{List, [], ◌∷◌, ◌++◌, append_assoc, append-nil}
use native.Mathlib.Nat.{zero-add}
use native.Mathlib.Omega.{arith}
use lib.ListN.{length, get_or, take, drop, set, length-append, length-take, length-drop, get_or-append}
use lib.Seq.{length-take-le, take_at, drop_at, drop-length, get_or-take, drop-drop, take-set-le, sets, sets-eq, paste, paste-zero, paste-suc}
use Rattle.base.specs.Patched.{patched}

module _ {A : Type 0} where
  pub patched_length : (at : ℕ) (b s : List A) → at + length b ≤ length s → length (patched at b s) ≡ length s
  unfolding patched
  patched_length at b s h = simp (length-append, length-take, length-drop) (omega arith)

  pub patched_from : (at : ℕ) (b s : List A) → at ≤ length s → drop at (patched at b s) ≡ b ++ drop (at + length b) s
  unfolding patched
  patched_from at b s h = drop_at (take at s) (b ++ drop (at + length b) s) at (length-take-le at s h)

  pub patched_behind : (at : ℕ) (b s : List A) → at ≤ length s → drop (at + length b) (patched at b s) ≡ drop (at + length b) s
  patched_behind at b s h =
      sym (drop-drop (length b) at (patched at b s)) ∙ ap (λ (l : List A). drop (length b) l) (patched_from at b s h)
      ∙ drop_at b (drop (at + length b) s) (length b) refl

  -- up to the part's end
  pub patched_until : (at : ℕ) (b s : List A) → at ≤ length s → take (at + length b) (patched at b s) ≡ take at s ++ b
  unfolding patched
  patched_until at b s h =
      let n : length (take at s ++ b) ≡ at + length b = length-append (take at s) b ∙ rw (length-take-le at s h) in
      rw (← append_assoc (take at s) b (drop (at + length b) s)) (take_at (take at s ++ b) (drop (at + length b) s) (at + length b) n)

  -- p is s with b from `at` on, seen up to b's end and behind it
  next_of : (at : ℕ) (b c s p : List A) → take (at + length b) p ≡ take at s ++ b → drop (at + length b) p ≡ drop (at + length b) s
      → patched (at + length b) c p ≡ patched at (b ++ c) s
  unfolding patched
  next_of at b c s p e f =
      let n : at + length (b ++ c) ≡ at + length b + length c = simp length-append (omega arith) in
      rw (n, ← drop-drop (length c) (at + length b) p, e, f, drop-drop, append_assoc, append_assoc b c)

  -- A part, and another next after it, are one part.
  pub patched_next : (at : ℕ) (b c s : List A) → at ≤ length s → patched (at + length b) c (patched at b s) ≡ patched at (b ++ c) s
  patched_next at b c s h = next_of at b c s (patched at b s) (patched_until at b s h) (patched_behind at b s h)

  -- stores one after another
  pub sets_patched : (at : ℕ) (b s : List A) → at + length b ≤ length s → sets s at b ≡ patched at b s
  unfolding patched
  sets_patched at b s h = sets-eq b s at h ∙ append_assoc (take at s) b (drop (at + length b) s)

  -- a copy of the first n
  pub paste_patched : (at n : ℕ) (b s : List A) → n ≤ length b → paste s at b n ≡ patched at (take n b) s
  unfolding patched
  paste_patched at n b s h =
      append_assoc (take at s) (take n b) (drop (at + n) s)
      ∙ ap (λ (k : ℕ). take at s ++ (take n b ++ drop (at + k) s)) (sym (length-take-le n b h))

  pub patched_none : (at : ℕ) (s : List A) → patched at [] s ≡ s
  patched_none at s = sym (paste-zero s at [] ∙ paste_patched at zero [] s zero-le)

  pub patched_whole : (b s : List A) → length b ≡ length s → patched zero b s ≡ b
  unfolding patched
  patched_whole b s e = rw (zero-add (length b), e, drop-length s) (append-nil b)

  -- An element in front of the part.
  pub patched_element : (at : ℕ) (b s : List A) (i : ℕ) (d : A) → i < at → at ≤ length s → get_or (patched at b s) i d ≡ get_or s i d
  unfolding patched
  patched_element at b s i d h l =
      get_or-append (take at s) (b ++ drop (at + length b) s) d i (simp length-take (omega arith)) ∙ get_or-take at s i d h

  -- a turn of a loop that copies
  pub patched_more : (at n : ℕ) (b s : List A) (d : A) → at + n < length s → n < length b
      → set (patched at (take n b) s) (at + n) (get_or b n d) ≡ patched at (take (suc n) b) s
  patched_more at n b s d h k =
      let e : paste s at b n ≡ patched at (take n b) s = paste_patched at n b s (omega arith) in
      ap (λ (l : List A). set l (at + n) (get_or b n d)) (sym e) ∙ paste-suc s at b n d h k ∙ paste_patched at (suc n) b s k

  -- A store next behind the part is the part's last element.
  pub patched_last : (at : ℕ) (b s : List A) (x : A) → at + length b < length s → patched at b (set s (at + length b) x) ≡ patched at (b ++ (x ∷ [])) s
  unfolding patched
  patched_last at b s x h =
      let t : take at (set s (at + length b) x) ≡ take at s = take-set-le at s (at + length b) x (omega arith) in
      let z : set s (at + length b) x ≡ patched (at + length b) (x ∷ []) s = sets_patched (at + length b) (x ∷ []) s (omega arith) in
      let d : drop (at + length b) (set s (at + length b) x) ≡ x ∷ drop (at + length b + 1) s = ap (drop (at + length b)) z ∙ patched_from (at + length b) (x ∷ []) s (omega arith) in
      let n : at + length (b ++ (x ∷ [])) ≡ at + length b + 1 = simp length-append (omega arith) in
      rw (t, d, n, append_assoc)

  -- A part that was lent is back, with b for its n elements.
  pub lent_patched : (at n : ℕ) (b s : List A) → length b ≡ n → take at s ++ (b ++ drop n (drop at s)) ≡ patched at b s
  unfolding patched
  lent_patched at n b s e = rw (drop-drop, e)
