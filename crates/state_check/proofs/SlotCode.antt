-- What each return of the code on slots is worth.
use Prim.Native.Nat.{ℕ, zero, suc, ◌+◌, ◌*◌, ◌-◌, ◌≤◌, ◌<◌}
use mathlib.Core.Path.{◌≡◌, refl, sym, ◌∙◌}
use mathlib.Core.Bool.{Bool, true, false, not}
use mathlib.Core.List.{List}
use native.Mathlib.Omega.{arith}
use borrow.Author.Tests.{not-true, not-false}
use Rattle.format.specs.Limits.{most_payload_limit}
use Rattle.base.specs.Tests.{◌and◌, ◌≤?◌}
use Rattle.base.proofs.TestLaws.{and_yes, and_no, le_yes, le_no}
use Rattle.base.specs.Bytes.{number_at, zero_at}
use Rattle.base.specs.Lists.{every_at}
use Rattle.format.specs.Types.{Context}
use Rattle.image.specs.Layout.{slot_size}
use Rattle.state_check.specs.Slots.{payload_fits, payload_room, payload_space, own_slot_fits, own_fits}

-- ---- payloads

pub payload_denied : (b : List ℕ) (at m : ℕ) → m ≡ number_at 1 b at → most_payload_limit < m → false ≡ payload_fits b at
unfolding payload_fits
payload_denied b at m e h = and_no (number_at 1 b at ≤? most_payload_limit) _ (le_no _ most_payload_limit (rw e at h))

pub payload_answered : (b : List ℕ) (at m : ℕ) (r : Bool) → m ≡ number_at 1 b at → m ≤ most_payload_limit → r ≡ every_at (zero_at b) 1 (payload_space - m) (at + 1 + m)
    → r ≡ payload_fits b at
unfolding payload_fits
payload_answered b at m r e h k =
    let p : payload_space - m ≡ payload_room - (1 + m) = omega arith in
    let q : at + 1 + m ≡ at + (1 + m) = omega arith in
    and_yes r (number_at 1 b at ≤? most_payload_limit) _ (le_yes _ most_payload_limit (rw e at h)) (rw (p, q, e) at k)

-- ---- the own list, entry by entry

own_more : (c : Context) (k m : ℕ) (b : List ℕ) (at : ℕ) → 0 < m → own_fits c k m b at ≡ (own_slot_fits c k b at and own_fits c (k + 1) (m - 1) b (at + slot_size))
unfolding own_fits
own_more c k zero b at h = absurd (omega arith)
own_more c k (suc m) b at h = let e : suc m - 1 ≡ m = omega arith in rw e

own_after : (c : Context) (k m : ℕ) (b : List ℕ) (at i : ℕ) → i < m
    → own_fits c (k + i) (m - i) b (at + slot_size * i) ≡ (own_slot_fits c (k + i) b (at + slot_size * i) and own_fits c (k + (i + 1)) (m - (i + 1)) b (at + slot_size * (i + 1)))
own_after c k m b at i h =
    let x : k + i + 1 ≡ k + (i + 1) = omega arith in
    let y : m - i - 1 ≡ m - (i + 1) = omega arith in
    let z : at + slot_size * i + slot_size ≡ at + slot_size * (i + 1) = omega arith in
    own_more c (k + i) (m - i) b (at + slot_size * i) (omega arith) ∙ (λ o. own_slot_fits c (k + i) b (at + slot_size * i) and own_fits c (x o) (y o) b (z o))

pub own_start : (c : Context) (k m : ℕ) (b : List ℕ) (at : ℕ) → own_fits c k m b at ≡ own_fits c (k + 0) (m - 0) b (at + slot_size * 0)
own_start c k m b at =
    let x : k ≡ k + 0 = omega arith in
    let y : m ≡ m - 0 = omega arith in
    let z : at ≡ at + slot_size * 0 = omega arith in
    λ o. own_fits c (x o) (y o) b (z o)

module _ (c : Context) (k m : ℕ) (b : List ℕ) (at i : ℕ) (v : Bool) (e : v ≡ own_fits c (k + i) (m - i) b (at + slot_size * i)) where
  pub own_again : (t : Bool) → i < m → t ≡ own_slot_fits c (k + i) b (at + slot_size * i) → not t ≡ false
      → v ≡ own_fits c (k + (i + 1)) (m - (i + 1)) b (at + slot_size * (i + 1))
  own_again t h f g = e ∙ own_after c k m b at i h ∙ sym (and_yes _ (own_slot_fits c (k + i) b (at + slot_size * i)) _ (sym f ∙ not-false t g) refl)

  pub own_denied : (t : Bool) → i < m → t ≡ own_slot_fits c (k + i) b (at + slot_size * i) → not t ≡ true → false ≡ v
  own_denied t h f g = and_no (own_slot_fits c (k + i) b (at + slot_size * i)) _ (sym f ∙ not-true t g) ∙ sym (e ∙ own_after c k m b at i h)

  pub own_end_lem : m ≤ i → true ≡ v
  unfolding own_fits
  own_end_lem h = let z : m - i ≡ 0 = omega arith in sym (e ∙ (λ o. own_fits c (k + i) (z o) b (at + slot_size * i)))
