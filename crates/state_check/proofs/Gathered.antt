-- The test of a payload's filling gathers: the OR of all bytes of its room under the masks is zero exactly where each byte behind the
-- payload is zero.
use Prim.Native.Nat.{ℕ, ◌+◌, ◌-◌, ◌≤◌, ◌<◌}
use mathlib.Core.Path.{◌≡◌, refl, sym, ◌∙◌}
use mathlib.Core.Bool.{Bool, true, false}
use mathlib.Core.List.{List}
use native.Mathlib.Omega.{arith}
use lib.Bits.{bit_and, bit_or, and_mask, and_zero_r, or_zero_r, or_add_and, and_le_l, and_le_r}
use lib.Dec.{eqb}
use lib.ListN.{length, get_or, replicate, length-replicate}
use mir.Syntax.{w8}
use mir.Val.{Fits}
use Rattle.base.specs.Bytes.{zero_at}
use Rattle.format.specs.Limits.{most_payload_limit}
use Rattle.base.specs.Tests.{◌and◌, ◌≤?◌, ◌=?◌}
use Rattle.base.proofs.TestLaws.{and_yes, and_no, le_holds, le_fails, eq_yes, eq_no, eq_holds, eq_fails, Known, known, holds, fails}
use Rattle.base.proofs.Branches.{and_true}
use Rattle.base.specs.Lists.{every_at}
use Rattle.base.proofs.Entries.{every_more}
use Rattle.base.proofs.ListLaws.{replicate_at}
use Rattle.state_check.specs.Slots.{Masks, payload_space}

-- An OR is zero where both are.

or_none : (x y : ℕ) → (bit_or x y =? 0) ≡ (x =? 0 and y =? 0)
or_none x y = or_none_at x y (known (x =? 0)) (known (y =? 0))
  where
    or_none_at : (x y : ℕ) → Known (x =? 0) → Known (y =? 0) → (bit_or x y =? 0) ≡ (x =? 0 and y =? 0)
    or_none_at x y (fails f) k =
        eq_no _ 0 (λ e. eq_fails x 0 f (omega (arith, or_add_and x y, and_le_r x y))) ∙ and_no (x =? 0) _ f
    or_none_at x y (holds h) (fails f) =
        eq_no _ 0 (λ e. eq_fails y 0 f (omega (arith, or_add_and x y, and_le_l x y))) ∙ and_yes _ (x =? 0) _ h (sym f)
    or_none_at x y (holds h) (holds k) =
        eq_yes _ 0 (omega (arith, or_add_and x y, eq_holds x 0 h, eq_holds y 0 k)) ∙ and_yes true (x =? 0) _ h (sym k)

and_assoc : (t u v : Bool) → (t and u and v) ≡ ((t and u) and v)
unfolding ◌and◌
and_assoc true u v = refl
and_assoc false u v = refl

-- What is left of the answer at turn j: nothing was met, and the bytes from the later of m and j on are zeros.
unfoldable pub unread : (b : List ℕ) (at m all j : ℕ) → Bool
unread b at m all j = all =? 0 and every_at (zero_at b) 1 (payload_space - (m + (j - m))) (at + (m + (j - m)))

pub gather_start : (b : List ℕ) (at m : ℕ) → every_at (zero_at b) 1 (payload_space - m) (at + m) ≡ unread b at m 0 0
unfolding unread
gather_start b at m =
    let p : m + (0 - m) ≡ m = omega arith in
    rw p (and_yes (every_at (zero_at b) 1 (payload_space - m) (at + m)) (0 =? 0) _ (eq_yes 0 0 refl) refl)

-- Under its mask a byte of the payload is nothing, and one behind it is as it is.

within : (b : List ℕ) (at m all j x : ℕ) → j < m → unread b at m all j ≡ unread b at m (bit_or all (bit_and x 0)) (j + 1)
unfolding unread
within b at m all j x h =
    let p : m + (j - m) ≡ m + (j + 1 - m) = omega arith in
    rw (and_zero_r x, or_zero_r all, p)

behind : (b : List ℕ) (at m all j : ℕ) → m ≤ j → j < payload_space → get_or b (at + j) 0 < 256
    → unread b at m all j ≡ unread b at m (bit_or all (bit_and (get_or b (at + j) 0) 255)) (j + 1)
unfolding unread zero_at
behind b at m all j h l f =
    let x = get_or b (at + j) 0 in
    let p : m + (j - m) ≡ j = omega arith in
    let q : m + (j + 1 - m) ≡ j + 1 = omega arith in
    let r : payload_space - j - 1 ≡ payload_space - (j + 1) = omega arith in
    let s : at + j + 1 ≡ at + (j + 1) = omega arith in
    let k : bit_and x 255 ≡ x = and_mask x 8 ∙ omega arith in
    rw (p, q, k, or_none all x, every_more (zero_at b) 1 (payload_space - j) (at + j) (omega arith), r, s) (and_assoc _ _ _)

-- A turn, and the end.

pub gather_again : (b t : List ℕ) (at m all j : ℕ) (v : Bool) → Masks t → ((i : ℕ) → Fits w8 (get_or b i 0)) → m ≤ most_payload_limit → j < payload_space
    → v ≡ unread b at m all j → v ≡ unread b at m (bit_or all (bit_and (get_or b (at + j) 0) (get_or t (most_payload_limit - m + j) 0))) (j + 1)
gather_again b t at m all j v masks fits h l e = e ∙ turn (known (m ≤? j))
  where
    turn : Known (m ≤? j) → unread b at m all j ≡ unread b at m (bit_or all (bit_and (get_or b (at + j) 0) (get_or t (most_payload_limit - m + j) 0))) (j + 1)
    turn (holds y) =
        let z = masks.behind (most_payload_limit - m + j) (omega (arith, le_holds m j y)) (omega arith) in
        rw z (behind b at m all j (le_holds m j y) l (omega (arith, fits (at + j))))
    turn (fails y) =
        let z = masks.payload (most_payload_limit - m + j) (omega (arith, le_fails m j y)) in
        rw z (within b at m all j (get_or b (at + j) 0) (le_fails m j y))

pub gather_end : (b : List ℕ) (at m all j : ℕ) (v : Bool) → m ≤ most_payload_limit → payload_space ≤ j → v ≡ unread b at m all j → eqb all 0 ≡ v
unfolding unread every_at ◌=?◌
gather_end b at m all j v h l e =
    let p : payload_space - (m + (j - m)) ≡ 0 = omega arith in
    and_true (all =? 0) ∙ sym (e ∙ rw p)

-- ---- the masks

-- The masks up to the one before j.
pub record MasksTo (j : ℕ) (t : List ℕ) : Type 0 where
  pub long : length t ≡ most_payload_limit + payload_space
  pub payload : (i : ℕ) → i < most_payload_limit → get_or t i 0 ≡ 0
  pub behind : (i : ℕ) → most_payload_limit ≤ i → i < j → get_or t i 0 ≡ 255

pub masks_start : MasksTo most_payload_limit (replicate {A = ℕ} (most_payload_limit + payload_space) 0)
masks_start = record {
  long = length-replicate {A = ℕ} (most_payload_limit + payload_space) 0;
  payload = λ i h. replicate_at 0 (most_payload_limit + payload_space) i;
  behind = λ i h k. absurd (omega arith);
}
