-- Laws of sets of servers: members of a union, of a common part and of a set with one more, inclusion by members, bounds.
use Prim.Native.Nat.{ℕ, zero, suc, ◌<◌, ◌/◌, ◌%◌, ◌^◌, min, max}
use mathlib.Core.Path.{◌≡◌, refl, sym, ap, ap₂, ◌∙◌}
use mathlib.Core.Bool.{Bool, true, false}
use native.Mathlib.Nat.{mod-lt, div-add-mod', div-one, pow-succ', pow-zero, div-div-eq-div-mul, pow-le-pow_right, one-le-pow}
use native.Mathlib.Omega.{arith}
use lib.Dec.{eqb-suc-suc}
use lib.Bits.{bit_and, bit_or, and_step, or_step, or_lt, and_le_l, and_zero_l}
use Rattle.base.specs.Tests.{◌and◌, ◌or◌, ◌=?◌, pick}
use Rattle.base.proofs.TestLaws.{not_both, eq_yes, eq_no, eq_holds, and_holds}
use Rattle.base.proofs.Branches.{or_false}
use Rattle.base.specs.Sets.{in_set, inside, with_member, common, union, everyone}
use lib.Bits.{and_comm}

-- ---- bounds

pub power_below : (k n : ℕ) → k < n → 2 ^ k < 2 ^ n
power_below k n h = omega (arith, pow-le-pow_right {n = 2} (omega arith) {i = suc k} {j = n} h, one-le-pow k 2 (omega arith))

pub union_below : (n s t : ℕ) → s < 2 ^ n → t < 2 ^ n → union s t < 2 ^ n
unfolding union
union_below n s t h k = or_lt n s t h k

pub with_member_below : (n k s : ℕ) → k < n → s < 2 ^ n → with_member k s < 2 ^ n
unfolding with_member
with_member_below n k s h l = or_lt n s (2 ^ k) l (power_below k n h)

pub common_below : (n s t : ℕ) → s < 2 ^ n → common s t < 2 ^ n
unfolding common
common_below n s t h = omega (arith, and_le_l s t)

pub everyone_below : (n : ℕ) → everyone n < 2 ^ n
unfolding everyone
everyone_below n = omega (arith, one-le-pow n 2 (omega arith))

-- ---- members

rest : (n : ℕ) → n % 2 < 2
rest n = mod-lt n (omega arith)

pub in_set_zero : (s : ℕ) → in_set 0 s ≡ (s % 2 =? 1)
unfolding in_set
in_set_zero s = rw (pow-zero 2, div-one s)

pub in_set_suc : (k s : ℕ) → in_set (suc k) s ≡ in_set k (s / 2)
unfolding in_set
in_set_suc k s = rw (pow-succ' 2 k, ← (div-div-eq-div-mul s 2 (2 ^ k)))

pub and_half : (a b : ℕ) → bit_and a b / 2 ≡ bit_and (a / 2) (b / 2)
and_half a b = omega (arith, and_step a b, div-add-mod' (bit_and a b) 2, rest (bit_and a b), rest a)

pub and_rest : (a b : ℕ) → bit_and a b % 2 ≡ min (a % 2) (b % 2)
and_rest a b = omega (arith, and_step a b, div-add-mod' (bit_and a b) 2, rest (bit_and a b), rest a)

or_half : (a b : ℕ) → bit_or a b / 2 ≡ bit_or (a / 2) (b / 2)
or_half a b = omega (arith, or_step a b, div-add-mod' (bit_or a b) 2, rest (bit_or a b), rest a, rest b)

or_rest : (a b : ℕ) → bit_or a b % 2 ≡ max (a % 2) (b % 2)
or_rest a b = omega (arith, or_step a b, div-add-mod' (bit_or a b) 2, rest (bit_or a b), rest a, rest b)

both_one : (x y : ℕ) → x < 2 → y < 2 → (min x y =? 1) ≡ (x =? 1 and y =? 1)
unfolding ◌=?◌ ◌and◌
both_one zero zero h l = refl
both_one zero (suc zero) h l = refl
both_one zero (suc (suc y)) h l = absurd (omega arith)
both_one (suc zero) zero h l = refl
both_one (suc zero) (suc zero) h l = refl
both_one (suc zero) (suc (suc y)) h l = absurd (omega arith)
both_one (suc (suc x)) y h l = absurd (omega arith)

either_one : (x y : ℕ) → x < 2 → y < 2 → (max x y =? 1) ≡ (x =? 1 or y =? 1)
unfolding ◌=?◌ ◌or◌
either_one zero zero h l = refl
either_one zero (suc zero) h l = refl
either_one zero (suc (suc y)) h l = absurd (omega arith)
either_one (suc zero) zero h l = refl
either_one (suc zero) (suc zero) h l = refl
either_one (suc zero) (suc (suc y)) h l = absurd (omega arith)
either_one (suc (suc x)) y h l = absurd (omega arith)

pub in_common : (k s t : ℕ) → in_set k (common s t) ≡ (in_set k s and in_set k t)
unfolding common
in_common zero s t = rw (in_set_zero (bit_and s t), in_set_zero s, in_set_zero t, and_rest s t) (both_one (s % 2) (t % 2) (rest s) (rest t))
in_common (suc k) s t = rw (in_set_suc k (bit_and s t), in_set_suc k s, in_set_suc k t, and_half s t) (in_common k (s / 2) (t / 2))

pub in_union : (k s t : ℕ) → in_set k (union s t) ≡ (in_set k s or in_set k t)
unfolding union
in_union zero s t = rw (in_set_zero (bit_or s t), in_set_zero s, in_set_zero t, or_rest s t) (either_one (s % 2) (t % 2) (rest s) (rest t))
in_union (suc k) s t = rw (in_set_suc k (bit_or s t), in_set_suc k s, in_set_suc k t, or_half s t) (in_union k (s / 2) (t / 2))

pub in_empty : (k : ℕ) → in_set k 0 ≡ false
unfolding ◌=?◌
in_empty zero = in_set_zero 0
in_empty (suc k) = in_set_suc k 0 ∙ in_empty k

power_half : (k : ℕ) → 2 ^ suc k / 2 ≡ 2 ^ k
power_half k = omega (arith, pow-succ' 2 k)

-- The set of one server.
pub in_single : (j k : ℕ) → in_set j (2 ^ k) ≡ (j =? k)
unfolding ◌=?◌
in_single zero zero = in_set_zero 1
in_single zero (suc k) =
    let e : 2 ^ suc k % 2 ≡ 0 = omega (arith, pow-succ' 2 k) in
    in_set_zero (2 ^ suc k) ∙ (rw e (sym (eq_no 0 (suc k) (λ z. omega arith))))
in_single (suc j) zero = in_set_suc j 1 ∙ in_empty j ∙ sym (eq_no (suc j) 0 (λ z. omega arith))
in_single (suc j) (suc k) = rw (in_set_suc j (2 ^ suc k), power_half k, in_single j k) (sym (eqb-suc-suc j k))

pub in_with_member : (j k s : ℕ) → in_set j (with_member k s) ≡ (in_set j s or j =? k)
unfolding with_member union
in_with_member j k s = in_union j s (2 ^ k) ∙ (rw (in_single j k))

-- One member more, or not.
pub member_other : (t : Bool) (j k s : ℕ) → (j ≡ k → ⊥) → in_set j (pick t (with_member k s) s) ≡ in_set j s
unfolding pick
member_other true j k s h = in_with_member j k s ∙ ap (λ (u : Bool). in_set j s or u) (eq_no j k h) ∙ or_false (in_set j s)
member_other false j k s h = refl

pub member_same : (t : Bool) (k s : ℕ) → in_set k s ≡ false → in_set k (pick t (with_member k s) s) ≡ t
unfolding pick ◌or◌
member_same true k s h = in_with_member k k s ∙ ap₂ {A = Bool} {B = Bool} {C = Bool} (λ u v. u or v) h (eq_yes k k refl)
member_same false k s h = h

pub member_below : (n k s : ℕ) → s < 2 ^ n → in_set k s ≡ true → k < n
member_below zero k s h m = let e : s ≡ 0 = omega arith in not_both (sym (in_empty k) ∙ (rw e at m))
member_below (suc n) zero s h m = omega arith
member_below (suc n) (suc k) s h m = omega (arith, member_below n k (s / 2) (omega (arith, pow-succ' 2 n)) (sym (in_set_suc k s) ∙ m))

-- ---- inclusion

pub inside_member : (s t k : ℕ) → inside s t ≡ true → in_set k s ≡ true → in_set k t ≡ true
unfolding inside common
inside_member s t k h m = (and_holds (in_set k s) (in_set k t) (sym (in_common k s t) ∙ ap (in_set k) (eq_holds _ _ h) ∙ m)).1

inside_same : (n s t : ℕ) → s < 2 ^ n → ((k : ℕ) → k < n → in_set k s ≡ true → in_set k t ≡ true) → bit_and s t ≡ s
inside_same zero s t h f = let e : s ≡ 0 = omega arith in rw (e, and_zero_l)
inside_same (suc n) s t h f =
    let more : bit_and (s / 2) (t / 2) ≡ s / 2 = inside_same n (s / 2) (t / 2) (omega (arith, pow-succ' 2 n)) (λ k l m. sym (in_set_suc k t) ∙ f (suc k) (omega arith) (in_set_suc k s ∙ m)) in
    low (s % 2) refl (rest s) more
  where
    low : (r : ℕ) → s % 2 ≡ r → r < 2 → bit_and (s / 2) (t / 2) ≡ s / 2 → bit_and s t ≡ s
    low zero e l more = omega (arith, and_step s t, div-add-mod' s 2)
    low (suc zero) e l more =
        let one : t % 2 ≡ 1 = eq_holds _ 1 (sym (in_set_zero t) ∙ f 0 (omega arith) (in_set_zero s ∙ eq_yes _ 1 e)) in
        omega (arith, and_step s t, div-add-mod' s 2)
    low (suc (suc r)) e l more = absurd (omega arith)

pub members_inside : (n s t : ℕ) → s < 2 ^ n → ((k : ℕ) → k < n → in_set k s ≡ true → in_set k t ≡ true) → inside s t ≡ true
unfolding inside
members_inside n s t h f = eq_yes _ _ (inside_same n s t h f)

-- Sets with the same members are the same.
pub same_sets : (n s t : ℕ) → s < 2 ^ n → t < 2 ^ n → ((k : ℕ) → k < n → in_set k s ≡ in_set k t) → s ≡ t
same_sets n s t h l f =
    sym (inside_same n s t h (λ k i e. sym (f k i) ∙ e)) ∙ and_comm s t ∙ inside_same n t s l (λ k i e. f k i ∙ e)
