-- A choice by a test, and the vote by counting ones.
use Prim.Native.Nat.{ℕ, zero, suc, ◌+◌, ◌*◌, ◌/◌, ◌%◌, ◌^◌, ◌≤◌, ◌<◌}
use mathlib.Core.Path.{◌≡◌, refl, sym, ap, ◌∙◌}
use mathlib.Core.Bool.{Bool, true, false}
use native.Mathlib.Nat.{mod-lt, div-one, div-div-eq-div-mul, pow-zero, pow-succ'}
use native.Mathlib.Numerals.{add-one}
use native.Mathlib.Omega.{arith}
use lib.Bits.{bit_and, and_le_l}
use lib.Count.{ones, ones-le, under, count_trailing_zeros}
use Rattle.base.specs.Tests.{pick}
use Rattle.base.proofs.TestLaws.{pick_yes, pick_no, and_no, and_yes, lt_yes, lt_no, eq_yes, eq_no}
use Rattle.base.proofs.Branches.{or_yes, or_no}
use Rattle.base.specs.Sets.{in_set, size, common, first_member, lowest_member}
use Rattle.format.specs.Limits.{most_servers_limit}
use Rattle.record.specs.Values.{primary_of}
use Rattle.record.specs.declared.LastPrimary.{LastPrimary}
use Rattle.replication.specs.Machine.Exchange.{more_than_half, lowest_of, half_with_lowest, linear_vote}

-- ---- a choice

pub chosen_yes : {A : Type 0} (t u : Bool) (x y : A) → u ≡ t → u ≡ true → x ≡ pick t x y
chosen_yes t u x y e h = pick_yes t x x y (sym e ∙ h) refl

pub chosen_no : {A : Type 0} (t u : Bool) (x y : A) → u ≡ t → u ≡ false → y ≡ pick t x y
chosen_no t u x y e h = pick_no t y x y (sym e ∙ h) refl

-- ---- the vote

two_powers : (k : ℕ) → 2 ^ k * 2 ≡ 2 ^ (k + 1)
two_powers k = rw add-one (omega (arith, pow-succ' 2 k))

-- As the code finds the first member.
first_zeros : (m k s : ℕ) → first_member m k s ≡ k + count_trailing_zeros m (s / 2 ^ k)
unfolding first_member count_trailing_zeros in_set
first_zeros zero k s = omega arith
first_zeros (suc m) k s = go (s / 2 ^ k % 2) refl (mod-lt (s / 2 ^ k) (omega arith)) (first_zeros m (k + 1) s)
  where
    next : s / 2 ^ k / 2 ≡ s / 2 ^ (k + 1)
    next = div-div-eq-div-mul s (2 ^ k) 2 ∙ ap (λ x. s / x) (two_powers k)

    go : (d : ℕ) → s / 2 ^ k % 2 ≡ d → d < 2 → first_member m (k + 1) s ≡ k + 1 + count_trailing_zeros m (s / 2 ^ (k + 1))
        → pick (in_set k s) k (first_member m (k + 1) s) ≡ k + under d (count_trailing_zeros m (s / 2 ^ k / 2))
    go zero e l more =
        sym (pick_no (in_set k s) _ k _ (eq_no _ 1 (λ z. omega arith)) refl) ∙ more ∙ ap (λ x. k + 1 + count_trailing_zeros m x) (sym next) ∙ omega arith
    go (suc zero) e l more = sym (pick_yes (in_set k s) _ k _ (eq_yes _ 1 e) refl) ∙ omega arith
    go (suc (suc d)) e l more = absurd (omega arith)

pub lowest_found : (s : ℕ) → count_trailing_zeros 8 s ≡ lowest_member most_servers_limit s
unfolding lowest_member
lowest_found s =
    let whole : s / 2 ^ 0 ≡ s = rw (pow-zero 2, div-one s) in
    let e = ap (λ (x : ℕ). count_trailing_zeros 8 x) whole in
    omega (arith, first_zeros 8 0 s)

pub twice_fits : (s here : ℕ) → s < 256 → 2 * ones (bit_and s here) ≤ 16
twice_fits s here h = omega (arith, ones-le 8 (bit_and s here) (omega (arith, and_le_l s here)))

module _ (p : LastPrimary) (here : ℕ) where
  pub vote_more : ones p.set < 2 * ones (bit_and p.set here) → true ≡ linear_vote (primary_of p) here
  unfolding linear_vote more_than_half size common primary_of
  vote_more h = or_yes _ _ (lt_yes _ _ h)

  module _ (h : 2 * ones (bit_and p.set here) ≤ ones p.set) where
    pub vote_fewer : (2 * ones (bit_and p.set here) ≡ ones p.set → ⊥) → false ≡ linear_vote (primary_of p) here
    unfolding linear_vote more_than_half half_with_lowest size common primary_of
    vote_fewer n = or_no _ _ _ (lt_no _ _ h) (and_no _ _ (eq_no _ _ n))

    pub vote_half : (k : ℕ) (b : Bool) → 2 * ones (bit_and p.set here) ≡ ones p.set → k ≡ lowest_member most_servers_limit p.set
        → b ≡ in_set k (bit_and p.set here) → b ≡ linear_vote (primary_of p) here
    unfolding linear_vote more_than_half lowest_of half_with_lowest size common primary_of
    vote_half k b e i j =
        or_no _ _ _ (lt_no _ _ h) (and_yes _ _ _ (eq_yes _ _ e) (j ∙ ap (λ (m : ℕ). in_set m (bit_and p.set here)) i))
