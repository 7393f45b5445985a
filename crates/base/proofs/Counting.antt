-- How many of the numbers below p pass a test, where each of them names a member of a set and none is named twice.
use Prim.Native.Nat.{ℕ, zero, suc, ◌+◌, ◌≤◌, ◌<◌, ◌/◌, ◌%◌, ◌^◌}
use mathlib.Core.Path.{◌≡◌, refl, sym, ap, subst, ◌∙◌}
use mathlib.Core.Bool.{Bool, true}
use mathlib.Core.List.Memᴰ
use mathlib.Core.List.{List, ◌∷◌, map, Memᴰ}
use mathlib.Core.Logic.{◌⊎◌, inl, inr}
use native.Mathlib.Nat.{pow-succ'}
use native.Mathlib.Omega.{arith}
use lib.Count.{ones, ones_step}
use lib.ListN.{length, length-map}
use Rattle.base.specs.Counts.{one}
use Rattle.base.specs.Sets.{in_set, size}
use Rattle.base.proofs.TestLaws.{eq_yes, eq_no, Known, holds, fails, known}
use Rattle.base.proofs.CountLaws.{one_yes, one_no}
use Rattle.base.proofs.SetLaws.{in_set_zero, in_set_suc}
use Rattle.base.proofs.Distinct.{Distinct, included_length, distinct_map}
use Rattle.base.proofs.Passing.{passing, passing_more, passing_same, passing_has, passing_in, passing_distinct}

-- Tests that agree below p pass the same.
pub passing_alike : (t u : ℕ → Bool) (p : ℕ) → ((x : ℕ) → x < p → t x ≡ u x) → passing t p ≡ passing u p
unfolding passing
passing_alike t u zero f = refl
passing_alike t u (suc p) f = go (known (t p)) (passing_alike t u p (λ x h. f x (omega arith)))
  where
    go : Known (t p) → passing t p ≡ passing u p → passing t (suc p) ≡ passing u (suc p)
    go (holds e) h = passing_more t p e ∙ ap (λ z. p ∷ z) h ∙ sym (passing_more u p (sym (f p (omega arith)) ∙ e))
    go (fails e) h = passing_same t p e ∙ h ∙ sym (passing_same u p (sym (f p (omega arith)) ∙ e))

-- The lowest number first.
passing_front : (t : ℕ → Bool) (n : ℕ) → length (passing t (suc n)) ≡ one (t 0) + length (passing (λ k. t (suc k)) n)
unfolding passing
passing_front t zero = go (known (t 0))
  where
    go : Known (t 0) → length (passing t 1) ≡ one (t 0) + length (passing (λ k. t (suc k)) 0)
    go (holds e) = omega (arith, ap length (passing_more t 0 e), one_yes (t 0) e)
    go (fails e) = omega (arith, ap length (passing_same t 0 e), one_no (t 0) e)
passing_front t (suc n) = go (known (t (suc n))) (passing_front t n)
  where
    go : Known (t (suc n)) → length (passing t (suc n)) ≡ one (t 0) + length (passing (λ k. t (suc k)) n)
        → length (passing t (suc (suc n))) ≡ one (t 0) + length (passing (λ k. t (suc k)) (suc n))
    go (holds e) h = omega (arith, ap length (passing_more t (suc n) e), ap length (passing_more (λ k. t (suc k)) n e), h)
    go (fails e) h = omega (arith, ap length (passing_same t (suc n) e), ap length (passing_same (λ k. t (suc k)) n e), h)

-- A set has as many members as its size says.
pub members_size : (n s : ℕ) → s < 2 ^ n → length (passing (λ k. in_set k s) n) ≡ size s
unfolding passing size ones
members_size zero s h = let e : s ≡ 0 = omega arith in rw e
members_size (suc n) s h =
    go (s % 2) refl
    (ap length (passing_alike (λ k. in_set (suc k) s) (λ k. in_set k (s / 2)) n (λ k g. in_set_suc k s))
    ∙ members_size n (s / 2) (omega (arith, pow-succ' 2 n)))
  where
    go : (r : ℕ) → s % 2 ≡ r → length (passing (λ k. in_set (suc k) s) n) ≡ size (s / 2) → length (passing (λ k. in_set k s) (suc n)) ≡ size s
    go zero e f = omega (arith, passing_front (λ k. in_set k s) n, f, ones_step s, one_no (in_set 0 s) (in_set_zero s ∙ eq_no _ _ (λ z. omega arith)))
    go (suc zero) e f = omega (arith, passing_front (λ k. in_set k s) n, f, ones_step s, one_yes (in_set 0 s) (in_set_zero s ∙ eq_yes _ _ e))
    go (suc (suc r)) e f = absurd (omega arith)

module _ (t : ℕ → Bool) (p : ℕ) (name : ℕ → ℕ) (n s : ℕ) (small : s < 2 ^ n)
    (member : (x : ℕ) → x < p → t x ≡ true → (name x < n) × (in_set (name x) s ≡ true))
    (once : (x y : ℕ) → x < p → y < p → t x ≡ true → t y ≡ true → name x ≡ name y → x ≡ y) where
  names : List ℕ
  names = map name (passing t p)

  members : List ℕ
  members = passing (λ k. in_set k s) n

  distinct_names : Distinct names
  unfolding names
  distinct_names =
      distinct_map name (passing t p)
      (λ x y h k. let a = passing_in t p x h in let b = passing_in t p y k in once x y a.0 b.0 a.1 b.1)
      (passing_distinct t p)

  named_member : (k : ℕ) → Memᴰ k names → Memᴰ k members
  unfolding names members
  named_member k h =
      let x = Memᴰ.of_map name (passing t p) h in
      let a = passing_in t p x.0 x.1 in
      let b = member x.0 a.0 a.1 in
      subst (λ z. Memᴰ z (passing (λ k. in_set k s) n)) x.2 (passing_has (λ k. in_set k s) n (name x.0) b.0 b.1)

  -- At most as many as there are members.
  pub most_members : length (passing t p) ≤ size s
  unfolding names members
  most_members = omega (arith, included_length names members distinct_names named_member, length-map (passing t p) name, members_size n s small)

  -- As many, if each is named.
  pub all_members : ((k : ℕ) → k < n → in_set k s ≡ true → (x : ℕ) × (x < p) × (t x ≡ true) × (name x ≡ k)) → length (passing t p) ≡ size s
  unfolding names members
  all_members f =
      let h =
      included_length members names (passing_distinct (λ k. in_set k s) n)
      (λ k m.
      let a = passing_in (λ k. in_set k s) n k m in
      let x = f k a.0 a.1 in
      subst (λ z. Memᴰ z (map name (passing t p))) x.3 (Memᴰ.map name (passing_has t p x.0 x.1 x.2)))
      in
      omega (arith, h, most_members, length-map (passing t p) name, members_size n s small)

  -- Fewer, if one is not.
  pub fewer_members : (k : ℕ) → k < n → in_set k s ≡ true → ((x : ℕ) → x < p → t x ≡ true → name x ≡ k → ⊥) → length (passing t p) < size s
  unfolding names members
  fewer_members k h m f =
      let z =
      included_length (k ∷ names) members
      (λ i. let x = Memᴰ.of_map name (passing t p) i in let a = passing_in t p x.0 x.1 in f x.0 a.0 a.1 x.2, distinct_names)
      (λ j i. go j (Memᴰ.cases_cons i))
      in
      omega (arith, z, length-map (passing t p) name, members_size n s small)
    where
      go : (j : ℕ) → (j ≡ k) ⊎ Memᴰ j names → Memᴰ j members
      go j (inl e) = subst (λ z. Memᴰ z (passing (λ k. in_set k s) n)) (sym e) (passing_has (λ k. in_set k s) n k h m)
      go j (inr i) = named_member j i
