-- What judging the marks of collected States comes to: which mark is kept, with which bits, and that a kept mark leaves no quorum.
use Prim.Native.Nat.{ℕ, ◌≤◌}
use mathlib.Core.Path.{◌≡◌, refl, sym, ap, ◌∙◌}
use mathlib.Core.Bool.{true, false, not}
use mathlib.Core.List.Memᴰ
use mathlib.Core.List.{List, [], ◌∷◌, Memᴰ}
use mathlib.Core.Logic.{◌⊎◌, inl, inr}
use Rattle.base.specs.Tests.{◌and◌, ◌or◌, ◌=?◌, pick}
use Rattle.base.proofs.TestLaws.{not_both, eq_yes, eq_no, eq_holds, eq_fails, lt_no, and_holds, not_holds, Known, holds, fails, known}
use Rattle.base.specs.Lists.{filter}
use Rattle.base.proofs.Members.{filter_from, any_yes, any_no}
use Rattle.base.specs.Sets.{in_set, inside, union}
use Rattle.base.proofs.SetLaws.{in_union, in_with_member, inside_member}
use Rattle.format.specs.Types.{Primary, Mark, State}
use Rattle.replication.specs.Machine.Types.{cleared_mark}
use Rattle.replication.specs.Machine.Exchange.{later, latest, taken_primary, is_marked, same_attempt_of, rule_a, rule_b, alike, join_bits, joined_bits, rule_c, kept_mark, judged_mark, mark_left, own_mark, quorum}

-- The marks are of one attempt: both set, alike in index, attempt and set.
pub record Alike (m o : Mark) : Type 0 where
  pub status : o.status ≡ 1
  pub index : o.index ≡ m.index
  pub attempt : o.attempt ≡ m.attempt
  pub set : o.set ≡ m.set

-- ---- the taken primary

latest_from : (p : Primary) (xs : List State) → (latest p xs ≡ p) ⊎ ((x : State) × Memᴰ x xs × (latest p xs ≡ x.last))
unfolding latest pick
latest_from p [] = inl refl
latest_from p (x ∷ xs) = go (known (later p x.last)) (latest_from (pick (later p x.last) x.last p) xs)
  where
    picked : Primary
    picked = pick (later p x.last) x.last p

    From : Type 0
    From = (latest picked xs ≡ p) ⊎ ((y : State) × Memᴰ y (x ∷ xs) × (latest picked xs ≡ y.last))

    go : Known (later p x.last) → (latest picked xs ≡ picked) ⊎ ((y : State) × Memᴰ y xs × (latest picked xs ≡ y.last)) → From
    go h (inr r) = inr (r.0, Memᴰ.tail r.1, r.2)
    go (holds h) (inl e) = inr (x, Memᴰ.head refl, e ∙ ap (λ t. pick t x.last p) h)
    go (fails h) (inl e) = inl (e ∙ ap (λ t. pick t x.last p) h)

-- The taken primary is the last primary of one of the States.
pub taken_from_lem : (v : State) (xs : List State) → Memᴰ v xs → (x : State) × Memᴰ x xs × (taken_primary xs ≡ x.last)
unfolding taken_primary
taken_from_lem v [] m = absurd (Memᴰ.not-nil m)
taken_from_lem v (x ∷ xs) m = go (latest_from x.last xs)
  where
    go : (latest x.last xs ≡ x.last) ⊎ ((y : State) × Memᴰ y xs × (latest x.last xs ≡ y.last))
        → (y : State) × Memᴰ y (x ∷ xs) × (latest x.last xs ≡ y.last)
    go (inl e) = (x, Memᴰ.head refl, e)
    go (inr r) = (r.0, Memᴰ.tail r.1, r.2)

-- ---- the own mark

-- The own mark is judged on the own State.
pub own_mark_lem : (me : ℕ) (xs ys : List State) (v : State) → Memᴰ v ys → v.sender ≡ me → ((x : State) → Memᴰ x ys → x.sender ≡ me → x ≡ v)
    → own_mark me xs ys ≡ judged_mark xs v
unfolding own_mark pick
own_mark_lem me xs [] v m s f = absurd (Memᴰ.not-nil m)
own_mark_lem me xs (y ∷ ys) v m s f = go (known (y.sender =? me)) m (λ k. own_mark_lem me xs ys v k s (λ x i. f x (Memᴰ.tail i)))
  where
    go : Known (y.sender =? me) → Memᴰ v (y ∷ ys) → (Memᴰ v ys → own_mark me xs ys ≡ judged_mark xs v)
        → pick (y.sender =? me) (judged_mark xs y) (own_mark me xs ys) ≡ judged_mark xs v
    go (holds h) k rest = rw h (ap (judged_mark xs) (f y (Memᴰ.head refl) (eq_holds _ _ h)))
    go (fails h) (Memᴰ.head e) rest = absurd (eq_fails _ _ h (ap (λ x. x.sender) (sym e) ∙ s))
    go (fails h) (Memᴰ.tail k) rest = rw h (rest k)

-- ---- a mark judged

pub data Judged (xs : List State) (v : State) : Type 0 where
  cleared : judged_mark xs v ≡ cleared_mark → Judged xs v
  kept : v.mark.status ≡ 1 → judged_mark xs v ≡ kept_mark xs v → Judged xs v

pub judged? : (xs : List State) (v : State) → Judged xs v
unfolding judged_mark pick is_marked
judged? xs v = go (known (is_marked v and not (rule_a (taken_primary xs) v) and not (rule_b xs v) and not (rule_c xs v)))
  where
    go : Known (is_marked v and not (rule_a (taken_primary xs) v) and not (rule_b xs v) and not (rule_c xs v)) → Judged xs v
    go (holds h) = kept (eq_holds _ _ (and_holds _ _ h).0) (rw h)
    go (fails h) = cleared (rw h)

pub mark_kept : (xs : List State) (v : State) → v.mark.status ≡ 1 → rule_a (taken_primary xs) v ≡ false → rule_b xs v ≡ false → rule_c xs v ≡ false
    → judged_mark xs v ≡ kept_mark xs v
unfolding judged_mark pick is_marked ◌and◌
mark_kept xs v h a b c = rw (eq_yes _ _ h, a, b, c)

alike_holds : (v x : State) → alike v x ≡ true → Alike v.mark x.mark
unfolding alike is_marked same_attempt_of
alike_holds v x h =
    let a = and_holds _ _ h in
    let b = and_holds _ _ a.1 in
    let c = and_holds _ _ b.0 in
    record { status = eq_holds _ _ a.0; index = eq_holds _ _ c.0; attempt = eq_holds _ _ c.1; set = eq_holds _ _ b.1 }

joins_without : (j : ℕ) (xs : List State) (bits : ℕ) → in_set j bits ≡ false
    → ((x : State) → Memᴰ x xs → (in_set j x.mark.bits ≡ false) × (j ≡ x.sender → ⊥)) → in_set j (join_bits xs bits) ≡ false
unfolding join_bits ◌or◌
joins_without j [] bits h f = h
joins_without j (x ∷ xs) bits h f =
    let k = f x (Memᴰ.head refl) in
    joins_without j xs _ (rw (in_with_member j x.sender (union bits x.mark.bits), in_union j bits x.mark.bits, h, k.0, eq_no _ _ k.1))
    (λ y m. f y (Memᴰ.tail m))

module _ (xs : List State) (v : State) where
  pub rule_a_no : (taken_primary xs).index ≤ v.mark.index → rule_a (taken_primary xs) v ≡ false
  unfolding rule_a ◌and◌
  rule_a_no h = rw (lt_no _ _ h)

  pub rule_b_no : ((x : State) → Memᴰ x xs → in_set x.sender v.mark.set ≡ true
      → (x.mark.status ≡ 1) × (x.mark.index ≡ v.mark.index) × (x.mark.attempt ≡ v.mark.attempt))
      → rule_b xs v ≡ false
  unfolding rule_b ◌and◌ ◌or◌ is_marked same_attempt_of
  rule_b_no f = any_no _ xs (λ x m. go x (f x m) (known (in_set x.sender v.mark.set)))
    where
      go : (x : State)
          → (in_set x.sender v.mark.set ≡ true → (x.mark.status ≡ 1) × (x.mark.index ≡ v.mark.index) × (x.mark.attempt ≡ v.mark.attempt))
          → Known (in_set x.sender v.mark.set)
          → (in_set x.sender v.mark.set and (not (is_marked x) or not (same_attempt_of v.mark x.mark))) ≡ false
      go x g (holds h) = let k = g h in rw (h, eq_yes _ _ k.0, eq_yes _ _ k.1, eq_yes _ _ k.2)
      go x g (fails h) = rw h

  pub joined_without : (j : ℕ) → in_set j v.mark.bits ≡ false
      → ((x : State) → Memᴰ x xs → Alike v.mark x.mark → (in_set j x.mark.bits ≡ false) × (j ≡ x.sender → ⊥))
      → in_set j (joined_bits xs v) ≡ false
  unfolding joined_bits
  joined_without j h f =
      joins_without j (filter (alike v) xs) v.mark.bits h
      (λ x m. let k = filter_from (alike v) x xs m in f x k.0 (alike_holds v x k.1))

  pub rule_c_no : (j : ℕ) → in_set j v.mark.set ≡ true → in_set j (joined_bits xs v) ≡ false → rule_c xs v ≡ false
  unfolding rule_c
  rule_c_no j s h = go (known (inside v.mark.set (joined_bits xs v)))
    where
      go : Known (inside v.mark.set (joined_bits xs v)) → inside v.mark.set (joined_bits xs v) ≡ false
      go (holds e) = not_both (sym h ∙ inside_member _ _ j e s)
      go (fails e) = e

-- ---- the quorum

pub no_quorum : (xs : List State) (here : ℕ) (v : State) → Memᴰ v xs → (judged_mark xs v).status ≡ 1 → quorum xs here ≡ true → ⊥
unfolding quorum mark_left
no_quorum xs here v m h k = not_both (sym (not_holds _ (and_holds _ _ k).0) ∙ any_yes _ v xs m (eq_yes _ _ h))
