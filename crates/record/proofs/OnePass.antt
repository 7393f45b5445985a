-- One pass decides whether ids differ, each against those before it. A table of the ids that were met spares the comparison: an empty place says that
-- the id is new. What a full place says has to be looked at.
use Prim.Native.Nat.{ℕ, ◌*◌, ◌≤◌, ◌<◌}
use mathlib.Core.Path.{◌≡◌, refl, sym, ap, ◌∙◌}
use mathlib.Core.Bool.{Bool, true, false, not}
use mathlib.Core.List.{List, [], ◌∷◌, ◌++◌}
use native.Mathlib.Decide.{ℕ_discrete}
use native.Mathlib.Omega.{arith}
use lib.ListN.{length, get_or, set}
use lib.Seq.{get_or-set_same, get_or-set_other}
use Rattle.format.specs.Limits.{most_servers_limit, most_quota_limit, most_ids}
use Rattle.base.specs.Tests.{◌=?◌, ◌and◌, ◌or◌}
use Rattle.base.proofs.TestLaws.{and_holds, eq_holds, eq_yes, eq_no, Known, known, holds, fails}
use Rattle.format.specs.Types.{Id, Context}
use Rattle.format.specs.Range.{id_ok, same_id, has_id, ids_differ, ids_in_range, ids_ok}
use Rattle.format.proofs.Ranges.{IdRange}
use Rattle.record.specs.Values.{slot, Marked}

-- ---- places

-- The context's numbers that a place rests on.
pub record Small (c : Context) : Type 0 where
  pub servers : c.servers ≤ most_servers_limit

-- A table of n times most_quota_limit places has one for each id in range.
pub slot_below : (c : Context) (x : Id) → IdRange c x → slot x < c.servers * most_quota_limit
unfolding slot
slot_below c x h = omega arith

pub slot_lt : (c : Context) (x : Id) → Small c → IdRange c x → slot x < most_ids
slot_lt c x s h = omega (arith, slot_below c x h)

-- The same id has the same place.
pub same_slot : (x y : Id) → same_id x y ≡ true → slot y ≡ slot x
unfolding same_id slot
same_slot x y h =
    let a = and_holds (x.creator =? y.creator) (x.index =? y.index) h in
    let d : x.creator ≡ y.creator = eq_holds _ _ a.0 in
    let i : x.index ≡ y.index = eq_holds _ _ a.1 in
    rw (d, i)

-- ---- the pass

-- The pass over the ids that are left, behind those before them.
unfoldable pub pass : Context → (before : List Id) → List Id → Bool
pass c bs [] = true
pass c bs (x ∷ xs) = id_ok c x and not (has_id x bs) and pass c (bs ++ (x ∷ [])) xs

unfoldable any_met : List Id → List Id → Bool
any_met bs [] = false
any_met bs (x ∷ xs) = has_id x bs or any_met bs xs

eq_turned : (m n : ℕ) → (m =? n) ≡ (n =? m)
eq_turned m n = go (ℕ_discrete m n)
  where
    go : Dec (m ≡ n) → (m =? n) ≡ (n =? m)
    go (yes e) = eq_yes m n e ∙ sym (eq_yes n m (sym e))
    go (no d) = eq_no m n d ∙ sym (eq_no n m (λ e. d (sym e)))

same_turned : (x y : Id) → same_id x y ≡ same_id y x
unfolding same_id
same_turned x y = λ i. eq_turned x.creator y.creator i and eq_turned x.index y.index i

swap : (b m a : Bool) → (b or m or a) ≡ (m or b or a)
unfolding ◌or◌
swap true true a = refl
swap true false a = refl
swap false true a = refl
swap false false a = refl

has_last : (y x : Id) (bs : List Id) → has_id y (bs ++ (x ∷ [])) ≡ (same_id x y or has_id y bs)
unfolding has_id
has_last y x [] = ap (λ (u : Bool). u or false) (same_turned y x)
has_last y x (b ∷ bs) = ap (λ (u : Bool). same_id y b or u) (has_last y x bs) ∙ swap (same_id y b) (same_id x y) (has_id y bs)

shuffle : (s h m a : Bool) → ((s or h) or m or a) ≡ ((s or m) or h or a)
unfolding ◌or◌
shuffle true h m a = refl
shuffle false true true a = refl
shuffle false true false a = refl
shuffle false false true a = refl
shuffle false false false a = refl

any_last : (x : Id) (bs ys : List Id) → any_met (bs ++ (x ∷ [])) ys ≡ (has_id x ys or any_met bs ys)
unfolding any_met has_id ◌or◌
any_last x bs [] = refl
any_last x bs (y ∷ ys) = (λ i. has_last y x bs i or any_last x bs ys i) ∙ shuffle (same_id x y) (has_id y bs) (has_id x ys) (any_met bs ys)

sort : (a m r u v d : Bool) → (a and not m and r and not (u or v) and d) ≡ ((a and r) and not (m or v) and not u and d)
unfolding ◌and◌ ◌or◌
sort false m r u v d = refl
sort true true true u v d = refl
sort true true false u v d = refl
sort true false false u v d = refl
sort true false true true true d = refl
sort true false true true false d = refl
sort true false true false v d = refl

-- The pass answers whether all are in range, none was before, and all differ.
pass_law : (c : Context) (bs xs : List Id) → pass c bs xs ≡ (ids_in_range c xs and not (any_met bs xs) and ids_differ xs)
unfolding pass any_met ids_in_range ids_differ ◌and◌
pass_law c bs [] = refl
pass_law c bs (x ∷ xs) =
    ap (λ (u : Bool). id_ok c x and not (has_id x bs) and u) (pass_law c (bs ++ (x ∷ [])) xs)
    ∙ ap (λ (u : Bool). id_ok c x and not (has_id x bs) and ids_in_range c xs and not u and ids_differ xs) (any_last x bs xs)
    ∙ sort (id_ok c x) (has_id x bs) (ids_in_range c xs) (has_id x xs) (any_met bs xs) (ids_differ xs)

none_before : (xs : List Id) → any_met [] xs ≡ false
unfolding any_met has_id ◌or◌
none_before [] = refl
none_before (x ∷ xs) = none_before xs

pub pass_starts : (c : Context) (xs : List Id) → ids_ok c xs ≡ pass c [] xs
unfolding ids_ok ◌and◌
pass_starts c xs = sym (pass_law c [] xs ∙ ap (λ (u : Bool). ids_in_range c xs and not u and ids_differ xs) (none_before xs))

-- ---- the table

-- An id whose place is 0 is none of those that set theirs.
pub unmarked_new : (t : List ℕ) (x : Id) (bs : List Id) → Marked t bs → get_or t (slot x) 0 ≡ 0 → has_id x bs ≡ false
unfolding has_id ◌or◌
unmarked_new t x [] m n = refl
unmarked_new t x (b ∷ bs) m n = go (known (same_id x b)) (unmarked_new t x bs m.1 n)
  where
    go : Known (same_id x b) → has_id x bs ≡ false → (same_id x b or has_id x bs) ≡ false
    go (holds e) i = absurd (omega (arith, m.0, ap (λ (p : ℕ). get_or t p 0) (same_slot x b e), n))
    go (fails e) i = rw e i

pub kept_set : (t : List ℕ) (p i v : ℕ) → p < length t → 0 < v → 0 < get_or t i 0 → 0 < get_or (set t p v) i 0
kept_set t p i v h w e = go (ℕ_discrete i p)
  where
    go : Dec (i ≡ p) → 0 < get_or (set t p v) i 0
    go (yes d) = omega (arith, ap (λ (j : ℕ). get_or (set t p v) j 0) d, get_or-set_same t p v 0 h)
    go (no d) = omega (arith, get_or-set_other t p i v 0 d)

pub marked_on : (t : List ℕ) (p v : ℕ) (bs : List Id) → p < length t → 0 < v → Marked t bs → Marked (set t p v) bs
marked_on t p v [] h w m = tt
marked_on t p v (b ∷ bs) h w m = (kept_set t p (slot b) v h w m.0, marked_on t p v bs h w m.1)

pub marked_last : (t : List ℕ) (x : Id) (bs : List Id) → 0 < get_or t (slot x) 0 → Marked t bs → Marked t (bs ++ (x ∷ []))
marked_last t x [] e m = (e, tt)
marked_last t x (b ∷ bs) e m = (m.0, marked_last t x bs e m.1)

pub marked_set : (t : List ℕ) (p v : ℕ) (x : Id) (bs : List Id) → p ≡ slot x → p < length t → 0 < v → Marked t bs → Marked (set t p v) (bs ++ (x ∷ []))
marked_set t p v x bs e h w m =
    let here : get_or (set t p v) (slot x) 0 ≡ v = ap (λ (i : ℕ). get_or (set t p v) i 0) (sym e) ∙ get_or-set_same t p v 0 h in
    marked_last (set t p v) x bs (omega (arith, here)) (marked_on t p v bs h w m)
