-- Lists of ids in which each creator's stand in the order of their indexes, without gaps.
use Prim.Native.Nat.{ℕ, ◌+◌, ◌≤◌, ◌<◌}
use mathlib.Core.Path.{◌≡◌, refl, sym, ap, subst}
use mathlib.Core.List.{List, [], ◌∷◌, ◌++◌, Memᴰ}
use native.Mathlib.Omega.{arith}
use native.Mathlib.Decide.{ℕ_discrete, dec_le}
use Rattle.base.specs.Tests.{◌=?◌}
use Rattle.base.proofs.TestLaws.{eq_yes, eq_holds, Known, holds, fails, known}
use Rattle.base.specs.Lists.{Begins, Each}
use Rattle.base.specs.Counts.{one, count}
use Rattle.base.proofs.CountLaws.{one_yes, one_no}
use Rattle.format.specs.Types.{Id}

-- How many ids of the list are of the creator c.
abbrev pub created_by : ℕ → List Id → ℕ
created_by c x = count (λ d. d.creator =? c) x

-- Each id in turn is its creator's next, above the cuts f.
abbrev pub Follows : (ℕ → ℕ) → List Id → Type 0
Follows f [] = Unit {0}
Follows f (d ∷ x) = (d.index ≡ f d.creator + 1) × Follows (λ c. f c + one (d.creator =? c)) x

-- Each creator's ids stand 1, 2, 3 .. in order.
abbrev pub Fifo : List Id → Type 0
Fifo x = Follows (λ c. 0) x

-- The id of d's creator with the index j.
abbrev pub with_index : Id → ℕ → Id
with_index d j = record { creator = d.creator; index = j }

-- ---- the cuts

pub follows_same : (f g : ℕ → ℕ) (x : List Id) → ((c : ℕ) → f c ≡ g c) → Follows f x → Follows g x
follows_same f g x e h = subst (λ k. Follows k x) (λ i c. e c i) h

-- Cuts that agree on the creators below n.
pub follows_below : (n : ℕ) (f g : ℕ → ℕ) (x : List Id) → ((c : ℕ) → c < n → f c ≡ g c) → Each (λ d. d.creator < n) x → Follows f x → Follows g x
follows_below n f g [] e b h = tt
follows_below n f g (d ∷ x) e b h = (
  omega (arith, h.0, e d.creator b.0),
  follows_below n (λ c. f c + one (d.creator =? c)) (λ c. g c + one (d.creator =? c)) x (λ c l. ap (λ k. k + one (d.creator =? c)) (e c l)) b.1 h.1,
)

-- ---- one list behind another

pub follows_append : (f : ℕ → ℕ) (x y : List Id) → Follows f x → Follows (λ c. f c + created_by c x) y → Follows f (x ++ y)
unfolding count
follows_append f [] y h k = follows_same _ f y (λ c. omega arith) k
follows_append f (d ∷ x) y h k = (h.0, follows_append (λ c. f c + one (d.creator =? c)) x y h.1 (follows_same _ _ y (λ c. omega arith) k))

pub follows_first : (f : ℕ → ℕ) (x y : List Id) → Follows f (x ++ y) → Follows f x
follows_first f [] y h = tt
follows_first f (d ∷ x) y h = (h.0, follows_first (λ c. f c + one (d.creator =? c)) x y h.1)

pub follows_second : (f : ℕ → ℕ) (x y : List Id) → Follows f (x ++ y) → Follows (λ c. f c + created_by c x) y
unfolding count
follows_second f [] y h = follows_same f _ y (λ c. omega arith) h
follows_second f (d ∷ x) y h = follows_same _ _ y (λ c. omega arith) (follows_second (λ c. f c + one (d.creator =? c)) x y h.1)

pub begins_fifo : (x y : List Id) → Begins x y → Fifo y → Fifo x
unfolding Begins
begins_fifo x y b h = follows_first (λ c. 0) x b.0 (subst Fifo b.1 h)

-- ---- which ids are there

self : (c : ℕ) → one (c =? c) ≡ 1
self c = one_yes _ (eq_yes c c refl)

pub follows_within : (f : ℕ → ℕ) (x : List Id) (d : Id) → Follows f x → Memᴰ d x
    → (f d.creator < d.index) × (d.index ≤ f d.creator + created_by d.creator x)
unfolding count
follows_within f [] d h x3 = elim x3 [ ]
follows_within f (e ∷ x) d h (Memᴰ.head p) =
    subst (λ z. (f z.creator < z.index) × (z.index ≤ f z.creator + created_by z.creator (e ∷ x))) (sym p)
    (omega (arith, h.0), omega (arith, h.0, self e.creator))
follows_within f (e ∷ x) d h (Memᴰ.tail m) = let k = follows_within (λ c. f c + one (e.creator =? c)) x d h.1 m in (omega (arith, k.0), omega (arith, k.1))

pub follows_has : (f : ℕ → ℕ) (x : List Id) → Follows f x → (c i : ℕ) → f c < i → i ≤ f c + created_by c x → Memᴰ (record { creator = c; index = i }) x
unfolding count
follows_has f [] h c i low high = absurd (omega arith)
follows_has f (d ∷ x) h c i low high = go (known (d.creator =? c)) (ℕ_discrete i (f c + 1)) (λ l m. follows_has (λ c. f c + one (d.creator =? c)) x h.1 c i l m)
  where
    go : Known (d.creator =? c) → Dec (i ≡ f c + 1)
        → (f c + one (d.creator =? c) < i → i ≤ f c + one (d.creator =? c) + created_by c x → Memᴰ (record { creator = c; index = i }) x)
        → Memᴰ (record { creator = c; index = i }) (d ∷ x)
    go (holds e) (yes p) more =
        let k : c ≡ d.creator = sym (eq_holds _ _ e) in
        let n : i ≡ d.index = omega (arith, h.0, ap f k) in
        Memᴰ.head (λ j. record { creator = k j; index = n j })
    go (holds e) (no p) more = Memᴰ.tail (more (omega (arith, one_yes _ e)) (omega arith))
    go (fails e) p more = Memᴰ.tail (more (omega (arith, one_no _ e)) (omega arith))

-- ---- lists that are in order from the first index on

pub fifo_within : (x : List Id) (d : Id) → Fifo x → Memᴰ d x → (1 ≤ d.index) × (d.index ≤ created_by d.creator x)
fifo_within x d h m = let k = follows_within (λ c. 0) x d h m in (k.0, omega (arith, k.1))

pub fifo_has : (x : List Id) → Fifo x → (c i : ℕ) → 1 ≤ i → i ≤ created_by c x → Memᴰ (record { creator = c; index = i }) x
fifo_has x h c i low high = follows_has (λ z. 0) x h c i low (omega arith)

-- With an id each lower one of its creator is there.
pub fifo_lower : (x : List Id) (d : Id) → Fifo x → Memᴰ d x → (j : ℕ) → 1 ≤ j → j ≤ d.index → Memᴰ (with_index d j) x
fifo_lower x d h m j low high = fifo_has x h d.creator j low (omega (arith, (fifo_within x d h m).1))

-- .. and stands before it.
pub fifo_before : (x : List Id) (d : Id) (y : List Id) → Fifo (x ++ (d ∷ y)) → (j : ℕ) → 1 ≤ j → j < d.index → Memᴰ (with_index d j) x
fifo_before x d y h j low high =
    fifo_has x (follows_first (λ c. 0) x (d ∷ y) h) d.creator j low (omega (arith, (follows_second (λ c. 0) x (d ∷ y) h).0))

-- A new id whose creator's lower ones are all there.
pub fifo_next : (x : List Id) (d : Id) → Fifo x → (Memᴰ d x → ⊥) → 1 ≤ d.index
    → ((j : ℕ) → 1 ≤ j → j < d.index → Memᴰ (with_index d j) x) → Fifo (x ++ (d ∷ []))
fifo_next x d h new low f = follows_append (λ c. 0) x (d ∷ []) h (go (dec_le d.index k) (dec_le d.index (k + 1)), tt)
  where
    k : ℕ
    k = created_by d.creator x

    go : Dec (d.index ≤ k) → Dec (d.index ≤ k + 1) → d.index ≡ 0 + k + 1
    go (yes l) m = absurd (new (fifo_has x h d.creator d.index low l))
    go (no l) (yes m) = omega arith
    go (no l) (no m) = absurd (omega (arith, (fifo_within x (with_index d (k + 1)) h (f (k + 1) (omega arith) (omega arith))).1))
