-- A turn of each loop over a list in bytes takes one entry off the front of what is left.
use Prim.Native.Nat.{ℕ, zero, suc, ◌+◌, ◌*◌, ◌-◌, ◌^◌, ◌≤◌, ◌<◌}
use mathlib.Core.Path.{◌≡◌, refl, sym, ap, subst, ◌∙◌}
use mathlib.Core.Bool.{Bool, true, false, not, ◌&&◌}
use mathlib.Core.List.{List, [], ◌∷◌, ◌++◌}
use native.Mathlib.Nat.{mul-le-mul_left, mul-suc}
use native.Mathlib.Numerals.{add-one}
use native.Mathlib.Omega.{arith}
use Rattle.std.specs.Prelude.{Option, Some, None}
use lib.Dec.{eqb}
use lib.ListN.{length, get_or, set, length-set}
use borrow.Author.Tests.{not-true, not-false}
use mir.Syntax.{w64}
use mir.Val.{Fits}
use Rattle.format.specs.Places.{id_size}
use Rattle.base.specs.Tests.{◌and◌, ◌or◌}
use Rattle.base.proofs.TestLaws.{not_both, pick_yes, pick_no, and_yes, and_no, both_yes, Known, known, holds, fails}
use Rattle.base.proofs.Branches.{or_yes, or_no, or_false, or_assoc, told_eq}
use Rattle.format.specs.Types.{Id, Context as FormatContext}
use Rattle.format.specs.Range.{id_ok, same_id, has_id, ids_ok}
use Rattle.format.specs.Read.{id_at, ids_at}
use Rattle.format.proofs.Ranges.{id_range}
use Rattle.record.specs.declared.Context.{Context}
use Rattle.record.specs.Context.{context_of, ContextIn}
use Rattle.record.specs.declared.ActionId.{ActionId}
use Rattle.record.specs.Events.{id_in}
use Rattle.record.specs.Values.{id_of, the_id, slot, table_place, ids_by, IdsInside, HasPlaces, Marked, Met}
use Rattle.record.proofs.OnePass.{Small, pass, slot_below, pass_starts, unmarked_new, marked_last, marked_set}

-- the ids

ids_more : (w m : ℕ) (e : List ℕ) (at : ℕ) → 0 < m → ids_by w m e at ≡ id_at e at ∷ ids_by w (m - 1) e (at + w)
unfolding ids_by
ids_more w zero e at h = absurd (omega arith)
ids_more w (suc m) e at h = let a : suc m - 1 ≡ m = omega arith in rw a

ids_none : (w m : ℕ) (e : List ℕ) (at : ℕ) → m ≤ 0 → ids_by w m e at ≡ []
unfolding ids_by
ids_none w zero e at h = refl
ids_none w (suc m) e at h = absurd (omega arith)

-- Ids next after one another.
pub ids_by_id : (m : ℕ) (e : List ℕ) (at : ℕ) → ids_by id_size m e at ≡ ids_at m e at
unfolding ids_by ids_at
ids_by_id zero e at = refl
ids_by_id (suc m) e at = ap (λ (l : List Id). id_at e at ∷ l) (ids_by_id m e (at + id_size))

pub ids_each : (c : FormatContext) (e : List ℕ) (at m : ℕ) (r : Bool) → r ≡ ids_ok c (ids_by id_size m e at) → r ≡ ids_ok c (ids_at m e at)
ids_each c e at m r h = h ∙ ap (ids_ok c) (ids_by_id m e at)

-- A context in range is small.
pub small : (c : Context) → ContextIn c → Small (context_of c)
unfolding context_of
small c h = record { servers = h.most }

-- The place of an id in range, and none of any other.

pub placed_out : (c : FormatContext) (x : Id) → table_place c x ≡ None → id_ok c x ≡ false
unfolding table_place
placed_out c x e = go (known (id_ok c x))
  where
    go : Known (id_ok c x) → id_ok c x ≡ false
    go (fails f) = f
    go (holds f) =
        let clash : Some (slot x) ≡ None = pick_yes (id_ok c x) _ (Some (slot x)) None f refl ∙ e in
        let z : ◌≡◌ {A = ℕ} 0 1 = cc in
        absurd (omega arith)

pub placed_in : (c : FormatContext) (x : Id) (p : ℕ) → table_place c x ≡ Some p → (id_ok c x ≡ true) × (p ≡ slot x)
unfolding table_place
placed_in c x p e = go (known (id_ok c x))
  where
    go : Known (id_ok c x) → (id_ok c x ≡ true) × (p ≡ slot x)
    go (holds f) =
        let same : Some (slot x) ≡ Some p = pick_yes (id_ok c x) _ (Some (slot x)) None f refl ∙ e in
        let z : p ≡ slot x = cc in
        (f, z)
    go (fails f) =
        let clash : None ≡ Some p = pick_no (id_ok c x) _ (Some (slot x)) None f refl ∙ e in
        let z : ◌≡◌ {A = ℕ} 0 1 = cc in
        absurd (omega arith)

-- ---- whether an id is among others

or_last : (t u : Bool) → u ≡ true → (t or u) ≡ true
unfolding ◌or◌
or_last true u h = refl
or_last false u h = h

has_more : (d x : Id) (xs : List Id) → has_id d (xs ++ (x ∷ [])) ≡ (has_id d xs or same_id d x)
unfolding has_id ◌or◌
has_more d x [] = or_false (same_id d x)
has_more d x (y ∷ ys) = ap (λ (u : Bool). same_id d y or u) (has_more d x ys) ∙ or_assoc (same_id d y) (has_id d ys) (same_id d x)

and_grouped : (t u v : Bool) → (t and u and v) ≡ ((t and u) and v)
unfolding ◌and◌
and_grouped true u v = refl
and_grouped false u v = refl

-- ---- one id against those before it: x is what was read of it, and p its place, if any

module _ (c : Context) (bs : List Id) (x : ActionId) (e : List ℕ) (at : ℕ) (t : List ℕ) (r : x ≡ id_in e at) where
  read_as : (F : Id → Bool) → F (the_id x) ≡ F (id_at e at)
  unfolding id_of id_at
  read_as F = ap (λ (y : ActionId). F (the_id y)) r

  pub met_out : (o : Option ℕ) → o ≡ table_place (context_of c) (the_id x) → o ≡ None → Met (context_of c) bs (id_at e at) false t t
  met_out o f g = record {
    answer = and_no (id_ok (context_of c) (id_at e at)) _ (sym (read_as (id_ok (context_of c))) ∙ placed_out (context_of c) (the_id x) (sym f ∙ g));
    marked = λ h. not_both h;
    size = refl;
  }

  module _ (o : Option ℕ) (p : ℕ) (f : o ≡ table_place (context_of c) (the_id x)) (g : o ≡ Some p) where
    place : (id_ok (context_of c) (the_id x) ≡ true) × (p ≡ slot (the_id x))
    place = placed_in (context_of c) (the_id x) p (sym f ∙ g)

    in_range : id_ok (context_of c) (id_at e at) ≡ true
    in_range = sym (read_as (id_ok (context_of c))) ∙ place.0

    slot_is : p ≡ slot (id_at e at)
    unfolding id_of id_at
    slot_is = place.1 ∙ ap (λ (y : ActionId). slot (the_id y)) r

    pub place_there : HasPlaces c.servers t → p < length t
    unfolding context_of
    place_there l = omega (arith, place.1, slot_below (context_of c) (the_id x) (id_range (context_of c) (the_id x) place.0), l)

    pub met_first : HasPlaces c.servers t → Marked t bs → get_or t p 0 ≤ 0 → Met (context_of c) bs (id_at e at) true t (set t p 1)
    met_first l m n =
        let none : get_or t p 0 ≡ 0 = omega (arith, n) in
        let new : has_id (id_at e at) bs ≡ false = unmarked_new t (id_at e at) bs m (ap (λ (i : ℕ). get_or t i 0) (sym slot_is) ∙ none) in
        record {
          answer = sym (both_yes _ _ in_range (ap not new));
          marked = λ _. marked_set t p 1 (id_at e at) bs slot_is (place_there l) (omega arith) m;
          size = length-set t p 1;
        }

    pub met_again : (u : Bool) → Marked t bs → 0 < get_or t p 0 → u ≡ has_id (the_id x) bs → Met (context_of c) bs (id_at e at) (not u) t t
    met_again u m n j =
        record {
          answer = and_yes _ _ _ in_range (ap not (j ∙ read_as (λ d. has_id d bs)));
          marked = λ _. marked_last t (id_at e at) bs (omega (arith, n, ap (λ (k : ℕ). get_or t k 0) slot_is)) m;
          size = refl;
        }

-- ---- the pass: k of m ids were met, from `at` on, and the next is at `here`

ids_next : (w k : ℕ) (e : List ℕ) (at : ℕ) → ids_by w (suc k) e at ≡ ids_by w k e at ++ (id_at e (at + w * k) ∷ [])
unfolding ids_by
ids_next w zero e at = let z : at ≡ at + w * 0 = omega arith in ap (λ (p : ℕ). id_at e p ∷ []) z
ids_next w (suc k) e at =
    let z : at + w + w * k ≡ at + w * suc k = omega (arith, mul-suc w k) in
    ap (λ (l : List Id). id_at e at ∷ l) (ids_next w k e (at + w) ∙ ap (λ (p : ℕ). ids_by w k e (at + w) ++ (id_at e p ∷ [])) z)

pub ids_last : (w k : ℕ) (e : List ℕ) (at : ℕ) → ids_by w (k + 1) e at ≡ ids_by w k e at ++ (id_at e (at + w * k) ∷ [])
ids_last w k e at = ap (λ (m : ℕ). ids_by w m e at) (add-one k) ∙ ids_next w k e at

-- What is among the first k is among them all.
has_longer : (d : Id) (w k m : ℕ) (e : List ℕ) (at : ℕ) → k ≤ m → has_id d (ids_by w k e at) ≡ true → has_id d (ids_by w m e at) ≡ true
unfolding has_id ids_by
has_longer d w zero m e at h f = not_both f
has_longer d w (suc k) zero e at h f = absurd (omega arith)
has_longer d w (suc k) (suc m) e at h f = go (known (same_id d (id_at e at))) (has_longer d w k m e (at + w) (omega arith))
  where
    go : Known (same_id d (id_at e at)) → (has_id d (ids_by w k e (at + w)) ≡ true → has_id d (ids_by w m e (at + w)) ≡ true)
        → (same_id d (id_at e at) or has_id d (ids_by w m e (at + w))) ≡ true
    go (holds g) i = sym (or_yes _ _ g)
    go (fails g) i = or_last _ _ (i (or_no _ _ _ g refl ∙ f))

-- What a list of ids begins with, and where the one behind k others lies.
module _ (w m : ℕ) (e : List ℕ) (at : ℕ) (i : IdsInside w m e at) (k : ℕ) (h : k < m) where
  pub here_inside : at + w * k + id_size ≤ length e
  here_inside = omega (arith, i.wide, i.inside, mul-le-mul_left w h, mul-suc w k)

  pub before_inside : IdsInside w k e at
  before_inside = record { wide = i.wide; inside = omega (arith, i.inside, mul-le-mul_left w h, mul-suc w k) }

  pub far_fits : length e < 2 ^ 64 → Fits w64 (w * k)
  far_fits l = record { fits = omega (arith, here_inside) }

  pub here_fits : length e < 2 ^ 64 → Fits w64 (at + w * k)
  here_fits l = record { fits = omega (arith, here_inside) }

-- The others behind the first.
pub next_inside : (w m : ℕ) (e : List ℕ) (at : ℕ) → IdsInside w m e at → 0 < m → IdsInside w (m - 1) e (at + w)
next_inside w m e at h l =
    let a : m ≡ suc (m - 1) = omega arith in
    let b : w * m ≡ w * (m - 1) + w = ap (λ (i : ℕ). w * i) a ∙ mul-suc w (m - 1) in
    record { wide = h.wide; inside = omega (arith, h.inside) }

-- None of the first k, and so on.
module _ (d : Id) (w k : ℕ) (e : List ℕ) (at : ℕ) where
  pub among_again : (r : Bool) → has_id d (ids_by w k e at) ≡ false → r ≡ same_id d (id_at e (at + w * k)) → r ≡ false → has_id d (ids_by w (k + 1) e at) ≡ false
  among_again r h f g = ap (has_id d) (ids_last w k e at) ∙ has_more d _ _ ∙ sym (or_no false _ _ h (sym g ∙ f))

  pub among_here : (m : ℕ) (r : Bool) → k < m → r ≡ same_id d (id_at e (at + w * k)) → r ≡ true → true ≡ has_id d (ids_by w m e at)
  among_here m r h f g =
      let found : has_id d (ids_by w (k + 1) e at) ≡ true = ap (has_id d) (ids_last w k e at) ∙ has_more d _ _ ∙ or_last _ _ (sym f ∙ g) in
      sym (has_longer d w (k + 1) m e at (omega arith) found)

-- The ids that are left behind the first k.
left_more : (w m : ℕ) (e : List ℕ) (at k : ℕ) → k < m → ids_by w (m - k) e (at + w * k) ≡ id_at e (at + w * k) ∷ ids_by w (m - (k + 1)) e (at + w * (k + 1))
left_more w m e at k h =
    let z : m - k - 1 ≡ m - (k + 1) = omega arith in
    let y : at + w * k + w ≡ at + w * (k + 1) = omega (arith, mul-suc w k) in
    ids_more w (m - k) e (at + w * k) (omega arith) ∙ (λ i. id_at e (at + w * k) ∷ ids_by w (z i) e (y i))

module _ (c : FormatContext) (w m : ℕ) (e : List ℕ) (at k : ℕ) (t : List ℕ) (r : Bool) (u : List ℕ) (j : Met c (ids_by w k e at) (id_at e (at + w * k)) r t u) where
  pub marked_again : not r ≡ false → Marked u (ids_by w (k + 1) e at)
  marked_again f = subst (Marked u) (sym (ids_last w k e at)) (j.marked (not-false r f))

  pub size_again : (n : ℕ) → length t ≡ n → length u ≡ n
  size_again n h = j.size ∙ h

  pub pass_denied : (v : Bool) → k < m → not r ≡ true → v ≡ pass c (ids_by w k e at) (ids_by w (m - k) e (at + w * k)) → false ≡ v
  unfolding pass
  pass_denied v h f g =
      let d : Id = id_at e (at + w * k) in
      sym (g ∙ ap (pass c (ids_by w k e at)) (left_more w m e at k h)
      ∙ and_grouped (id_ok c d) (not (has_id d (ids_by w k e at))) _
      ∙ sym (and_no _ _ (sym j.answer ∙ not-true r f)))

  pub pass_again : (v : Bool) → k < m → not r ≡ false → v ≡ pass c (ids_by w k e at) (ids_by w (m - k) e (at + w * k))
      → v ≡ pass c (ids_by w (k + 1) e at) (ids_by w (m - (k + 1)) e (at + w * (k + 1)))
  unfolding pass
  pass_again v h f g =
      let d : Id = id_at e (at + w * k) in
      g ∙ ap (pass c (ids_by w k e at)) (left_more w m e at k h)
      ∙ and_grouped (id_ok c d) (not (has_id d (ids_by w k e at))) _
      ∙ sym (and_yes _ _ _ (sym j.answer ∙ not-false r f) refl)
      ∙ ap (λ (l : List Id). pass c l (ids_by w (m - (k + 1)) e (at + w * (k + 1)))) (sym (ids_last w k e at))

pub pass_end : (c : FormatContext) (w m : ℕ) (e : List ℕ) (at k : ℕ) (v : Bool) → m ≤ k → v ≡ pass c (ids_by w k e at) (ids_by w (m - k) e (at + w * k)) → true ≡ v
unfolding pass
pass_end c w m e at k v h g = sym (g ∙ ap (pass c (ids_by w k e at)) (ids_none w (m - k) e (at + w * k) (omega arith)))

pub pass_start : (c : FormatContext) (w m : ℕ) (e : List ℕ) (at : ℕ) → ids_ok c (ids_by w m e at) ≡ pass c (ids_by w 0 e at) (ids_by w (m - 0) e (at + w * 0))
unfolding ids_by
pass_start c w m e at =
    let z : m ≡ m - 0 = omega arith in
    let y : at ≡ at + w * 0 = omega arith in
    pass_starts c (ids_by w m e at) ∙ (λ i. pass c [] (ids_by w (z i) e (y i)))

-- ---- an id compared with the one at a place

both_told : (a b : Bool) → (a && b) ≡ (a and b)
unfolding ◌and◌
both_told true b = refl
both_told false b = refl

pub same_read : (d x : ActionId) (e : List ℕ) (at : ℕ) (r : Bool) → x ≡ id_in e at → r ≡ (eqb d.creator x.creator && eqb d.index x.index)
    → r ≡ same_id (the_id d) (id_at e at)
unfolding same_id id_of id_at
same_read d x e at r f g =
    g ∙ both_told (eqb d.creator x.creator) (eqb d.index x.index) ∙ (λ i. told_eq d.creator x.creator i and told_eq d.index x.index i)
    ∙ ap (λ (y : ActionId). same_id (the_id d) (the_id y)) f
