-- A list of ids followed by those of another that are not in it, in that one's order.
use Prim.Native.Nat.{◌≤◌}
use mathlib.Core.Path.{◌≡◌, refl, sym, ap, subst, ◌∙◌}
use mathlib.Core.Bool.{Bool, true, false, not}
use mathlib.Core.List.Memᴰ
use mathlib.Core.List.{List, [], ◌∷◌, ◌++◌, append-nil, append_assoc, Memᴰ}
use mathlib.Core.Logic.{◌⊎◌, inl, inr, ⊎_elim}
use native.Mathlib.Omega.{arith}
use Rattle.base.specs.Tests.{◌or◌, pick}
use Rattle.base.proofs.TestLaws.{not_both, Known, holds, fails, known}
use Rattle.base.specs.Lists.{filter, Begins}
use Rattle.base.specs.Counts.{count}
use Rattle.base.proofs.CountLaws.{one_yes}
use Rattle.base.proofs.Filters.{filter_same, filter_all}
use Rattle.base.proofs.Prefixes.{begins_refl, begins_append, begins_trans}
use Rattle.base.proofs.Comparable.{Comparable, begins_antisym, begins_member, beginnings_comparable, comparable_next, next_member}
use Rattle.format.specs.Types.{Id}
use Rattle.format.specs.Range.{same_id, has_id}
use Rattle.replication.specs.Machine.Colours.{add_id}
use Rattle.replication.specs.Machine.WellFormedRanges.{id_count}
use Rattle.replication.specs.Laws.Folds.{add_ids}
use Rattle.replication.proofs.Step.Yellows.{add_as, add_ids_joins}
use Rattle.replication.proofs.WellFormed.Ids.{same_id_yes, has_counted, has_member}

-- g followed by the ids of y that are not in it, each once, in y's order.
unfoldable pub plus : List Id → List Id → List Id
plus g y = add_ids y g

-- The ids of a list differ.
abbrev pub Once : List Id → Type 0
Once x = (d : Id) → id_count d x ≤ 1

-- ---- an id in a list

pub member_has : (d : Id) (x : List Id) → Memᴰ d x → has_id d x ≡ true
unfolding has_id ◌or◌
member_has d [] x'' = elim x'' [ ]
member_has d (e ∷ x) (Memᴰ.head p) = rw (same_id_yes d e (ap (λ y. y.creator) p) (ap (λ y. y.index) p))
member_has d (e ∷ x) (Memᴰ.tail m) = go (known (same_id d e)) (member_has d x m)
  where
    go : Known (same_id d e) → has_id d x ≡ true → has_id d (e ∷ x) ≡ true
    go (holds p) h = rw p
    go (fails p) h = rw p h

pub absent_has : (d : Id) (x : List Id) → (Memᴰ d x → ⊥) → has_id d x ≡ false
absent_has d x f = go (known (has_id d x))
  where
    go : Known (has_id d x) → has_id d x ≡ false
    go (holds e) = absurd (f (has_member d x e))
    go (fails e) = e

pub has_absent : (d : Id) (x : List Id) → has_id d x ≡ false → Memᴰ d x → ⊥
has_absent d x h m = not_both (sym h ∙ member_has d x m)

-- An id is in a list, or is not.
pub data Among (d : Id) (x : List Id) : Type 0 where
  within : Memᴰ d x → has_id d x ≡ true → Among d x
  outside : (Memᴰ d x → ⊥) → has_id d x ≡ false → Among d x

pub among? : (d : Id) (x : List Id) → Among d x
among? d x = go (known (has_id d x))
  where
    go : Known (has_id d x) → Among d x
    go (holds e) = within (has_member d x e) e
    go (fails e) = outside (has_absent d x e) e

-- ---- one id that joins

pub add_there : (d : Id) (g : List Id) → Memᴰ d g → add_id d g ≡ g
unfolding add_id pick
add_there d g m = rw (member_has d g m)

pub add_new_lem : (d : Id) (g : List Id) → (Memᴰ d g → ⊥) → add_id d g ≡ g ++ (d ∷ [])
unfolding add_id pick
add_new_lem d g f = rw (absent_has d g f)

pub add_begins : (d : Id) (g : List Id) → Begins g (add_id d g)
add_begins d g = add_as (Begins g) d g (λ h. begins_refl g) (λ h. begins_append g (d ∷ []))

pub add_has : (d : Id) (g : List Id) → Memᴰ d (add_id d g)
add_has d g = add_as (Memᴰ d) d g (has_member d g) (λ h. Memᴰ.append_right g (Memᴰ.head refl))

pub add_from : (d e : Id) (g : List Id) → Memᴰ e (add_id d g) → Memᴰ e g ⊎ (e ≡ d)
add_from d e g =
    add_as (λ x. Memᴰ e x → Memᴰ e g ⊎ (e ≡ d)) d g (λ h m. inl m)
    (λ h m. ⊎_elim (λ k. inl k) (λ k. inr (Memᴰ.eq_of_singleton k)) (Memᴰ.append_cases g m))

-- ---- plus

pub plus_nil : (g : List Id) → plus g [] ≡ g
unfolding plus add_ids
plus_nil g = refl

pub plus_append : (g x y : List Id) → plus g (x ++ y) ≡ plus (plus g x) y
unfolding plus add_ids
plus_append g [] y = refl
plus_append g (d ∷ x) y = plus_append (add_id d g) x y

pub plus_begins : (g y : List Id) → Begins g (plus g y)
unfolding plus add_ids
plus_begins g [] = begins_refl g
plus_begins g (d ∷ y) = begins_trans g (add_id d g) _ (add_begins d g) (plus_begins (add_id d g) y)

pub plus_joins : (g y : List Id) (d : Id) → Memᴰ d y → Memᴰ d (plus g y)
unfolding plus
plus_joins g y d m = add_ids_joins d y g m

pub plus_from : (g y : List Id) (d : Id) → Memᴰ d (plus g y) → Memᴰ d g ⊎ Memᴰ d y
unfolding plus add_ids
plus_from g [] d m = inl m
plus_from g (e ∷ y) d m = go (plus_from (add_id e g) y d m)
  where
    go : Memᴰ d (add_id e g) ⊎ Memᴰ d y → Memᴰ d g ⊎ Memᴰ d (e ∷ y)
    go (inl k) = ⊎_elim (λ z. inl z) (λ z. inr (Memᴰ.head z)) (add_from e d g k)
    go (inr k) = inr (Memᴰ.tail k)

-- ---- plus, written out

-- The ids of y differ: those that are not in g follow it.
pub plus_filter : (g y : List Id) → Once y → plus g y ≡ g ++ filter (λ d. not (has_id d g)) y
unfolding plus add_ids filter pick count
plus_filter g [] o = sym (append-nil g)
plus_filter g (d ∷ y) o = go (among? d g) (λ k. plus_filter k y (λ e. omega (arith, o e)))
  where
    gone : Memᴰ d y → ⊥
    gone m = omega (arith, o d, one_yes _ (same_id_yes d d refl refl), has_counted d y (member_has d y m))

    alike : (e : Id) → Memᴰ e y → has_id e (g ++ (d ∷ [])) ≡ has_id e g
    alike e m = with_next (among? e g)
      where
        with_next : Among e g → has_id e (g ++ (d ∷ [])) ≡ has_id e g
        with_next (within k h) = member_has e (g ++ (d ∷ [])) (Memᴰ.append_left (d ∷ []) k) ∙ sym h
        with_next (outside k h) =
            absent_has e (g ++ (d ∷ []))
            (λ z. ⊎_elim k (λ w. gone (subst (λ x. Memᴰ x y) (Memᴰ.eq_of_singleton w) m)) (Memᴰ.append_cases g z))
            ∙ sym h

    go : Among d g → ((k : List Id) → plus k y ≡ k ++ filter (λ e. not (has_id e k)) y) → plus g (d ∷ y) ≡ g ++ filter (λ e. not (has_id e g)) (d ∷ y)
    go (within m h) more = rw (add_there d g m, h) (more g)
    go (outside f h) more =
        rw (add_new_lem d g f, h)
        (more (g ++ (d ∷ []))
        ∙ append_assoc g (d ∷ []) (filter (λ e. not (has_id e (g ++ (d ∷ [])))) y)
        ∙ ap (λ z. g ++ (d ∷ z)) (filter_same (λ e. not (has_id e (g ++ (d ∷ [])))) (λ e. not (has_id e g)) y (λ e m. ap not (alike e m))))

-- None of them is in g.
pub plus_apart : (g y : List Id) → Once y → ((d : Id) → Memᴰ d y → Memᴰ d g → ⊥) → plus g y ≡ g ++ y
plus_apart g y o f =
    plus_filter g y o ∙ ap (λ z. g ++ z) (filter_all (λ d. not (has_id d g)) y (λ d m. ap not (absent_has d g (f d m))))

-- ---- what begins such a list

-- What begins g plus y begins it while g grows, as long as the two stay comparable.
pub plus_grown : (r g h y : List Id) → Begins r (plus g y) → Begins g h → Comparable r h → Begins r (plus h y)
unfolding plus add_ids Comparable
plus_grown r g h [] b p c = begins_trans r g h b p
plus_grown r g h (d ∷ y) b p c = go c (among? d g) (λ k z q. plus_grown r k h y z q c)
  where
    whole : List Id
    whole = plus (add_id d g) y

    go : Begins r h ⊎ Begins h r → Among d g → ((k : List Id) → Begins r (plus k y) → Begins k h → Begins r (plus h y)) → Begins r (plus h (d ∷ y))
    go (inl q) a more = begins_trans r h _ q (plus_begins h (d ∷ y))
    go (inr q) (within m e) more = rw (add_there d h (begins_member g h d p m)) (more g (rw (add_there d g m) at b) p)
    go (inr q) (outside f e) more = after (comparable_next g h d (beginnings_comparable h (g ++ (d ∷ [])) whole (begins_trans h r whole q b) front))
      where
        front : Begins (g ++ (d ∷ [])) whole
        front = rw (add_new_lem d g f) (plus_begins (g ++ (d ∷ [])) y)

        after : Begins h g ⊎ Begins (g ++ (d ∷ [])) h → Begins r (plus h (d ∷ y))
        after (inl z) = subst (λ k. Begins r (plus k (d ∷ y))) (begins_antisym g h p z) b
        after (inr z) = rw (add_there d h (next_member g h d z)) (more (g ++ (d ∷ [])) (rw (add_new_lem d g f) at b) z)

-- Leaving out of y what is neither in r nor in g.
pub plus_filtered : (t : Id → Bool) (r g y : List Id) → Begins r (plus g y)
    → ((d : Id) → Memᴰ d r → Memᴰ d g ⊎ (t d ≡ true)) → Begins r (plus g (filter t y))
unfolding plus add_ids filter pick
plus_filtered t r g [] b f = b
plus_filtered t r g (d ∷ y) b f = go (known (t d)) (among? d g) (λ k z h. plus_filtered t r k y z h)
  where
    go : Known (t d) → Among d g
        → ((k : List Id) → Begins r (plus k y) → ((e : Id) → Memᴰ e r → Memᴰ e k ⊎ (t e ≡ true)) → Begins r (plus k (filter t y)))
        → Begins r (plus g (filter t (d ∷ y)))
    go (holds e) a more =
        rw e (more (add_id d g) b (λ x m. ⊎_elim (λ k. inl (begins_member g (add_id d g) x (add_begins d g) k)) (λ k. inr k) (f x m)))
    go (fails e) (within m h) more = rw e (more g (rw (add_there d g m) at b) f)
    go (fails e) (outside n h) more =
        rw e (short (comparable_next g r d (beginnings_comparable r (g ++ (d ∷ [])) (plus (add_id d g) y) b (rw (add_new_lem d g n) (plus_begins (g ++ (d ∷ [])) y)))))
      where
        short : Begins r g ⊎ Begins (g ++ (d ∷ [])) r → Begins r (plus g (filter t y))
        short (inl z) = begins_trans r g _ z (plus_begins g (filter t y))
        short (inr z) = ⊎_elim (λ m. absurd (n m)) (λ k. not_both (sym e ∙ k)) (f d (next_member g r d z))
