-- A run with strays and the run without them pass through the same worlds: what holds at every place of the one holds at every place of the other.
use Prim.Native.Nat.{ℕ, zero, suc, ◌+◌, ◌≤◌}
use mathlib.Core.Path.{◌≡◌, refl, sym, ap, subst, subst₂, ◌∙◌}
use mathlib.Core.Bool.{Bool, true, false}
use mathlib.Core.List.{List, [], ◌∷◌}
use mathlib.Core.Option.{some}
use native.Mathlib.Omega.{arith}
use lib.ListN.{take}
use Rattle.base.specs.Tests.{pick}
use Rattle.base.proofs.TestLaws.{not_both, Known, holds, fails, known}
use Rattle.base.specs.Lists.{at, upd, Begins}
use Rattle.base.proofs.AtLaws.{none_some, at_in_take, Upd, here, elsewhere, upd?}
use Rattle.format.specs.Types.{Action, Primary}
use Rattle.replication.specs.Machine.Types.{Server, Outcome, taken}
use Rattle.replication.specs.Machine.Step.{installs}
use Rattle.replication.specs.Images.{source_of, arrive, left_by}
use Rattle.replication.specs.Runs.Run.{Entry, event, Run, World, beginning, down_after, world_after, world_through, world_at}
use Rattle.replication.specs.Runs.Allowed.{Allowed}
use Rattle.replication.specs.Runs.Strays.{IsStray, unless, without, AllowedWithStrays}
use Rattle.replication.specs.Runs.Claim.{ListsAgree, stored_green, memory_green, green_at, IsPrimary, of_start, of_install, Agreement, Consequences}
use Rattle.replication.proofs.Runs.Places.{event_entry}
use Rattle.replication.proofs.Runs.Beginnings.{world_in}
use Rattle.replication.proofs.Runs.PrefixClosed.{prefix_closed}

-- ---- a refused event changes nothing

upd_same : {A : Type 0} (f : ℕ → A) (i : ℕ) → upd f i (f i) ≡ f
upd_same f i = λ k j. at_each j k
  where
    at_each : (j : ℕ) → upd f i (f i) j ≡ f j
    at_each j = go (upd? f i (f i) j)
      where
        go : Upd f i (f i) j → upd f i (f i) j ≡ f j
        go (here e h) = h ∙ ap f (sym e)
        go (elsewhere e h) = h

pub stray_leaves : (n : ℕ) (w : World) (x : Entry) → IsStray n w x → world_after w x ≡ w
unfolding world_after left_by down_after
stray_leaves n w x s = ap (world_after w) s.is ∙ same
  where
    i : ℕ
    i = s.server

    same : world_after w (event i s.bytes s.sent) ≡ w
    same = λ k. record {
      images = (ap (λ o. upd w.images i (left_by o (w.images i))) s.refusal ∙ upd_same w.images i) k;
      down = (ap (λ o. upd w.down i (down_after o (w.down i))) s.refusal ∙ upd_same w.down i) k;
    }

-- ---- places

abbrev next : (ℕ → Bool) → ℕ → Bool
next s p = s (suc p)

-- How many of the first p places are kept: the place in the run without strays that p stands at.
unfoldable pub kept : (ℕ → Bool) → ℕ → ℕ
kept s zero = 0
kept s (suc p) = pick (s 0) (kept (next s) p) (suc (kept (next s) p))

kept_stray : (s : ℕ → Bool) (p : ℕ) → s 0 ≡ true → kept s (suc p) ≡ kept (next s) p
unfolding kept pick
kept_stray s p h = rw h

kept_other : (s : ℕ → Bool) (p : ℕ) → s 0 ≡ false → kept s (suc p) ≡ suc (kept (next s) p)
unfolding kept pick
kept_other s p h = rw h

-- A stray leaves the place, another entry leads to the next one.
pub kept_next : (s : ℕ → Bool) (p : ℕ) → kept s (suc p) ≡ kept s p + pick (s p) 0 1
unfolding kept
kept_next s zero = omega arith
kept_next s (suc p) = go (known (s 0)) (kept_next (next s) p)
  where
    go : Known (s 0) → kept (next s) (suc p) ≡ kept (next s) p + pick (s (suc p)) 0 1 → kept s (suc (suc p)) ≡ kept s (suc p) + pick (s (suc p)) 0 1
    go (holds e) a = omega (arith, kept_stray s (suc p) e, kept_stray s p e, a)
    go (fails e) a = omega (arith, kept_other s (suc p) e, kept_other s p e, a)

without_stray : (s : ℕ → Bool) (x : Entry) (l : Run) → s 0 ≡ true → without s (x ∷ l) ≡ without (next s) l
unfolding without unless
without_stray s x l h = rw h

without_other : (s : ℕ → Bool) (x : Entry) (l : Run) → s 0 ≡ false → without s (x ∷ l) ≡ x ∷ without (next s) l
unfolding without unless
without_other s x l h = rw h

pub kept_rises : (s : ℕ → Bool) (p r : ℕ) → p ≤ r → kept s p ≤ kept s r
unfolding kept
kept_rises s zero r h = omega arith
kept_rises s (suc p) zero h = absurd (omega arith)
kept_rises s (suc p) (suc r) h = go (known (s 0)) (kept_rises (next s) p r (omega arith))
  where
    go : Known (s 0) → kept (next s) p ≤ kept (next s) r → kept s (suc p) ≤ kept s (suc r)
    go (holds e) a = omega (arith, kept_stray s p e, kept_stray s r e)
    go (fails e) a = omega (arith, kept_other s p e, kept_other s r e)

-- An entry that is no stray stands in the run without strays ..
pub at_kept : (s : ℕ → Bool) (l : Run) (p : ℕ) (x : Entry) → at l p ≡ some x → s p ≡ false → at (without s l) (kept s p) ≡ some x
unfolding at kept
at_kept s [] p x e h = none_some e
at_kept s (y ∷ l) zero x e h = ap (λ m. at m 0) (without_other s y l h) ∙ e
at_kept s (y ∷ l) (suc p) x e h = go (known (s 0)) (at_kept (next s) l p x e h)
  where
    go : Known (s 0) → at (without (next s) l) (kept (next s) p) ≡ some x → at (without s (y ∷ l)) (kept s (suc p)) ≡ some x
    go (holds f) a = (λ k. at (without_stray s y l f k) (kept_stray s p f k)) ∙ a
    go (fails f) a = (λ k. at (without_other s y l f k) (kept_other s p f k)) ∙ a

-- .. and whatever stands there is one.
pub record Kept (s : ℕ → Bool) (l : Run) (k : ℕ) (x : Entry) : Type 0 where
  pub place : ℕ
  pub is : kept s place ≡ k
  pub here : at l place ≡ some x
  pub no_stray : s place ≡ false

kept_behind_stray : (s : ℕ → Bool) (y : Entry) (l : Run) (k : ℕ) (x : Entry) → s 0 ≡ true → Kept (next s) l k x → Kept s (y ∷ l) k x
unfolding at
kept_behind_stray s y l k x h a = record { place = suc a.place; is = kept_stray s a.place h ∙ a.is; here = a.here; no_stray = a.no_stray }

kept_behind_other : (s : ℕ → Bool) (y : Entry) (l : Run) (k : ℕ) (x : Entry) → s 0 ≡ false → Kept (next s) l k x → Kept s (y ∷ l) (suc k) x
unfolding at
kept_behind_other s y l k x h a = record { place = suc a.place; is = kept_other s a.place h ∙ ap suc a.is; here = a.here; no_stray = a.no_stray }

pub stands : (s : ℕ → Bool) (l : Run) (k : ℕ) (x : Entry) → at (without s l) k ≡ some x → Kept s l k x
unfolding at without kept
stands s [] k x e = none_some e
stands s (y ∷ l) k x e = go (known (s 0)) k e (λ j f. stands (next s) l j x f)
  where
    go : Known (s 0) → (k : ℕ) → at (without s (y ∷ l)) k ≡ some x → ((j : ℕ) → at (without (next s) l) j ≡ some x → Kept (next s) l j x) → Kept s (y ∷ l) k x
    go (holds f) k e r = kept_behind_stray s y l k x f (r k (ap (λ m. at m k) (sym (without_stray s y l f)) ∙ e))
    go (fails f) zero e r = record { place = 0; is = refl; here = ap (λ m. at m 0) (sym (without_other s y l f)) ∙ e; no_stray = f }
    go (fails f) (suc k) e r = kept_behind_other s y l k x f (r k (ap (λ m. at m (suc k)) (sym (without_other s y l f)) ∙ e))

-- ---- worlds

abbrev Refused : (n : ℕ) → (ℕ → Bool) → World → Run → Type 0
Refused n s w l = (p : ℕ) (x : Entry) → at l p ≡ some x → s p ≡ true → IsStray n (world_through w (take p l)) x

pub same_world : (n : ℕ) (s : ℕ → Bool) (w : World) (l : Run) → Refused n s w l → (p : ℕ)
    → world_through w (take p l) ≡ world_through w (take (kept s p) (without s l))
unfolding world_through kept at without
same_world n s w l h zero = refl
same_world n s w [] h (suc p) = nothing (kept s (suc p))
  where
    nothing : (k : ℕ) → w ≡ world_through w (take k [])
    nothing zero = refl
    nothing (suc k) = refl
same_world n s w (x ∷ l) h (suc p) = go (known (s 0)) (λ v g. same_world n (next s) v l g p)
  where
    go : Known (s 0) → ((v : World) → Refused n (next s) v l → world_through v (take p l) ≡ world_through v (take (kept (next s) p) (without (next s) l)))
        → world_through (world_after w x) (take p l) ≡ world_through w (take (kept s (suc p)) (without s (x ∷ l)))
    go (holds e) r =
        let leaves : world_after w x ≡ w = stray_leaves n w x (h 0 x refl e) in
        ap (λ v. world_through v (take p l)) leaves
        ∙ r w (λ k y f g. subst (λ v. IsStray n (world_through v (take k l)) y) leaves (h (suc k) y f g))
        ∙ (λ k. world_through w (take (sym (kept_stray s p e) k) (sym (without_stray s x l e) k)))
    go (fails e) r =
        r (world_after w x) (λ k y f g. h (suc k) y f g)
        ∙ (λ k. world_through w (take (sym (kept_other s p e) k) (sym (without_other s x l e) k)))

-- ---- the claims

module _ {n q : ℕ} {l : Run} (S : AllowedWithStrays n q l) where
  abbrev m : Run
  m = without S.stray l

  abbrev place : ℕ → ℕ
  place p = kept S.stray p

  pub world_kept : (p : ℕ) → world_at n q l p ≡ world_at n q m (place p)
  unfolding world_at
  world_kept p = same_world n S.stray (beginning n q) l S.refused p

  stored_kept : (p i : ℕ) → stored_green n q m (place p) i ≡ stored_green n q l p i
  unfolding stored_green
  stored_kept p i = ap (λ w. (w.images i).store.log.green) (sym (world_kept p))

  memory_kept : (p i : ℕ) → memory_green n q m (place p) i ≡ memory_green n q l p i
  unfolding memory_green
  memory_kept p i = ap (λ w. (w.images i).memory.log.green) (sym (world_kept p))

  green_kept : (p i : ℕ) → green_at n q m (place p) i ≡ green_at n q l p i
  unfolding green_at stored_green memory_green
  green_kept p i = ap (λ w. pick (w.down i) (w.images i).store.log.green (w.images i).memory.log.green) (sym (world_kept p))

  -- An event that is taken is no stray.
  pub taken_kept : (p i k : ℕ) (e : List ℕ) (t : Server) (r : List (List ℕ)) (b : Bool) (g : List Action) → at l p ≡ some (event i e k)
      → arrive ((world_at n q l p).images i) e ≡ taken t r b g → S.stray p ≡ false
  taken_kept p i k e t r b g h a = go (known (S.stray p))
    where
      clash : (u : Server) (rs : List (List ℕ)) (c : Bool) (d : List Action) (z : ℕ) {X : Type 0} → taken u rs c d ≡ Outcome.refused z → X
      clash u rs c d z x = let y : ◌≡◌ {A = ℕ} 0 1 = cc in absurd (omega arith)

      go : Known (S.stray p) → S.stray p ≡ false
      go (fails f) = f
      go (holds f) =
          let s = S.refused p _ h f in
          let f = event_entry s.is in
          clash t r b g s.number (sym a ∙ (λ j. arrive ((world_at n q l p).images (f.0 j)) (f.1 j)) ∙ s.refusal)

  primary_without : (a : Primary) → IsPrimary n q l a → IsPrimary n q m a
  primary_without a of_start = of_start
  primary_without a (of_install p i k e t r b g h x y) =
      of_install (place p) i k e t r b g (at_kept S.stray l p _ h (taken_kept p i k e t r b g h x))
      (ap (λ w. arrive (w.images i) e) (sym (world_kept p)) ∙ x) (ap (λ w. installs (source_of (w.images i) e) e) (sym (world_kept p)) ∙ y)

  primary_within : (a : Primary) → IsPrimary n q m a → IsPrimary n q l a
  primary_within a of_start = of_start
  primary_within a (of_install p i k e t r b g h x y) =
      let z = stands S.stray l p _ h in
      let w : world_at n q l z.place ≡ world_at n q m p = world_kept z.place ∙ ap (world_at n q m) z.is in
      of_install z.place i k e t r b g z.here (ap (λ v. arrive (v.images i) e) w ∙ x) (ap (λ v. installs (source_of (v.images i) e) e) w ∙ y)

  pub strays_agree : Agreement n q m → Agreement n q l
  strays_agree a = record {
    green = λ p i j h k. subst₂ (λ x y. ListsAgree x y) (green_kept p i) (green_kept p j) (a.green (place p) i j h k);
    primary = λ x y u v. a.primary x y (primary_without x u) (primary_without y v);
  }

  pub strays_follow : Consequences n q m → Consequences n q l
  strays_follow a = record {
    stored = λ p r i j h k. subst₂ (λ x y. ListsAgree x y) (stored_kept p i) (stored_kept r j) (a.stored (place p) (place r) i j h k);
    later = λ p r i j o h k d.
        subst₂ (λ x y. ListsAgree x y) (stored_kept p i) (memory_kept r j)
        (a.later (place p) (place r) i j (kept_rises S.stray p r o) h k (ap (λ w. w.down j) (sym (world_kept r)) ∙ d));
    kept = λ p r i o h. subst₂ (λ x y. Begins x y) (stored_kept p i) (stored_kept r i) (a.kept (place p) (place r) i (kept_rises S.stray p r o) h);
    known = λ p i h.
        let k = a.known (place p) i h in (
          primary_within _ (subst (λ w. IsPrimary n q m (w.images i).memory.votes.last) (sym (world_kept p)) k.0),
          primary_within _ (subst (λ w. IsPrimary n q m (w.images i).store.votes.last) (sym (world_kept p)) k.1),
        );
  }

-- ---- with no strays

without_none : (l : Run) → without (λ p. false) l ≡ l
unfolding without unless
without_none [] = refl
without_none (x ∷ l) = ap (λ m. x ∷ m) (without_none l)

-- An allowed run is one with no strays.
pub no_strays : {n q : ℕ} {l : Run} → Allowed n q l → AllowedWithStrays n q l
no_strays {n} {q} {l} A = record { stray = λ p. false; refused = λ p x e h. not_both h; rest = subst (Allowed n q) (sym (without_none l)) A }

-- ---- a beginning

without_take : (s : ℕ → Bool) (l : Run) (k : ℕ) → without s (take k l) ≡ take (kept s k) (without s l)
unfolding without kept
without_take s l zero = refl
without_take s [] (suc k) = nothing (kept s (suc k))
  where
    nothing : (j : ℕ) → [] ≡ take j (without s [])
    nothing zero = refl
    nothing (suc j) = refl
without_take s (x ∷ l) (suc k) = go (known (s 0)) (without_take (next s) l k)
  where
    go : Known (s 0) → without (next s) (take k l) ≡ take (kept (next s) k) (without (next s) l) → without s (x ∷ take k l) ≡ take (kept s (suc k)) (without s (x ∷ l))
    go (holds e) h =
        without_stray s x (take k l) e ∙ h ∙ (λ j. take (sym (kept_stray s k e) j) (sym (without_stray s x l e) j))
    go (fails e) h =
        without_other s x (take k l) e ∙ ap (λ m. x ∷ m) h ∙ (λ j. take (sym (kept_other s k e) j) (sym (without_other s x l e) j))

-- Each beginning of an allowed run with strays is one.
pub strays_prefix_closed : (n q : ℕ) (l : Run) → AllowedWithStrays n q l → (k : ℕ) → AllowedWithStrays n q (take k l)
strays_prefix_closed n q l S k = record {
  stray = S.stray;
  refused = λ p x e h.
      let z = at_in_take k l p x e in
      subst (λ w. IsStray n w x) (sym (world_in n q l k p (omega (arith, z.0)))) (S.refused p x z.1 h);
  rest = subst (Allowed n q) (sym (without_take S.stray l k)) (prefix_closed n q (without S.stray l) S.rest (kept S.stray k));
}
