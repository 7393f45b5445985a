-- Actions that turn green by swaps are those that turn green by shifts, in the same order.
use Prim.Native.Nat.{ℕ, ◌+◌, ◌≤◌}
use mathlib.Core.Path.{◌≡◌, refl, sym, ap, ap₂, ◌∙◌}
use mathlib.Core.Bool.{true, false}
use mathlib.Core.List.{List, [], ◌∷◌, ◌++◌}
use mathlib.Core.Option.{none, some, none-ne-some}
use native.Mathlib.Omega.{arith}
use lib.ListN.{length}
use lib.Seq.{set-append_seam}
use Rattle.base.specs.Counts.{count, one}
use Rattle.base.proofs.CountLaws.{one_yes, count_append}
use Rattle.base.specs.Tests.{◌≤?◌, pick}
use Rattle.base.proofs.TestLaws.{le_holds, le_fails, Known, holds, fails, known}
use Rattle.format.specs.Types.{Id, Action}
use Rattle.format.specs.Range.{same_id}
use Rattle.replication.specs.Machine.Types.{Log}
use Rattle.replication.specs.Machine.Colours.{find, remove, promote, promote_found, green_id, green_ids, of_creator}
use Rattle.replication.proofs.WellFormed.Creators.{of_append}
use Rattle.replication.proofs.WellFormed.Ids.{same_id_yes, same_id_holds}
use Rattle.replication.proofs.WellFormed.Held.{action_count, Found, absent, found, found?}
use Rattle.queue.specs.Queue.{position}
use Rattle.install.specs.Swaps.{swap_out, green_found, green_swap, green_swaps}
use Rattle.queue.proofs.Positions.{Stands, position_found, position_none}

-- ---- finding in a list with no id twice

abbrev pub Once : List Action → Type 0
Once l = (d : Id) → action_count d l ≤ 1

-- No action of that id: nothing is found.
none_found : (d : Id) (l : List Action) → action_count d l ≡ 0 → find d l ≡ none
none_found d l h = go (found? d l)
  where
    go : Found d l → find d l ≡ none
    go (absent e n) = e
    go (found x e f k) = absurd (omega (arith, k d, one_yes (same_id d x.id) (same_id_yes d x.id (ap (λ y. y.creator) f) (ap (λ y. y.index) f))))

cons_found : (e : Id) (z : Action) (l : List Action) → same_id e z.id ≡ true → find e (z ∷ l) ≡ some z
unfolding find pick
cons_found e z l t = rw t

cons_passed : (e : Id) (z : Action) (l : List Action) → same_id e z.id ≡ false → find e (z ∷ l) ≡ find e l
unfolding find pick
cons_passed e z l t = rw t

pub cons_count : (e : Id) (z : Action) (l : List Action) → action_count e (z ∷ l) ≡ one (same_id e z.id) + action_count e l
unfolding count
cons_count e z l = refl

-- An action with another id makes no difference.
find_skip : (e : Id) (x : Action) (u v : List Action) → same_id e x.id ≡ false → find e (u ++ (x ∷ v)) ≡ find e (u ++ v)
find_skip e x [] v t = cons_passed e x v t
find_skip e x (z ∷ u) v t = go (known (same_id e z.id)) (find_skip e x u v t)
  where
    go : Known (same_id e z.id) → find e (u ++ (x ∷ v)) ≡ find e (u ++ v) → find e (z ∷ (u ++ (x ∷ v))) ≡ find e (z ∷ (u ++ v))
    go (holds h) more = cons_found e z (u ++ (x ∷ v)) h ∙ sym (cons_found e z (u ++ v) h)
    go (fails h) more = cons_passed e z (u ++ (x ∷ v)) h ∙ more ∙ sym (cons_passed e z (u ++ v) h)

-- Nor does the place of an action.
find_moved : (e : Id) (y : Action) (u v : List Action) → action_count e (y ∷ (u ++ v)) ≤ 1 → find e (u ++ (y ∷ v)) ≡ find e (y ∷ (u ++ v))
find_moved e y [] v h = refl
find_moved e y (z ∷ u) v h = go (known (same_id e z.id)) (known (same_id e y.id)) (λ m. find_moved e y u v m)
  where
    go : Known (same_id e z.id) → Known (same_id e y.id) → (action_count e (y ∷ (u ++ v)) ≤ 1 → find e (u ++ (y ∷ v)) ≡ find e (y ∷ (u ++ v)))
        → find e (z ∷ (u ++ (y ∷ v))) ≡ find e (y ∷ (z ∷ (u ++ v)))
    go (holds p) (holds q) more = absurd (omega (arith, cons_count e y (z ∷ (u ++ v)), cons_count e z (u ++ v), one_yes _ p, one_yes _ q))
    go (holds p) (fails q) more = cons_found e z (u ++ (y ∷ v)) p ∙ sym (cons_passed e y (z ∷ (u ++ v)) q ∙ cons_found e z (u ++ v) p)
    go (fails p) (holds q) more =
        let less : action_count e (y ∷ (u ++ v)) ≤ 1 = omega (arith, cons_count e y (z ∷ (u ++ v)), cons_count e z (u ++ v), cons_count e y (u ++ v)) in
        cons_passed e z (u ++ (y ∷ v)) p ∙ more less ∙ cons_found e y (u ++ v) q ∙ sym (cons_found e y (z ∷ (u ++ v)) q)
    go (fails p) (fails q) more =
        let less : action_count e (y ∷ (u ++ v)) ≤ 1 = omega (arith, cons_count e y (z ∷ (u ++ v)), cons_count e z (u ++ v), cons_count e y (u ++ v)) in
        cons_passed e z (u ++ (y ∷ v)) p ∙ more less ∙ cons_passed e y (u ++ v) q ∙ sym (cons_passed e y (z ∷ (u ++ v)) q ∙ cons_passed e z (u ++ v) p)

-- ---- one swap

-- What is left of u, x and v without x.
abbrev rest : List Action → List Action → List Action
rest [] v = v
rest (y ∷ w) v = w ++ (y ∷ v)

swap_rest : (u : List Action) (x : Action) (v : List Action) → swap_out (length u) (u ++ (x ∷ v)) ≡ rest u v
unfolding swap_out
swap_rest [] x v = refl
swap_rest (y ∷ w) x v = set-append_seam w x v y

rest_count : (e : Id) (u v : List Action) → action_count e (rest u v) ≡ action_count e (u ++ v)
rest_count e [] v = refl
rest_count e (y ∷ w) v =
    count_append (λ a. same_id e a.id) w (y ∷ v)
    ∙ omega (arith, cons_count e y v, cons_count e y (w ++ v), count_append (λ a. same_id e a.id) w v)

rest_of : (c : ℕ) (u v : List Action) → of_creator c (rest u v) ≡ of_creator c u + of_creator c v
rest_of c [] v = of_append c [] v
rest_of c (y ∷ w) v = of_append c w (y ∷ v) ∙ omega (arith, of_append c (y ∷ []) v, of_append c (y ∷ []) w)

rest_find : (e : Id) (u v : List Action) → action_count e (u ++ v) ≤ 1 → find e (rest u v) ≡ find e (u ++ v)
rest_find e [] v h = refl
rest_find e (y ∷ w) v h = find_moved e y w v h

whole_count : (e : Id) (u : List Action) (x : Action) (v : List Action) → action_count e (u ++ (x ∷ v)) ≡ one (same_id e x.id) + action_count e (u ++ v)
whole_count e u x v =
    count_append (λ a. same_id e a.id) u (x ∷ v) ∙ omega (arith, cons_count e x v, count_append (λ a. same_id e a.id) u v)

module _ (d : Id) (l : List Action) (once : Once l) (k : Stands d l (position d l)) where
  swapped_as : swap_out (position d l) l ≡ rest k.before k.behind
  swapped_as =
      ap₂ {A = ℕ} {B = List Action} {C = List Action} (λ i m. swap_out i m) (sym k.count) k.whole ∙ swap_rest k.before k.it k.behind

  pub swapped_count : (e : Id) → action_count e l ≡ one (same_id e k.it.id) + action_count e (swap_out (position d l) l)
  swapped_count e =
      ap (action_count e) k.whole
      ∙ whole_count e k.before k.it k.behind
      ∙ ap (λ (i : ℕ). one (same_id e k.it.id) + i) (sym (ap (action_count e) swapped_as ∙ rest_count e k.before k.behind))

  pub swapped_of : (c : ℕ) → of_creator c l ≡ of_creator c (k.it ∷ []) + of_creator c (swap_out (position d l) l)
  swapped_of c =
      ap (of_creator c) k.whole
      ∙ of_append c k.before (k.it ∷ k.behind)
      ∙ omega (arith, of_append c (k.it ∷ []) k.behind, ap (of_creator c) swapped_as, rest_of c k.before k.behind)

  swapped_once : Once (swap_out (position d l) l)
  swapped_once e = omega (arith, swapped_count e, once e)

  swapped_find : (e : Id) → same_id e k.it.id ≡ false → find e (swap_out (position d l) l) ≡ find e l
  swapped_find e t =
      let few : action_count e (k.before ++ k.behind) ≤ 1 = omega (arith, once e, ap (action_count e) k.whole, whole_count e k.before k.it k.behind) in
      ap (find e) swapped_as
      ∙ rest_find e k.before k.behind few
      ∙ sym (ap (find e) k.whole ∙ find_skip e k.it k.before k.behind t)

  swapped_none : find k.it.id (swap_out (position d l) l) ≡ none
  swapped_none =
      none_found k.it.id (swap_out (position d l) l)
      (omega (arith, once k.it.id, swapped_count k.it.id, one_yes _ (same_id_yes k.it.id k.it.id refl refl)))

removed_find : (e d : Id) (l : List Action) → same_id e d ≡ false → find e (remove d l) ≡ find e l
unfolding remove pick
removed_find e d [] t = refl
removed_find e d (a ∷ l) t = go (known (same_id d a.id)) (removed_find e d l t)
  where
    go : Known (same_id d a.id) → find e (remove d l) ≡ find e l → find e (remove d (a ∷ l)) ≡ find e (a ∷ l)
    go (holds h) more = rw h (sym (cons_passed e a l (ap (same_id e) (sym (same_id_holds d a.id h)) ∙ t)))
    go (fails h) more = rw h (go_on (known (same_id e a.id)) more)
      where
        go_on : Known (same_id e a.id) → find e (remove d l) ≡ find e l → find e (a ∷ remove d l) ≡ find e (a ∷ l)
        go_on (holds k) same = cons_found e a (remove d l) k ∙ sym (cons_found e a l k)
        go_on (fails k) same = cons_passed e a (remove d l) k ∙ same ∙ sym (cons_passed e a l k)

-- ---- logs with the same green actions, and the same red ones in any order

pub record Alike (l m : Log) : Type 0 where
  pub green : l.green ≡ m.green
  pub finds : (e : Id) → find e l.red ≡ find e m.red
  pub once : Once l.red
  pub once_too : Once m.red
  pub cuts : l.cuts ≡ m.cuts
  pub own : l.own ≡ m.own
  pub numbered : l.numbered ≡ m.numbered
  pub sent : l.sent ≡ m.sent

alike_unmoved : (d : Id) (l m : Log) → Alike l m → find d l.red ≡ none → Alike (green_swap d l) (green_id d m)
unfolding green_swap green_found green_id promote_found
alike_unmoved d l m r e = let f : find d m.red ≡ none = sym (r.finds d) ∙ e in rw (e, f) r

removed_none : (x : Action) (l : List Action) → Once l → find x.id l ≡ some x → (find x.id (remove x.id l) ≡ none) × Once (remove x.id l)
removed_none x l once e = go (found? x.id l)
  where
    go : Found x.id l → (find x.id (remove x.id l) ≡ none) × Once (remove x.id l)
    go (absent f n) = absurd (none-ne-some x (sym f ∙ e))
    go (found y f g k) = (
      none_found x.id (remove x.id l) (omega (arith, once x.id, k x.id, one_yes _ (same_id_yes x.id y.id (ap (λ z. z.creator) g) (ap (λ z. z.index) g)))),
      λ i. omega (arith, once i, k i),
    )

alike_moved : (d : Id) (l m : Log) → Alike l m → (k : Stands d l.red (position d l.red)) → Alike (green_swap d l) (green_id d m)
unfolding green_swap green_found green_id promote_found promote
alike_moved d l m r k =
    let there : find d m.red ≡ some k.it = sym (r.finds d) ∙ k.found in
    let same : find k.it.id m.red ≡ some k.it = ap (λ (i : Id). find i m.red) (sym k.named) ∙ there in
    let left = removed_none k.it m.red r.once_too same in
    rw (k.found, there) (record {
      green = ap (λ (g : List Action). g ++ (k.it ∷ [])) r.green;
      finds = λ e. finds e (known (same_id e k.it.id)) left.0;
      once = swapped_once d l.red r.once k;
      once_too = left.1;
      cuts = r.cuts;
      own = r.own;
      numbered = r.numbered;
      sent = r.sent;
    })
  where
    finds : (e : Id) → Known (same_id e k.it.id) → find k.it.id (remove k.it.id m.red) ≡ none
        → find e (swap_out (position d l.red) l.red) ≡ find e (remove k.it.id m.red)
    finds e (holds t) none_left =
        let f : e ≡ k.it.id = same_id_holds e k.it.id t in
        ap (λ (i : Id). find i (swap_out (position d l.red) l.red)) f
        ∙ swapped_none d l.red r.once k
        ∙ sym (ap (λ (i : Id). find i (remove k.it.id m.red)) f ∙ none_left)
    finds e (fails t) none_left = swapped_find d l.red r.once k e t ∙ r.finds e ∙ sym (removed_find e k.it.id m.red t)

pub alike_green : (d : Id) (l m : Log) → Alike l m → Alike (green_swap d l) (green_id d m)
alike_green d l m r = go (known (length l.red ≤? position d l.red))
  where
    go : Known (length l.red ≤? position d l.red) → Alike (green_swap d l) (green_id d m)
    go (holds h) = alike_unmoved d l m r (position_none d l.red (le_holds _ _ h))
    go (fails h) = alike_moved d l m r (position_found d l.red (le_fails _ _ h))

pub alike_greens : (ds : List Id) (l m : Log) → Alike l m → Alike (green_swaps ds l) (green_ids ds m)
unfolding green_swaps green_ids
alike_greens [] l m r = r
alike_greens (d ∷ ds) l m r = alike_greens ds (green_swap d l) (green_id d m) (alike_green d l m r)

pub alike_itself : (l : Log) → Once l.red → Alike l l
alike_itself l once = record { green = refl; finds = λ e. refl; once = once; once_too = once; cuts = refl; own = refl; numbered = refl; sent = refl }

-- Once no red action is left, they are the same.
nothing_found : (l : List Action) → ((e : Id) → find e l ≡ none) → l ≡ []
nothing_found [] h = refl
nothing_found (a ∷ l) h =
    absurd (none-ne-some a (sym (h a.id) ∙ cons_found a.id a l (same_id_yes a.id a.id refl refl)))

none_in_nil : (e : Id) (l : List Action) → l ≡ [] → find e l ≡ none
unfolding find
none_in_nil e l h = rw h

pub alike_same : (l m : Log) → Alike l m → m.red ≡ [] → l ≡ m
alike_same l m r e =
    let none_left : l.red ≡ [] = nothing_found l.red (λ i. r.finds i ∙ none_in_nil i m.red e) in
    λ i. record { green = r.green i; red = (none_left ∙ sym e) i; cuts = r.cuts i; own = r.own i; numbered = r.numbered i; sent = r.sent i }
