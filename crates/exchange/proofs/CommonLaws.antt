-- The ids common to the yellow lists that count.
use Prim.Native.Nat.{ℕ, zero, suc, ◌+◌, ◌*◌, ◌-◌, ◌≤◌}
use mathlib.Core.Path.{◌≡◌, refl, sym, ap, subst, ◌∙◌}
use mathlib.Core.Bool.{Bool, true, false}
use mathlib.Core.List.{List, [], ◌∷◌}
use native.Mathlib.Omega.{arith}
use lib.ListN.{length, take, drop, replicate, length-replicate, length-drop}
use Rattle.format.specs.Limits.{most_ids}
use Rattle.base.specs.Tests.{◌or◌, pick}
use Rattle.base.proofs.Branches.{or_yes}
use Rattle.base.proofs.Over.{rest_whole}
use Rattle.base.specs.Lists.{all, filter, Each}
use Rattle.base.proofs.ListLaws.{replicate_at}
use Rattle.format.specs.Types.{Id, State, Yellow}
use Rattle.format.specs.Range.{same_id, has_id, ids_differ}
use Rattle.format.specs.Read.{id_at, ids_at}
use Rattle.base.specs.Bytes.{number_at}
use Rattle.base.proofs.BytesLaws.{number_drop}
use Rattle.format.specs.Write.{ids_bytes}
use Rattle.replication.proofs.WellFormed.Ids.{same_id_yes}
use Rattle.replication.specs.Machine.Types.{no_yellow}
use Rattle.replication.specs.Machine.Exchange.{common_yellow, taken_yellow}
use Rattle.record.specs.declared.events.StateHead.{StateHead}
use Rattle.exchange.specs.declared.slots.Slots.{Slots}
use Rattle.exchange.specs.Folds.{FirstAt}
use Rattle.exchange.specs.Slots.{with_here, slot_at, state_in, states_left, states_of, head_of}
use Rattle.exchange.specs.Passing.{Voters}
use Rattle.exchange.specs.Hints.{sought_in, Sought}
use Rattle.exchange.specs.Table.{place_in, is_kept, kept_ids, Listed, RaisedBy, ids_in, ListInside, ListsInside, ListFits, ListsFit}
use Rattle.exchange.proofs.PlaceLaws.{place_has}
use Rattle.exchange.proofs.TableLaws.{table_decides}
use Rattle.exchange.proofs.RaiseLaws.{ids_read, ids_counted}
use Rattle.exchange.proofs.YellowLaws.{voters_none, voters_some}
use Rattle.format.specs.Places.{id_size, state_head_size}

ids_drop : (m : ℕ) (e : List ℕ) (p at : ℕ) → ids_at m (drop p e) at ≡ ids_at m e (p + at)
unfolding ids_at id_at
ids_drop zero e p at = refl
ids_drop (suc m) e p at =
    let z : p + (at + 1) ≡ p + at + 1 = omega arith in
    let y : p + (at + id_size) ≡ p + at + id_size = omega arith in
    let d : id_at (drop p e) at ≡ id_at e (p + at) =
    λ i. record { creator = number_drop 1 e p at i; index = (number_drop 2 e p (at + 1) ∙ ap (number_at 2 e) z) i } in
    λ i. d i ∷ (ids_drop m e p (at + id_size) ∙ ap (ids_at m e) y) i

-- The list in the slot that begins at `at`, as it is lent.
abbrev pub lent : Slots → List ℕ → ℕ → List ℕ
lent v b at = take (length b - (at + (state_head_size + 2 * v.servers))) (drop (at + (state_head_size + 2 * v.servers)) b)

module _ (v : Slots) (b : List ℕ) (k at : ℕ) (x : StateHead) (h : x ≡ head_of v b k) (e : at ≡ slot_at v k) where
  lent_ids : sought_in x.yellow_count (lent v b at) ≡ ids_in v b k
  unfolding sought_in
  lent_ids =
      let w : ℕ = state_head_size + 2 * v.servers in
      let z : at + w + 0 ≡ at + w = omega arith in
      ap (λ (y : List ℕ). ids_at x.yellow_count y 0) (rest_whole b (at + w))
      ∙ ids_drop x.yellow_count b (at + w) 0
      ∙ ap (ids_at x.yellow_count b) z
      ∙ sym (ids_drop x.yellow_count b at w)
      ∙ ap (λ (y : List ℕ). ids_at x.yellow_count y w) (sym (rest_whole b at))
      ∙ ids_read v b k at x h e

  pub lent_sought : (o : List ℕ) → ListFits v b o k → Sought x.yellow_count (lent v b at)
  unfolding ListInside
  lent_sought o f = record {
    inside = omega (arith, f.inside, e, ids_counted v b k x h, ap length (rest_whole b (at + (state_head_size + 2 * v.servers))), length-drop (at + (state_head_size + 2 * v.servers)) b);
    few = omega (arith, f.few, ids_counted v b k x h);
    differ = ap ids_differ lent_ids ∙ f.differ;
  }

  pub common_made : (m r : ℕ) (o : List ℕ) → Listed r o (kept_ids (sought_in x.yellow_count (lent v b at)) (states_left v b m)) → Listed r o (kept_ids (ids_in v b k) (states_left v b m))
  common_made m r o i = subst (λ (l : List Id). Listed r o (kept_ids l (states_left v b m))) lent_ids i

pub kept_made : (l : List Id) (v : Slots) (b : List ℕ) (k round r : ℕ) (t o : List ℕ)
    → RaisedBy l (states_left v b k) round (replicate {A = ℕ} most_ids 0) t
    → Listed r o (filter (is_kept l round t) l)
    → Listed r o (kept_ids l (states_left v b k))
unfolding kept_ids
kept_made l v b k round r t o f i = subst (Listed r o) (λ j. filter (is_kept l (f.count j) (f.table j)) l) i

-- ---- kept means: in every list

filter_same : (t u : Id → Bool) (P : Id → Type 0) → ((d : Id) → P d → t d ≡ u d) → (ds : List Id) → Each P ds → filter t ds ≡ filter u ds
unfolding filter
filter_same t u P h [] e = refl
filter_same t u P h (d ∷ ds) e =
    let l : List Id = filter t ds in
    ap (λ (y : Bool). pick y (d ∷ l) l) (h d e.0) ∙ ap (λ (m : List Id). pick (u d) (d ∷ m) m) (filter_same t u P h ds e.1)

had : (t u : Bool) → u ≡ true → (t or u) ≡ true
unfolding ◌or◌
had true u h = refl
had false u h = h

each_has : (l ds : List Id) → ((d : Id) → has_id d ds ≡ true → has_id d l ≡ true) → Each (λ d. has_id d l ≡ true) ds
unfolding has_id
each_has l [] f = tt
each_has l (d ∷ ds) f =
    (f d (sym (or_yes _ _ (same_id_yes d d refl refl))), each_has l ds (λ y h. f y (had (same_id y d) (has_id y ds) h)))

-- Those kept are the ids common to all the lists.
pub kept_common : (l : List Id) (ys : List State) → length l ≤ most_ids → kept_ids l ys ≡ filter (λ d. all (λ y. has_id d y.yellow.ids) ys) l
unfolding kept_ids
kept_common l ys few =
    filter_same _ _ (λ d. has_id d l ≡ true)
    (λ d h. table_decides l d few (place_has d l h) (replicate {A = ℕ} most_ids 0) ys (length-replicate {A = ℕ} most_ids 0) (replicate_at {A = ℕ} 0 most_ids (place_in d l)))
    l (each_has l l (λ d h. h))

-- ---- those of the updated group

pub voters_fit : (v w : Slots) (b c o : List ℕ) → Voters v b w c → ListsFit v b o → ListsFit w c o
unfolding ListsFit ListInside with_here slot_at state_in
voters_fit v w b c o g f =
    subst (λ (d : List ℕ). ListsFit w d o) (sym g.bytes)
    (subst (λ (y : Slots). ListsFit y b o) (sym g.slots)
    (λ k l y. let z = f k l (g.among k l y) in record { inside = z.inside; short = z.short; few = z.few; differ = z.differ }))

pub fits_inside : (v : Slots) (b o : List ℕ) → ListsFit v b o → ListsInside v b
unfolding ListsFit ListsInside
fits_inside v b o f k l t = (f k l t).inside

pub first_fits : (v : Slots) (b o : List ℕ) (k : ℕ) → ListsFit v b o → FirstAt v b k → ListFits v b o k
unfolding ListsFit
first_fits v b o k f r = f k r.low r.meant

pub first_short : (v : Slots) (b o : List ℕ) (k : ℕ) (x : StateHead) → ListsFit v b o → FirstAt v b k → x ≡ head_of v b k → id_size * x.yellow_count ≤ length o
first_short v b o k x f r e = omega (arith, (first_fits v b o k f r).short, ids_counted v b k x e)

pub taken_ids_none : (v w : Slots) (b c o : List ℕ) → Voters v b w c → states_of w c ≡ [] → Listed 0 o (taken_yellow (states_of v b)).ids
unfolding no_yellow ids_bytes
taken_ids_none v w b c o g e =
    let none : (taken_yellow (states_of v b)).ids ≡ [] = ap (λ (y : Yellow). y.ids) (voters_none v w b c g e) in
    subst (Listed 0 o) (sym none) (record { count = refl; bytes = refl })

pub taken_ids_some : (v w : Slots) (b c : List ℕ) (k m : ℕ) (o u : List ℕ) → Voters v b w c → FirstAt w c k
    → Listed m o (kept_ids (ids_in w c k) (states_left w c (k + 1))) → ListsFit v b u → Listed m o (taken_yellow (states_of v b)).ids
unfolding common_yellow
taken_ids_some v w b c k m o u g r i f =
    let fits : ListsFit w c u = voters_fit v w b c u g f in
    subst (Listed m o)
    (kept_common (ids_in w c k) (states_left w c (k + 1)) (first_fits w c u k fits r).few
    ∙ sym (ap (λ (y : Yellow). y.ids) (voters_some v w b c g k r)))
    i

pub first_sought : (v : Slots) (b : List ℕ) (k at : ℕ) (x : StateHead) (o : List ℕ) → ListsFit v b o → FirstAt v b k → x ≡ head_of v b k
    → at ≡ slot_at v k → Sought x.yellow_count (lent v b at)
first_sought v b k at x o f r h e = lent_sought v b k at x h e o (first_fits v b o k f r)
