-- The table, raised by the code.
use Prim.Native.Nat.{ℕ, ◌+◌, ◌*◌, ◌-◌, ◌≤◌, ◌<◌}
use mathlib.Core.Path.{◌≡◌, refl, sym, ap, ◌∙◌}
use mathlib.Core.Bool.{Bool, true, false, not}
use mathlib.Core.List.{List}
use native.Mathlib.Omega.{arith}
use lib.ListN.{length, get_or, take, drop, set, length-drop}
use Rattle.base.specs.Tests.{◌and◌, ◌<?◌, pick}
use Rattle.base.proofs.TestLaws.{pick_yes, pick_no, both_yes, and_no, lt_yes, lt_no, eq_yes, eq_no, Known, known, holds, fails}
use borrow.Author.Tests.{not-false}
use Rattle.base.proofs.Branches.{and_false}
use Rattle.base.specs.Sets.{in_set}
use Rattle.base.proofs.Over.{rest_whole}
use Rattle.format.specs.Types.{Id, State}
use Rattle.format.specs.Read.{id_at, ids_at}
use Rattle.format.proofs.Writing.{ids_number, ids_more}
use Rattle.record.specs.Values.{state_of}
use Rattle.record.specs.declared.events.StateHead.{StateHead}
use Rattle.exchange.specs.declared.slots.Slots.{Slots}
use Rattle.exchange.specs.Slots.{slot_at, states_left, head_of}
use Rattle.exchange.specs.Hints.{sought_in}
use Rattle.exchange.specs.Table.{place_in, is_kept, raised, raised_all, raised_lists, RaisedAt, RaisedBy, ids_in, ListInside, ListsInside}
use Rattle.exchange.proofs.PlaceLaws.{sought_count}
use Rattle.exchange.proofs.SlotLaws.{states_in_lem, states_out, states_end}
use Rattle.exchange.proofs.ReadLaws.{state_stands}
use Rattle.format.specs.Places.{id_size, state_head_size, state_cuts_at, standing_size}

-- ---- one id, whose place is p

pub raise_out : (m r : ℕ) (t e : List ℕ) (d : Id) → place_in d (sought_in m e) ≡ m → t ≡ raised (sought_in m e) r t d
unfolding raised is_kept
raise_out m r t e d f = pick_no _ _ _ _ (sym (and_no _ _ (lt_no _ _ (omega (arith, f, sought_count m e))))) refl

pub raise_other : (m r p : ℕ) (t e : List ℕ) (d : Id) → p ≡ place_in d (sought_in m e) → p < m → (get_or t p 0 ≡ r → ⊥) → t ≡ raised (sought_in m e) r t d
unfolding raised is_kept
raise_other m r p t e d f h n =
    let l : List Id = sought_in m e in
    let o : get_or t (place_in d l) 0 ≡ r → ⊥ = λ y. n (ap (λ (i : ℕ). get_or t i 0) f ∙ y) in
    pick_no _ _ _ _ (ap (λ (u : Bool). place_in d l <? length l and u) (eq_no _ _ o) ∙ sym (and_false (place_in d l <? length l))) refl

pub raise_here : (m r p : ℕ) (t e : List ℕ) (d : Id) → p ≡ place_in d (sought_in m e) → p < m → get_or t p 0 ≡ r
    → set t p (r + 1) ≡ raised (sought_in m e) r t d
unfolding raised is_kept
raise_here m r p t e d f h n =
    pick_yes _ _ _ _ (both_yes _ _ (lt_yes _ _ (omega (arith, sought_count m e))) (eq_yes _ _ (ap (λ (i : ℕ). get_or t i 0) (sym f) ∙ n)))
    (ap (λ (i : ℕ). set t i (r + 1)) f)

-- ---- one list

pub list_start : (l : List Id) (r : ℕ) (t e : List ℕ) (at m : ℕ)
    → raised_all l r t (ids_at m e at) ≡ raised_all l r t (ids_at (m - 0) e (at + id_size * 0))
list_start l r t e at m =
    let a : m - 0 ≡ m = omega arith in
    let b : at + id_size * 0 ≡ at = omega arith in
    rw (a, b)

pub list_again : (l : List Id) (r : ℕ) (t u w e : List ℕ) (at k m : ℕ) → k < m → u ≡ raised l r t (id_at e (at + id_size * k))
    → w ≡ raised_all l r t (ids_at (m - k) e (at + id_size * k)) → w ≡ raised_all l r u (ids_at (m - (k + 1)) e (at + id_size * (k + 1)))
unfolding raised_all
list_again l r t u w e at k m h i j = j ∙ ap (raised_all l r t) (ids_more e at k m h)
    ∙ ap (λ (y : List ℕ). raised_all l r y (ids_at (m - (k + 1)) e (at + id_size * (k + 1)))) (sym i)

pub list_end : (l : List Id) (r : ℕ) (t w e : List ℕ) (at k m : ℕ) → m ≤ k → w ≡ raised_all l r t (ids_at (m - k) e (at + id_size * k)) → t ≡ w
unfolding raised_all ids_at
list_end l r t w e at k m h j = let a : m - k ≡ 0 = omega arith in sym (j ∙ ap (λ (i : ℕ). raised_all l r t (ids_at i e (at + id_size * k))) a)

-- ---- the list of a slot

pub ids_read : (v : Slots) (b : List ℕ) (k at : ℕ) (x : StateHead) → x ≡ head_of v b k → at ≡ slot_at v k
    → ids_at x.yellow_count (take (length b - at) (drop at b)) (state_head_size + 2 * v.servers) ≡ ids_in v b k
unfolding state_of
ids_read v b k at x h e =
    let z : state_head_size + 2 * v.servers ≡ state_cuts_at + 2 * v.servers + standing_size = omega arith in
    (λ i. ids_at x.yellow_count ((rest_whole b at ∙ ap (λ (p : ℕ). drop p b) e) i) (z i))
    ∙ ap (λ (s : State). s.yellow.ids) (state_stands v b k x h)

pub ids_counted : (v : Slots) (b : List ℕ) (k : ℕ) (x : StateHead) → x ≡ head_of v b k → length (ids_in v b k) ≡ x.yellow_count
ids_counted v b k x h = ap length (sym (ids_read v b k (slot_at v k) x h refl)) ∙ ids_number x.yellow_count _ (state_head_size + 2 * v.servers)

pub slot_raised : (l : List Id) (r : ℕ) (t u : List ℕ) (v : Slots) (b : List ℕ) (k at : ℕ) (x : StateHead)
    → x ≡ head_of v b k → at ≡ slot_at v k
    → u ≡ raised_all l r t (ids_at x.yellow_count (take (length b - at) (drop at b)) (state_head_size + 2 * v.servers))
    → u ≡ raised_all l r t (ids_in v b k)
slot_raised l r t u v b k at x h e i = i ∙ ap (raised_all l r t) (ids_read v b k at x h e)

pub slot_list_inside : (v : Slots) (b : List ℕ) (k at : ℕ) (x : StateHead) → x ≡ head_of v b k → at ≡ slot_at v k → ListInside v b k
    → state_head_size + 2 * v.servers + id_size * x.yellow_count ≤ length (take (length b - at) (drop at b))
unfolding ListInside
slot_list_inside v b k at x h e i =
    omega (arith, i, ids_counted v b k x h, e, ap length (rest_whole b at), length-drop at b)

-- ---- the lists of several slots

pub list_of : (v : Slots) (b : List ℕ) (k : ℕ) (u : Bool) → ListsInside v b → k < v.servers → u ≡ in_set k v.here → not u ≡ false
    → ListInside v b k
unfolding ListsInside
list_of v b k u f h e n = f k h (sym e ∙ not-false u n)

turn_most : (t : Bool) (r q k : ℕ) → q ≡ pick t (r + 1) r → r ≤ k → q ≤ k + 1
unfolding pick
turn_most true r q k e h = omega arith
turn_most false r q k e h = omega arith

-- How many lists there are, those that were met among them.
count_by : (v : Slots) (b : List ℕ) (k r q m : ℕ) → k < v.servers → Known (in_set k v.here) → q ≡ pick (in_set k v.here) (r + 1) r
    → m ≡ r + length (states_left v b k) → m ≡ q + length (states_left v b (k + 1))
count_by v b k r q m h (holds s) e i =
    let a : q ≡ r + 1 = e ∙ sym (pick_yes _ _ _ _ s refl) in
    omega (arith, i, a, ap length (states_in_lem v b k h s))
count_by v b k r q m h (fails s) e i =
    let a : q ≡ r = e ∙ sym (pick_no _ _ _ _ s refl) in
    omega (arith, i, a, ap length (states_out v b k h s))

lists_by : (l : List Id) (v : Slots) (b : List ℕ) (k r q : ℕ) (t u w : List ℕ) → k < v.servers → Known (in_set k v.here)
    → q ≡ pick (in_set k v.here) (r + 1) r
    → u ≡ pick (in_set k v.here) (raised_all l r t (ids_in v b k)) t
    → w ≡ raised_lists l r t (states_left v b k) → w ≡ raised_lists l q u (states_left v b (k + 1))
unfolding raised_lists
lists_by l v b k r q t u w h (holds s) e f j =
    let a : q ≡ r + 1 = e ∙ sym (pick_yes _ _ _ _ s refl) in
    let d : u ≡ raised_all l r t (ids_in v b k) = f ∙ sym (pick_yes _ _ _ _ s refl) in
    j ∙ ap (raised_lists l r t) (states_in_lem v b k h s) ∙ (λ y. raised_lists l (sym a y) (sym d y) (states_left v b (k + 1)))
lists_by l v b k r q t u w h (fails s) e f j =
    let a : q ≡ r = e ∙ sym (pick_no _ _ _ _ s refl) in
    let d : u ≡ t = f ∙ sym (pick_no _ _ _ _ s refl) in
    j ∙ ap (raised_lists l r t) (states_out v b k h s) ∙ (λ y. raised_lists l (sym a y) (sym d y) (states_left v b (k + 1)))

-- Of the slots from `start` on, those below k were met: the table t was u at first.
pub record Met (l : List Id) (v : Slots) (b : List ℕ) (start k r : ℕ) (u t : List ℕ) : Type 0 where
  pub low : k ≤ v.servers
  pub most : r ≤ k
  pub count : length (states_left v b start) ≡ r + length (states_left v b k)
  pub lists : raised_lists l 0 u (states_left v b start) ≡ raised_lists l r t (states_left v b k)

pub met_start : (l : List Id) (v : Slots) (b : List ℕ) (start : ℕ) (u : List ℕ) → start ≤ v.servers → Met l v b start start 0 u u
met_start l v b start u h = record { low = h; most = omega arith; count = omega arith; lists = refl }

pub met_again : (l : List Id) (v : Slots) (b : List ℕ) (start k r q : ℕ) (u t s : List ℕ) → Met l v b start k r u t → k < v.servers
    → RaisedAt l v b k r q t s → Met l v b start (k + 1) q u s
met_again l v b start k r q u t s m h f =
    record {
      low = omega arith;
      most = turn_most (in_set k v.here) r q k f.count m.most;
      count = count_by v b k r q _ h (known (in_set k v.here)) f.count m.count;
      lists = lists_by l v b k r q t s _ h (known (in_set k v.here)) f.count f.table m.lists;
    }

pub met_end : (l : List Id) (v : Slots) (b : List ℕ) (start k r : ℕ) (u t : List ℕ) → Met l v b start k r u t → v.servers ≤ k
    → RaisedBy l (states_left v b start) r u t
unfolding raised_lists
met_end l v b start k r u t m h =
    record {
      count = omega (arith, m.count, ap length (states_end v b k h));
      table = sym (m.lists ∙ ap (raised_lists l r t) (states_end v b k h));
    }
