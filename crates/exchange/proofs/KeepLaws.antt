-- The ids that are kept, written by the code.
use Prim.Native.Nat.{ℕ, ◌+◌, ◌*◌, ◌-◌, ◌≤◌, ◌<◌}
use mathlib.Core.Path.{◌≡◌, refl, sym, ap, subst, ◌∙◌}
use mathlib.Core.Bool.{Bool}
use mathlib.Core.List.{List, ◌∷◌, ◌++◌, append_assoc, append-nil}
use native.Mathlib.Omega.{arith}
use lib.ListN.{length, get_or, take, length-take}
use Rattle.base.specs.Tests.{◌=?◌, pick}
use Rattle.base.proofs.TestLaws.{pick_yes, pick_no, and_yes, eq_yes, eq_no, lt_yes, Known, known, holds, fails}
use Rattle.base.specs.Bytes.{joined, number_at}
use Rattle.base.specs.Lists.{filter}
use Rattle.base.proofs.Filters.{filter_yes, filter_no}
use Rattle.base.specs.Patched.{patched}
use Rattle.base.proofs.PatchedLaws.{patched_until, patched_length}
use Rattle.format.specs.Types.{Id}
use Rattle.format.specs.Read.{id_at, ids_at}
use Rattle.format.specs.Write.{id_bytes, ids_bytes}
use Rattle.format.proofs.Lengths.{id_length, ids_length}
use Rattle.format.proofs.Writing.{ids_more}
use Rattle.record.specs.Values.{id_of}
use Rattle.exchange.specs.Hints.{sought_in, Sought}
use Rattle.exchange.specs.Table.{place_in, is_kept, Keeps, Listed}
use Rattle.format.specs.Places.{id_size}
use Rattle.exchange.proofs.PlaceLaws.{sought_count, place_own}

-- Whether the id number j is kept is told by its place.
kept_told : (m r j : ℕ) (t e : List ℕ) → Sought m e → j < m → is_kept (sought_in m e) r t (id_at e (id_size * j)) ≡ (get_or t j 0 =? r)
unfolding is_kept
kept_told m r j t e s h =
    let own : j ≡ place_in (id_at e (id_size * j)) (sought_in m e) = place_own m e j (id_at e (id_size * j)) s h refl in
    sym (and_yes _ _ _ (lt_yes _ _ (omega (arith, sought_count m e))) (ap (λ (i : ℕ). get_or t i 0 =? r) own))

pub keep_other : (m r j n : ℕ) (t e o : List ℕ) → Sought m e → j < m → (get_or t j 0 ≡ r → ⊥) → Keeps (is_kept (sought_in m e) r t) e (id_size * j) n n o o
keep_other m r j n t e o s h f =
    let no = kept_told m r j t e s h ∙ eq_no _ _ f in
    record { count = pick_no _ _ _ _ no refl; bytes = pick_no _ _ _ _ no refl }

pub keep_here : (m r j n : ℕ) (t e o u : List ℕ) → Sought m e → j < m → get_or t j 0 ≡ r → u ≡ patched (id_size * n) (id_bytes (id_at e (id_size * j))) o
    → Keeps (is_kept (sought_in m e) r t) e (id_size * j) n (n + 1) o u
keep_here m r j n t e o u s h f g =
    let yes = kept_told m r j t e s h ∙ eq_yes _ _ f in
    record { count = pick_yes _ _ _ _ yes refl; bytes = pick_yes _ _ _ _ yes g }

pub kept_written : (e : List ℕ) (at x y i : ℕ) (o u : List ℕ) → x ≡ number_at 1 e at → y ≡ number_at 2 e (at + 1) → u ≡ patched i (id_bytes (id_of x y)) o
    → u ≡ patched i (id_bytes (id_at e at)) o
unfolding id_of id_at
kept_written e at x y i o u a b h = h ∙ rw (a, b)

ids_cons : (d : Id) (ds : List Id) → ids_bytes (d ∷ ds) ≡ id_bytes d ++ ids_bytes ds
unfolding ids_bytes joined
ids_cons d ds = ap (λ (l : List ℕ). id_bytes d ++ l) (append-nil (ids_bytes ds))

-- Of the list's ids, those below j were met, and w of them kept.
pub record Kept (t : Id → Bool) (e : List ℕ) (at count j w n : ℕ) (o : List ℕ) : Type 0 where
  pub low : j ≤ count
  pub most : w ≤ j
  pub room : id_size * count ≤ n
  pub size : length o ≡ n
  pub ids : ids_bytes (filter t (ids_at count e at)) ≡ take (id_size * w) o ++ ids_bytes (filter t (ids_at (count - j) e (at + id_size * j)))

pub kept_start : (t : Id → Bool) (e : List ℕ) (at count : ℕ) (o : List ℕ) → id_size * count ≤ length o → Kept t e at count 0 0 (length o) o
kept_start t e at count o h =
    let a : count ≡ count - 0 = omega arith in
    let b : at ≡ at + id_size * 0 = omega arith in
    record { low = omega arith; most = omega arith; room = h; size = refl; ids = λ i. ids_bytes (filter t (ids_at (a i) e (b i))) }

one_more_lem : (d : Id) (w : ℕ) (o : List ℕ) → id_size * w + id_size ≤ length o → take (id_size * (w + 1)) (patched (id_size * w) (id_bytes d) o) ≡ take (id_size * w) o ++ id_bytes d
one_more_lem d w o h =
    let z : id_size * (w + 1) ≡ id_size * w + length (id_bytes d) = omega (arith, id_length d) in
    ap (λ (m : ℕ). take m (patched (id_size * w) (id_bytes d) o)) z ∙ patched_until (id_size * w) (id_bytes d) o (omega arith)

kept_by : (t : Id → Bool) (e : List ℕ) (at count j w q n : ℕ) (o u : List ℕ) → Known (t (id_at e (at + id_size * j))) → Kept t e at count j w n o → j < count
    → q ≡ pick (t (id_at e (at + id_size * j))) (w + 1) w → u ≡ pick (t (id_at e (at + id_size * j))) (patched (id_size * w) (id_bytes (id_at e (at + id_size * j))) o) o
    → Kept t e at count (j + 1) q n u
kept_by t e at count j w q n o u (holds y) m h f g =
    let d : Id = id_at e (at + id_size * j) in
    let ds : List Id = ids_at (count - (j + 1)) e (at + id_size * (j + 1)) in
    let a : q ≡ w + 1 = f ∙ sym (pick_yes _ _ _ _ y refl) in
    let b : u ≡ patched (id_size * w) (id_bytes d) o = g ∙ sym (pick_yes _ _ _ _ y refl) in
    let fits : id_size * w + id_size ≤ length o = omega (arith, m.most, m.room, m.size) in
    let long : length (patched (id_size * w) (id_bytes d) o) ≡ length o = patched_length (id_size * w) (id_bytes d) o (omega (arith, id_length d)) in
    record {
      low = omega arith;
      most = omega (arith, a, m.most);
      room = m.room;
      size = ap length b ∙ long ∙ m.size;
      ids =
          m.ids ∙ ap (λ (l : List Id). take (id_size * w) o ++ ids_bytes (filter t l)) (ids_more e at j count h)
          ∙ ap (λ (l : List Id). take (id_size * w) o ++ ids_bytes l) (filter_yes t d ds y)
          ∙ ap (λ (l : List ℕ). take (id_size * w) o ++ l) (ids_cons d (filter t ds))
          ∙ sym (append_assoc (take (id_size * w) o) (id_bytes d) (ids_bytes (filter t ds)))
          ∙ ap (λ (l : List ℕ). l ++ ids_bytes (filter t ds)) (sym (one_more_lem d w o fits))
          ∙ (λ i. take (id_size * sym a i) (sym b i) ++ ids_bytes (filter t ds));
    }
kept_by t e at count j w q n o u (fails y) m h f g =
    let d : Id = id_at e (at + id_size * j) in
    let ds : List Id = ids_at (count - (j + 1)) e (at + id_size * (j + 1)) in
    let a : q ≡ w = f ∙ sym (pick_no _ _ _ _ y refl) in
    let b : u ≡ o = g ∙ sym (pick_no _ _ _ _ y refl) in
    record {
      low = omega arith;
      most = omega (arith, a, m.most);
      room = m.room;
      size = ap length b ∙ m.size;
      ids =
          m.ids ∙ ap (λ (l : List Id). take (id_size * w) o ++ ids_bytes (filter t l)) (ids_more e at j count h)
          ∙ ap (λ (l : List Id). take (id_size * w) o ++ ids_bytes l) (filter_no t d ds y)
          ∙ (λ i. take (id_size * sym a i) (sym b i) ++ ids_bytes (filter t ds));
    }

pub kept_again : (t : Id → Bool) (e : List ℕ) (at count j w q n : ℕ) (o u : List ℕ) → Kept t e at count j w n o → j < count
    → Keeps t e (at + id_size * j) w q o u → Kept t e at count (j + 1) q n u
kept_again t e at count j w q n o u m h k = kept_by t e at count j w q n o u (known (t (id_at e (at + id_size * j)))) m h k.count k.bytes

pub kept_end : (t : Id → Bool) (e : List ℕ) (at count j w n : ℕ) (o : List ℕ) → Kept t e at count j w n o → count ≤ j
    → Listed w o (filter t (ids_at count e at))
unfolding ids_at filter ids_bytes
kept_end t e at count j w n o m h =
    let a : count - j ≡ 0 = omega arith in
    let all : take (id_size * w) o ≡ ids_bytes (filter t (ids_at count e at)) =
    sym (m.ids ∙ ap (λ (n : ℕ). take (id_size * w) o ++ ids_bytes (filter t (ids_at n e (at + id_size * j)))) a ∙ append-nil (take (id_size * w) o)) in
    record { count = omega (arith, ap length all, length-take (id_size * w) o, ids_length (filter t (ids_at count e at)), m.most, m.room, m.size); bytes = all }

-- The list that is sought is the first.
pub sought_start : (t : Id → Bool) (e : List ℕ) (m : ℕ) (o : List ℕ) → id_size * m ≤ length o → Kept t e 0 m 0 0 (length o) o
sought_start t e m o h = kept_start t e 0 m o h

pub sought_end : (t : Id → Bool) (e : List ℕ) (m j w n : ℕ) (o : List ℕ) → Kept t e 0 m j w n o → m ≤ j → Listed w o (filter t (sought_in m e))
unfolding sought_in
sought_end t e m j w n o k h = kept_end t e 0 m j w n o k h

pub sought_again : (t : Id → Bool) (e : List ℕ) (m j w q n : ℕ) (o u : List ℕ) → Kept t e 0 m j w n o → j < m → Keeps t e (id_size * j) w q o u
    → Kept t e 0 m (j + 1) q n u
sought_again t e m j w q n o u k h i =
    let z : id_size * j ≡ 0 + id_size * j = omega arith in
    kept_again t e 0 m j w q n o u k h (subst (λ (p : ℕ). Keeps t e p w q o u) z i)
