-- Marks judged, computed from the slots.
use Prim.Native.Nat.{ℕ, ◌≤◌, ◌<◌}
use mathlib.Core.Path.{◌≡◌, refl, sym, ap, ap₂, ◌∙◌}
use mathlib.Core.Bool.{Bool, true, false, not}
use mathlib.Core.List.{List, [], ◌∷◌}
use lib.Bits.{bit_or}
use lib.Dec.{eqb}
use Rattle.base.specs.Tests.{◌=?◌, pick}
use Rattle.base.proofs.TestLaws.{pick_yes, pick_no, and_no, and_yes, lt_yes, lt_no, eq_yes, eq_no}
use Rattle.base.proofs.Branches.{told_eq, or_yes, or_no, and_answered, and_denied}
use Rattle.base.specs.Lists.{any, filter}
use Rattle.base.specs.Sets.{in_set, with_member, union}
use Rattle.format.specs.Types.{State, Mark as FormatMark}
use Rattle.record.specs.Values.{primary_of, mark_of, state_of}
use Rattle.record.specs.declared.LastPrimary.{LastPrimary}
use Rattle.record.specs.declared.Mark.{Mark}
use Rattle.record.specs.declared.events.StateHead.{StateHead}
use Rattle.replication.specs.Machine.Types.{cleared_mark}
use Rattle.replication.specs.Machine.Exchange.{is_marked, same_attempt_of, rule_a, rule_b, alike, join_bits, joined_bits}
use Rattle.exchange.specs.declared.slots.Slots.{Slots}
use Rattle.exchange.specs.Slots.{state_in, head_of}
use Rattle.exchange.specs.Folds.{folded}
use Rattle.exchange.specs.Marks.{against, likewise, joined_with}
use Rattle.exchange.proofs.ReadLaws.{state_stands, sender_read}

-- ---- a mark read

pub mark_read : (v : Slots) (b : List ℕ) (k : ℕ) (x : StateHead) → x ≡ head_of v b k → (state_in v b k).mark ≡ mark_of x.mark
unfolding state_of
mark_read v b k x h = ap (λ (s : State). s.mark) (sym (state_stands v b k x h))

pub bits_read : (v : Slots) (b : List ℕ) (k : ℕ) (x : StateHead) → x ≡ head_of v b k → (state_in v b k).mark.bits ≡ x.mark.bits
unfolding mark_of
bits_read v b k x h = ap (λ (o : FormatMark). o.bits) (mark_read v b k x h)

pub status_read : (v : Slots) (b : List ℕ) (k : ℕ) (x : StateHead) → x ≡ head_of v b k → is_marked (state_in v b k) ≡ (x.mark.status =? 1)
unfolding is_marked mark_of
status_read v b k x h = ap (λ (o : FormatMark). o.status =? 1) (mark_read v b k x h)

pub cleared_made : mark_of (record { status = 0; index = record { 0 = 0 }; attempt = record { 0 = 0 }; set = 0; bits = 0 }) ≡ cleared_mark
unfolding mark_of cleared_mark
cleared_made = refl

-- ---- two marks

pub like_unmarked : (m o : Mark) → (o.status ≡ 1 → ⊥) → false ≡ likewise (mark_of m) (mark_of o)
unfolding likewise mark_of
like_unmarked m o n = and_no _ _ (eq_no _ _ n)

pub like_other : (m o : Mark) (u : Bool) → o.status ≡ 1 → u ≡ same_attempt_of (mark_of m) (mark_of o) → not u ≡ true
    → false ≡ likewise (mark_of m) (mark_of o)
unfolding likewise mark_of
like_other m o u s e h = and_yes _ _ _ (eq_yes _ _ s) (and_denied u _ _ e h)

pub like_told : (m o : Mark) (u : Bool) → o.status ≡ 1 → u ≡ same_attempt_of (mark_of m) (mark_of o) → not u ≡ false
    → eqb o.set m.set ≡ likewise (mark_of m) (mark_of o)
unfolding likewise mark_of
like_told m o u s e h = and_yes _ _ _ (eq_yes _ _ s) (and_answered u _ _ _ e h (told_eq o.set m.set))

-- ---- rule (a)

pub rule_a_low : (p : LastPrimary) (m : Mark) (sender : ℕ) → p.index.0 ≤ m.index.0 → (s : State) → s.sender ≡ sender → s.mark ≡ mark_of m
    → false ≡ rule_a (primary_of p) s
unfolding rule_a primary_of mark_of
rule_a_low p m sender h s e i = rw i (and_no _ _ (lt_no m.index.0 p.index.0 h))

pub rule_a_told : (p : LastPrimary) (m : Mark) (sender : ℕ) (u : Bool) → m.index.0 < p.index.0 → u ≡ in_set sender p.set
    → (s : State) → s.sender ≡ sender → s.mark ≡ mark_of m → not u ≡ rule_a (primary_of p) s
unfolding rule_a primary_of mark_of
rule_a_told p m sender u h j s e i = rw (i, e, j) (and_yes _ _ _ (lt_yes m.index.0 p.index.0 h) refl)

-- ---- rule (b)

module _ (v : Slots) (b : List ℕ) (k : ℕ) (m : Mark) (x : StateHead) (u : Bool) (h : x ≡ head_of v b k) (e : u ≡ in_set x.sender m.set) where
  there : u ≡ in_set (state_in v b k).sender (mark_of m).set
  unfolding mark_of
  there = e ∙ ap (λ (j : ℕ). in_set j m.set) (sym (sender_read v b k x h))

  pub against_out : not u ≡ true → false ≡ against (mark_of m) (state_in v b k)
  unfolding against
  against_out n = and_denied u _ _ there n

  pub against_unmarked : not u ≡ false → (x.mark.status ≡ 1 → ⊥) → true ≡ against (mark_of m) (state_in v b k)
  unfolding against
  against_unmarked n z = and_answered u _ _ _ there n (or_yes _ _ (ap not (status_read v b k x h ∙ eq_no _ _ z)))

  pub against_told : (w : Bool) → not u ≡ false → x.mark.status ≡ 1 → w ≡ same_attempt_of (mark_of m) (mark_of x.mark)
      → not w ≡ against (mark_of m) (state_in v b k)
  unfolding against
  against_told w n z i =
      and_answered u _ _ _ there n (or_no _ _ _ (ap not (status_read v b k x h ∙ eq_yes _ _ z)) (ap not (i ∙ ap (same_attempt_of (mark_of m)) (sym (mark_read v b k x h)))))

-- The State's mark is that of s.
pub rule_b_made : (xs : List State) (m : Mark) (r : Bool) → r ≡ any (against (mark_of m)) xs → (s : State) → s.mark ≡ mark_of m → r ≡ rule_b xs s
unfolding rule_b against
rule_b_made xs m r h s e = h ∙ ap (λ (o : FormatMark). any (against o) xs) (sym e)

-- ---- joined bits

join_pick : (t : Bool) (x : State) (xs : List State) (y bits : ℕ) → join_bits (x ∷ xs) bits ≡ join_bits xs y
    → join_bits (pick t (x ∷ xs) xs) bits ≡ join_bits xs (pick t y bits)
unfolding pick
join_pick true x xs y bits e = e
join_pick false x xs y bits e = refl

join_folded : (m : FormatMark) (xs : List State) (bits : ℕ) → folded (joined_with m) bits xs ≡ join_bits (filter (λ x. likewise m x.mark) xs) bits
unfolding folded filter join_bits
join_folded m [] bits = refl
join_folded m (x ∷ xs) bits =
    join_folded m xs (joined_with m bits x)
    ∙ sym (join_pick (likewise m x.mark) x (filter (λ y. likewise m y.mark) xs) (with_member x.sender (union bits x.mark.bits)) bits refl)

pub join_made : (xs : List State) (m : Mark) (r : ℕ) → r ≡ folded (joined_with (mark_of m)) m.bits xs → (s : State) → s.mark ≡ mark_of m → r ≡ joined_bits xs s
unfolding joined_bits alike likewise is_marked mark_of
join_made xs m r h s e =
    h ∙ join_folded (mark_of m) xs m.bits ∙ ap (λ (o : FormatMark). join_bits (filter (λ x. likewise o x.mark) xs) o.bits) (sym e)

-- a turn

module _ (v : Slots) (b : List ℕ) (k : ℕ) (m o : Mark) (bits : ℕ) (w : Bool) (h : (state_in v b k).mark ≡ mark_of o)
    (i : w ≡ likewise (mark_of m) (mark_of o)) where
  like_there : w ≡ likewise (mark_of m) (state_in v b k).mark
  like_there = i ∙ ap (likewise (mark_of m)) (sym h)

  pub join_not : w ≡ false → bits ≡ joined_with (mark_of m) bits (state_in v b k)
  join_not z = pick_no _ _ _ _ (sym like_there ∙ z) refl

  pub join_yes : (r : ℕ) → (state_in v b k).sender ≡ k → w ≡ true → r ≡ with_member k (bit_or bits o.bits)
      → r ≡ joined_with (mark_of m) bits (state_in v b k)
  unfolding union mark_of
  join_yes r s z j =
      let p : o.bits ≡ (state_in v b k).mark.bits = ap (λ (y : FormatMark). y.bits) (sym h) in
      pick_yes _ _ _ _ (sym like_there ∙ z) (j ∙ ap₂ {A = ℕ} {B = ℕ} {C = ℕ} (λ y c. with_member y (bit_or bits c)) (sym s) p)
