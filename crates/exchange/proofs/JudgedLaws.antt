-- What is left of each mark, and the quorum.
use Prim.Native.Nat.{ℕ, ◌≤◌, ◌<◌}
use native.Mathlib.Omega.{arith}
use mathlib.Core.Path.{◌≡◌, refl, sym, ap, ◌∙◌}
use mathlib.Core.Bool.{Bool, true, false, not}
use mathlib.Core.List.{List, [], ◌∷◌}
use lib.Dec.{eqb, ltb}
use Rattle.base.specs.Tests.{◌and◌, ◌=?◌, ◌<?◌, pick}
use Rattle.base.proofs.TestLaws.{pick_yes, pick_no, and_no, and_yes, both_yes, lt_yes, lt_no, eq_yes, eq_no}
use Rattle.base.proofs.Branches.{told_eq, told_lt, and_answered, and_denied}
use Rattle.base.specs.Lists.{any, filter}
use Rattle.base.specs.Sets.{inside}
use Rattle.format.specs.Limits.{most_index_limit}
use Rattle.format.specs.Types.{State, Primary, Mark as FormatMark}
use Rattle.record.specs.Values.{primary_of, mark_of}
use Rattle.record.specs.declared.LastPrimary.{LastPrimary}
use Rattle.record.specs.declared.Mark.{Mark}
use Rattle.record.specs.declared.events.StateHead.{StateHead}
use Rattle.replication.specs.Machine.Types.{cleared_mark}
use Rattle.replication.specs.Machine.Exchange.{rule_a, rule_b, rule_c, joined_bits, kept_mark, judged_mark, mark_left, own_mark, linear_vote, taken_primary, taken_attempt, quorum}
use Rattle.exchange.specs.declared.slots.Slots.{Slots}
use Rattle.exchange.specs.Slots.{state_in, states_of, head_of}
use Rattle.exchange.specs.Folds.{FoundAt}
use Rattle.exchange.specs.Marks.{with_bits, is_left}
use Rattle.exchange.proofs.ReadLaws.{sender_read}
use Rattle.exchange.proofs.MarkLaws.{mark_read, status_read}

-- ---- conjunctions

second_no : (a b c : Bool) → b ≡ false → (a and b and c) ≡ false
unfolding ◌and◌
second_no true b c h = sym (and_no b c h)
second_no false b c h = refl

third_no : (a b c d : Bool) → c ≡ false → (a and b and c and d) ≡ false
unfolding ◌and◌
third_no true b c d h = second_no b c d h
third_no false b c d h = refl

fourth_no : (a b c d : Bool) → d ≡ false → (a and b and c and d) ≡ false
unfolding ◌and◌
fourth_no a b true d h = third_last a b d h
  where
    third_last : (a b d : Bool) → d ≡ false → (a and b and d) ≡ false
    third_last true true d h = h
    third_last true false d h = refl
    third_last false b d h = refl
fourth_no a b false d h = third_no a b false d refl

all_four : (a b c d : Bool) → a ≡ true → b ≡ true → c ≡ true → d ≡ true → (a and b and c and d) ≡ true
all_four a b c d h i j k = both_yes _ _ h (both_yes _ _ i (both_yes _ _ j k))

-- ---- one mark

pub kept_made : (m : Mark) (bits : ℕ) → mark_of (record { status = m.status; index = m.index; attempt = m.attempt; set = m.set; bits = bits }) ≡ with_bits bits (mark_of m)
unfolding mark_of with_bits
kept_made m bits = refl

module _ (v : Slots) (b : List ℕ) (k : ℕ) (x : StateHead) (r : Mark) (h : x ≡ head_of v b k) where
  covers : (bits : ℕ) → bits ≡ joined_bits (states_of v b) (state_in v b k)
      → rule_c (states_of v b) (state_in v b k) ≡ inside x.mark.set bits
  unfolding rule_c mark_of
  covers bits e =
      let s : (state_in v b k).mark.set ≡ x.mark.set = ap (λ (o : FormatMark). o.set) (mark_read v b k x h) in
      λ i. inside (s i) (sym e i)

  pub judged_unmarked : (x.mark.status ≡ 1 → ⊥) → mark_of r ≡ cleared_mark → mark_of r ≡ judged_mark (states_of v b) (state_in v b k)
  unfolding judged_mark
  judged_unmarked n c = pick_no _ _ _ _ (sym (and_no _ _ (status_read v b k x h ∙ eq_no _ _ n))) c

  pub judged_a : (p : LastPrimary) (u : Bool) → primary_of p ≡ taken_primary (states_of v b)
      → ((s : State) → s.sender ≡ x.sender → s.mark ≡ mark_of x.mark → u ≡ rule_a (primary_of p) s) → u ≡ true → mark_of r ≡ cleared_mark
      → mark_of r ≡ judged_mark (states_of v b) (state_in v b k)
  unfolding judged_mark
  judged_a p u e f t c =
      let z : rule_a (taken_primary (states_of v b)) (state_in v b k) ≡ true =
      ap (λ (y : Primary). rule_a y (state_in v b k)) (sym e) ∙ sym (f (state_in v b k) (sender_read v b k x h) (mark_read v b k x h)) ∙ t in
      pick_no _ _ _ _ (second_no _ _ _ (ap not z)) c

  pub judged_b : (u : Bool) → ((s : State) → s.mark ≡ mark_of x.mark → u ≡ rule_b (states_of v b) s) → u ≡ true → mark_of r ≡ cleared_mark
      → mark_of r ≡ judged_mark (states_of v b) (state_in v b k)
  unfolding judged_mark
  judged_b u f t c =
      let z : rule_b (states_of v b) (state_in v b k) ≡ true = sym (f (state_in v b k) (mark_read v b k x h)) ∙ t in
      pick_no _ _ _ _ (third_no _ _ _ _ (ap not z)) c

  pub judged_c : (bits : ℕ) (t : Bool) → ((s : State) → s.mark ≡ mark_of x.mark → bits ≡ joined_bits (states_of v b) s)
      → t ≡ inside x.mark.set bits → t ≡ true
      → mark_of r ≡ cleared_mark → mark_of r ≡ judged_mark (states_of v b) (state_in v b k)
  unfolding judged_mark
  judged_c bits t f e y c =
      pick_no _ _ _ _ (fourth_no _ _ _ _ (ap not (covers bits (f (state_in v b k) (mark_read v b k x h)) ∙ sym e ∙ y))) c

  pub judged_kept : (p : LastPrimary) (u w y : Bool) (bits : ℕ) → primary_of p ≡ taken_primary (states_of v b) → x.mark.status ≡ 1
      → ((s : State) → s.sender ≡ x.sender → s.mark ≡ mark_of x.mark → u ≡ rule_a (primary_of p) s) → u ≡ false
      → ((s : State) → s.mark ≡ mark_of x.mark → w ≡ rule_b (states_of v b) s) → w ≡ false
      → ((s : State) → s.mark ≡ mark_of x.mark → bits ≡ joined_bits (states_of v b) s) → y ≡ inside x.mark.set bits → y ≡ false
      → mark_of r ≡ with_bits bits (mark_of x.mark) → mark_of r ≡ judged_mark (states_of v b) (state_in v b k)
  unfolding judged_mark kept_mark with_bits
  judged_kept p u w y bits e s f t g i j d n c =
      let m = mark_read v b k x h in
      let za : rule_a (taken_primary (states_of v b)) (state_in v b k) ≡ false =
      ap (λ (y : Primary). rule_a y (state_in v b k)) (sym e) ∙ sym (f (state_in v b k) (sender_read v b k x h) m) ∙ t in
      let zb : rule_b (states_of v b) (state_in v b k) ≡ false = sym (g (state_in v b k) m) ∙ i in
      let zc : rule_c (states_of v b) (state_in v b k) ≡ false = covers bits (j (state_in v b k) m) ∙ sym d ∙ n in
      let joined : bits ≡ joined_bits (states_of v b) (state_in v b k) = j (state_in v b k) m in
      pick_yes _ _ _ _ (all_four _ _ _ _ (status_read v b k x h ∙ eq_yes _ _ s) (ap not za) (ap not zb) (ap not zc)) (c ∙ (λ i. with_bits (joined i) (sym m i)))

-- ---- some mark left

pub left_told : (xs : List State) (s : State) (m : Mark) → mark_of m ≡ judged_mark xs s → eqb m.status 1 ≡ is_left xs s
unfolding is_left mark_of
left_told xs s m j = told_eq m.status 1 ∙ ap (λ (o : FormatMark). o.status =? 1) j

pub left_made : (xs : List State) (r : Bool) → r ≡ any (is_left xs) xs → r ≡ mark_left xs
unfolding mark_left is_left
left_made xs r h = h

-- ---- the own mark

pub sender_told : (v : Slots) (b : List ℕ) (k me : ℕ) (x : StateHead) → x ≡ head_of v b k → eqb x.sender me ≡ ((state_in v b k).sender =? me)
sender_told v b k me x h = told_eq x.sender me ∙ ap (λ (n : ℕ). n =? me) (sym (sender_read v b k x h))

unfoldable judged_of : List State → List State → FormatMark
judged_of xs [] = cleared_mark
judged_of xs (s ∷ ys) = judged_mark xs s

judged_pick : (xs : List State) (t : Bool) (s : State) (ys : List State) → judged_of xs (pick t (s ∷ ys) ys) ≡ pick t (judged_mark xs s) (judged_of xs ys)
unfolding pick judged_of
judged_pick xs true s ys = refl
judged_pick xs false s ys = refl

own_first : (me : ℕ) (xs ys : List State) → own_mark me xs ys ≡ judged_of xs (filter (λ s. s.sender =? me) ys)
unfolding own_mark filter judged_of
own_first me xs [] = refl
own_first me xs (s ∷ ys) =
    ap (pick (s.sender =? me) (judged_mark xs s)) (own_first me xs ys) ∙ sym (judged_pick xs (s.sender =? me) s (filter (λ y. y.sender =? me) ys))

pub own_cleared : (v : Slots) (b : List ℕ) (me : ℕ) (r : Mark) → filter (λ s. s.sender =? me) (states_of v b) ≡ [] → mark_of r ≡ cleared_mark
    → mark_of r ≡ own_mark me (states_of v b) (states_of v b)
unfolding judged_of
own_cleared v b me r e c = c ∙ sym (own_first me (states_of v b) (states_of v b) ∙ ap (judged_of (states_of v b)) e)

pub own_judged : (v : Slots) (b : List ℕ) (me k : ℕ) (r : Mark) → FoundAt (λ s. s.sender =? me) v b k
    → mark_of r ≡ judged_mark (states_of v b) (state_in v b k) → mark_of r ≡ own_mark me (states_of v b) (states_of v b)
unfolding judged_of
own_judged v b me k r f c = c ∙ sym (own_first me (states_of v b) (states_of v b) ∙ ap (judged_of (states_of v b)) f.states)

-- ---- the quorum

module _ (xs : List State) (p : LastPrimary) (here : ℕ) (u : Bool) (e : primary_of p ≡ taken_primary xs) (l : u ≡ mark_left xs) where
  pub quorum_left : u ≡ true → false ≡ quorum xs here
  unfolding quorum
  quorum_left h = and_no _ _ (ap not (sym l ∙ h))

  module _ (w : Bool) (n : u ≡ false) (f : w ≡ linear_vote (primary_of p) here) where
    most : w ≡ linear_vote (taken_primary xs) here
    most = f ∙ ap (λ (y : Primary). linear_vote y here) e

    index : p.index.0 ≡ (taken_primary xs).index
    unfolding primary_of
    index = ap (λ (y : Primary). y.index) e

    pub quorum_few : not w ≡ true → false ≡ quorum xs here
    unfolding quorum
    quorum_few h = and_yes _ _ _ (ap not (sym l ∙ n)) (and_denied w _ _ most h)

    pub quorum_index : not w ≡ false → most_index_limit ≤ p.index.0 → false ≡ quorum xs here
    unfolding quorum
    quorum_index h i = and_yes _ _ _ (ap not (sym l ∙ n)) (and_answered w _ _ _ most h (and_no _ _ (lt_no _ _ (omega (arith, index)))))

    pub quorum_told : (x : ℕ) → not w ≡ false → p.index.0 < most_index_limit → x ≡ taken_attempt xs → ltb x most_index_limit ≡ quorum xs here
    unfolding quorum
    quorum_told x h i j =
        and_yes _ _ _ (ap not (sym l ∙ n))
        (and_answered w _ _ _ most h (and_yes _ _ _ (lt_yes _ _ (omega (arith, index))) (told_lt x most_index_limit ∙ ap (λ (y : ℕ). y <? most_index_limit) j)))
