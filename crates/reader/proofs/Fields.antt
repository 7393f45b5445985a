-- The ranges of an event's parts, as the code tests them.
use Prim.Native.Nat.{ℕ, ◌+◌, ◌*◌, ◌≤◌, ◌<◌}
use mathlib.Core.Path.{◌≡◌, refl, sym, ◌∙◌}
use mathlib.Core.Bool.{Bool, true, false}
use mathlib.Core.List.{List}
use native.Mathlib.Omega.{arith}
use lib.ListN.{length}
use lib.Dec.{leb}
use mir.Syntax.{w32}
use mir.Val.{Fits}
use Rattle.format.specs.Limits.{most_payload_limit, most_number_limit}
use Rattle.base.specs.Tests.{◌≤?◌, ◌<?◌, ◌and◌}
use Rattle.base.proofs.TestLaws.{lt_yes, le_no, eq_yes, and_yes, and_no, and_le, and_gt}
use Rattle.base.proofs.Branches.{told_le, and_true, and_false}
use Rattle.base.specs.Bytes.{Bytes, part_at}
use Rattle.base.proofs.BytesLaws.{part_length, part_are_bytes, numbers_length}
use Rattle.format.specs.Types.{Context as FormatContext, State as FormatState}
use Rattle.format.specs.Range.{payload_ok, length_ok, cuts_ok, index_ok, primary_ok, mark_ok, status_ok, ids_ok, yellow_ok, configuration_ok, state_ok}
use Rattle.format.specs.Read.{ids_at}
use Rattle.format.proofs.Writing.{ids_number}
use Rattle.record.specs.Context.{context_of}
use Rattle.record.specs.Values.{state_of}
use Rattle.record.specs.Events.{state_from, ListsInside}
use Rattle.reader.specs.Reading.{numbers_ok, lists_ok}
use Rattle.record.proofs.Ranges.{cuts_law}
use Rattle.record.specs.declared.Context.{Context}
use Rattle.record.specs.declared.events.StateAt.{StateAt}

-- The length is the one test of a payload in bytes.
pub payload_law : (e : List ℕ) (at m : ℕ) → Bytes e → at + m ≤ length e → leb m most_payload_limit ≡ payload_ok (part_at m e at)
unfolding payload_ok
payload_law e at m b h = rw (part_length m e at h, part_are_bytes m e at b) (told_le m most_payload_limit ∙ and_true (m ≤? most_payload_limit))

-- Any number of four bytes is a configuration id.

pub configuration_law : (i : ℕ) → Fits w32 i → configuration_ok i ≡ true
unfolding configuration_ok
configuration_law i h = lt_yes i _ h.fits

-- A State's lists: its cuts are in range, and p is how many ids its yellow list can have.
module _ (c : Context) (s : StateAt) (e : List ℕ) (p : ℕ) (b : Bytes e) (h : p ≡ c.servers * c.quota) where
  cuts_in : cuts_ok most_number_limit (state_from s e).cuts ≡ true
  unfolding state_from state_of
  cuts_in = cuts_law s.head.servers e s.cuts_at b

  number : length (state_from s e).yellow.ids ≡ s.head.yellow_count
  unfolding state_from state_of
  number = ids_number s.head.yellow_count e s.yellow_at

  pub lists_denied : (x : ℕ) → x ≡ s.head.yellow_count → p < x → leb x p ≡ lists_ok (context_of c) (state_from s e)
  unfolding lists_ok context_of
  lists_denied x f g = told_le x p ∙ le_no x p g ∙ and_yes _ _ _ cuts_in (and_gt _ (c.servers * c.quota) _ (omega (arith, number)))

  pub lists_answered : (r : Bool) (x : ℕ) → x ≡ s.head.yellow_count → x ≤ p → r ≡ ids_ok (context_of c) (ids_at s.head.yellow_count e s.yellow_at)
      → r ≡ lists_ok (context_of c) (state_from s e)
  unfolding lists_ok context_of state_from state_of
  lists_answered r x f g k = and_yes _ _ _ cuts_in (and_le _ (c.servers * c.quota) _ _ (omega (arith, number)) k)

-- A State's ranges are those of its numbers and those of its lists.

shuffle : (a k l i p m s y : Bool) → (a and k and l and i and p and m and s and y) ≡ ((a and l and i and p and m and s) and k and y)
unfolding ◌and◌
shuffle false k l i p m s y = refl
shuffle true false l i p m s y = and_false (l and i and p and m and s)
shuffle true true false i p m s y = refl
shuffle true true true false p m s y = refl
shuffle true true true true false m s y = refl
shuffle true true true true true false s y = refl
shuffle true true true true true true s y = refl

state_split : (c : FormatContext) (s : FormatState) → configuration_ok s.configuration ≡ true → length s.cuts ≡ c.servers → (numbers_ok c s and lists_ok c s) ≡ state_ok c s
unfolding state_ok numbers_ok lists_ok yellow_ok ◌and◌
state_split c s h k =
    sym
    (shuffle
    (s.sender <? c.servers)
    (cuts_ok most_number_limit s.cuts)
    (length_ok s.green_length)
    (index_ok s.attempt)
    (primary_ok c s.last)
    (mark_ok c s.mark)
    (status_ok s.yellow.status)
    (length s.yellow.ids ≤? c.servers * c.quota and ids_ok c s.yellow.ids))
    ∙ rw (h, eq_yes (length s.cuts) c.servers k)

state_parts : (c : Context) (s : StateAt) (e : List ℕ) → Fits w32 s.head.configuration → ListsInside c.servers s e
    → (numbers_ok (context_of c) (state_from s e) and lists_ok (context_of c) (state_from s e)) ≡ state_ok (context_of c) (state_from s e)
unfolding state_from state_of context_of
state_parts c s e h i =
    state_split (context_of c) (state_from s e) (configuration_law s.head.configuration h) (numbers_length 2 s.head.servers e s.cuts_at ∙ i.servers)

-- What is known of the numbers wherever the lists lie.
module _ (c : Context) (s : StateAt) (e : List ℕ) (b : Bool) (h : Fits w32 s.head.configuration) (i : ListsInside c.servers s e)
    (f : (cuts ids : List ℕ) (at start : ℕ) → b ≡ numbers_ok (context_of c) (state_of s.head cuts at ids start)) where
  numbers_are : b ≡ numbers_ok (context_of c) (state_from s e)
  unfolding state_from
  numbers_are = f e e s.cuts_at s.yellow_at

  pub state_denied : b ≡ false → b ≡ state_ok (context_of c) (state_from s e)
  state_denied g = g ∙ and_no (numbers_ok (context_of c) (state_from s e)) _ (sym numbers_are ∙ g) ∙ state_parts c s e h i

  pub state_answered : (r : Bool) → b ≡ true → r ≡ lists_ok (context_of c) (state_from s e) → r ≡ state_ok (context_of c) (state_from s e)
  state_answered r g k = and_yes r (numbers_ok (context_of c) (state_from s e)) _ (sym numbers_are ∙ g) k ∙ state_parts c s e h i
