-- The answer with green entries, by the tests in their order; and as the code gives it.
use Prim.Native.Nat.{ℕ, ◌≤◌, ◌<◌}
use mathlib.Core.Path.{◌≡◌, refl, sym, ap, ◌∙◌}
use mathlib.Core.Bool.{Bool, true, false}
use mathlib.Core.List.{List}
use native.Mathlib.Omega.{arith}
use lib.ListN.{length, drop}
use Rattle.base.specs.Tests.{◌or◌, ◌<?◌}
use Rattle.base.proofs.TestLaws.{Known, holds, fails, known, pick_yes, pick_no, or_fails, lt_yes, lt_no, lt_fails}
use Rattle.base.proofs.Branches.{or_yes, or_no}
use Rattle.format.specs.Types.{Action}
use Rattle.image.specs.Decode.{decoded, reads, greens_in, white_in}
use Rattle.image.specs.Holding.{Holds}
use Rattle.image.specs.Outcome.{state_short, image_number}
use Rattle.image.proofs.Refusals.{image_short, image_unread, image_whole, whole_read, whole_holds}
use Rattle.queue.specs.Queue.{QueueIn}
use Rattle.queue.proofs.ReadLaws.{holds_queue}
use Rattle.queries.specs.declared.GreenEntries.{GreenEntries}
use Rattle.queries.specs.Queries.{most_entry, fitting, Listing, unlisted, putting, listing, entries_on, listed, refused_entries}

-- ---- the positions that can be asked for: those from w on, up to the list's length

module _ (w : ℕ) (l : List Action) (f : ℕ) where
  pub in_list : w ≤ f → f ≤ length l → (f <? w or length l <? f) ≡ false
  in_list h k = sym (or_no false (f <? w) (length l <? f) (lt_no f w h) (sym (lt_no (length l) f k)))

  before_list : f < w → (f <? w or length l <? f) ≡ true
  before_list h = sym (or_yes (f <? w) (length l <? f) (lt_yes f w h))

  past_list : length l < f → (f <? w or length l <? f) ≡ true
  past_list h = go (known (f <? w))
    where
      go : Known (f <? w) → (f <? w or length l <? f) ≡ true
      go (holds t) = sym (or_yes (f <? w) (length l <? f) t)
      go (fails t) = sym (or_no true (f <? w) (length l <? f) t (sym (lt_yes (length l) f h)))

module _ (b : List ℕ) (f : ℕ) (o : List ℕ) where
  abbrev outside : Bool
  outside = f <? white_in b or length (greens_in b) <? f

  abbrev answer : Listing
  answer = listing (white_in b) (greens_in b) f o

  on_short : (state_short b or length o <? most_entry) ≡ true → entries_on b f o ≡ unlisted 7 o
  unfolding entries_on
  on_short h = sym (pick_yes (state_short b or length o <? most_entry) _ _ _ h refl)

  on_unread : (state_short b or length o <? most_entry) ≡ false → reads b ≡ false → entries_on b f o ≡ unlisted 8 o
  unfolding entries_on
  on_unread h k = sym (pick_no (state_short b or length o <? most_entry) _ _ _ h (pick_no (reads b) _ _ _ k refl))

  on_read : (state_short b or length o <? most_entry) ≡ false → reads b ≡ true → entries_on b f o ≡ answer
  unfolding entries_on
  on_read h k = sym (pick_no (state_short b or length o <? most_entry) _ _ _ h (pick_yes (reads b) _ _ _ k refl))

  on_outside : outside ≡ true → answer ≡ unlisted 2 o
  unfolding listing
  on_outside h = sym (pick_yes outside _ _ _ h refl)

  on_put : outside ≡ false → answer ≡ putting (white_in b) (greens_in b) (fitting (length o) (drop f (greens_in b))) o
  unfolding listing
  on_put h = sym (pick_no outside _ _ _ h refl)

  both_long : state_short b ≡ false → most_entry ≤ length o → (state_short b or length o <? most_entry) ≡ false
  both_long h l = sym (or_no false (state_short b) (length o <? most_entry) h (sym (lt_no (length o) most_entry l)))

  -- ---- number 0

  -- What it takes.
  pub record Put : Type 0 where
    pub whole : image_number b ≡ 0
    pub room : most_entry ≤ length o
    pub behind : white_in b ≤ f
    pub inside : f ≤ length (greens_in b)

  pub put_is : Put → entries_on b f o ≡ putting (white_in b) (greens_in b) (fitting (length o) (drop f (greens_in b))) o
  put_is p =
      let r = whole_read b p.whole in
      on_read (both_long r.0 p.room) r.1 ∙ on_put (in_list (white_in b) (greens_in b) f p.behind p.inside)

  pub put_when : (entries_on b f o).number ≡ 0 → Put
  unfolding unlisted
  put_when z = go (known (state_short b or length o <? most_entry)) (known (reads b)) (known outside)
    where
      go : Known (state_short b or length o <? most_entry) → Known (reads b) → Known outside → Put
      go (holds t) u v = absurd (omega (arith, z, ap (λ (x : Listing). x.number) (on_short t)))
      go (fails t) (fails u) v = absurd (omega (arith, z, ap (λ (x : Listing). x.number) (on_unread t u)))
      go (fails t) (holds u) (holds v) = absurd (omega (arith, z, ap (λ (x : Listing). x.number) (on_read t u ∙ on_outside v)))
      go (fails t) (holds u) (fails v) =
          let r = or_fails (state_short b) (length o <? most_entry) t in
          let i = or_fails (f <? white_in b) (length (greens_in b) <? f) v in
          record {
            whole = image_whole b r.0 u;
            room = lt_fails (length o) most_entry r.1;
            behind = lt_fails f (white_in b) i.0;
            inside = lt_fails (length (greens_in b)) f i.1;
          }

  -- ---- the code's answers

  refused_is : (k : ℕ) (r : GreenEntries) → r ≡ refused_entries k → listed r o ≡ unlisted k o
  unfolding listed unlisted
  refused_is k r e = ap (λ (x : GreenEntries). listed x o) e

  pub brief_entries : (r : GreenEntries) → length o < most_entry → r ≡ refused_entries 7 → listed r o ≡ entries_on b f o
  brief_entries r h e = refused_is 7 r e ∙ sym (on_short (go (known (state_short b))))
    where
      go : Known (state_short b) → (state_short b or length o <? most_entry) ≡ true
      go (holds t) = sym (or_yes (state_short b) (length o <? most_entry) t)
      go (fails t) = sym (or_no true (state_short b) (length o <? most_entry) t (sym (lt_yes (length o) most_entry h)))

  module _ (room : most_entry ≤ length o) (n : ℕ) (e : n ≡ image_number b) where
    pub refused_entries_lem : (r : GreenEntries) → (n ≡ 0 → ⊥) → r ≡ refused_entries n → listed r o ≡ entries_on b f o
    refused_entries_lem r h g = refused_is n r g ∙ ap (λ (k : ℕ). unlisted k o) e ∙ go (known (state_short b)) (known (reads b))
      where
        go : Known (state_short b) → Known (reads b) → unlisted (image_number b) o ≡ entries_on b f o
        go (holds t) u = ap (λ (k : ℕ). unlisted k o) (image_short b t) ∙ sym (on_short (sym (or_yes (state_short b) (length o <? most_entry) t)))
        go (fails t) (holds u) = absurd (h (e ∙ image_whole b t u))
        go (fails t) (fails u) = ap (λ (k : ℕ). unlisted k o) (image_unread b t u) ∙ sym (on_unread (both_long t room) u)

    module _ (z : n ≡ 0) where
      read : Holds (decoded b) b
      read = whole_holds b (sym e ∙ z)

      pub whole_queue : QueueIn b
      whole_queue = holds_queue (decoded b) b read

      is_read : entries_on b f o ≡ answer
      is_read = let r = whole_read b (sym e ∙ z) in on_read (both_long r.0 room) r.1

      is_outside : (r : GreenEntries) → outside ≡ true → r ≡ refused_entries 2 → listed r o ≡ entries_on b f o
      is_outside r t m = refused_is 2 r m ∙ sym (is_read ∙ on_outside t)

      pub white_entries : (w : ℕ) (r : GreenEntries) → w ≡ white_in b → f < w → r ≡ refused_entries 2 → listed r o ≡ entries_on b f o
      white_entries w r k l m = is_outside r (before_list (white_in b) (greens_in b) f (omega arith)) m

      pub past_entries : (g : ℕ) (r : GreenEntries) → g ≡ length (greens_in b) → g < f → r ≡ refused_entries 2 → listed r o ≡ entries_on b f o
      past_entries g r k l m = is_outside r (past_list (white_in b) (greens_in b) f (omega arith)) m

      pub put_listed : (x : Listing) → x ≡ answer → x ≡ entries_on b f o
      put_listed x h = h ∙ sym is_read
