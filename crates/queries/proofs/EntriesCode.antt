-- Green entries, as the code puts them one behind another.
use Prim.Native.Nat.{ℕ, suc, ◌+◌, ◌*◌, ◌-◌, ◌^◌, ◌≤◌, ◌<◌}
use mathlib.Core.Path.{◌≡◌, refl, sym, ap, ◌∙◌}
use mathlib.Core.List.{List, [], ◌∷◌, ◌++◌, append-nil, append_assoc}
use native.Mathlib.Omega.{arith}
use native.Mathlib.Nat.{zero-add}
use lib.ListN.{length, drop, length-append}
use lib.Seq.{drop-length}
use Rattle.base.specs.Bytes.{number_at, joined, over}
use Rattle.base.specs.Patched.{patched}
use Rattle.base.proofs.PatchedLaws.{patched_next, patched_none}
use Rattle.base.specs.Tests.{◌or◌, ◌<?◌}
use Rattle.base.proofs.TestLaws.{pick_no}
use Rattle.format.specs.Limits.{most_payload_limit}
use Rattle.format.specs.Places.{action_payload_at, action_head_size}
use Rattle.format.specs.Types.{Action}
use Rattle.format.specs.Read.{action_at}
use Rattle.image.specs.Layout.{slot_size, the_queue}
use Rattle.image.specs.Decode.{greens_in, white_in}
use Rattle.image.specs.Counts.{queue_count, green_count, place}
use Rattle.queue.specs.Queue.{slot_place, green_slot, QueueIn}
use Rattle.queue.proofs.GreenHistory.{greens_in_count, green_low, greens_in_next}
use Rattle.base.proofs.Over.{over_front}
use Rattle.queries.specs.declared.GreenEntries.{GreenEntries}
use Rattle.queries.specs.Queries.{entry_bytes, entries_bytes, entry_head_size, most_entry, fitting, putting, listing, listed, put_entries}
use Rattle.queries.proofs.ListingLaws.{in_list}
use Rattle.queries.proofs.EntryLaws.{slot_entry_length, entries_append, one_entry, first_fits, first_too_long, none_to_fit}

-- ---- the loop

-- Entries put so far: k and `at` are the places behind them, and what fits of the whole is these and what fits of the rest.
pub record Along (b : List ℕ) (from : ℕ) (o₀ o : List ℕ) (k at : ℕ) : Type 0 where
  pub size : length o ≡ length o₀
  pub low : white_in b ≤ from
  pub high : k ≤ length (greens_in b)
  pub put : List Action
  pub count : from + length put ≡ k
  pub place : at ≡ length (entries_bytes put)
  pub inside : at ≤ length o₀
  pub most : at ≤ most_entry * length put
  pub bytes : o ≡ patched 0 (entries_bytes put) o₀
  pub rest : fitting (length o₀) (drop from (greens_in b)) ≡ put ++ fitting (length o₀ - at) (drop k (greens_in b))

pub along_starts : (b : List ℕ) (from white green : ℕ) (o : List ℕ) → white ≡ white_in b → green ≡ length (greens_in b) → white ≤ from → from ≤ green
    → Along b from o o from 0
unfolding entries_bytes joined
along_starts b from white green o d e l h =
    let room : length o ≡ length o - 0 = omega arith in
    record {
      size = refl;
      low = omega arith;
      high = omega arith;
      put = [];
      count = omega arith;
      place = refl;
      inside = omega arith;
      most = omega arith;
      bytes = sym (patched_none 0 o);
      rest = ap (λ (r : ℕ). fitting r (drop from (greens_in b))) room;
    }

module _ (b : List ℕ) (from : ℕ) (o₀ o : List ℕ) (k at : ℕ) (q : QueueIn b) (a : Along b from o₀ o k at) where
  pub along_low : from ≤ k
  along_low = omega (arith, a.count)

  -- The bytes are few enough for 32 bits.
  pub along_few : at < 2 ^ 32
  along_few = omega (arith, a.most, a.count, a.low, a.high, greens_in_count b q, q.counts.green, q.counts.queue, q.counts.most)

  -- Nothing more fits: the answer.
  module _ (done : fitting (length o₀ - at) (drop k (greens_in b)) ≡ []) where
    chosen : a.put ≡ fitting (length o₀) (drop from (greens_in b))
    chosen = sym (a.rest ∙ ap (λ (x : List Action). a.put ++ x) done ∙ append-nil a.put)

    along_answer : (white green : ℕ) (r : GreenEntries) → white ≡ white_in b → green ≡ length (greens_in b) → r ≡ put_entries green white (k - from) at
        → listed r o ≡ listing (white_in b) (greens_in b) from o₀
    unfolding listed listing putting
    along_answer white green r d e is-r =
        let entries : k - from ≡ length a.put = omega (arith, a.count) in
        let put : o ≡ over (entries_bytes a.put) o₀ = a.bytes ∙ over_front (entries_bytes a.put) o₀ in
        ap (λ (y : GreenEntries). listed y o) is-r
        ∙ pick_no (from <? white_in b or length (greens_in b) <? from) _ _ _ (in_list (white_in b) (greens_in b) from a.low (omega (arith, a.count, a.high)))
        (λ i. record {
          number = 0;
          green = e i;
          white = d i;
          entries = (entries ∙ ap length chosen) i;
          bytes = (a.place ∙ ap (λ (x : List Action). length (entries_bytes x)) chosen) i;
          out = (put ∙ ap (λ (x : List Action). over (entries_bytes x) o₀) chosen) i;
        })

  pub along_ends : (white green : ℕ) (r : GreenEntries) → white ≡ white_in b → green ≡ length (greens_in b) → green ≤ k
      → r ≡ put_entries green white (green - from) at → listed r o ≡ listing (white_in b) (greens_in b) from o₀
  along_ends white green r d e h is-r =
      let last : k ≡ length (greens_in b) = omega (arith, a.high) in
      let whole : green - from ≡ k - from = omega arith in
      along_answer
      (ap (λ (n : ℕ). fitting (length o₀ - at) (drop n (greens_in b))) last
      ∙ ap (fitting (length o₀ - at)) (drop-length (greens_in b))
      ∙ none_to_fit (length o₀ - at)) white green r d e (is-r ∙ ap (λ (n : ℕ). put_entries green white n at) whole)

  -- A position before the last one has a slot.
  pub along_behind : white_in b ≤ k
  along_behind = omega (arith, along_low, a.low)

  pub along_inside : (green : ℕ) → green ≡ length (greens_in b) → k < green → k < white_in b + green_count b
  along_inside green e h = omega (arith, greens_in_count b q)

  -- The slot s of the position k, with its payload's length.
  module _ (green p s m : ℕ) (e : green ≡ length (greens_in b)) (h : k < green) (is-p : p ≡ place the_queue b) (is-s : s ≡ green_slot b k)
      (is_m : m ≡ number_at 1 b (p + slot_size * s + action_payload_at)) where
    low : s < queue_count b
    low = omega (arith, is-s, green_low b q k along_behind (along_inside green e h))

    slot_short : m ≤ most_payload_limit
    unfolding slot_place
    slot_short =
        let here : p + slot_size * s + action_payload_at ≡ place the_queue b + slot_size * s + action_payload_at = omega arith in
        omega (arith, q.payloads s low, ap (number_at 1 b) here)

    pub slot_inside : p + slot_size * s + action_head_size + m ≤ length b
    slot_inside = omega (arith, slot_short, low, q.counts.queue_end, q.counts.queue)

    abbrev x : Action
    x = action_at b (p + slot_size * s)

    next_is : drop k (greens_in b) ≡ x ∷ drop (suc k) (greens_in b)
    unfolding slot_place
    next_is = greens_in_next b q k along_behind (along_inside green e h) ∙ (λ i. action_at b (sym is-p i + slot_size * sym is-s i) ∷ drop (suc k) (greens_in b))

    size_is : length (entry_bytes x) ≡ entry_head_size + m
    size_is = slot_entry_length b (p + slot_size * s) m is_m slot_inside

    pub along_full : (white : ℕ) (r : GreenEntries) → white ≡ white_in b → length o - at < entry_head_size + m → r ≡ put_entries green white (k - from) at
        → listed r o ≡ listing (white_in b) (greens_in b) from o₀
    along_full white r d l is-r =
        along_answer
        (ap (fitting (length o₀ - at)) next_is ∙ first_too_long (length o₀ - at) x (drop (suc k) (greens_in b)) (omega (arith, size_is, a.size))) white green r d e is-r

    module _ (l : entry_head_size + m ≤ length o - at) where
      pub along_room : at + (entry_head_size + m) ≤ length o
      along_room = omega (arith, a.inside, a.size)

      pub along_on : (o₁ : List ℕ) → length o₁ ≡ length o → o₁ ≡ patched at (entry_bytes x) o → Along b from o₀ o₁ (k + 1) (at + (entry_head_size + m))
      along_on o₁ same put =
          let long : length (a.put ++ (x ∷ [])) ≡ length a.put + 1 = length-append a.put (x ∷ []) in
          let all : entries_bytes (a.put ++ (x ∷ [])) ≡ entries_bytes a.put ++ entry_bytes x =
          entries_append a.put (x ∷ []) ∙ ap (λ (y : List ℕ). entries_bytes a.put ++ y) (one_entry x) in
          let left : length o₀ - at - length (entry_bytes x) ≡ length o₀ - (at + (entry_head_size + m)) = omega (arith, size_is) in
          let next : suc k ≡ k + 1 = omega arith in
          record {
            size = same ∙ a.size;
            low = a.low;
            high = omega arith;
            put = a.put ++ (x ∷ []);
            count = omega (arith, long, a.count);
            place = omega (arith, a.place, size_is, ap length all ∙ length-append (entries_bytes a.put) (entry_bytes x));
            inside = omega (arith, a.inside, a.size);
            most = omega (arith, long, a.most, slot_short);
            bytes =
                put
                ∙ (λ i. patched ((a.place ∙ sym (zero-add (length (entries_bytes a.put)))) i) (entry_bytes x) (a.bytes i))
                ∙ patched_next 0 (entries_bytes a.put) (entry_bytes x) o₀ (omega arith)
                ∙ ap (λ (y : List ℕ). patched 0 y o₀) (sym all);
            rest =
                a.rest
                ∙ ap (λ (y : List Action). a.put ++ fitting (length o₀ - at) y) next_is
                ∙ ap (λ (y : List Action). a.put ++ y) (first_fits (length o₀ - at) x (drop (suc k) (greens_in b)) (omega (arith, size_is, a.size)))
                ∙ sym (append_assoc a.put (x ∷ []) (fitting (length o₀ - at - length (entry_bytes x)) (drop (suc k) (greens_in b))))
                ∙ (λ i. (a.put ++ (x ∷ [])) ++ fitting (left i) (drop (next i) (greens_in b)));
          }
