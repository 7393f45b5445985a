-- What States in range decide is in range: votes, marks, yellow list, noted lengths, plan.
use Prim.Native.Nat.{ℕ, ◌*◌, ◌^◌, ◌≤◌, ◌<◌}
use mathlib.Core.Path.{◌≡◌, refl, ap, ◌∙◌}
use mathlib.Core.Bool.{Bool, true, false, not}
use mathlib.Core.List.{List, [], ◌∷◌, map}
use native.Mathlib.Omega.{arith}
use native.Mathlib.Nat.{one-le-pow}
use lib.ListN.{length, get_or, set, length-set, length-map}
use Rattle.base.specs.Tests.{◌and◌, ◌=?◌, pick}
use Rattle.base.specs.Lists.{all, filter, below, Each}
use Rattle.base.proofs.Filters.{filter_length}
use Rattle.base.proofs.ListLaws.{each_implied, each_filter, each_map, each_always, above_length, below_length, sum_bound, bounded_set}
use Rattle.base.specs.Counts.{count}
use Rattle.base.proofs.CountLaws.{count_filter}
use Rattle.base.specs.Sets.{union, with_member}
use Rattle.base.proofs.SetLaws.{union_below, with_member_below}
use Rattle.format.specs.Limits.{most_index_limit, most_number_limit, most_length_limit, most_planned}
use Rattle.format.specs.Types.{Primary, State}
use Rattle.format.specs.Range.{same_id, has_id}
use Rattle.replication.specs.Machine.Types.{Votes, cleared_mark, no_yellow}
use Rattle.replication.specs.Machine.Colours.{note}
use Rattle.replication.specs.Machine.Plan.{highest, lowest, missing, cut_in, green_in, planned}
use Rattle.replication.specs.Machine.Exchange.{note_all, later, latest, taken_primary, same_pair, updated_group, taken_attempt, is_valid, common_yellow, taken_yellow, is_marked, rule_a, rule_b, alike, join_bits, joined_bits, rule_c, kept_mark, judged_mark, own_mark, taken_votes, attempted}
use Rattle.replication.proofs.WellFormed.Ranges.{component_fits}
use Rattle.replication.specs.Machine.WellFormedRanges.{IdFits, PrimaryFits, MarkFits, YellowFits, StateFits}
use Rattle.replication.proofs.WellFormed.Clauses.{VotesRanges}

picked : {A : Type 0} (P : A → Type 0) (t : Bool) (x y : A) → P x → P y → P (pick t x y)
unfolding pick
picked P true x y h k = h
picked P false x y h k = k

-- ---- parts that the start, Install and clearing use

pub empty_below : (n : ℕ) → 0 < 2 ^ n
empty_below n = omega (arith, one-le-pow n 2 (omega arith))

pub cleared_mark_fits : (n : ℕ) → MarkFits n cleared_mark
unfolding cleared_mark
cleared_mark_fits n = record { status = omega arith; index = omega arith; attempt = omega arith; set = empty_below n; bits = empty_below n }

pub no_yellow_fits : (n q : ℕ) → YellowFits n q no_yellow
unfolding no_yellow count
no_yellow_fits n q = record { status = omega arith; few = omega arith; ids = tt; once = λ d. omega arith }

-- ---- the plan

pub highest_bound : (f : State → ℕ) (b : ℕ) (xs : List State) → Each (λ x. f x ≤ b) xs → highest f xs ≤ b
unfolding highest
highest_bound f b [] h = omega arith
highest_bound f b (x ∷ xs) h = omega (arith, highest_bound f b xs h.1)

pub missing_length : (f : State → ℕ) (xs : List State) → length (missing f xs) ≤ highest f xs
unfolding missing
missing_length f xs = omega (arith, above_length (lowest f xs) (highest f xs))

module _ (n q : ℕ) where
  pub green_bound : (xs : List State) → Each (StateFits n q) xs → highest green_in xs ≤ most_length_limit
  unfolding green_in
  green_bound xs h = highest_bound green_in most_length_limit xs (each_implied (StateFits n q) (λ x. green_in x ≤ most_length_limit) (λ x f. f.green_length) xs h)

  pub cut_bound : (c : ℕ) (xs : List State) → Each (StateFits n q) xs → highest (cut_in c) xs ≤ most_number_limit
  unfolding cut_in
  cut_bound c xs h = highest_bound (cut_in c) most_number_limit xs (each_implied (StateFits n q) (λ x. cut_in c x ≤ most_number_limit) (λ x f. f.cuts c) xs h)

  pub planned_bound : (xs : List State) → Each (StateFits n q) xs → planned n xs ≤ most_planned n
  unfolding planned
  planned_bound xs h =
      omega (
        arith,
        missing_length green_in xs,
        green_bound xs h,
        below_length n,
        length-map (below n) (λ c. length (missing (cut_in c) xs)),
        ap (λ k. k * most_number_limit) (length-map (below n) (λ c. length (missing (cut_in c) xs)) ∙ below_length n),
        sum_bound most_number_limit (map (λ c. length (missing (cut_in c) xs)) (below n))
            (each_map (λ k. k ≤ most_number_limit) (λ c. length (missing (cut_in c) xs)) (below n) (each_always (λ c. length (missing (cut_in c) xs) ≤ most_number_limit) each (below n))),
      )
    where
      each : (c : ℕ) → length (missing (cut_in c) xs) ≤ most_number_limit
      each c = omega (arith, missing_length (cut_in c) xs, cut_bound c xs h)

  -- ---- the primary and the attempt

  latest_fits : (p : Primary) (xs : List State) → PrimaryFits n p → Each (StateFits n q) xs → PrimaryFits n (latest p xs)
  unfolding latest
  latest_fits p [] f h = f
  latest_fits p (x ∷ xs) f h = latest_fits (pick (later p x.last) x.last p) xs (picked (PrimaryFits n) (later p x.last) x.last p h.0.last f) h.1

  pub taken_primary_fits : (xs : List State) → Each (StateFits n q) xs → PrimaryFits n (taken_primary xs)
  unfolding taken_primary
  taken_primary_fits [] h = component_fits n 0 0 _ (omega arith) (omega arith) (empty_below n)
  taken_primary_fits (x ∷ xs) h = latest_fits x.last xs h.0.last h.1

  updated_each : (xs : List State) → Each (StateFits n q) xs → Each (StateFits n q) (updated_group xs)
  unfolding updated_group
  updated_each xs h = each_filter (StateFits n q) (same_pair (taken_primary xs)) xs h

  pub taken_attempt_bound : (xs : List State) → Each (StateFits n q) xs → taken_attempt xs ≤ most_index_limit
  unfolding taken_attempt
  taken_attempt_bound xs h =
      highest_bound (λ x. x.attempt) most_index_limit (updated_group xs)
      (each_implied (StateFits n q) (λ x. x.attempt ≤ most_index_limit) (λ x f. f.attempt) (updated_group xs) (updated_each xs h))

  -- ---- the yellow list

  common_yellow_fits : (xs : List State) → Each (StateFits n q) xs → YellowFits n q (common_yellow xs)
  unfolding common_yellow
  common_yellow_fits [] h = no_yellow_fits n q
  common_yellow_fits (x ∷ xs) h = record {
    status = omega arith;
    few = omega (arith, filter_length (λ d. all (λ y. has_id d y.yellow.ids) xs) x.yellow.ids, h.0.yellow.few);
    ids = each_filter (IdFits n q) (λ d. all (λ y. has_id d y.yellow.ids) xs) x.yellow.ids h.0.yellow.ids;
    once = λ d. omega (arith, count_filter (same_id d) (λ e. all (λ y. has_id e y.yellow.ids) xs) x.yellow.ids, h.0.yellow.once d);
  }

  pub taken_yellow_fits : (xs : List State) → Each (StateFits n q) xs → YellowFits n q (taken_yellow xs)
  unfolding taken_yellow
  taken_yellow_fits xs h =
      common_yellow_fits (filter is_valid (updated_group xs)) (each_filter (StateFits n q) is_valid (updated_group xs) (updated_each xs h))

  -- ---- marks

  join_bits_below : (xs : List State) (bits : ℕ) → Each (StateFits n q) xs → bits < 2 ^ n → join_bits xs bits < 2 ^ n
  unfolding join_bits
  join_bits_below [] bits h b = b
  join_bits_below (x ∷ xs) bits h b =
      join_bits_below xs (with_member x.sender (union bits x.mark.bits)) h.1
      (with_member_below n x.sender (union bits x.mark.bits) h.0.sender (union_below n bits x.mark.bits b h.0.mark.bits))

  kept_mark_fits : (xs : List State) (v : State) → Each (StateFits n q) xs → StateFits n q v → MarkFits n (kept_mark xs v)
  unfolding kept_mark joined_bits
  kept_mark_fits xs v h f = record {
    status = f.mark.status;
    index = f.mark.index;
    attempt = f.mark.attempt;
    set = f.mark.set;
    bits = join_bits_below (filter (alike v) xs) v.mark.bits (each_filter (StateFits n q) (alike v) xs h) f.mark.bits;
  }

  judged_mark_fits : (xs : List State) (v : State) → Each (StateFits n q) xs → StateFits n q v → MarkFits n (judged_mark xs v)
  unfolding judged_mark
  judged_mark_fits xs v h f =
      picked (MarkFits n) (is_marked v and not (rule_a (taken_primary xs) v) and not (rule_b xs v) and not (rule_c xs v)) (kept_mark xs v) cleared_mark
      (kept_mark_fits xs v h f) (cleared_mark_fits n)

  own_mark_fits : (me : ℕ) (xs vs : List State) → Each (StateFits n q) xs → Each (StateFits n q) vs → MarkFits n (own_mark me xs vs)
  unfolding own_mark
  own_mark_fits me xs [] h g = cleared_mark_fits n
  own_mark_fits me xs (v ∷ vs) h g =
      picked (MarkFits n) (v.sender =? me) (judged_mark xs v) (own_mark me xs vs) (judged_mark_fits xs v h g.0) (own_mark_fits me xs vs h g.1)

  -- ---- votes and noted lengths

  pub taken_votes_fits : (me : ℕ) (xs : List State) → Each (StateFits n q) xs → VotesRanges n q (taken_votes me xs)
  unfolding taken_votes
  taken_votes_fits me xs h =
      record { last = taken_primary_fits xs h; attempt = taken_attempt_bound xs h; mark = own_mark_fits me xs xs h h; yellow = taken_yellow_fits xs h }

  pub attempted_fits : (here : ℕ) (v : Votes) → VotesRanges n q v → v.attempt < most_index_limit → here < 2 ^ n → VotesRanges n q (attempted here v)
  unfolding attempted
  attempted_fits here v f low set = record {
    last = f.last;
    attempt = omega arith;
    mark = record { status = omega arith; index = f.last.index; attempt = omega arith; set = set; bits = empty_below n };
    yellow = f.yellow;
  }

pub note_length : (c l : ℕ) (noted : List ℕ) → length (note c l noted) ≡ length noted
unfolding note
note_length c l noted = length-set noted c _

pub note_bound : (b c l : ℕ) (noted : List ℕ) → ((k : ℕ) → get_or noted k 0 ≤ b) → l ≤ b → (k : ℕ) → get_or (note c l noted) k 0 ≤ b
unfolding note
note_bound b c l noted h m k = bounded_set noted c _ b h (omega (arith, h c)) k

pub note_all_length : (xs : List State) (noted : List ℕ) → length (note_all xs noted) ≡ length noted
unfolding note_all
note_all_length [] noted = refl
note_all_length (x ∷ xs) noted = note_all_length xs (note x.sender x.green_length noted) ∙ note_length x.sender x.green_length noted

pub note_all_bound : (n q : ℕ) (xs : List State) (noted : List ℕ) → Each (StateFits n q) xs → ((k : ℕ) → get_or noted k 0 ≤ most_length_limit)
    → (k : ℕ) → get_or (note_all xs noted) k 0 ≤ most_length_limit
unfolding note_all
note_all_bound n q [] noted h f = f
note_all_bound n q (x ∷ xs) noted h f =
    note_all_bound n q xs (note x.sender x.green_length noted) h.1 (note_bound most_length_limit x.sender x.green_length noted f h.0.green_length)
