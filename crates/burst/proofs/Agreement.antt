-- Demand 3 on the buffers of daemons that take events by bursts, from that of daemons that take each event by the step.
use Prim.Native.Nat.{ℕ, zero, suc, ◌+◌, ◌≤◌, ◌<◌}
use mathlib.Core.Path.{◌≡◌, refl, sym, ap, subst, subst₂, ◌∙◌}
use mathlib.Core.Bool.{false}
use mathlib.Core.List.{List, []}
use mathlib.Core.Option.{some}
use native.Mathlib.Omega.{arith}
use lib.ListN.{length, take, drop}
use Rattle.base.specs.Tests.{◌=?◌, pick}
use Rattle.base.specs.Lists.{at}
use Rattle.base.proofs.AtLaws.{upd_here}
use Rattle.base.proofs.Prefixes.{begins_length}
use Rattle.replication.specs.Runs.Run.{event, Run, put_out, sent_at}
use Rattle.replication.specs.Runs.Strays.{AllowedWithStraysUp}
use Rattle.replication.specs.Runs.Claim.{ListsAgree, stored_green, memory_green, green_at}
use Rattle.image.specs.Decode.{greens_in, white_in}
use Rattle.image.specs.Outcome.{Result, refusal}
use Rattle.daemons.specs.Buffers.{Buffers, step_in, kept_after}
use Rattle.daemons.specs.Sending.{cut_records}
use Rattle.daemons.specs.Daemons.{Daemons, Lending, daemons_after, daemons_at}
use Rattle.daemons.specs.Claim.{HistoryIn, shown, HeldBy, BuffersFollow, BuffersAgree, BuffersDemand}
use Rattle.daemons.proofs.SendingLaws.{cut_short_lem}
use Rattle.daemons.proofs.Agreement.{buffers_demand}
use Rattle.burst.specs.Burst.{Burst}
use Rattle.burst.specs.Calls.{Call, together, before, last, refused, kept_at, place_of, ran_by}
use Rattle.burst.specs.Daemons.{burst_in, came_in, LongEnoughFor, system, by_places, stepwise}
use Rattle.burst.specs.Claim.{AnswersAs, CallsAgree, BurstsAgree}
use Rattle.burst.proofs.Places.{place_rises}
use Rattle.burst.proofs.Daemons.{steps_call, calls_follow}

module _ (n q : ℕ) (cs : List Call) (x : Lending) (S : AllowedWithStraysUp n q (ran_by (system n q cs x))) (long : LongEnoughFor n q cs x) where
  abbrev run : Run
  run = ran_by (system n q cs x)

  abbrev daemons : ℕ → Daemons
  daemons j = kept_at (system n q cs x) j

  abbrev place : ℕ → ℕ
  place j = place_of (system n q cs x) j

  same : (j : ℕ) → daemons j ≡ stepwise n q cs x (place j)
  same = (calls_follow n q cs x).kept

  -- Daemons that take each event by the step, over the same run.
  demand : BuffersFollow n q run (by_places n q cs x) × BuffersAgree n q run (by_places n q cs x)
  unfolding BuffersDemand
  demand = buffers_demand n q run S (by_places n q cs x) ((calls_follow n q cs x).long long)

  abbrev agree : BuffersAgree n q run (by_places n q cs x)
  agree = demand.1

  rises : (j r : ℕ) → j ≤ r → place j ≤ place r
  rises = place_rises (system n q cs x)

  up : (j i : ℕ) → (daemons j).down i ≡ false → (stepwise n q cs x (place j)).down i ≡ false
  up j i f = ap (λ (d : Daemons). d.down i) (sym (same j)) ∙ f

  -- The bytes of two daemons' buffers, from a place on that is white in neither.
  abbrev ShownAgree : Daemons → (i k w : ℕ) → Type 0
  ShownAgree d i k w =
      white_in (shown d i) ≤ w → white_in (shown d k) ≤ w → w ≤ length (greens_in (shown d i)) → w ≤ length (greens_in (shown d k))
      → ListsAgree (drop w (greens_in (shown d i))) (drop w (greens_in (shown d k)))

  -- ---- what is sent

  module _ (j i k m : ℕ) (e v : List ℕ) (y : Burst) (h : at cs j ≡ some (together i e k)) (is : burst_in ((daemons j).buffers i) e (x.out j) ≡ y)
      (t : at (came_in y e) m ≡ some v)
    where
      abbrev r : Result
      r = step_in ((stepwise n q cs x (place j + m)).buffers i) v (x.out j)

      there : at run (place j + m) ≡ some (event i v k)
      there = ((calls_follow n q cs x).steps j i k m e v y h is t).0

      answers : AnswersAs y m r
      answers = ((calls_follow n q cs x).steps j i k m e v y h is t).1

      -- The same with the outgoing buffer of the place.
      answered : step_in ((stepwise n q cs x (place j + m)).buffers i) v ((by_places n q cs x).out (place j + m)) ≡ r
      unfolding by_places
      answered =
          ap (λ (c : ℕ). step_in ((stepwise n q cs x (place j + m)).buffers i) v (x.out c)) (steps_call n q cs x j i k m e v y h is t)

      sent_last : suc m ≡ y.events → take k (cut_records (take y.sent y.out)) ≡ sent_at n q run (place j + m)
      sent_last l = go answers
        where
          go : AnswersAs y m r → take k (cut_records (take y.sent y.out)) ≡ sent_at n q run (place j + m)
          go (before b c) = absurd (omega arith)
          go (last b c) = demand.0.sent (place j + m) i k v _ there (answered ∙ c)
          go (refused b z c) = absurd (omega arith)

      put_none : (a : Result) → r ≡ a → a.sent ≡ 0 → put_out n q run (place j + m) ≡ []
      put_none a c z =
          sym (demand.0.records (place j + m) i k v a there (answered ∙ c))
          ∙ ap (λ (b : ℕ). cut_records (take b a.out)) z
          ∙ cut_short_lem [] (omega arith)

      put_other : (suc m ≡ y.events → ⊥) → put_out n q run (place j + m) ≡ []
      unfolding refusal
      put_other l = go answers
        where
          go : AnswersAs y m r → put_out n q run (place j + m) ≡ []
          go (before b c) = put_none r refl c.2
          go (last b c) = absurd (l b)
          go (refused b z c) = put_none (refusal y.number y.state y.out) c refl

  -- ---- what is white was read

  module _ (j i k m : ℕ) (e v : List ℕ) (y : Burst) (h : at cs j ≡ some (together i e k)) (is : burst_in ((daemons j).buffers i) e (x.out j) ≡ y)
      (t : at (came_in y e) m ≡ some v)
    where
      abbrev here : Daemons
      here = stepwise n q cs x (place j + m)

      abbrev next : Daemons
      next = stepwise n q cs x (suc (place j + m))

      abbrev by : Result
      by = r j i k m e v y h is t

      arrives : next ≡ daemons_after here ((by_places n q cs x).out (place j + m)) ((by_places n q cs x).crashed (place j + m)) (some (event i v k))
      unfolding daemons_at
      arrives =
          ap (daemons_after here ((by_places n q cs x).out (place j + m)) ((by_places n q cs x).crashed (place j + m))) (there j i k m e v y h is t)

      leaves : next.buffers i ≡ kept_after (here.buffers i) by
      unfolding daemons_after
      leaves = ap (λ (d : Daemons). d.buffers i) arrives ∙ upd_here _ i _ ∙ ap (kept_after (here.buffers i)) (answered j i k m e v y h is t)

      runs : by.number ≡ 0 → next.down i ≡ false
      unfolding daemons_after pick ◌=?◌
      runs z =
          ap (λ (d : Daemons). d.down i) arrives
          ∙ upd_here _ i _
          ∙ ap (λ (a : Result). pick (a.number =? 0) false (here.down i)) (answered j i k m e v y h is t)
          ∙ ap (λ (b : ℕ). pick (b =? 0) false (here.down i)) z

      -- Before the last one taken the store stays.
      unstored : by.store ≡ 0 → (next.buffers i).store ≡ (here.buffers i).store
      unfolding kept_after pick ◌=?◌
      unstored z = ap (λ (b : Buffers). b.store) leaves ∙ ap (λ (w : ℕ). pick (w =? 1) by.state (here.buffers i).store) z

  module _ (j i k : ℕ) (e : List ℕ) (y : Burst) (h : at cs j ≡ some (together i e k)) (is : burst_in ((daemons j).buffers i) e (x.out j) ≡ y) where
    stays : (m : ℕ) → m < y.events → ((stepwise n q cs x (place j + m)).buffers i).store ≡ ((daemons j).buffers i).store
    stays zero l = ap (λ (p : ℕ). ((stepwise n q cs x p).buffers i).store) (omega arith) ∙ ap (λ (d : Daemons). (d.buffers i).store) (sym (same j))
    stays (suc m) l =
        let v = (calls_follow n q cs x).taken j i k m e y h is (omega arith) in
        ap (λ (p : ℕ). ((stepwise n q cs x p).buffers i).store) (omega arith)
        ∙ go v.0 v.1 (answers j i k m e v.0 y h is v.1)
        ∙ stays m (omega arith)
      where
        go : (v : List ℕ) (t : at (came_in y e) m ≡ some v) → AnswersAs y m (r j i k m e v y h is t)
            → ((stepwise n q cs x (suc (place j + m))).buffers i).store ≡ ((stepwise n q cs x (place j + m)).buffers i).store
        go v t (before b c) = unstored j i k m e v y h is t c.1
        go v t (last b c) = absurd (omega arith)
        go v t (refused b z c) = absurd (omega arith)

    was_stored : (m : ℕ) → i < n → suc m ≡ y.events → white_in y.state ≤ length (greens_in ((daemons j).buffers i).store)
    unfolding kept_after
    was_stored m a l =
        let v = (calls_follow n q cs x).taken j i k m e y h is (omega arith) in
        go v.0 v.1 (answers j i k m e v.0 y h is v.1)
      where
        go : (v : List ℕ) (t : at (came_in y e) m ≡ some v) → AnswersAs y m (r j i k m e v y h is t)
            → white_in y.state ≤ length (greens_in ((daemons j).buffers i).store)
        go v t (before b c) = absurd (omega arith)
        go v t (last b c) =
            subst₂ (λ (s o : List ℕ). white_in s ≤ length (greens_in o))
            (ap (λ (z : Buffers). z.state) (leaves j i k m e v y h is t) ∙ ap (λ (z : Result). z.state) c) (stays m (omega arith))
            (agree.white_stored (place j + m) i i a a (runs j i k m e v y h is t (ap (λ (z : Result). z.number) c)))
        go v t (refused b z c) = absurd (omega arith)

  -- The stored green list begins the one in memory.
  stored_shorter : (j i : ℕ) → i < n → (daemons j).down i ≡ false
      → length (greens_in ((daemons j).buffers i).store) ≤ length (greens_in ((daemons j).buffers i).state)
  stored_shorter j i a f =
      subst (λ (d : Daemons). length (greens_in (d.buffers i).store) ≤ length (greens_in (d.buffers i).state)) (sym (same j))
      (omega (
        arith,
        begins_length _ _ (agree.stored_first (place j) i),
        (agree.stored_history (place j) i a).size,
        (agree.running_history (place j) i a (up j i f)).size,
      ))

  calls_agree : CallsAgree n q cs x
  calls_agree = record {
    history = λ j i a. coe 1 0 (t. HistoryIn (shown (same j t) i) (green_at n q run (place j) i)) (agree.history (place j) i a);
    stored_history = λ j i a. coe 1 0 (t. HistoryIn ((same j t).buffers i).store (stored_green n q run (place j) i)) (agree.stored_history (place j) i a);
    running_history = λ j i a f.
        coe 1 0 (t. HistoryIn ((same j t).buffers i).state (memory_green n q run (place j) i)) (agree.running_history (place j) i a (up j i f));
    green = λ j i k a b. agree.green (place j) i k a b;
    shown_green_lem = λ j i k w a b.
        subst (λ (d : Daemons). ShownAgree d i k w) (sym (same j)) (agree.shown_green_lem (place j) i k w a b);
    primary = λ j r i k b c u v f g.
        agree.primary (place j) (place r) i k b c u v (subst (λ (d : Daemons). HeldBy d i b) (same j) f) (subst (λ (d : Daemons). HeldBy d k c) (same r) g);
    known = λ j i b u f. agree.known (place j) i b u (subst (λ (d : Daemons). HeldBy d i b) (same j) f);
    stored = λ j r i k a b. agree.stored (place j) (place r) i k a b;
    later = λ j r i k l a b f. agree.later (place j) (place r) i k (rises j r l) a b (up r k f);
    kept = λ j r i l a. agree.kept (place j) (place r) i (rises j r l) a;
    white_stored = λ j i k m e y a h is l. was_stored j i k e y h is m a l;
    white_read = λ j i k m e y a f h is l. omega (arith, was_stored j i k e y h is m a l, stored_shorter j i a f);
    sent = λ j i k m e y h is l.
        let v = (calls_follow n q cs x).taken j i k m e y h is (omega arith) in sent_last j i k m e v.0 y h is v.1 l;
    unsent = λ j i k m e v y h is t l. put_other j i k m e v y h is t l;
  }

pub bursts_agree : BurstsAgree
unfolding BurstsAgree
bursts_agree n q cs x S long = calls_agree n q cs x S long
