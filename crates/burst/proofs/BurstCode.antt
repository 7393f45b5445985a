-- A burst, as the code makes it.
use Prim.Native.Nat.{ℕ, zero, suc, ◌+◌, ◌-◌, ◌^◌, ◌≤◌, ◌<◌}
use mathlib.Core.Path.{◌≡◌, refl, sym, ap, subst, ◌∙◌}
use mathlib.Core.Bool.{Bool, true, false, not}
use mathlib.Core.List.{List}
use native.Mathlib.Omega.{arith}
use lib.Dec.{eqb}
use lib.ListN.{length, take, drop, length-drop}
use lib.Seq.{take_all, drop-drop}
use borrow.Author.Tests.{not-true, not-false, ne_eqb}
use mir.Syntax.{w64}
use mir.Val.{Fits}
use Rattle.base.specs.Tests.{◌and◌, ◌=?◌}
use Rattle.base.proofs.TestLaws.{not_both, pick_eq, pick_ne}
use Rattle.format.specs.Places.{length_size}
use Rattle.image.specs.Outcome.{Result, step_on, state_number}
use Rattle.step.specs.declared.Answer.{Answer}
use Rattle.step.specs.Answers.{answered}
use Rattle.burst.specs.declared.BurstAnswer.{BurstAnswer}
use Rattle.burst.specs.Next.{Next}
use Rattle.burst.specs.Next.{Event, Stop, next_as}
use Rattle.std.specs.Prelude.{Result as Fallible, Ok, Err, Option as Maybe, Some, None}
use Rattle.std.specs.Int.{from_bool}
use Rattle.refusals.specs.declared.Refusal.{Refusal}
use Rattle.refusals.specs.Numbers.{refusal_number}
use Rattle.burst.specs.Burst.{next_of, EndsIn, Burst, stopped, ended, behind, silent, burst_from, burst_all, burst_on, stopped_behind, left}
use Rattle.burst.proofs.KeptLaws.{step_kept, refused_left}
use Rattle.burst.proofs.BurstLaws.{from_stop, going, from_event, after_refused, after_ended, after_silent, behind_none, behind_behind}

-- ---- whether a step has stored or put out anything

pub silent_yes : (s : Bool) (n : ℕ) → not s ≡ true → eqb n 0 ≡ (from_bool s =? 0 and n =? 0)
unfolding ◌and◌ ◌=?◌
silent_yes false n h = refl
silent_yes true n h = not_both h

pub silent_no : (s : Bool) (n : ℕ) → not s ≡ false → not s ≡ (from_bool s =? 0 and n =? 0)
unfolding ◌and◌ ◌=?◌
silent_no false n h = not_both (sym h)
silent_no true n h = refl

-- ---- along the slice

-- What the events so far have come to: the whole burst is what is left, behind them.
pub record Along (b₀ e o₀ b o : List ℕ) (n at : ℕ) : Type 0 where
  pub state_length_lem : length b ≡ length b₀
  pub out_length_lem : length o ≡ length o₀
  pub ready : state_number b o ≡ 0
  pub inside : at ≤ length e
  pub few : n ≤ at
  pub bound : ℕ
  pub enough : length e < at + bound
  pub rest : burst_all b₀ e o₀ ≡ behind n at (burst_from bound (eqb n 0) b (drop at e) o)

pub along_starts : (b e o : List ℕ) → state_number b o ≡ 0 → Along b e o b o 0 0
unfolding burst_all
along_starts b e o z = record {
  state_length_lem = refl;
  out_length_lem = refl;
  ready = z;
  inside = omega arith;
  few = omega arith;
  bound = suc (length e);
  enough = omega arith;
  rest = behind_none (burst_from (suc (length e)) true b e o);
}

module _ (b₀ e o₀ b o : List ℕ) (n at : ℕ) (a : Along b₀ e o₀ b o n at) where
  abbrev ahead : List ℕ
  ahead = drop at e

  ahead_long : length ahead ≡ length e - at
  ahead_long = length-drop at e

  -- Behind what was taken, the burst of what is ahead is x.
  whole_is : (x : Burst) → ((d : ℕ) → length e < at + suc d → burst_from (suc d) (eqb n 0) b ahead o ≡ x) → behind n at x ≡ burst_all b₀ e o₀
  whole_is x h = go a.bound a.enough a.rest
    where
      go : (d : ℕ) → length e < at + d → burst_all b₀ e o₀ ≡ behind n at (burst_from d (eqb n 0) b ahead o) → behind n at x ≡ burst_all b₀ e o₀
      go zero l r = absurd (omega (arith, a.inside))
      go (suc d) l r = ap (behind n at) (sym (h d l)) ∙ sym r

  stopped_is : (k : ℕ) → left (stopped_behind k n at) b o ≡ behind n at (stopped k b o)
  unfolding left behind stopped
  stopped_is k =
      let events : n ≡ n + 0 = omega arith in
      let bytes : at ≡ at + 0 = omega arith in
      λ i. record { number = k; events = events i; bytes = bytes i; store = 0; sent = 0; state = b; out = o }

  module _ (w : Fallible (Maybe ℕ) Refusal) (is_next_lem : next_as w ≡ next_of (eqb n 0) (take (length e - at) (drop at e))) where
    abbrev x : Next
    x = next_as w

    next_is : next_of (eqb n 0) ahead ≡ x
    next_is = sym (is_next_lem ∙ ap (next_of (eqb n 0)) (take_all (length e - at) ahead (omega (arith, ahead_long))))

    along_stops : (j k : ℕ) (r : BurstAnswer) → x ≡ Stop j → k ≡ j → r ≡ stopped_behind k n at → left r b o ≡ burst_all b₀ e o₀
    along_stops j k r h same t =
        ap (λ (y : BurstAnswer). left y b o) t
        ∙ stopped_is k ∙ ap (λ (y : ℕ). behind n at (stopped y b o)) same
        ∙ whole_is (stopped j b o) (λ d l. from_stop d (eqb n 0) b ahead o j (next_is ∙ h))

    pub along_none : (z : Maybe ℕ) (r : BurstAnswer) → w ≡ Ok z → z ≡ None → r ≡ stopped_behind 0 n at → left r b o ≡ burst_all b₀ e o₀
    along_none z r g i t = along_stops 0 0 r (ap next_as g ∙ ap (λ (u : Maybe ℕ). next_as (Ok u)) i) refl t

    pub along_bad : (k : Refusal) (i : ℕ) (r : BurstAnswer) → w ≡ Err k → i ≡ refusal_number k → r ≡ stopped_behind i n at → left r b o ≡ burst_all b₀ e o₀
    along_bad k i r g same t = along_stops (refusal_number k) i r (ap next_as g) same t

    module _ (found : Maybe ℕ) (m : ℕ) (g : w ≡ Ok found) (is-size : found ≡ Some m) (fits : EndsIn (next_as w) (take (length e - at) (drop at e))) where
      h : x ≡ Event m
      h = ap next_as g ∙ ap (λ (u : Maybe ℕ). next_as (Ok u)) is-size

      sizes : (length_size ≤ m) × (at + m ≤ length e)
      unfolding EndsIn
      sizes =
          let f : EndsIn (Event m) ahead
          = subst (λ (y : Next). EndsIn y ahead) h (subst (λ (y : List ℕ). EndsIn x y) (take_all (length e - at) ahead (omega (arith, ahead_long))) fits) in
          (f.0, omega (arith, f.1, ahead_long, a.inside))

      pub along_inside : at + m ≤ length e
      along_inside = sizes.1

      pub along_less : length e - (at + m) < length e - at
      along_less = omega (arith, sizes.0, sizes.1)

      pub end_fits : length e < 2 ^ 64 → Fits w64 (at + m)
      end_fits l = record { fits = omega (arith, sizes.1) }

      pub taken_fits : length e < 2 ^ 64 → Fits w64 (n + 1)
      taken_fits l = record { fits = omega (arith, sizes.0, sizes.1, a.few) }

      module _ (y : Answer) (b₁ o₁ : List ℕ) (is-step : answered y b₁ o₁ ≡ step_on b (take (at + m - at) (drop at e)) o) where
        abbrev result : Result
        result = step_on b (take m ahead) o

        step_is : result ≡ answered y b₁ o₁
        step_is = let size : m ≡ at + m - at = omega arith in ap (λ (k : ℕ). step_on b (take k ahead) o) size ∙ sym is-step

        state_is : result.state ≡ b₁
        unfolding answered
        state_is = ap (λ (r : Result). r.state) step_is

        out_is : result.out ≡ o₁
        unfolding answered
        out_is = ap (λ (r : Result). r.out) step_is

        from_is : (d : ℕ) → burst_from (suc d) (eqb n 0) b ahead o ≡ going d (eqb n 0) b ahead o m (answered y b₁ o₁)
        from_is d = from_event d (eqb n 0) b ahead o m (next_is ∙ h) ∙ ap (going d (eqb n 0) b ahead o m) step_is

        pub along_refused : (k : ℕ) (r : BurstAnswer) → (y.number ≡ 0 → ⊥) → k ≡ y.number → r ≡ stopped_behind k n at → left r b₁ o₁ ≡ burst_all b₀ e o₀
        unfolding answered
        along_refused k r z same t =
            let kept = refused_left b (take m ahead) o (λ q. z (sym (ap (λ (r : Result). r.number) step_is) ∙ q)) in
            (λ i. left ((t ∙ ap (λ (j : ℕ). stopped_behind j n at) same) i) ((sym state_is ∙ kept.0) i) ((sym out_is ∙ kept.1) i))
            ∙ stopped_is y.number
            ∙ whole_is (stopped y.number b o) (λ d l. from_is d ∙ after_refused b o m (answered y b₁ o₁) _ z)

        module _ (z : y.number ≡ 0) (t : Bool) (is-t : t ≡ (y.store =? 0 and y.sent =? 0)) where
          pub along_ends : not t ≡ true → left (record { number = 0; store = y.store; sent = y.sent; events = n + 1; bytes = at + m }) b₁ o₁ ≡ burst_all b₀ e o₀
          unfolding answered silent left behind ended
          along_ends s =
              whole_is (ended m (answered y b₁ o₁)) (λ d l. from_is d ∙ after_ended b o m (answered y b₁ o₁) _ z (sym is-t ∙ not-true t s))

          pub along_on : not t ≡ false → length b₁ ≡ length b → length o₁ ≡ length o → Along b₀ e o₀ b₁ o₁ (n + 1) (at + m)
          unfolding answered silent
          along_on s same same' = go a.bound a.enough a.rest
            where
              flag : false ≡ eqb (n + 1) 0
              flag = sym (ne_eqb (n + 1) 0 (λ q. absurd (omega arith)))

              go : (d : ℕ) → length e < at + d → burst_all b₀ e o₀ ≡ behind n at (burst_from d (eqb n 0) b ahead o) → Along b₀ e o₀ b₁ o₁ (n + 1) (at + m)
              go zero l r = absurd (omega (arith, a.inside))
              go (suc d) l r = record {
                state_length_lem = same ∙ a.state_length_lem;
                out_length_lem = same' ∙ a.out_length_lem;
                ready = subst (λ (q : Result). state_number q.state q.out ≡ 0) step_is (step_kept b (take m ahead) o a.ready);
                inside = sizes.1;
                few = omega (arith, sizes.0, a.few);
                bound = d;
                enough = omega (arith, sizes.0);
                rest =
                    r
                    ∙ ap (behind n at) (from_is d ∙ after_silent b o m (answered y b₁ o₁) _ z (sym is-t ∙ not-false t s))
                    ∙ behind_behind n at m (burst_from d false b₁ (drop m ahead) o₁)
                    ∙ (λ i. behind (n + 1) (at + m) (burst_from d (flag i) b₁ (drop-drop m at e i) o₁));
              }

-- ---- 7 and 8

pub burst_refused : (b e o : List ℕ) (k : ℕ) (r : BurstAnswer) → k ≡ state_number b o → (k ≡ 0 → ⊥) → r ≡ stopped_behind k 0 0
    → left r b o ≡ burst_on b e o
unfolding burst_on left stopped
burst_refused b e o k r q h t =
    pick_ne (state_number b o) 0 (left r b o) _ _ (λ z. h (q ∙ z)) (ap (λ (y : BurstAnswer). left y b o) t ∙ ap (λ (j : ℕ). stopped j b o) q)

pub burst_ready : (b e o : List ℕ) (k : ℕ) (x : Burst) → k ≡ state_number b o → k ≡ 0 → x ≡ burst_all b e o → x ≡ burst_on b e o
unfolding burst_on
burst_ready b e o k x q h r = pick_eq (state_number b o) 0 x _ _ (sym q ∙ h) r
