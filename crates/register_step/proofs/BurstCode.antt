-- A burst with a register, as the code makes it: event by event.
use Prim.Native.Nat.{ℕ, zero, suc, ◌+◌, ◌-◌, ◌^◌, ◌≤◌, ◌<◌}
use mathlib.Core.Path.{◌≡◌, refl, sym, ap, subst, ◌∙◌}
use mathlib.Core.Bool.{Bool, true, false, not}
use mathlib.Core.List.{List}
use native.Mathlib.Omega.{arith}
use lib.Dec.{eqb}
use lib.ListN.{length, take, drop, length-drop}
use lib.Seq.{length-take-le, take_all, drop-drop}
use Rattle.base.specs.Tests.{◌and◌, ◌=?◌}
use Rattle.base.proofs.TestLaws.{and_yes, and_no, eq_yes, eq_no, pick_eq, pick_ne}
use Rattle.base.proofs.Branches.{or_yes, or_no}
use Rattle.image.specs.Decode.{greens_in}
use borrow.Author.Tests.{ne_eqb}
use Rattle.refusals.specs.declared.Refusal.{Refusal}
use Rattle.refusals.specs.Numbers.{refusal_number}
use Rattle.register_check.proofs.Found.{refusal_some}
use Rattle.burst.specs.Next.{Event, Stop}
use Rattle.burst.specs.Burst.{next_of, EndsIn}
use Rattle.register_runs.specs.Joint.{Joint, unjoined, joint_number, joint_on}
use Rattle.register_step.specs.declared.RegisterAnswer.{RegisterAnswer}
use Rattle.register_step.specs.declared.RegisterBurst.{RegisterBurst}
use Rattle.register_step.specs.Answers.{joined}
use Rattle.register_step.specs.Burst.{JointBurst, stopped, ended, burst_from, burst_all, joint_burst_on, left, refused_burst, followed, CanFollow, is_last}
use Rattle.register_step.proofs.EventLaws.{few_greens, refused_whole}
use Rattle.register_step.proofs.BurstLaws.{past, past_none, past_past, from_stop, from_refused, from_one, GoesOn, one_goes, last_one, one_whole, one_some, one_more_lem}

-- ---- the first event

module _ (f : Bool) (b r e o : List ℕ) where
  pub first_stops : (i k : ℕ) (v : RegisterBurst) → Stop i ≡ next_of f e → k ≡ i → v ≡ refused_burst k → left v b r o ≡ burst_from 1 f b r e o
  unfolding left stopped
  first_stops i k v h q t =
      ap (λ (y : RegisterBurst). left y b r o) t
      ∙ ap (λ (y : ℕ). stopped y b r o) q
      ∙ sym (from_stop f b r e o i 0 (sym h))

  module _ (m : ℕ) (h : Event m ≡ next_of f e) where
    pub first_size_lem : EndsIn (Event m) e → length (take m e) ≡ m
    unfolding EndsIn
    first_size_lem fits = length-take-le m e fits.1

    module _ (y : RegisterAnswer) (b₁ r₁ o₁ : List ℕ) (is-joint : joined y b₁ r₁ o₁ ≡ joint_on b r (take m e) o) where
      pub first_refused : joint_number b r o ≡ 0 → (v : RegisterBurst) (k : ℕ) → k ≡ y.number → (y.number ≡ 0 → ⊥) → v ≡ refused_burst k
          → left v b₁ r₁ o₁ ≡ burst_from 1 f b r e o
      unfolding joined unjoined left stopped
      first_refused z v i is-i n t =
          let number : (joint_on b r (take m e) o).number ≡ y.number = sym (ap (λ (w : Joint). w.number) is-joint) in
          let off : (joint_on b r (take m e) o).number ≡ 0 → ⊥ = λ q. n (sym number ∙ q) in
          let kept : joined y b₁ r₁ o₁ ≡ unjoined (joint_on b r (take m e) o).number b r o = is-joint ∙ refused_whole b r o z (take m e) off in
          (λ j. left (t j) (kept j).state (kept j).register (kept j).out)
          ∙ ap (λ (k : ℕ). stopped k b r o) (is-i ∙ sym number)
          ∙ sym (from_refused f b r e o m (sym h) off 0)

      pub first_taken : y.number ≡ 0
          → left (record { number = 0; store = y.store; sent = y.sent; greened = y.greened; refused = y.refused; events = 1; bytes = m }) b₁ r₁ o₁
          ≡ burst_from 1 f b r e o
      unfolding joined left ended
      first_taken z =
          ap (ended m) is-joint
          ∙ sym (from_one f b r e o m (sym h) (sym (ap (λ (w : Joint). w.number) is-joint) ∙ z))

-- Behind others: n events of `at` bytes.
pub next_is : (n at : ℕ) (b r e o : List ℕ) (x : JointBurst) → at ≤ length e → x ≡ burst_from 1 (eqb n 0) b r (take (length e - at) (drop at e)) o
    → x ≡ burst_from 1 (n =? 0) b r (drop at e) o
unfolding ◌=?◌
next_is n at b r e o x h q =
    q ∙ ap (λ (l : List ℕ). burst_from 1 (eqb n 0) b r l o) (take_all (length e - at) (drop at e) (omega (arith, length-drop at e)))

-- ---- no event may follow

pub last_none : (x : RegisterBurst) → x.events ≡ 0 → true ≡ is_last x
unfolding is_last
last_none x h = or_yes (x.events =? 0) _ (eq_yes x.events 0 h)

module _ (x : RegisterBurst) (n : x.events ≡ 0 → ⊥) where
  silent_not : (t : Bool) → t ≡ not (x.store =? 0 and x.sent =? 0) → t ≡ is_last x
  unfolding is_last
  silent_not t h = or_no t (x.events =? 0) _ (eq_no x.events 0 n) h

  pub last_sent : (t : Bool) → x.store ≡ 0 → t ≡ not (eqb x.sent 0) → t ≡ is_last x
  unfolding ◌=?◌
  last_sent t h e = silent_not t (e ∙ ap not (and_yes _ (x.store =? 0) _ (eq_yes x.store 0 h) refl))

  pub last_stored : (x.store ≡ 0 → ⊥) → not (eqb x.store 0) ≡ is_last x
  last_stored h = ap not (ne_eqb x.store 0 h) ∙ silent_not true (ap not (and_no (x.store =? 0) (x.sent =? 0) (eq_no x.store 0 h)))

-- ---- the loop

-- What the events so far have come to: the whole burst is what is left, behind them.
pub record Along (b₀ r₀ e o₀ b r o : List ℕ) (all : RegisterBurst) : Type 0 where
  pub state_length_lem : length b ≡ length b₀
  pub register_length_lem : length r ≡ length r₀
  pub out_length_lem : length o ≡ length o₀
  pub ready : joint_number b r o ≡ 0
  pub inside : all.bytes ≤ length e
  pub few : all.events ≤ all.bytes
  pub grown : length (greens_in b) ≡ length (greens_in b₀) + all.greened
  pub fewer : all.refused ≤ all.greened
  pub bound : ℕ
  pub enough : length e < all.bytes + bound
  pub rest : burst_all b₀ r₀ e o₀
      ≡ past all.events all.bytes all.greened all.refused (burst_from bound (all.events =? 0) b r (drop all.bytes e) o)

pub along_starts : (b r e o : List ℕ) (all : RegisterBurst) → joint_number b r o ≡ 0 → all ≡ refused_burst 0 → Along b r e o b r o all
unfolding burst_all ◌=?◌
along_starts b r e o all z t = subst (Along b r e o b r o) (sym t) (record {
  state_length_lem = refl;
  register_length_lem = refl;
  out_length_lem = refl;
  ready = z;
  inside = omega arith;
  few = omega arith;
  grown = omega arith;
  fewer = omega arith;
  bound = suc (length e);
  enough = omega arith;
  rest = past_none (burst_from (suc (length e)) true b r e o);
})

module _ (b₀ r₀ e o₀ b r o : List ℕ) (all : RegisterBurst) (a : Along b₀ r₀ e o₀ b r o all) (next : RegisterBurst) (b₁ r₁ o₁ : List ℕ)
    (is_next_lem : left next b₁ r₁ o₁ ≡ burst_from 1 (all.events =? 0) b r (drop all.bytes e) o) where
  abbrev ahead : List ℕ
  ahead = drop all.bytes e

  abbrev f : Bool
  f = all.events =? 0

  one_is : burst_from 1 f b r ahead o ≡ left next b₁ r₁ o₁
  one_is = sym is_next_lem

  -- y behind the events so far.
  abbrev later : JointBurst → JointBurst
  later y = past all.events all.bytes all.greened all.refused y

  goes : GoesOn b ahead (left next b₁ r₁ o₁)
  goes = subst (GoesOn b ahead) one_is (one_goes f b r ahead o a.ready)

  pub can_follow : length e < 2 ^ 64 → CanFollow all next
  unfolding left
  can_follow l =
      let few = few_greens b₁ r₁ o₁ goes.ready in
      let long = length-drop all.bytes e in
      record {
        greened = omega (arith, a.grown, goes.grown, few);
        refused = omega (arith, a.fewer, goes.fewer, a.grown, goes.grown, few);
        events = omega (arith, a.few, goes.few, a.inside, goes.inside, long);
        bytes = omega (arith, a.inside, goes.inside, long);
      }

  module _ (sum : RegisterBurst) (is_sum : sum ≡ followed all next) (t : Bool) (is-t : t ≡ is_last next) where
    last_is : is_last next ≡ last_one (burst_from 1 f b r ahead o)
    unfolding is_last last_one left
    last_is = sym (ap last_one one_is)

    pub along_ends : joint_number b₀ r₀ o₀ ≡ 0 → t ≡ true → left sum b₁ r₁ o₁ ≡ joint_burst_on b₀ r₀ e o₀
    unfolding joint_burst_on left past
    along_ends z h = go a.bound a.enough a.rest
      where
        go : (d : ℕ) → length e < all.bytes + d → burst_all b₀ r₀ e o₀ ≡ later (burst_from d f b r ahead o) → left sum b₁ r₁ o₁ ≡ joint_burst_on b₀ r₀ e o₀
        go zero l q = absurd (omega (arith, a.inside))
        go (suc d) l q =
            pick_eq (joint_number b₀ r₀ o₀) 0 _ _ _ z
            (ap (λ (y : RegisterBurst). left y b₁ r₁ o₁) is_sum
            ∙ ap later (sym one_is ∙ sym (one_whole f b r ahead o (sym last_is ∙ sym is-t ∙ h) d)) ∙ sym q)

    module _ (h : t ≡ false) where
      on : last_one (burst_from 1 f b r ahead o) ≡ false
      on = sym last_is ∙ sym is-t ∙ h

      some : 1 ≤ next.events
      unfolding left
      some = omega (arith, one_some f b r ahead o on, ap (λ (y : JointBurst). y.events) one_is)

      pub along_less : length e - sum.bytes < length e - all.bytes
      unfolding left
      along_less = omega (arith, ap (λ (y : RegisterBurst). y.bytes) is_sum, goes.few, goes.inside, a.inside, some, length-drop all.bytes e)

      pub along_on : length b₁ ≡ length b → length r₁ ≡ length r → length o₁ ≡ length o → Along b₀ r₀ e o₀ b₁ r₁ o₁ sum
      unfolding left
      along_on same same' same'' = subst (Along b₀ r₀ e o₀ b₁ r₁ o₁) (sym is_sum) (go a.bound a.enough a.rest)
        where
          flag : false ≡ ((all.events + next.events) =? 0)
          flag = sym (eq_no (all.events + next.events) 0 (λ q. absurd (omega (arith, some))))

          more : (d : ℕ) → burst_from (suc d) f b r ahead o
              ≡ past next.events next.bytes next.greened next.refused (burst_from d false b₁ r₁ (drop next.bytes ahead) o₁)
          more d =
              one_more_lem f b r ahead o on d
              ∙ ap (λ (y : JointBurst). past y.events y.bytes y.greened y.refused (burst_from d false y.state y.register (drop y.bytes ahead) y.out))
              one_is

          go : (d : ℕ) → length e < all.bytes + d → burst_all b₀ r₀ e o₀ ≡ later (burst_from d f b r ahead o) → Along b₀ r₀ e o₀ b₁ r₁ o₁ (followed all next)
          go zero l q = absurd (omega (arith, a.inside))
          go (suc d) l q = record {
            state_length_lem = same ∙ a.state_length_lem;
            register_length_lem = same' ∙ a.register_length_lem;
            out_length_lem = same'' ∙ a.out_length_lem;
            ready = goes.ready;
            inside = omega (arith, a.inside, goes.inside, length-drop all.bytes e);
            few = omega (arith, a.few, goes.few);
            grown = omega (arith, a.grown, goes.grown);
            fewer = omega (arith, a.fewer, goes.fewer);
            bound = d;
            enough = omega (arith, goes.few, some);
            rest =
                q
                ∙ ap later (more d)
                ∙ past_past all.events all.bytes all.greened all.refused next.events next.bytes next.greened next.refused
                (burst_from d false b₁ r₁ (drop next.bytes ahead) o₁)
                ∙ (λ i. past (all.events + next.events) (all.bytes + next.bytes) (all.greened + next.greened) (all.refused + next.refused)
                (burst_from d (flag i) b₁ r₁ (drop-drop next.bytes all.bytes e i) o₁));
          }

-- ---- 7 and 8

pub burst_refused : (b r e o : List ℕ) (f : Refusal) (k : ℕ) (v : RegisterBurst) → k ≡ refusal_number f → refusal_number f ≡ joint_number b r o
    → v ≡ refused_burst k → left v b r o ≡ joint_burst_on b r e o
unfolding joint_burst_on left stopped
burst_refused b r e o f k v is-f is-k t =
    ap (λ (y : RegisterBurst). left y b r o) t
    ∙ pick_ne (joint_number b r o) 0 (stopped k b r o) _ _ (λ z. refusal_some f (is-k ∙ z)) (ap (λ (i : ℕ). stopped i b r o) (is-f ∙ is-k))
