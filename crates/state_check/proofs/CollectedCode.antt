-- What the code on collected States answers.
use Prim.Native.Nat.{ℕ, suc, ◌+◌, ◌*◌, ◌-◌, ◌≤◌, ◌<◌}
use mathlib.Core.Path.{◌≡◌, refl, sym, ap, subst, ◌∙◌}
use mathlib.Core.Bool.{Bool, true, false, not}
use mathlib.Core.List.{List}
use native.Mathlib.Nat.{suc-mul}
use native.Mathlib.Omega.{arith}
use lib.Dec.{eqb}
use lib.ListN.{length, take, drop}
use borrow.Author.Tests.{not-true, not-false}
use Rattle.base.specs.Tests.{◌and◌, ◌or◌, ◌=?◌}
use Rattle.base.proofs.TestLaws.{and_yes, and_no, eq_yes, eq_no, le_holds}
use Rattle.base.proofs.Branches.{told_eq, or_yes, or_no}
use Rattle.base.specs.Bytes.{number_at, part_at}
use Rattle.base.specs.Sets.{in_set}
use Rattle.format.specs.Read.{read}
use Rattle.record.specs.Context.{context_of, ContextIn}
use Rattle.record.specs.Events.{state_from, record_of}
use Rattle.reader.specs.Reading.{meaning}
use Rattle.record.specs.Values.{state_of}
use Rattle.record.specs.declared.Context.{Context}
use Rattle.record.specs.declared.events.StateAt.{StateAt}
use Rattle.record.specs.declared.events.Event.{Event}
use Rattle.record.specs.declared.events.Event.TheVariants.{Action, Retransmission, State, Cpc, Regular, Transitional, Request, Recovery}
use Rattle.std.specs.Prelude.{Result, Ok, Err}
use Rattle.refusals.specs.declared.Refusal.{Refusal}
use Rattle.image.specs.Layout.{state_size}
use Rattle.state_check.specs.Numbers.{yellow_count_ok}
use Rattle.state_check.specs.Collected.{is_state, says_state, ids_in_slot, slot_record, holds_state, collected_ok, StatesInside}
use Rattle.format.specs.Places.{id_size, state_head_size, state_count_at}

-- ---- by the kind of the event

module _ (k i : ℕ) (v : Event) (e : List ℕ) where
  answers_as : (w : Event) (r : Bool) → v ≡ w → r ≡ is_state k i (record_of w e) → r ≡ is_state k i (record_of v e)
  answers_as w r f h = rw f h

  pub other_sender : (s : StateAt) → v ≡ State s → (s.head.sender ≡ k → ⊥) → false ≡ is_state k i (record_of v e)
  unfolding is_state record_of state_from state_of
  other_sender s f h = answers_as (State s) false f (and_no (s.head.sender =? k) (s.head.configuration =? i) (eq_no _ _ h))

  pub this_sender : (s : StateAt) → v ≡ State s → s.head.sender ≡ k → eqb s.head.configuration i ≡ is_state k i (record_of v e)
  unfolding is_state record_of state_from state_of
  this_sender s f h = answers_as (State s) _ f (and_yes _ (s.head.sender =? k) (s.head.configuration =? i) (eq_yes _ _ h) (told_eq s.head.configuration i))

pub other_event : (k i : ℕ) (v : Event) (e : List ℕ) → ((s : StateAt) → v ≡ State s → ⊥) → false ≡ is_state k i (record_of v e)
unfolding is_state record_of
other_event k i (Action a) e n = refl
other_event k i (Retransmission s p a) e n = refl
other_event k i (State s) e n = absurd (n s refl)
other_event k i (Cpc s j) e n = refl
other_event k i (Regular j s) e n = refl
other_event k i (Transitional s) e n = refl
other_event k i (Request at m) e n = refl
other_event k i Recovery e n = refl

-- ---- by the reading

pub refused_state : (k i : ℕ) (r : Result Event Refusal) (m : Refusal) (e : List ℕ) → r ≡ Err m → false ≡ says_state k i (meaning r e)
unfolding says_state meaning
refused_state k i r m e f = rw f refl

pub good_state : (k i : ℕ) (r : Result Event Refusal) (v : Event) (t : Bool) (e : List ℕ) → r ≡ Ok v → ((d : List ℕ) → t ≡ is_state k i (record_of v d))
    → t ≡ says_state k i (meaning r e)
unfolding says_state meaning
good_state k i r v t e f h = rw f (h e)

-- ---- by the slot

module _ (c : Context) (b : List ℕ) (at : ℕ) where
  -- The number of ids is read inside the slot, and the record ends inside it.
  pub count_inside : at + state_size c.servers c.quota ≤ length b → at + (state_count_at + 2 * c.servers) + 2 ≤ length b
  unfolding state_size
  count_inside h = omega arith

  few : (x : ℕ) (t : Bool) → t ≡ yellow_count_ok (context_of c) x → not t ≡ false → x ≤ c.servers * c.quota
  unfolding context_of yellow_count_ok
  few x t e h = le_holds x (c.servers * c.quota) (sym e ∙ not-false t h)

  pub record-inside : (x : ℕ) (t : Bool) → at + state_size c.servers c.quota ≤ length b → t ≡ yellow_count_ok (context_of c) x → not t ≡ false
      → at + (state_head_size + 2 * c.servers + id_size * x) ≤ length b
  unfolding state_size
  record-inside x t h e l = omega (arith, few x t e l)

  pub slot_denied : (k i x : ℕ) (t : Bool) → x ≡ number_at 2 b (at + (state_count_at + 2 * c.servers)) → t ≡ yellow_count_ok (context_of c) x → not t ≡ true → false ≡ holds_state (context_of c) k i b at
  unfolding holds_state ids_in_slot context_of
  slot_denied k i x t e f h = and_no (yellow_count_ok (context_of c) (number_at 2 b (at + (state_count_at + 2 * c.servers)))) _ (ap (yellow_count_ok (context_of c)) (sym e) ∙ sym f ∙ not-true t h)

  pub slot_answered : (k i x : ℕ) (t u : Bool) (r : Result Event Refusal) → x ≡ number_at 2 b (at + (state_count_at + 2 * c.servers)) → t ≡ yellow_count_ok (context_of c) x → not t ≡ false
      → meaning r (take (at + (state_head_size + 2 * c.servers + id_size * x) - at) (drop at b)) ≡ read (context_of c) (take (at + (state_head_size + 2 * c.servers + id_size * x) - at) (drop at b))
      → ((e : List ℕ) → u ≡ says_state k i (meaning r e)) → u ≡ holds_state (context_of c) k i b at
  unfolding holds_state ids_in_slot slot_record part_at context_of
  slot_answered k i x t u r e f h g s =
      let m : ℕ = state_head_size + 2 * c.servers + id_size * x in
      let long : at + m - at ≡ m = omega arith in
      let part : take (at + m - at) (drop at b) ≡ take (state_head_size + 2 * c.servers + id_size * number_at 2 b (at + (state_count_at + 2 * c.servers))) (drop at b) =
      ap (λ (j : ℕ). take j (drop at b)) long ∙ ap (λ (j : ℕ). take (state_head_size + 2 * c.servers + id_size * j) (drop at b)) e in
      and_yes u (yellow_count_ok (context_of c) (number_at 2 b (at + (state_count_at + 2 * c.servers)))) _ (ap (yellow_count_ok (context_of c)) (sym e) ∙ sym f ∙ not-false t h)
      (s (take (at + m - at) (drop at b)) ∙ ap (says_state k i) (g ∙ ap (read (context_of c)) part))

-- ---- by the senders

pub absent_told : (t u v : Bool) → v ≡ t → not v ≡ true → true ≡ (not t or u)
absent_told t u v e h = or_yes _ _ (ap not (sym e) ∙ h)

pub there_told : (t u v r : Bool) → v ≡ t → not v ≡ false → r ≡ u → r ≡ (not t or u)
there_told t u v r e h i = or_no _ _ _ (ap not (sym e) ∙ h) i

-- The first of the slots that are left, from that of server k on.
pub record SlotsLeft (c : Context) (k : ℕ) (b : List ℕ) (at : ℕ) : Type 0 where
  pub context : ContextIn c
  pub inside : at + (c.servers - k) * state_size c.servers c.quota ≤ length b

module _ (c : Context) (k : ℕ) (b : List ℕ) (at : ℕ) where
  pub slots_left : StatesInside c b at → SlotsLeft c 0 b at
  slots_left h =
      let e : c.servers - 0 ≡ c.servers = omega arith in
      record { context = h.context; inside = subst (λ (m : ℕ). at + m * state_size c.servers c.quota ≤ length b) (sym e) h.inside }

  all_but : k < c.servers → (c.servers - k) * state_size c.servers c.quota ≡ (c.servers - (k + 1)) * state_size c.servers c.quota + state_size c.servers c.quota
  all_but l =
      let e : c.servers - k ≡ suc (c.servers - (k + 1)) = omega arith in
      ap (λ (i : ℕ). i * state_size c.servers c.quota) e ∙ suc-mul (c.servers - (k + 1)) (state_size c.servers c.quota)

  pub first_left : SlotsLeft c k b at → k < c.servers → at + state_size c.servers c.quota ≤ length b
  first_left h l = omega (arith, all_but l, h.inside)

  pub rest_left : (size : ℕ) → SlotsLeft c k b at → k < c.servers → size ≡ state_size c.servers c.quota → SlotsLeft c (k + 1) b (at + size)
  rest_left size h l e =
      record { context = h.context; inside = omega (arith, all_but l, h.inside, e) }

  collected_more : (s i : ℕ) → k < c.servers
      → collected_ok (context_of c) s i (c.servers - k) k b at
      ≡ ((not (in_set k s) or holds_state (context_of c) k i b at) and collected_ok (context_of c) s i (c.servers - (k + 1)) (k + 1) b (at + state_size c.servers c.quota))
  unfolding collected_ok context_of
  collected_more s i l =
      let e : c.servers - k ≡ suc (c.servers - (k + 1)) = omega arith in
      ap (λ (m : ℕ). collected_ok (context_of c) s i m k b at) e

  pub collected_again : (s i size : ℕ) (v t : Bool) → v ≡ collected_ok (context_of c) s i (c.servers - k) k b at → k < c.servers
      → t ≡ (not (in_set k s) or holds_state (context_of c) k i b at) → not t ≡ false → size ≡ state_size c.servers c.quota
      → v ≡ collected_ok (context_of c) s i (c.servers - (k + 1)) (k + 1) b (at + size)
  collected_again s i size v t h l e f g =
      h ∙ collected_more s i l ∙ sym (and_yes _ _ _ (sym e ∙ not-false t f) refl) ∙ ap (λ (m : ℕ). collected_ok (context_of c) s i (c.servers - (k + 1)) (k + 1) b (at + m)) (sym g)

  pub collected_denied : (s i : ℕ) (v t : Bool) → v ≡ collected_ok (context_of c) s i (c.servers - k) k b at → k < c.servers
      → t ≡ (not (in_set k s) or holds_state (context_of c) k i b at) → not t ≡ true → false ≡ v
  collected_denied s i v t h l e f = and_no _ _ (sym e ∙ not-true t f) ∙ sym (h ∙ collected_more s i l)

  pub collected_end : (s i : ℕ) (v : Bool) → v ≡ collected_ok (context_of c) s i (c.servers - k) k b at → c.servers ≤ k → true ≡ v
  unfolding collected_ok
  collected_end s i v h l =
      let e : c.servers - k ≡ 0 = omega arith in
      sym (h ∙ ap (λ (m : ℕ). collected_ok (context_of c) s i m k b at) e)

pub collected_start : (c : Context) (s i : ℕ) (b : List ℕ) (at : ℕ)
    → collected_ok (context_of c) s i c.servers 0 b at ≡ collected_ok (context_of c) s i (c.servers - 0) 0 b at
collected_start c s i b at = let e : c.servers - 0 ≡ c.servers = omega arith in rw e
