-- How far a meeting is, as the code counts it.
use Prim.Native.Nat.{ℕ, suc, ◌+◌, ◌/◌, ◌%◌, ◌^◌, ◌≤◌, ◌<◌}
use mathlib.Core.Path.{◌≡◌, refl, sym, ap, ◌∙◌}
use mathlib.Core.Bool.{Bool, true, false}
use mathlib.Core.List.{List, [], ◌∷◌}
use mathlib.Core.Option.{Option, none, some}
use native.Mathlib.Nat.{zero-add, pow-succ'}
use native.Mathlib.Omega.{arith}
use lib.Count.{ones, ones_step}
use lib.ListN.{length, get_or}
use Rattle.base.specs.Tests.{◌or◌, ◌=?◌}
use Rattle.base.specs.Bytes.{number_at}
use Rattle.base.specs.Lists.{present, at_front, is_there}
use Rattle.base.specs.Sets.{in_set, size}
use Rattle.base.proofs.TestLaws.{eq_yes, eq_no, eq_holds, eq_fails, pick_yes, pick_no, Known, holds, fails, known}
use Rattle.base.proofs.Branches.{or_yes, or_no}
use Rattle.base.proofs.SetLaws.{in_set_zero, in_set_suc}
use Rattle.format.specs.Types.{State}
use Rattle.record.specs.declared.State.{State as Numbers}
use Rattle.replication.specs.Machine.Types.{Mode, Non_prim, Reg_prim, Trans_prim, Exchange_states, Exchange_actions, Construct, No, Un}
use Rattle.replication.specs.Machine.Types.{Server, context_of}
use Rattle.replication.specs.Machine.Step.{collected, planned_now}
use Rattle.replication.proofs.WellFormed.Facts.{well_formed_facts}
use Rattle.replication.proofs.WellFormed.Changes.{body, collected_fit_lem}
use Rattle.replication.proofs.WellFormed.Decisions.{planned_bound}
use Rattle.image.specs.Layout.{at_mode}
use Rattle.image.specs.Header.{header_of, header_in, mode_number, senders}
use Rattle.image.specs.Holding.{Holds, HoldsSome, Computes}
use Rattle.image.proofs.HeaderLaws.{header_loaded}
use Rattle.image.proofs.InRange.{in_range}
use Rattle.image.proofs.Slots.{in_senders, senders_below}
use Rattle.queries.specs.Queries.{is_in, states_in_of, resent_in_of, resent_planned_of, cpcs_in_of}

-- ---- a set's size

front : {A : Type 0} (x : Option A) (xs : List A) (d : ℕ) → d < 2 → (d =? 1) ≡ is_there x → d + length xs ≡ length (at_front x xs)
unfolding at_front is_there
front none xs d l e = let no = eq_fails d 1 e in omega arith
front (some x) xs d l e = let yes = eq_holds d 1 e in omega arith

-- The size of the set of those places at which something is.
size_present : {A : Type 0} (xs : List (Option A)) (s : ℕ) → s < 2 ^ length xs → ((j : ℕ) → in_set j s ≡ is_there (get_or xs j none)) → ones s ≡ length (present xs)
unfolding present ones
size_present [] s h f = let z : s ≡ 0 = omega arith in ap ones z
size_present (x ∷ xs) s h f =
    ones_step s
    ∙ ap (λ (k : ℕ). s % 2 + k) (size_present xs (s / 2) (omega (arith, pow-succ' 2 (length xs))) (λ j. sym (in_set_suc j s) ∙ f (suc j)))
    ∙ front x (present xs) (s % 2) (omega arith) (sym (in_set_zero s) ∙ f 0)

senders_in : (s : Server) → ones (senders 0 s.membership.states) ≡ length (collected s)
unfolding collected
senders_in s =
    let xs : List (Option State) = s.membership.states in
    size_present xs (senders 0 xs) (senders_below (length xs) 0 xs (omega arith)) (λ j. ap (λ (m : ℕ). in_set m (senders 0 xs)) (sym (zero-add j)) ∙ in_senders 0 xs j)

-- ---- the state's number

neither : (t u : Bool) → t ≡ false → u ≡ false → (t or u) ≡ false
neither t u h k = sym (or_no false t u h (sym k))

-- The three states in which CPCs are in.
late : (m : Mode) → 5 ≤ mode_number m → (mode_number m =? 5 or mode_number m =? 6 or mode_number m =? 7) ≡ true
unfolding mode_number ◌=?◌ ◌or◌
late Non_prim l = absurd (omega arith)
late Reg_prim l = absurd (omega arith)
late Trans_prim l = absurd (omega arith)
late Exchange_states l = absurd (omega arith)
late Exchange_actions l = absurd (omega arith)
late Construct l = refl
late No l = refl
late Un l = refl

module _ (h : Numbers) (s : Server) (e : h ≡ header_of s) where
  mode_is : h.mode ≡ mode_number s.membership.mode
  unfolding header_of
  mode_is = ap (λ (x : Numbers). x.mode) e

  is_in_lem : (m : Mode) → h.mode ≡ mode_number m → is_in m s ≡ true
  unfolding is_in
  is_in_lem m k = eq_yes _ _ (sym mode_is ∙ k)

  not_in : (m : Mode) → (h.mode ≡ mode_number m → ⊥) → is_in m s ≡ false
  unfolding is_in
  not_in m k = eq_no _ _ (λ z. k (mode_is ∙ z))

  states_elsewhere : (h.mode ≡ 3 → ⊥) → (h.mode ≡ 4 → ⊥) → 0 ≡ states_in_of s
  unfolding states_in_of mode_number
  states_elsewhere n k = pick_no _ 0 _ _ (neither _ _ (not_in Exchange_states n) (not_in Exchange_actions k)) refl

  pub states_before : h.mode < 3 → 0 ≡ states_in_of s
  states_before l = states_elsewhere (λ z. omega arith) (λ z. omega arith)

  pub states_behind : 4 < h.mode → 0 ≡ states_in_of s
  states_behind l = states_elsewhere (λ z. omega arith) (λ z. omega arith)

  pub states_counted : 3 ≤ h.mode → h.mode ≤ 4 → ones h.states ≡ states_in_of s
  unfolding states_in_of header_of mode_number
  states_counted l k = pick_yes _ (ones h.states) _ _ (go (known (h.mode =? 3))) (ap (λ (x : Numbers). ones x.states) e ∙ senders_in s)
    where
      go : Known (h.mode =? 3) → (is_in Exchange_states s or is_in Exchange_actions s) ≡ true
      go (holds z) = sym (or_yes _ _ (is_in_lem Exchange_states (eq_holds _ 3 z)))
      go (fails z) = let n = eq_fails _ 3 z in sym (or_no true _ _ (not_in Exchange_states n) (sym (is_in_lem Exchange_actions (omega arith))))

  pub resent_elsewhere : (h.mode ≡ 4 → ⊥) → 0 ≡ resent_in_of s
  unfolding resent_in_of mode_number
  resent_elsewhere n = pick_no _ 0 _ _ (not_in Exchange_actions n) refl

  pub resent_counted : h.mode ≡ 4 → h.come ≡ resent_in_of s
  unfolding resent_in_of header_of mode_number
  resent_counted k = pick_yes _ h.come _ _ (is_in_lem Exchange_actions k) (ap (λ (x : Numbers). x.come) e)

  pub cpcs_before : h.mode < 5 → 0 ≡ cpcs_in_of s
  unfolding cpcs_in_of mode_number
  cpcs_before l =
      pick_no _ 0 _ _
      (neither _ _ (not_in Construct (λ z. omega arith)) (neither _ _ (not_in No (λ z. omega arith)) (not_in Un (λ z. omega arith)))) refl

  pub cpcs_counted : 5 ≤ h.mode → ones h.cpcs ≡ cpcs_in_of s
  unfolding cpcs_in_of is_in size header_of mode_number
  cpcs_counted l = pick_yes _ (ones h.cpcs) _ _ (late s.membership.mode (omega (arith, mode_is))) (ap (λ (x : Numbers). ones x.cpcs) e)

-- ---- the plan

-- They are few.
pub planned_few : (b : List ℕ) (p : ℕ) → HoldsSome b → Computes planned_now b p → p < 2 ^ 32
unfolding planned_now context_of
planned_few b p w f =
    let s : Server = w.state in
    let g = (in_range s w.holds.formed).context.sizes in
    let most = planned_bound s.servers s.quota (collected s) (collected_fit_lem s (body s (well_formed_facts s w.holds.formed))) in
    omega (arith, g.most, f s w.holds)

module _ (b : List ℕ) (m : ℕ) (k : m ≡ number_at 1 b at_mode) where
  mode_read : (s : Server) → Holds s b → m ≡ (header_of s).mode
  unfolding header_in
  mode_read s h = k ∙ ap (λ (x : Numbers). x.mode) (header_loaded s b h)

  pub planned_elsewhere : (m ≡ 4 → ⊥) → Computes resent_planned_of b 0
  unfolding resent_planned_of mode_number
  planned_elsewhere n s h = pick_no _ 0 _ _ (not_in (header_of s) s refl Exchange_actions (λ z. n (mode_read s h ∙ z))) refl

  pub planned_counted : (p : ℕ) → m ≡ 4 → Computes planned_now b p → Computes resent_planned_of b p
  unfolding resent_planned_of mode_number
  planned_counted p z f s h = pick_yes _ p _ _ (is_in_lem (header_of s) s refl Exchange_actions (sym (mode_read s h) ∙ z)) (f s h)
