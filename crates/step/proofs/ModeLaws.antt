-- States by their numbers: which of them take an event.
use Prim.Native.Nat.{ℕ, ◌≤◌, ◌<◌}
use mathlib.Core.Path.{◌≡◌, refl, sym, ap, ◌∙◌}
use mathlib.Core.Bool.{true, false}
use mathlib.Core.Option.{none, some}
use native.Mathlib.Omega.{arith}
use Rattle.base.specs.Tests.{◌=?◌, pick}
use Rattle.base.specs.Lists.{is_there}
use Rattle.format.specs.Types.{Action}
use Rattle.replication.specs.Machine.Types.{Mode, Non_prim, Reg_prim, Trans_prim, Exchange_states, Exchange_actions, Construct, No, Un, Configuration}
use Rattle.replication.specs.Machine.Rules.{leaving, on_action, on_retransmission, on_cpc, on_regular, on_transitional}
use Rattle.image.specs.Header.{mode_number}
use Rattle.image.specs.Decode.{mode_named}
use Rattle.guards.specs.Modes.{mode_after}
use Rattle.guards.proofs.ModeLaws.{at_mode_lem}
use Rattle.std.specs.Prelude.{Option as Maybe, Some, None}
use Rattle.record.specs.declared.modes.Mode.{Mode as Code}
use Rattle.record.specs.Codes.{mode_code}

-- ---- actions

pub action_low : (k : ℕ) → k < 4 → (m : Mode) (a : Action) → k ≡ mode_number m → true ≡ is_there (on_action m a)
unfolding mode_number on_action is_there
action_low k h Non_prim a e = refl
action_low k h Reg_prim a e = refl
action_low k h Trans_prim a e = refl
action_low k h Exchange_states a e = refl
action_low k h Exchange_actions a e = absurd (omega arith)
action_low k h Construct a e = absurd (omega arith)
action_low k h No a e = absurd (omega arith)
action_low k h Un a e = absurd (omega arith)

pub action_late : (k : ℕ) → k ≡ 7 → (m : Mode) (a : Action) → k ≡ mode_number m → true ≡ is_there (on_action m a)
unfolding on_action is_there mode_named pick ◌=?◌ mode_number
action_late k h m a e = at_mode_lem (λ n. true ≡ is_there (on_action n a)) m 7 (sym h ∙ e) refl

pub action_not : (k : ℕ) → 4 ≤ k → (k ≡ 7 → ⊥) → (m : Mode) (a : Action) → k ≡ mode_number m → false ≡ is_there (on_action m a)
unfolding mode_number on_action is_there
action_not k h n Non_prim a e = absurd (omega arith)
action_not k h n Reg_prim a e = absurd (omega arith)
action_not k h n Trans_prim a e = absurd (omega arith)
action_not k h n Exchange_states a e = absurd (omega arith)
action_not k h n Exchange_actions a e = refl
action_not k h n Construct a e = refl
action_not k h n No a e = refl
action_not k h n Un a e = absurd (n e)

-- ---- retransmissions

pub retransmission_alone : (k : ℕ) → k ≡ 0 → (m : Mode) (p : ℕ) (a : Action) → k ≡ mode_number m → true ≡ is_there (on_retransmission m p a)
unfolding on_retransmission is_there mode_named pick ◌=?◌ mode_number
retransmission_alone k h m p a e = at_mode_lem (λ n. true ≡ is_there (on_retransmission n p a)) m 0 (sym h ∙ e) refl

pub retransmission_planned : (k : ℕ) → k ≡ 4 → (m : Mode) (p : ℕ) (a : Action) → k ≡ mode_number m → true ≡ is_there (on_retransmission m p a)
unfolding on_retransmission is_there mode_named pick ◌=?◌ mode_number
retransmission_planned k h m p a e = at_mode_lem (λ n. true ≡ is_there (on_retransmission n p a)) m 4 (sym h ∙ e) refl

pub retransmission_not : (k : ℕ) → (k ≡ 0 → ⊥) → (k ≡ 4 → ⊥) → (m : Mode) (p : ℕ) (a : Action) → k ≡ mode_number m
    → false ≡ is_there (on_retransmission m p a)
unfolding mode_number on_retransmission is_there
retransmission_not k z n Non_prim p a e = absurd (z e)
retransmission_not k z n Reg_prim p a e = refl
retransmission_not k z n Trans_prim p a e = refl
retransmission_not k z n Exchange_states p a e = refl
retransmission_not k z n Exchange_actions p a e = absurd (n e)
retransmission_not k z n Construct p a e = refl
retransmission_not k z n No p a e = refl
retransmission_not k z n Un p a e = refl

-- ---- CPCs

pub cpc_ignored : (k : ℕ) → k ≡ 0 → (m : Mode) (i : ℕ) → k ≡ mode_number m → true ≡ is_there (on_cpc m i)
unfolding on_cpc is_there mode_named pick ◌=?◌ mode_number
cpc_ignored k h m i e = at_mode_lem (λ n. true ≡ is_there (on_cpc n i)) m 0 (sym h ∙ e) refl

pub cpc_collected : (k : ℕ) → k ≡ 5 → (m : Mode) (i : ℕ) → k ≡ mode_number m → true ≡ is_there (on_cpc m i)
unfolding on_cpc is_there mode_named pick ◌=?◌ mode_number
cpc_collected k h m i e = at_mode_lem (λ n. true ≡ is_there (on_cpc n i)) m 5 (sym h ∙ e) refl

pub cpc_late : (k : ℕ) → k ≡ 6 → (m : Mode) (i : ℕ) → k ≡ mode_number m → true ≡ is_there (on_cpc m i)
unfolding on_cpc is_there mode_named pick ◌=?◌ mode_number
cpc_late k h m i e = at_mode_lem (λ n. true ≡ is_there (on_cpc n i)) m 6 (sym h ∙ e) refl

pub cpc_not : (k : ℕ) → (k ≡ 0 → ⊥) → (k ≡ 5 → ⊥) → (k ≡ 6 → ⊥) → (m : Mode) (i : ℕ) → k ≡ mode_number m → false ≡ is_there (on_cpc m i)
unfolding mode_number on_cpc is_there
cpc_not k x y z Non_prim i e = absurd (x e)
cpc_not k x y z Reg_prim i e = refl
cpc_not k x y z Trans_prim i e = refl
cpc_not k x y z Exchange_states i e = refl
cpc_not k x y z Exchange_actions i e = refl
cpc_not k x y z Construct i e = absurd (y e)
cpc_not k x y z No i e = absurd (z e)
cpc_not k x y z Un i e = refl

-- ---- configurations

pub regular_not : (k : ℕ) → (k ≡ 0 → ⊥) → (k ≡ 7 → ⊥) → (k ≡ 6 → ⊥) → (k ≡ 2 → ⊥) → (m : Mode) (c : Configuration) → k ≡ mode_number m
    → on_regular m c ≡ none
unfolding mode_number on_regular
regular_not k x y z w Non_prim c e = absurd (x e)
regular_not k x y z w Reg_prim c e = refl
regular_not k x y z w Trans_prim c e = absurd (w e)
regular_not k x y z w Exchange_states c e = refl
regular_not k x y z w Exchange_actions c e = refl
regular_not k x y z w Construct c e = refl
regular_not k x y z w No c e = absurd (z e)
regular_not k x y z w Un c e = absurd (y e)

-- Whether there is one, and its number.
abbrev there : Maybe Code → ℕ
there None = 0
there (Some k) = 1

abbrev code_in : Maybe Code → ℕ
code_in None = 8
code_in (Some k) = mode_code k

none_there : {X : Type 0} (k : Code) → None ≡ Some k → X
none_there k e = absurd (omega (arith, ap there e))

some_there : {X : Type 0} (k : Code) → Some k ≡ None → X
some_there k e = absurd (omega (arith, ap there e))

pub no_transitional : (m : Mode) (t : ℕ) → mode_after m ≡ None → on_transitional m t ≡ none
unfolding mode_after on_transitional
no_transitional Non_prim t e = some_there _ e
no_transitional Reg_prim t e = some_there _ e
no_transitional Trans_prim t e = refl
no_transitional Exchange_states t e = some_there _ e
no_transitional Exchange_actions t e = some_there _ e
no_transitional Construct t e = some_there _ e
no_transitional No t e = refl
no_transitional Un t e = refl

pub leads : (m : Mode) (t : ℕ) (k : Code) → mode_after m ≡ Some k → (n : Mode) × (on_transitional m t ≡ some (leaving n t)) × (mode_code k ≡ mode_number n)
unfolding mode_after on_transitional mode_number
leads Non_prim t k e = (Non_prim, refl, sym (ap code_in e))
leads Reg_prim t k e = (Trans_prim, refl, sym (ap code_in e))
leads Trans_prim t k e = none_there k e
leads Exchange_states t k e = (Non_prim, refl, sym (ap code_in e))
leads Exchange_actions t k e = (Non_prim, refl, sym (ap code_in e))
leads Construct t k e = (No, refl, sym (ap code_in e))
leads No t k e = none_there k e
leads Un t k e = none_there k e
