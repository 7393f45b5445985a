-- Which records a state ignores, as the code tells it: "Non_prim: .. State and CPC ignored."
use Prim.Native.Nat.{ℕ}
use mathlib.Core.Path.{◌≡◌, refl, sym, ap, ◌∙◌}
use mathlib.Core.Bool.{false}
use mathlib.Core.List.{List}
use lib.Dec.{eqb}
use Rattle.format.specs.Types.{Action as FormatAction, State as FormatState}
use Rattle.record.specs.declared.events.ActionAt.{ActionAt}
use Rattle.record.specs.declared.events.StateAt.{StateAt}
use Rattle.record.specs.declared.events.Event.{Event}
use Rattle.record.specs.declared.events.Event.TheVariants.{Action, Retransmission, State, Cpc, Regular, Transitional, Request, Recovery}
use Rattle.record.specs.Events.{action_from, state_from, record_of}
use Rattle.replication.specs.Machine.Types.{Mode, Non_prim, Reg_prim, Trans_prim, Exchange_states, Exchange_actions, Construct, No, Un, Configuration}
use Rattle.replication.specs.Machine.Rules.{on_action, on_retransmission, on_state, on_cpc, on_regular, on_transitional, rule_for, is_ignored}
use Rattle.image.specs.Header.{mode_number}
use Rattle.step.specs.Stages.{ignored_by}

state_ignored : (m : Mode) (x : FormatState) → eqb (mode_number m) 0 ≡ ignored_by (on_state m x)
unfolding on_state ignored_by is_ignored mode_number
state_ignored Non_prim x = refl
state_ignored Reg_prim x = refl
state_ignored Trans_prim x = refl
state_ignored Exchange_states x = refl
state_ignored Exchange_actions x = refl
state_ignored Construct x = refl
state_ignored No x = refl
state_ignored Un x = refl

cpc_ignored : (m : Mode) (k : ℕ) → eqb (mode_number m) 0 ≡ ignored_by (on_cpc m k)
unfolding on_cpc ignored_by is_ignored mode_number
cpc_ignored Non_prim k = refl
cpc_ignored Reg_prim k = refl
cpc_ignored Trans_prim k = refl
cpc_ignored Exchange_states k = refl
cpc_ignored Exchange_actions k = refl
cpc_ignored Construct k = refl
cpc_ignored No k = refl
cpc_ignored Un k = refl

action_heard : (m : Mode) (a : FormatAction) → false ≡ ignored_by (on_action m a)
unfolding on_action ignored_by is_ignored
action_heard Non_prim a = refl
action_heard Reg_prim a = refl
action_heard Trans_prim a = refl
action_heard Exchange_states a = refl
action_heard Exchange_actions a = refl
action_heard Construct a = refl
action_heard No a = refl
action_heard Un a = refl

retransmission_heard : (m : Mode) (p : ℕ) (a : FormatAction) → false ≡ ignored_by (on_retransmission m p a)
unfolding on_retransmission ignored_by is_ignored
retransmission_heard Non_prim p a = refl
retransmission_heard Reg_prim p a = refl
retransmission_heard Trans_prim p a = refl
retransmission_heard Exchange_states p a = refl
retransmission_heard Exchange_actions p a = refl
retransmission_heard Construct p a = refl
retransmission_heard No p a = refl
retransmission_heard Un p a = refl

regular_heard : (m : Mode) (c : Configuration) → false ≡ ignored_by (on_regular m c)
unfolding on_regular ignored_by is_ignored
regular_heard Non_prim c = refl
regular_heard Reg_prim c = refl
regular_heard Trans_prim c = refl
regular_heard Exchange_states c = refl
regular_heard Exchange_actions c = refl
regular_heard Construct c = refl
regular_heard No c = refl
regular_heard Un c = refl

transitional_heard : (m : Mode) (t : ℕ) → false ≡ ignored_by (on_transitional m t)
unfolding on_transitional ignored_by is_ignored
transitional_heard Non_prim t = refl
transitional_heard Reg_prim t = refl
transitional_heard Trans_prim t = refl
transitional_heard Exchange_states t = refl
transitional_heard Exchange_actions t = refl
transitional_heard Construct t = refl
transitional_heard No t = refl
transitional_heard Un t = refl

-- ---- by the event

module _ (k : ℕ) (v : Event) where
  by_event : (w : Event) → v ≡ w → (m : Mode) (e : List ℕ) → ignored_by (rule_for m (record_of w e)) ≡ ignored_by (rule_for m (record_of v e))
  by_event w q m e = ap (λ (u : Event). ignored_by (rule_for m (record_of u e))) (sym q)

  pub state_told : (x : StateAt) → v ≡ State x → (m : Mode) (e : List ℕ) → k ≡ mode_number m → eqb k 0 ≡ ignored_by (rule_for m (record_of v e))
  unfolding rule_for record_of
  state_told x q m e h = ap (λ (n : ℕ). eqb n 0) h ∙ state_ignored m (state_from x e) ∙ by_event (State x) q m e

  pub cpc_told : (j i : ℕ) → v ≡ Cpc j i → (m : Mode) (e : List ℕ) → k ≡ mode_number m → eqb k 0 ≡ ignored_by (rule_for m (record_of v e))
  unfolding rule_for record_of
  cpc_told j i q m e h = ap (λ (n : ℕ). eqb n 0) h ∙ cpc_ignored m j ∙ by_event (Cpc j i) q m e

  action_told : (a : ActionAt) → v ≡ Action a → (m : Mode) (e : List ℕ) → k ≡ mode_number m → false ≡ ignored_by (rule_for m (record_of v e))
  unfolding rule_for record_of
  action_told a q m e h = action_heard m (action_from a e) ∙ by_event (Action a) q m e

  retransmission_told : (j i : ℕ) (a : ActionAt) → v ≡ Retransmission j i a → (m : Mode) (e : List ℕ) → k ≡ mode_number m → false ≡ ignored_by (rule_for m (record_of v e))
  unfolding rule_for record_of
  retransmission_told j i a q m e h = retransmission_heard m i (action_from a e) ∙ by_event (Retransmission j i a) q m e

  regular_told : (i s : ℕ) → v ≡ Regular i s → (m : Mode) (e : List ℕ) → k ≡ mode_number m → false ≡ ignored_by (rule_for m (record_of v e))
  unfolding rule_for record_of
  regular_told i s q m e h = regular_heard m (record { id = i; set = s }) ∙ by_event (Regular i s) q m e

  transitional_told : (s : ℕ) → v ≡ Transitional s → (m : Mode) (e : List ℕ) → k ≡ mode_number m → false ≡ ignored_by (rule_for m (record_of v e))
  unfolding rule_for record_of
  transitional_told s q m e h = transitional_heard m s ∙ by_event (Transitional s) q m e

  request_told : (at n : ℕ) → v ≡ Request at n → (m : Mode) (e : List ℕ) → k ≡ mode_number m → false ≡ ignored_by (rule_for m (record_of v e))
  unfolding rule_for record_of ignored_by is_ignored
  request_told at n q m e h = refl ∙ by_event (Request at n) q m e

  recovery_told : v ≡ Recovery → (m : Mode) (e : List ℕ) → k ≡ mode_number m → false ≡ ignored_by (rule_for m (record_of v e))
  unfolding rule_for record_of ignored_by is_ignored
  recovery_told q m e h = refl ∙ by_event (Recovery) q m e

  pub other_told : ((x : StateAt) → v ≡ State x → ⊥) → ((j i : ℕ) → v ≡ Cpc j i → ⊥) → (m : Mode) (e : List ℕ) → k ≡ mode_number m
      → false ≡ ignored_by (rule_for m (record_of v e))
  other_told no_state no_cpc m e h = go v refl
    where
      go : (w : Event) → v ≡ w → false ≡ ignored_by (rule_for m (record_of v e))
      go (Action a) q = action_told a q m e h
      go (Retransmission j i a) q = retransmission_told j i a q m e h
      go (State x) q = absurd (no_state x q)
      go (Cpc j i) q = absurd (no_cpc j i q)
      go (Regular i s) q = regular_told i s q m e h
      go (Transitional s) q = transitional_told s q m e h
      go (Request at n) q = request_told at n q m e h
      go Recovery q = recovery_told q m e h
