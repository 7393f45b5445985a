-- What the functions that frame a kind answer.
use Prim.Native.Nat.{ℕ, ◌+◌, ◌*◌, ◌-◌, ◌<◌}
use mathlib.Core.Path.{◌≡◌, refl, ap, ◌∙◌}
use mathlib.Core.List.{List}
use mathlib.Core.Option.{some}
use Rattle.std.specs.Prelude.{Some, None}
use native.Mathlib.Omega.{arith}
use lib.ListN.{length}
use Rattle.format.specs.Places.{at_body, action_payload_at, action_head_size, action_size, sender_at, position_at, resent_at, retransmission_size, configuration_id_at, cpc_size, state_cuts_at, state_count_at, standing_size, id_size, regular_set_at, regular_size, transitional_size, request_size, recovery_size}
use Rattle.base.specs.Tests.{◌=?◌}
use Rattle.base.proofs.TestLaws.{pick_yes, pick_no, eq_yes, eq_no}
use Rattle.base.specs.Bytes.{number_at}
use Rattle.format.specs.Types.{action, retransmission, state, Kind, of_action, of_retransmission, of_state, of_cpc, of_regular, of_transitional, of_request, of_recovery}
use Rattle.format.specs.Read.{payload_at, id_at, action_at, length_for, record_in}
use Rattle.record.specs.Values.{id_of, action_of}
use Rattle.record.specs.Events.{action_from, record_of, Inside, PayloadInside, ListsInside, action_in, head_in}
use Rattle.record.proofs.PartLaws.{behind, state_in, state_is}
use Rattle.reader.specs.Framed.{body_in, found, FoundInside, Answers}
use Rattle.record.specs.declared.events.StateHead.{StateHead}
use Rattle.record.specs.declared.events.ActionAt.{ActionAt}
use Rattle.record.specs.declared.events.Event.{Event}
use Rattle.record.specs.declared.events.Event.TheVariants.{Action, Retransmission, State, Cpc, Regular, Transitional, Request, Recovery}

-- any kind

pub bad : (k : Kind) (n : ℕ) (e : List ℕ) → (length_for k n e ≡ length e → ⊥) → Answers (body_in k n e) n None e
unfolding body_in found FoundInside
bad k n e h = record { is = pick_no (length_for k n e =? length e) _ _ _ (eq_no _ _ h) refl; within = tt }

pub good : (k : Kind) (n : ℕ) (e : List ℕ) (v : Event) → length_for k n e ≡ length e → record_of v e ≡ record_in k n e → Inside n v e
    → Answers (body_in k n e) n (Some v) e
unfolding body_in found FoundInside
good k n e v h f i = record { is = pick_yes (length_for k n e =? length e) _ _ _ (eq_yes _ _ h) (ap some f); within = i }

-- an action, here and in a retransmission

action_is : (e : List ℕ) (at : ℕ) → action_from (action_in e at) e ≡ action_at e at
unfolding action_from action_of action_in action_at id_of id_at payload_at
action_is e at = let a : at + action_payload_at + 1 ≡ at + action_head_size = omega arith in rw a

pub action_good : (e : List ℕ) (m x : ℕ) (a : ActionAt) → x ≡ number_at 1 e (at_body + action_payload_at) → m ≡ x → action_size + m ≡ length e → a ≡ action_in e at_body → (n : ℕ)
    → Answers (body_in of_action n e) n (Some (Action a)) e
unfolding length_for record_of record_in Inside PayloadInside action_in
action_good e m x a f l h g n = good of_action n e (Action a) (omega arith) (ap action (rw g (action_is e at_body))) (rw g (omega arith))

pub retransmission_good : (e : List ℕ) (m x s p : ℕ) (a : ActionAt) → x ≡ number_at 1 e (resent_at + action_payload_at) → m ≡ x → retransmission_size + m ≡ length e → a ≡ action_in e resent_at
    → s ≡ number_at 1 e sender_at → p ≡ number_at 4 e position_at
    → (n : ℕ) → Answers (body_in of_retransmission n e) n (Some (Retransmission s p a)) e
unfolding length_for record_of record_in Inside PayloadInside action_in
retransmission_good e m x s p a f l h g i j n =
    good of_retransmission n e (Retransmission s p a) (omega arith) (rw (g, i, j) (ap (retransmission (number_at 1 e sender_at) (number_at 4 e position_at)) (action_is e resent_at))) (rw g (omega arith))

-- a State

-- how long the bytes say that it is
state_length_lem : (n : ℕ) (e : List ℕ) (h : StateHead) → h ≡ head_in n e (behind n) → length_for of_state n e ≡ behind n + standing_size + id_size * h.yellow_count
unfolding length_for head_in
state_length_lem n e h g =
    let a : behind n + (state_count_at - state_cuts_at) ≡ state_count_at + 2 * n = omega arith in
    rw (g, a) (omega arith)

pub state_short_lem : (n : ℕ) (e : List ℕ) → length e < behind n + standing_size → Answers (body_in of_state n e) n None e
unfolding length_for
state_short_lem n e h = bad of_state n e (λ z. omega arith)

-- Its cuts end at `at`, and it has m ids.

pub state_bad : (n : ℕ) (e : List ℕ) (h : StateHead) (at m : ℕ) → h ≡ head_in n e at → (at + standing_size + id_size * m ≡ length e → ⊥)
    → m ≡ h.yellow_count → at ≡ behind n → Answers (body_in of_state n e) n None e
state_bad n e h at m g k i f = bad of_state n e (λ z. k (omega (arith, state_length_lem n e h (g ∙ ap (head_in n e) f), z)))

state_framed : (n : ℕ) (e : List ℕ) (h : StateHead) → h ≡ head_in n e (behind n) → behind n + standing_size + id_size * h.yellow_count ≡ length e
    → Answers (body_in of_state n e) n (Some (State (state_in h (behind n)))) e
unfolding record_of record_in Inside head_in
state_framed n e h g k =
    let s : h.servers ≡ n = ap (λ (x : StateHead). x.servers) g in
    let i : ListsInside n (state_in h (behind n)) e = record { servers = s; cuts = omega arith; ids = omega arith } in
    good of_state n e (State (state_in h (behind n))) (state_length_lem n e h g ∙ k) (ap state (rw g (state_is n e))) i

pub state_good : (n : ℕ) (e : List ℕ) (h : StateHead) (at m : ℕ) → h ≡ head_in n e at → at + standing_size + id_size * m ≡ length e
    → m ≡ h.yellow_count → at ≡ behind n → Answers (body_in of_state n e) n (Some (State (state_in h at))) e
state_good n e h at m g k i f = rw f (state_framed n e h (g ∙ ap (head_in n e) f) (omega arith))

-- the rest

pub cpc_good : (e : List ℕ) (s i : ℕ) → length e ≡ cpc_size → s ≡ number_at 1 e sender_at → i ≡ number_at 4 e configuration_id_at → (n : ℕ) → Answers (body_in of_cpc n e) n (Some (Cpc s i)) e
unfolding length_for record_of record_in Inside
cpc_good e s i h f g n = good of_cpc n e (Cpc s i) (omega arith) (rw (f, g)) tt

pub regular_good : (e : List ℕ) (i s : ℕ) → length e ≡ regular_size → i ≡ number_at 4 e at_body → s ≡ number_at 1 e regular_set_at → (n : ℕ) → Answers (body_in of_regular n e) n (Some (Regular i s)) e
unfolding length_for record_of record_in Inside
regular_good e i s h f g n = good of_regular n e (Regular i s) (omega arith) (rw (f, g)) tt

pub transitional_good : (e : List ℕ) (s : ℕ) → length e ≡ transitional_size → s ≡ number_at 1 e at_body → (n : ℕ) → Answers (body_in of_transitional n e) n (Some (Transitional s)) e
unfolding length_for record_of record_in Inside
transitional_good e s h f n = good of_transitional n e (Transitional s) (omega arith) (rw f) tt

pub request_good : (e : List ℕ) (m x : ℕ) → x ≡ number_at 1 e at_body → m ≡ x → request_size + m ≡ length e → (n : ℕ) → Answers (body_in of_request n e) n (Some (Request request_size m)) e
unfolding length_for record_of record_in Inside payload_at
request_good e m x f l h n = good of_request n e (Request request_size m) (omega arith) (rw (l, f)) (omega arith)

pub recovery_good : (e : List ℕ) → length e ≡ recovery_size → (n : ℕ) → Answers (body_in of_recovery n e) n (Some Recovery) e
unfolding length_for record_of record_in Inside
recovery_good e h n = good of_recovery n e Recovery (omega arith) refl tt
