-- Each rule's effect is one of the transitions: the one case split over states, records and the tests that the rules make.
use Prim.Native.Nat.{ℕ}
use mathlib.Core.Path.{◌≡◌, refl, ap, subst, ◌∙◌}
use mathlib.Core.Bool.{Bool, true, false}
use mathlib.Core.List.{List}
use mathlib.Core.Option.{Option, none, some}
use Rattle.base.specs.Tests.{◌=?◌, pick}
use Rattle.base.proofs.TestLaws.{pick_as}
use Rattle.format.specs.Types.{Action, State, Record, action, retransmission, state, cpc, regular, transitional, request, recovery}
use Rattle.replication.specs.Machine.Types.{Mode, Non_prim, Reg_prim, Trans_prim, Exchange_states, Exchange_actions, Construct, No, Un, Configuration, Server, Outcome, refused, taken}
use Rattle.replication.specs.Machine.Exchange.{quorum}
use Rattle.replication.specs.Machine.Requests.{sends_now}
use Rattle.replication.specs.Machine.Rules.{Rule, on_action, on_retransmission, on_state, on_cpc, on_regular, on_transitional, rule_for}
use Rattle.replication.specs.Machine.Step.{greened, quiet, stored, sent, join, here_set, collected, end_exchange, with_state, all_states_in, planned_now, after_states, collect_state, exchanged, all_come_of, exchange, with_cpc, all_cpcs_in, installing, collect_cpc, collect_late_cpc, requested, apply}
use Rattle.replication.specs.Machine.White.{sifted, full, sieved, sieved_record}
use Rattle.replication.specs.Laws.Transitions as L
use Rattle.replication.specs.Laws.Transitions.{TakenBy, Ends, Transition}

-- The outcome is a transition, and names what turned green; it is no refusal.
abbrev pub Moves : Server → Record → Outcome Record → Type 0
Moves s r (refused k) = ⊥
Moves s r (taken t rs b g) = Transition s r t rs b × (g ≡ greened s t)

abbrev Ruled : Server → Record → Option Rule → Type 0
Ruled s r none = Unit {0}
Ruled s r (some k) = Moves s r (apply k s)

module _ (s : Server) where
  ending : (r : Record) (t : Server) → ((u : Server) (rs : List Record) → Ends t u rs → Transition s r u rs true) → Moves s r (end_exchange s t)
  unfolding end_exchange stored
  ending r t f = pick_as (Moves s r) (quorum (collected t) (here_set t)) _ _ (λ c. (f _ _ (L.with_quorum c), refl)) (λ c. (f _ _ (L.without_quorum c), refl))

  on_action_lem : (m : Mode) → s.membership.mode ≡ m → (a : Action) → Ruled s (action a) (on_action m a)
  unfolding on_action apply quiet stored
  on_action_lem Non_prim e a = (L.reddens a e, refl)
  on_action_lem Reg_prim e a = (L.greens a e, refl)
  on_action_lem Trans_prim e a = (L.yellows a e, refl)
  on_action_lem Exchange_states e a = (L.reddens_in_exchange a e, refl)
  on_action_lem Exchange_actions e a = tt
  on_action_lem Construct e a = tt
  on_action_lem No e a = tt
  on_action_lem Un e a = (L.installs_late a e, refl)

  on_retransmission_lem : (m : Mode) → s.membership.mode ≡ m → (k p : ℕ) (a : Action) → Ruled s (retransmission k p a) (on_retransmission m p a)
  unfolding on_retransmission apply quiet exchange
  on_retransmission_lem Non_prim e k p a = (L.reddens_resent k p a e, refl)
  on_retransmission_lem Reg_prim e k p a = tt
  on_retransmission_lem Trans_prim e k p a = tt
  on_retransmission_lem Exchange_states e k p a = tt
  on_retransmission_lem Exchange_actions e k p a =
      pick_as (Moves s (retransmission k p a)) (all_come_of (exchanged p a s)) _ _
      (λ c. ending (retransmission k p a) (exchanged p a s) (λ u rs x. L.exchanges_last k p a u rs e c x))
      (λ c. (L.exchanges k p a e c, refl))
  on_retransmission_lem Construct e k p a = tt
  on_retransmission_lem No e k p a = tt
  on_retransmission_lem Un e k p a = tt

  on_state_lem : (m : Mode) → s.membership.mode ≡ m → (x : State) → Ruled s (state x) (on_state m x)
  unfolding on_state apply quiet sent collect_state after_states with_state
  on_state_lem Non_prim e x = (L.ignores_state x e, refl)
  on_state_lem Reg_prim e x = tt
  on_state_lem Trans_prim e x = tt
  on_state_lem Exchange_states e x =
      pick_as (Moves s (state x)) (all_states_in (with_state x s)) _ _
      (λ c. pick_as (Moves s (state x)) (planned_now (with_state x s) =? 0) _ _
      (λ d. ending (state x) (with_state x s) (λ u rs y. L.collects_whole x u rs e c d y))
      (λ d. (L.collects_last x e c d, refl)))
      (λ c. (L.collects x e c, refl))
  on_state_lem Exchange_actions e x = tt
  on_state_lem Construct e x = tt
  on_state_lem No e x = tt
  on_state_lem Un e x = tt

  on_cpc_lem : (m : Mode) → s.membership.mode ≡ m → (k i : ℕ) → Ruled s (cpc k i) (on_cpc m k)
  unfolding on_cpc apply quiet stored collect_cpc collect_late_cpc installing
  on_cpc_lem Non_prim e k i = (L.ignores_cpc k i e, refl)
  on_cpc_lem Reg_prim e k i = tt
  on_cpc_lem Trans_prim e k i = tt
  on_cpc_lem Exchange_states e k i = tt
  on_cpc_lem Exchange_actions e k i = tt
  on_cpc_lem Construct e k i = pick_as (Moves s (cpc k i)) (all_cpcs_in (with_cpc k s)) _ _ (λ c. (L.installs k i e c, refl)) (λ c. (L.counts k i e c, refl))
  on_cpc_lem No e k i = pick_as (Moves s (cpc k i)) (all_cpcs_in (with_cpc k s)) _ _ (λ c. (L.counts_all_late k i e c, refl)) (λ c. (L.counts_late k i e c, refl))
  on_cpc_lem Un e k i = tt

  on_regular_lem : (m : Mode) → s.membership.mode ≡ m → (i x : ℕ) → Ruled s (regular i x) (on_regular m (record { id = i; set = x }))
  unfolding on_regular apply join stored
  on_regular_lem Non_prim e i x = (L.joins (record { id = i; set = x }) e, refl)
  on_regular_lem Reg_prim e i x = tt
  on_regular_lem Trans_prim e i x = (L.joins_yellow (record { id = i; set = x }) e, refl)
  on_regular_lem Exchange_states e i x = tt
  on_regular_lem Exchange_actions e i x = tt
  on_regular_lem Construct e i x = tt
  on_regular_lem No e i x = (L.joins_unmarked (record { id = i; set = x }) e, refl)
  on_regular_lem Un e i x = (L.joins_marked (record { id = i; set = x }) e, refl)

  on_transitional_lem : (m : Mode) → s.membership.mode ≡ m → (x : ℕ) → Ruled s (transitional x) (on_transitional m x)
  unfolding on_transitional apply quiet
  on_transitional_lem Non_prim e x = (L.leaves _ _ x e L.stays, refl)
  on_transitional_lem Reg_prim e x = (L.leaves _ _ x e L.parts, refl)
  on_transitional_lem Trans_prim e x = tt
  on_transitional_lem Exchange_states e x = (L.leaves _ _ x e L.interrupts_states, refl)
  on_transitional_lem Exchange_actions e x = (L.leaves _ _ x e L.interrupts_actions, refl)
  on_transitional_lem Construct e x = (L.leaves _ _ x e L.interrupts_construct, refl)
  on_transitional_lem No e x = tt
  on_transitional_lem Un e x = tt

  by_record : (r : Record) → Ruled s r (rule_for s.membership.mode r)
  unfolding rule_for apply requested stored quiet
  by_record (action a) = on_action_lem _ refl a
  by_record (retransmission k p a) = on_retransmission_lem _ refl k p a
  by_record (state x) = on_state_lem _ refl x
  by_record (cpc k i) = on_cpc_lem _ refl k i
  by_record (regular i x) = on_regular_lem _ refl i x
  by_record (transitional x) = on_transitional_lem _ refl x
  by_record (request p) = pick_as (Moves s (request p)) (sends_now s.membership) _ _ (λ c. (L.sends p c, refl)) (λ c. (L.numbers p c, refl))
  by_record recovery = (L.recovers, refl)

-- A rule that a record takes is never a refusal.
pub rule_moves : (s : Server) (r : Record) (k : Rule) → rule_for s.membership.mode r ≡ some k → Moves s r (apply k s)
rule_moves s r k e = subst (Ruled s r) e (by_record s r)

-- The sieve commutes with the choice of the rule.
abbrev sieved_in : Bool → Option Rule → Option Rule
sieved_in b none = none
sieved_in b (some k) = some (sieved b k)

sieved_action : (m : Mode) (b : Bool) (a : Action) → on_action m (sifted b a) ≡ sieved_in b (on_action m a)
unfolding on_action sieved
sieved_action Non_prim b a = refl
sieved_action Reg_prim b a = refl
sieved_action Trans_prim b a = refl
sieved_action Exchange_states b a = refl
sieved_action Exchange_actions b a = refl
sieved_action Construct b a = refl
sieved_action No b a = refl
sieved_action Un b a = refl

sieved_retransmission : (m : Mode) (b : Bool) (p : ℕ) (a : Action) → on_retransmission m p (sifted b a) ≡ sieved_in b (on_retransmission m p a)
unfolding on_retransmission sieved
sieved_retransmission Non_prim b p a = refl
sieved_retransmission Reg_prim b p a = refl
sieved_retransmission Trans_prim b p a = refl
sieved_retransmission Exchange_states b p a = refl
sieved_retransmission Exchange_actions b p a = refl
sieved_retransmission Construct b p a = refl
sieved_retransmission No b p a = refl
sieved_retransmission Un b p a = refl

sieved_state : (m : Mode) (b : Bool) (x : State) → on_state m x ≡ sieved_in b (on_state m x)
unfolding on_state sieved
sieved_state Non_prim b x = refl
sieved_state Reg_prim b x = refl
sieved_state Trans_prim b x = refl
sieved_state Exchange_states b x = refl
sieved_state Exchange_actions b x = refl
sieved_state Construct b x = refl
sieved_state No b x = refl
sieved_state Un b x = refl

sieved_cpc : (m : Mode) (b : Bool) (k : ℕ) → on_cpc m k ≡ sieved_in b (on_cpc m k)
unfolding on_cpc sieved
sieved_cpc Non_prim b k = refl
sieved_cpc Reg_prim b k = refl
sieved_cpc Trans_prim b k = refl
sieved_cpc Exchange_states b k = refl
sieved_cpc Exchange_actions b k = refl
sieved_cpc Construct b k = refl
sieved_cpc No b k = refl
sieved_cpc Un b k = refl

sieved_regular : (m : Mode) (b : Bool) (c : Configuration) → on_regular m c ≡ sieved_in b (on_regular m c)
unfolding on_regular sieved
sieved_regular Non_prim b c = refl
sieved_regular Reg_prim b c = refl
sieved_regular Trans_prim b c = refl
sieved_regular Exchange_states b c = refl
sieved_regular Exchange_actions b c = refl
sieved_regular Construct b c = refl
sieved_regular No b c = refl
sieved_regular Un b c = refl

sieved_transitional : (m : Mode) (b : Bool) (x : ℕ) → on_transitional m x ≡ sieved_in b (on_transitional m x)
unfolding on_transitional sieved
sieved_transitional Non_prim b x = refl
sieved_transitional Reg_prim b x = refl
sieved_transitional Trans_prim b x = refl
sieved_transitional Exchange_states b x = refl
sieved_transitional Exchange_actions b x = refl
sieved_transitional Construct b x = refl
sieved_transitional No b x = refl
sieved_transitional Un b x = refl

rule_sieved_in : (m : Mode) (b : Bool) (r : Record) → rule_for m (sieved_record b r) ≡ sieved_in b (rule_for m r)
unfolding rule_for sieved_record sieved
rule_sieved_in m b (action a) = sieved_action m b a
rule_sieved_in m b (retransmission k p a) = sieved_retransmission m b p a
rule_sieved_in m b (state x) = sieved_state m b x
rule_sieved_in m b (cpc k i) = sieved_cpc m b k
rule_sieved_in m b (regular i x) = sieved_regular m b (record { id = i; set = x })
rule_sieved_in m b (transitional x) = sieved_transitional m b x
rule_sieved_in m b (request p) = refl
rule_sieved_in m b recovery = refl

pub rule_sieved : (m : Mode) (b : Bool) (r : Record) (k : Rule) → rule_for m r ≡ some k → rule_for m (sieved_record b r) ≡ some (sieved b k)
rule_sieved m b r k e = rule_sieved_in m b r ∙ ap (sieved_in b) e

pub sieved_none : (r : Record) → sieved_record false r ≡ r
unfolding sieved_record sifted pick
sieved_none (action a) = refl
sieved_none (retransmission k p a) = refl
sieved_none (state x) = refl
sieved_none (cpc k i) = refl
sieved_none (regular i x) = refl
sieved_none (transitional x) = refl
sieved_none (request p) = refl
sieved_none recovery = refl

pub moved : {s : Server} {e : List ℕ} {t : Server} {bs : List (List ℕ)} {b : Bool} {g : List Action} (x : TakenBy s e t bs b g)
    → Transition s (sieved_record (full x.rule s) x.event) x.core x.records b × (g ≡ greened s x.core)
moved {s} x =
    let f = full x.rule s in
    subst (Moves s (sieved_record f x.event)) x.applied (rule_moves s (sieved_record f x.event) (sieved f x.rule) (rule_sieved s.membership.mode f x.event x.rule x.ruled))

-- With room for every action that comes the sieve lets all through.
pub moved_whole : {s : Server} {e : List ℕ} {t : Server} {bs : List (List ℕ)} {b : Bool} {g : List Action} (x : TakenBy s e t bs b g)
    → full x.rule s ≡ false → Transition s x.event x.core x.records b
moved_whole {s} {b = b} x h = subst (λ r. Transition s r x.core x.records b) (ap (λ f. sieved_record f x.event) h ∙ sieved_none x.event) (moved x).0
