-- What each rule may rely on: the record was in range, the state takes it by this rule, and rows 5, 6 and 3 do not apply.
use Prim.Native.Nat.{ℕ, ◌<◌}
use mathlib.Core.Path.{◌≡◌, refl, subst}
use mathlib.Core.Bool.{Bool, true, false}
use mathlib.Core.Option.{none, some, some-injective, none-ne-some}
use native.Mathlib.Omega.{arith}
use Rattle.base.specs.Tests.{◌or◌, pick}
use Rattle.base.proofs.TestLaws.{and_holds, eq_yes, le_holds, lt_holds}
use Rattle.format.specs.Types.{Action, State, Record, action, retransmission, state, cpc, regular, transitional, request, recovery}
use Rattle.format.specs.Range.{action_ok, configuration_ok, fields_ok, record_ok}
use Rattle.replication.specs.Machine.Types.{Mode, Non_prim, Reg_prim, Trans_prim, Exchange_states, Exchange_actions, Construct, No, Un, Configuration, Server, context_of}
use Rattle.replication.specs.Machine.Rules.{Rule, ignoring, reddening, greening, yellowing, late_installing, exchanging, collecting_state, collecting_cpc, collecting_late_cpc, joining, joining_unmarked, joining_yellow, leaving, requesting, recovering, on_action, on_retransmission, on_state, on_cpc, on_regular, on_transitional, rule_for, numbered_own, possible, from_member, is_ignored, within_quota}
use Rattle.replication.specs.Laws.Transitions.{stays, parts, interrupts_states, interrupts_actions, interrupts_construct}
use Rattle.replication.specs.Machine.WellFormedRanges.{StateFits, ConfigurationFits, TransitionalFits}
use Rattle.replication.proofs.WellFormed.Ranges.{payload_facts, action_facts, state_facts, own_set_facts}
use Rattle.replication.specs.Machine.White.{beyond, sifted, sieved}
use Rattle.replication.specs.Laws.RuleFits.{Delivered, RuleFits}
use Rattle.replication.proofs.WellFormed.Logs.{came}

-- What the sieve leaves is delivered too.
sifted_delivered : (b : Bool) (s : Server) (a : Action) → Delivered s a → Delivered s (sifted b a)
unfolding sifted beyond pick
sifted_delivered false s a d = d
sifted_delivered true s a d =
    record { fits = record { creator = d.fits.creator; most = omega arith; green_length = d.fits.green_length; white_length = d.fits.white_length; payload = d.fits.payload }; own = λ e. omega arith }

pub sieved_fits : (b : Bool) (k : Rule) (s : Server) → RuleFits k s → RuleFits (sieved b k) s
unfolding sieved
sieved_fits b ignoring s f = f
sieved_fits b (reddening a) s f = sifted_delivered b s a f
sieved_fits b (greening a) s f = (sifted_delivered b s a f.0, f.1)
sieved_fits b (yellowing a) s f = (sifted_delivered b s a f.0, f.1)
sieved_fits b (late_installing a) s f = (sifted_delivered b s a f.0, f.1)
sieved_fits b (exchanging p a) s f = (sifted_delivered b s a f.0, f.1)
sieved_fits b (collecting_state x) s f = f
sieved_fits b (collecting_cpc k) s f = f
sieved_fits b (collecting_late_cpc k) s f = f
sieved_fits b (joining c) s f = f
sieved_fits b (joining_unmarked c) s f = f
sieved_fits b (joining_yellow c) s f = f
sieved_fits b (leaving m t) s f = f
sieved_fits b (requesting p) s f = f
sieved_fits b recovering s f = f

delivered : (s : Server) (a : Action) → action_ok (context_of s) a ≡ true → numbered_own s a ≡ true → Delivered s a
unfolding context_of numbered_own ◌or◌
delivered s a ok own = record { fits = came s.servers s.quota a (action_facts (context_of s) a ok); own = λ e. le_holds _ _ (rw (eq_yes _ _ e) at own) }

-- ---- one table after another

module _ (s : Server) (k : Rule) where
  same_rule : (P : Rule → Type 0) (j : Rule) → some j ≡ some k → P j → P k
  same_rule P j e h = subst P (some-injective j k e) h

  no_rule : (X : Type 0) → none ≡ some k → X
  no_rule X e = absurd (none-ne-some k e)

  by : (j : Rule) → some j ≡ some k → RuleFits j s → RuleFits k s
  by j e h = same_rule (λ i. RuleFits i s) j e h

  action_rule : (m : Mode) (a : Action) → s.membership.mode ≡ m → Delivered s a → on_action m a ≡ some k → RuleFits k s
  unfolding on_action
  action_rule Non_prim a e d h = by (reddening a) h d
  action_rule Reg_prim a e d h = by (greening a) h (d, e)
  action_rule Trans_prim a e d h = by (yellowing a) h (d, e)
  action_rule Exchange_states a e d h = by (reddening a) h d
  action_rule Exchange_actions a e d h = no_rule (RuleFits k s) h
  action_rule Construct a e d h = no_rule (RuleFits k s) h
  action_rule No a e d h = no_rule (RuleFits k s) h
  action_rule Un a e d h = by (late_installing a) h (d, e)

  retransmission_rule : (m : Mode) (p : ℕ) (a : Action) → s.membership.mode ≡ m → Delivered s a → on_retransmission m p a ≡ some k → RuleFits k s
  unfolding on_retransmission
  retransmission_rule Non_prim p a e d h = by (reddening a) h d
  retransmission_rule Reg_prim p a e d h = no_rule (RuleFits k s) h
  retransmission_rule Trans_prim p a e d h = no_rule (RuleFits k s) h
  retransmission_rule Exchange_states p a e d h = no_rule (RuleFits k s) h
  retransmission_rule Exchange_actions p a e d h = by (exchanging p a) h (d, e)
  retransmission_rule Construct p a e d h = no_rule (RuleFits k s) h
  retransmission_rule No p a e d h = no_rule (RuleFits k s) h
  retransmission_rule Un p a e d h = no_rule (RuleFits k s) h

  state_rule : (m : Mode) (x : State) → s.membership.mode ≡ m → StateFits s.servers s.quota x → on_state m x ≡ some k
      → (is_ignored k or from_member s.membership (state x)) ≡ true → RuleFits k s
  unfolding on_state is_ignored from_member ◌or◌
  state_rule Non_prim x e f h o = by ignoring h tt
  state_rule Reg_prim x e f h o = no_rule (RuleFits k s) h
  state_rule Trans_prim x e f h o = no_rule (RuleFits k s) h
  state_rule Exchange_states x e f h o = same_rule (λ j. (is_ignored j or from_member s.membership (state x)) ≡ true → RuleFits j s) (collecting_state x) h came o
    where
      came : (is_ignored (collecting_state x) or from_member s.membership (state x)) ≡ true → RuleFits (collecting_state x) s
      came u =
          let a = and_holds _ _ u in
          let b = and_holds _ _ a.1 in
          (record { fits = f; member = a.0; configuration = b.0 }, e)
  state_rule Exchange_actions x e f h o = no_rule (RuleFits k s) h
  state_rule Construct x e f h o = no_rule (RuleFits k s) h
  state_rule No x e f h o = no_rule (RuleFits k s) h
  state_rule Un x e f h o = no_rule (RuleFits k s) h

  cpc_rule : (m : Mode) (i : ℕ) → s.membership.mode ≡ m → i < s.servers → on_cpc m i ≡ some k → RuleFits k s
  unfolding on_cpc
  cpc_rule Non_prim i e f h = by ignoring h tt
  cpc_rule Reg_prim i e f h = no_rule (RuleFits k s) h
  cpc_rule Trans_prim i e f h = no_rule (RuleFits k s) h
  cpc_rule Exchange_states i e f h = no_rule (RuleFits k s) h
  cpc_rule Exchange_actions i e f h = no_rule (RuleFits k s) h
  cpc_rule Construct i e f h = by (collecting_cpc i) h (f, e)
  cpc_rule No i e f h = by (collecting_late_cpc i) h (f, e)
  cpc_rule Un i e f h = no_rule (RuleFits k s) h

  regular_rule : (m : Mode) (c : Configuration) → ConfigurationFits s.servers s.me c → on_regular m c ≡ some k → RuleFits k s
  unfolding on_regular
  regular_rule Non_prim c f h = by (joining c) h f
  regular_rule Reg_prim c f h = no_rule (RuleFits k s) h
  regular_rule Trans_prim c f h = by (joining_yellow c) h f
  regular_rule Exchange_states c f h = no_rule (RuleFits k s) h
  regular_rule Exchange_actions c f h = no_rule (RuleFits k s) h
  regular_rule Construct c f h = no_rule (RuleFits k s) h
  regular_rule No c f h = by (joining_unmarked c) h f
  regular_rule Un c f h = by (joining c) h f

  transitional_rule : (m : Mode) (t : ℕ) → s.membership.mode ≡ m → TransitionalFits s.servers s.me s.membership.configuration t
      → on_transitional m t ≡ some k → RuleFits k s
  unfolding on_transitional
  transitional_rule Non_prim t e f h = by (leaving Non_prim t) h (f, rw e stays)
  transitional_rule Reg_prim t e f h = by (leaving Trans_prim t) h (f, rw e parts)
  transitional_rule Trans_prim t e f h = no_rule (RuleFits k s) h
  transitional_rule Exchange_states t e f h = by (leaving Non_prim t) h (f, rw e interrupts_states)
  transitional_rule Exchange_actions t e f h = by (leaving Non_prim t) h (f, rw e interrupts_actions)
  transitional_rule Construct t e f h = by (leaving No t) h (f, rw e interrupts_construct)
  transitional_rule No t e f h = no_rule (RuleFits k s) h
  transitional_rule Un t e f h = no_rule (RuleFits k s) h

  -- ---- all together

  fields_fit : (r : Record) → fields_ok (context_of s) r ≡ true → rule_for s.membership.mode r ≡ some k → possible s r ≡ true
      → (is_ignored k or from_member s.membership r) ≡ true → within_quota s r ≡ true → RuleFits k s
  unfolding fields_ok context_of rule_for possible within_quota configuration_ok
  fields_fit (action a) f h p o q = action_rule s.membership.mode a refl (delivered s a f p) h
  fields_fit (retransmission j i a) f h p o q =
      retransmission_rule s.membership.mode i a refl (delivered s a (and_holds _ _ (and_holds _ _ f).1).1 p) h
  fields_fit (state x) f h p o q = state_rule s.membership.mode x refl (state_facts (context_of s) x f) h o
  fields_fit (cpc j i) f h p o q = cpc_rule s.membership.mode j refl (lt_holds _ _ (and_holds _ _ f).0) h
  fields_fit (regular i t) f h p o q =
      regular_rule s.membership.mode (record { id = i; set = t }) (record { id = lt_holds _ _ (and_holds _ _ f).0; set = own_set_facts (context_of s) t (and_holds _ _ f).1 }) h
  fields_fit (transitional t) f h p o q =
      transitional_rule s.membership.mode t refl (record { set = own_set_facts (context_of s) t (and_holds _ _ f).0; inside = (and_holds _ _ f).1 }) h
  fields_fit (request x) f h p o q = by (requesting x) h (payload_facts x f, q)
  fields_fit recovery f h p o q = by recovering h tt

  pub rule_fits : (r : Record) → record_ok (context_of s) r ≡ true → rule_for s.membership.mode r ≡ some k → possible s r ≡ true
      → (is_ignored k or from_member s.membership r) ≡ true → within_quota s r ≡ true → RuleFits k s
  unfolding record_ok
  rule_fits r f h p o q = fields_fit r (and_holds _ _ f).1 h p o q
