-- The state that an event's action meets: only an action in Un meets another than the event came to.
use Prim.Native.Nat.{ℕ, ◌≤◌}
use mathlib.Core.Path.{◌≡◌, refl, sym, ap, subst, ◌∙◌}
use mathlib.Core.Bool.{Bool, true, false}
use mathlib.Core.List.{List}
use mathlib.Core.Option.{some}
use lib.ListN.{length}
use Rattle.base.specs.Bytes.{part_at}
use Rattle.base.specs.Tests.{◌or◌, ◌=?◌, pick}
use Rattle.base.proofs.TestLaws.{pick_either, pick_yes, pick_no}
use Rattle.format.specs.Types.{Action, State, Record, action, retransmission, state, cpc, regular, transitional, request, recovery}
use Rattle.format.specs.Types.{Context as FormatContext, Reading as FormatReading, says}
use Rattle.format.specs.Types as format
use Rattle.format.specs.Read.{read}
use Rattle.record.specs.declared.State.{State as Numbers}
use Rattle.record.specs.declared.ActionHead.{ActionHead}
use Rattle.record.specs.declared.Context.{Context}
use Rattle.record.specs.declared.events.ActionAt.{ActionAt}
use Rattle.record.specs.declared.events.StateAt.{StateAt}
use Rattle.record.specs.declared.events.Event.{Event}
use Rattle.record.specs.declared.events.Event.TheVariants as variants
use Rattle.record.specs.Context.{reading_context}
use Rattle.record.specs.Context as code
use Rattle.record.specs.Events.{action_from, state_from, record_of}
use Rattle.record.specs.Values.{id_of, action_of}
use Rattle.std.specs.Prelude.{Result, Ok, Err}
use Rattle.refusals.specs.declared.Refusal.{Refusal}
use Rattle.refusals.specs.Numbers.{refusal_number}
use Rattle.reader.specs.Reading.{meaning}
use Rattle.reader.proofs.Callers.{good_says, refused_says}
use Rattle.replication.specs.Machine.Types.{Mode, Non_prim, Reg_prim, Trans_prim, Exchange_states, Exchange_actions, Construct, No, Un, Configuration, Server, refused, with_log, context_of}
use Rattle.replication.specs.Machine.Install.{install_log}
use Rattle.replication.specs.Machine.Rules.{late_installing, on_action, on_retransmission, on_state, on_cpc, on_regular, on_transitional, rule_for, possible, from_member, is_ignored, within_quota}
use Rattle.replication.specs.Machine.White.{met_log, sieved}
use Rattle.replication.specs.Machine.Step.{stored, apply}
use Rattle.image.specs.Image.{image}
use Rattle.image.specs.Header.{header_of, header_in, mode_number}
use Rattle.image.specs.Decode.{mode_named}
use Rattle.image.specs.Layout.{header_size}
use Rattle.image.specs.Holding.{Holds, HoldsSome}
use Rattle.image.proofs.HeaderLaws.{header_loaded}
use Rattle.image.proofs.InPlace.{holds_header}
use Rattle.step.specs.Stages.{sieving, unraised, is_taken}
use Rattle.step.specs.Meeting.{met_by, met_in, met_on, met, installed_first, Meets}
use Rattle.step.proofs.AnswerLaws.{Passes, rows_passed, rows_impossible, rows_outside}
use Rattle.step.proofs.ForceLaws.{numbers_mode, numbers_at_lem, OwnNumbered, own_numbered, Member}
use Rattle.step.proofs.ReadingLaws.{reading_context_lem}

-- ---- by the table

module _ (s : Server) where
  action_by : (m : Mode) (a : Action) → (m ≡ Un → ⊥) → met_by (on_action m a) s ≡ s
  unfolding met_by met_log on_action
  action_by Non_prim a n = refl
  action_by Reg_prim a n = refl
  action_by Trans_prim a n = refl
  action_by Exchange_states a n = refl
  action_by Exchange_actions a n = refl
  action_by Construct a n = refl
  action_by No a n = refl
  action_by Un a n = absurd (n refl)

  retransmission_by : (m : Mode) (p : ℕ) (a : Action) → met_by (on_retransmission m p a) s ≡ s
  unfolding met_by met_log on_retransmission
  retransmission_by Non_prim p a = refl
  retransmission_by Reg_prim p a = refl
  retransmission_by Trans_prim p a = refl
  retransmission_by Exchange_states p a = refl
  retransmission_by Exchange_actions p a = refl
  retransmission_by Construct p a = refl
  retransmission_by No p a = refl
  retransmission_by Un p a = refl

  state_by : (m : Mode) (x : State) → met_by (on_state m x) s ≡ s
  unfolding met_by met_log on_state
  state_by Non_prim x = refl
  state_by Reg_prim x = refl
  state_by Trans_prim x = refl
  state_by Exchange_states x = refl
  state_by Exchange_actions x = refl
  state_by Construct x = refl
  state_by No x = refl
  state_by Un x = refl

  cpc_by : (m : Mode) (k : ℕ) → met_by (on_cpc m k) s ≡ s
  unfolding met_by met_log on_cpc
  cpc_by Non_prim k = refl
  cpc_by Reg_prim k = refl
  cpc_by Trans_prim k = refl
  cpc_by Exchange_states k = refl
  cpc_by Exchange_actions k = refl
  cpc_by Construct k = refl
  cpc_by No k = refl
  cpc_by Un k = refl

  regular_by : (m : Mode) (c : Configuration) → met_by (on_regular m c) s ≡ s
  unfolding met_by met_log on_regular
  regular_by Non_prim c = refl
  regular_by Reg_prim c = refl
  regular_by Trans_prim c = refl
  regular_by Exchange_states c = refl
  regular_by Exchange_actions c = refl
  regular_by Construct c = refl
  regular_by No c = refl
  regular_by Un c = refl

  transitional_by : (m : Mode) (t : ℕ) → met_by (on_transitional m t) s ≡ s
  unfolding met_by met_log on_transitional
  transitional_by Non_prim t = refl
  transitional_by Reg_prim t = refl
  transitional_by Trans_prim t = refl
  transitional_by Exchange_states t = refl
  transitional_by Exchange_actions t = refl
  transitional_by Construct t = refl
  transitional_by No t = refl
  transitional_by Un t = refl

  -- Where the table names no other state, none is met.
  stays : (r : Record) → met_by (rule_for s.membership.mode r) s ≡ s → met_in s r ≡ s
  unfolding met_in
  stays r e = pick_either (λ (u : Server). u ≡ s) (is_taken (unraised s r)) _ _ e refl

  pub retransmission_stays : (k p : ℕ) (a : Action) → met_in s (retransmission k p a) ≡ s
  unfolding rule_for
  retransmission_stays k p a = stays (retransmission k p a) (retransmission_by s.membership.mode p a)

  pub state_stays : (x : State) → met_in s (state x) ≡ s
  unfolding rule_for
  state_stays x = stays (state x) (state_by s.membership.mode x)

  pub cpc_stays : (k i : ℕ) → met_in s (cpc k i) ≡ s
  unfolding rule_for
  cpc_stays k i = stays (cpc k i) (cpc_by s.membership.mode k)

  pub regular_stays : (i t : ℕ) → met_in s (regular i t) ≡ s
  unfolding rule_for
  regular_stays i t = stays (regular i t) (regular_by s.membership.mode (record { id = i; set = t }))

  pub transitional_stays : (t : ℕ) → met_in s (transitional t) ≡ s
  unfolding rule_for
  transitional_stays t = stays (transitional t) (transitional_by s.membership.mode t)

  pub request_stays : (p : List ℕ) → met_in s (request p) ≡ s
  unfolding rule_for met_by met_log
  request_stays p = stays (request p) refl

  pub recovery_stays : met_in s recovery ≡ s
  unfolding rule_for met_by met_log
  recovery_stays = stays recovery refl

  -- Elsewhere than in Un.
  pub early_stays : (s.membership.mode ≡ Un → ⊥) → (r : Record) → met_in s r ≡ s
  unfolding rule_for
  early_stays n (action a) = stays (action a) (action_by s.membership.mode a n)
  early_stays n (retransmission k p a) = retransmission_stays k p a
  early_stays n (state x) = state_stays x
  early_stays n (cpc k i) = cpc_stays k i
  early_stays n (regular i t) = regular_stays i t
  early_stays n (transitional t) = transitional_stays t
  early_stays n (request p) = request_stays p
  early_stays n recovery = recovery_stays

  -- In Un a taken action meets the log after Install.
  late_met : (a : Action) → s.membership.mode ≡ Un → met_by (on_action s.membership.mode a) s ≡ installed_first s
  unfolding on_action met_by met_log
  late_met a u = ap (λ (m : Mode). met_by (on_action m a) s) u

  -- A row refuses.
  pub row_stays : (r : Record) (k : ℕ) → unraised s r ≡ refused k → met_in s r ≡ s
  unfolding met_in is_taken
  row_stays r k e = sym (pick_no (is_taken (unraised s r)) s _ _ (ap is_taken e) refl)

  -- None does.
  pub action_met : (a : Action) → s.membership.mode ≡ Un → possible s (action a) ≡ true → from_member s.membership (action a) ≡ true
      → met_in s (action a) ≡ installed_first s
  unfolding unraised met_in is_taken sieving sieved apply stored rule_for on_action within_quota is_ignored ◌or◌
  action_met a u p m =
      let f : Passes s (action a) (late_installing a) = record { rule = ap (λ (o : Mode). on_action o a) u; possible = p; member = m; quota = refl } in
      sym (pick_yes (is_taken (unraised s (action a))) (installed_first s) _ _ (ap is_taken (rows_passed sieving s (action a) (late_installing a) f)) (sym (late_met a u)))

-- ---- an action in Un, as the code tells it

module _ (h : Numbers) (x : ActionHead) (s : Server) (p : List ℕ) (e : h ≡ header_of s) (un : s.membership.mode ≡ Un) where
  abbrev a : Action
  a = action_of x p

  late_rule : rule_for s.membership.mode (action a) ≡ some (late_installing a)
  unfolding rule_for on_action
  late_rule = ap (λ (m : Mode). on_action m a) un

  own_told : (t : Bool) → OwnNumbered h x t → t ≡ possible s (action a)
  unfolding possible
  own_told t d = own_numbered h x p t s d e

  member_told : (t : Bool) → Member h x.creator t → t ≡ (is_ignored (late_installing a) or from_member s.membership (action a))
  unfolding from_member is_ignored ◌or◌ action_of id_of
  member_told t d = d s e

  pass_not : (t : Bool) → OwnNumbered h x t → t ≡ false → Meets false s (action (action_of x p))
  unfolding unraised pick
  pass_not t d n = row_stays s (action a) 5 (rows_impossible sieving s (action a) (sym (own_told t d) ∙ n))

  pub pass_unnumbered : (t : Bool) → OwnNumbered h x t → t ≡ false → Meets t s (action (action_of x p))
  pass_unnumbered t d n = subst (λ (u : Bool). Meets u s (action (action_of x p))) (sym n) (pass_not t d n)

  pub pass_by_member : (t : Bool) → OwnNumbered h x t → t ≡ true → (w : Bool) → Member h x.creator w → Meets w s (action (action_of x p))
  unfolding unraised pick is_ignored ◌or◌
  pass_by_member t d n false m =
      row_stays s (action a) 6
      (rows_outside sieving s (action a) (late_installing a) late_rule (sym (own_told t d) ∙ n) (sym (member_told false m)))
  pass_by_member t d n true m = action_met s a un (sym (own_told t d) ∙ n) (sym (member_told true m))

-- ---- an event in Un, as the code tells it

module _ (h : Numbers) (v : Event) where
  by_event : (w : Event) → v ≡ w → (t : Bool) (s : Server) (e : List ℕ) → Meets t s (record_of w e) → Meets t s (record_of v e)
  by_event w q t s e m = subst (λ (u : Event). Meets t s (record_of u e)) (sym q) m

  pub first_action : (a : ActionAt) → v ≡ variants.Action a → (t : Bool)
      → ((s : Server) (p : List ℕ) → h ≡ header_of s → s.membership.mode ≡ Un → Meets t s (action (action_of a.head p)))
      → (s : Server) (e : List ℕ) → h ≡ header_of s → s.membership.mode ≡ Un → Meets t s (record_of v e)
  unfolding record_of action_from
  first_action a q t m s e n un = by_event (variants.Action a) q t s e (m s _ n un)

  first_retransmission : (k i : ℕ) (a : ActionAt) → v ≡ variants.Retransmission k i a → (s : Server) (e : List ℕ) → h ≡ header_of s → s.membership.mode ≡ Un → Meets false s (record_of v e)
  unfolding record_of pick
  first_retransmission k i a q s e n un = by_event (variants.Retransmission k i a) q false s e (retransmission_stays s k i (action_from a e))

  first_state : (x : StateAt) → v ≡ variants.State x → (s : Server) (e : List ℕ) → h ≡ header_of s → s.membership.mode ≡ Un → Meets false s (record_of v e)
  unfolding record_of pick
  first_state x q s e n un = by_event (variants.State x) q false s e (state_stays s (state_from x e))

  first_cpc : (k i : ℕ) → v ≡ variants.Cpc k i → (s : Server) (e : List ℕ) → h ≡ header_of s → s.membership.mode ≡ Un → Meets false s (record_of v e)
  unfolding record_of pick
  first_cpc k i q s e n un = by_event (variants.Cpc k i) q false s e (cpc_stays s k i)

  first_regular : (i k : ℕ) → v ≡ variants.Regular i k → (s : Server) (e : List ℕ) → h ≡ header_of s → s.membership.mode ≡ Un → Meets false s (record_of v e)
  unfolding record_of pick
  first_regular i k q s e n un = by_event (variants.Regular i k) q false s e (regular_stays s i k)

  first_transitional : (k : ℕ) → v ≡ variants.Transitional k → (s : Server) (e : List ℕ) → h ≡ header_of s → s.membership.mode ≡ Un → Meets false s (record_of v e)
  unfolding record_of pick
  first_transitional k q s e n un = by_event (variants.Transitional k) q false s e (transitional_stays s k)

  first_request : (at m : ℕ) → v ≡ variants.Request at m → (s : Server) (e : List ℕ) → h ≡ header_of s → s.membership.mode ≡ Un → Meets false s (record_of v e)
  unfolding record_of pick
  first_request at m q s e n un = by_event (variants.Request at m) q false s e (request_stays s (part_at m e at))

  first_recovery : v ≡ variants.Recovery → (s : Server) (e : List ℕ) → h ≡ header_of s → s.membership.mode ≡ Un → Meets false s (record_of v e)
  unfolding record_of pick
  first_recovery q s e n un = by_event variants.Recovery q false s e (recovery_stays s)

  -- Anything but an action.
  pub first_other : ((a : ActionAt) → v ≡ variants.Action a → ⊥) → (s : Server) (e : List ℕ) → h ≡ header_of s → s.membership.mode ≡ Un
      → Meets false s (record_of v e)
  first_other no_action s e n un = go v refl
    where
      go : (w : Event) → v ≡ w → Meets false s (record_of v e)
      go (variants.Action a) q = absurd (no_action a q)
      go (variants.Retransmission k i a) q = first_retransmission k i a q s e n un
      go (variants.State x) q = first_state x q s e n un
      go (variants.Cpc k i) q = first_cpc k i q s e n un
      go (variants.Regular i k) q = first_regular i k q s e n un
      go (variants.Transitional k) q = first_transitional k q s e n un
      go (variants.Request at m) q = first_request at m q s e n un
      go variants.Recovery q = first_recovery q s e n un

-- ---- the event's bytes

pub some_header : (b : List ℕ) → HoldsSome b → header_size ≤ length b
some_header b h = holds_header h.state b h.holds

module _ (b e : List ℕ) (h : Numbers) (l : h ≡ header_in b) where
  numbers : (s : Server) → Holds s b → h ≡ header_of s
  numbers s i = l ∙ header_loaded s b i

  unmet : (s : Server) → Holds s b → met s e ≡ s → b ≡ image (met s e) b
  unmet s i q = sym (ap (λ (u : Server). image u b) q ∙ i.written)

  pub meet_early : (h.mode ≡ 7 → ⊥) → (s : Server) → Holds s b → b ≡ image (met s e) b
  unfolding met met_on mode_number
  meet_early n s i = unmet s i (go (read (context_of s) e))
    where
      go : (x : FormatReading Record) → met_on s x ≡ s
      go (says r) = early_stays s (λ u. n (numbers_mode h s (numbers s i) ∙ ap mode_number u)) r
      go (format.refused k) = refl

  module _ (un : h.mode ≡ 7) (c : Context) (q : c ≡ reading_context h) (r : Result Event Refusal) (said : meaning r e ≡ read (code.context_of c) e) where
    read_here : (s : Server) → Holds s b → (x : FormatReading Record) → read (code.context_of c) e ≡ x → met s e ≡ met_on s x
    unfolding met
    read_here s i x f =
        let same : code.context_of c ≡ context_of s = ap code.context_of (q ∙ ap reading_context (numbers s i)) ∙ reading_context_lem s in
        ap (met_on s) (ap (λ (y : FormatContext). read y e) (sym same) ∙ f)

    pub meet_unread : (k : Refusal) → r ≡ Err k → (s : Server) → Holds s b → b ≡ image (met s e) b
    unfolding met_on
    meet_unread k f s i = unmet s i (read_here s i (format.refused (refusal_number k)) (refused_says c r k e said f))

    module _ (v : Event) (f : r ≡ Ok v) (t : Bool)
        (told : (s : Server) (e : List ℕ) → h ≡ header_of s → s.membership.mode ≡ Un → Meets t s (record_of v e)) where
      in_un : (s : Server) → Holds s b → s.membership.mode ≡ Un
      unfolding mode_named pick ◌=?◌ mode_number
      in_un s i = numbers_at_lem (λ m. m ≡ Un) h s 7 (numbers s i) un refl

      met_is : (s : Server) → Holds s b → met s e ≡ pick t (installed_first s) s
      unfolding met_on
      met_is s i = read_here s i (says (record_of v e)) (good_says c r v e said f) ∙ told s e (numbers s i) (in_un s i)

      pub meet_installs : t ≡ true → (d : List ℕ) → ((s : Server) → Holds s b → d ≡ image (with_log (install_log s.votes.yellow.ids s.log) s) b)
          → (s : Server) → Holds s b → d ≡ image (met s e) b
      meet_installs g d y s i = y s i ∙ ap (λ (u : Server). image u b) (sym (met_is s i ∙ sym (pick_yes t (installed_first s) _ _ g refl)))

      pub meet_stays : t ≡ false → (s : Server) → Holds s b → b ≡ image (met s e) b
      meet_stays g s i = unmet s i (met_is s i ∙ sym (pick_no t s _ _ g refl))
