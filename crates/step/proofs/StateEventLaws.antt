-- States: which states take them, and row 6.
use Prim.Native.Nat.{ℕ, ◌<◌}
use mathlib.Core.Path.{◌≡◌, refl, sym, ap, subst, ◌∙◌}
use mathlib.Core.Bool.{Bool, true, false, not}
use mathlib.Core.List.{List}
use mathlib.Core.Option.{none, some}
use borrow.Author.Tests.{not-true, not-false}
use Rattle.base.specs.Tests.{◌or◌, ◌=?◌, ◌<?◌, pick}
use Rattle.base.proofs.TestLaws.{and_holds}
use Rattle.base.specs.Refusals.{not_now, not_from_here}
use Rattle.format.specs.Types.{State, Record, state}
use Rattle.format.specs.Range.{fields_ok, state_ok}
use Rattle.format.specs.Write.{write}
use Rattle.record.specs.declared.State.{State as Numbers}
use Rattle.replication.specs.Machine.Types.{Mode, Non_prim, Reg_prim, Trans_prim, Exchange_states, Exchange_actions, Construct, No, Un, Server, Outcome, context_of}
use Rattle.replication.specs.Machine.Rules.{ignoring, collecting_state, on_state, rule_for, possible, from_member, is_ignored, within_quota}
use Rattle.replication.specs.Machine.Step.{collect_state, apply}
use Rattle.image.specs.Header.{header_of, mode_number}
use Rattle.image.specs.Decode.{mode_named}
use Rattle.image.specs.Holding.{Holds}
use Rattle.step.specs.declared.Answer.{Answer}
use Rattle.outgoing.specs.Lent.{LentSuch}
use Rattle.step.specs.Answers.{answered, outcome_on, ruled, StateInForce, Came, refused_with, quietly}
use Rattle.outgoing.proofs.LentFacts.{lent_fact}
use Rattle.step.proofs.AnswerLaws.{Passes, untaken, outside, passed, passed_fits, refused_as, quiet_as}
use Rattle.step.proofs.ForceLaws.{numbers_mode, numbers_at_lem, below_eight}

no_state : (l : ℕ) (m : Mode) (x : State) → l ≡ mode_number m → (l ≡ 0 → ⊥) → (l ≡ 3 → ⊥) → on_state m x ≡ none
unfolding mode_number on_state
no_state l Non_prim x e u v = absurd (u e)
no_state l Reg_prim x e u v = refl
no_state l Trans_prim x e u v = refl
no_state l Exchange_states x e u v = absurd (v e)
no_state l Exchange_actions x e u v = refl
no_state l Construct x e u v = refl
no_state l No x e u v = refl
no_state l Un x e u v = refl

module _ (h : Numbers) (k id : ℕ) (e b o : List ℕ) (f : LentSuch (StateInForce h k id e) b o) where
  pub state_sender_below : k < 8
  unfolding fields_ok state_ok context_of
  state_sender_below =
      below_eight f.state b k f.holds
      (subst (λ (i : ℕ). (i <? f.state.servers) ≡ true) f.fact.sender (and_holds _ _ f.fact.force.range).0)

  numbers : (s : Server) → Holds s b → h ≡ header_of s
  numbers s y = (lent_fact (StateInForce h k id e) b o s f y).force.numbers

  pub state_ignored : h.mode ≡ 0 → (r : Answer) → r ≡ quietly
      → (s : Server) (x : State) → Holds s b → fields_ok (context_of s) (state x) ≡ true → write (state x) ≡ e → x.sender ≡ k → x.configuration ≡ id
      → answered r b o ≡ outcome_on (ruled s (state x)) b o
  unfolding mode_named pick ◌=?◌ on_state rule_for possible is_ignored within_quota ◌or◌ apply mode_number
  state_ignored m r q s x y g w a c =
      let z : on_state s.membership.mode x ≡ some ignoring = numbers_at_lem (λ l. on_state l x ≡ some ignoring) h s 0 (numbers s y) m refl in
      quiet_as s s (ruled s (state x)) r b b o q
      (passed s (state x) ignoring (record { rule = z; possible = refl; member = refl; quota = refl })) (sym y.written)

  pub state_untaken : (h.mode ≡ 0 → ⊥) → (h.mode ≡ 3 → ⊥) → (r : Answer) → r ≡ refused_with not_now
      → (s : Server) (x : State) → Holds s b → fields_ok (context_of s) (state x) ≡ true → write (state x) ≡ e → x.sender ≡ k → x.configuration ≡ id
      → answered r b o ≡ outcome_on (ruled s (state x)) b o
  unfolding rule_for
  state_untaken m n r q s x y g w a c =
      refused_as (ruled s (state x)) r 5 b o q
      (untaken s (state x) (no_state h.mode s.membership.mode x (numbers_mode h s (numbers s y)) m n))

  module _ (m : h.mode ≡ 3) (t : Bool)
      (g : (s : Server) (x : State) → h ≡ header_of s → x.sender ≡ k → x.configuration ≡ id → t ≡ from_member s.membership (state x)) where
    rule : (s : Server) (x : State) → Holds s b → on_state s.membership.mode x ≡ some (collecting_state x)
    unfolding mode_named pick ◌=?◌ on_state mode_number
    rule s x y = numbers_at_lem (λ l. on_state l x ≡ some (collecting_state x)) h s 3 (numbers s y) m refl

    pub state_outside : not t ≡ true → (r : Answer) → r ≡ refused_with not_from_here
        → (s : Server) (x : State) → Holds s b → fields_ok (context_of s) (state x) ≡ true → write (state x) ≡ e → x.sender ≡ k → x.configuration ≡ id
        → answered r b o ≡ outcome_on (ruled s (state x)) b o
    unfolding rule_for possible is_ignored ◌or◌
    state_outside n r q s x y i w a c =
        refused_as (ruled s (state x)) r 6 b o q
        (outside s (state x) (collecting_state x) (rule s x y) refl (sym (g s x (numbers s y) a c) ∙ not-true t n))

    passes : not t ≡ false → (s : Server) (x : State) → Holds s b → x.sender ≡ k → x.configuration ≡ id → Passes s (state x) (collecting_state x)
    unfolding rule_for possible is_ignored within_quota ◌or◌
    passes n s x y a c =
        record { rule = rule s x y; possible = refl; member = sym (g s x (numbers s y) a c) ∙ not-false t n; quota = refl }

    pub state_came : not t ≡ false → LentSuch (Came k e) b o
    state_came n =
        let s : Server = f.state in
        let x : State = f.fact.sent in
        let fits = passed_fits s (state x) (collecting_state x) f.holds.formed f.fact.force.range
        (passes n s x f.holds f.fact.sender f.fact.configuration) in
        record {
          state = s;
          holds = f.holds;
          fact = record { sent = x; written = f.fact.written; sender = f.fact.sender; came = fits.0; mode = fits.1 };
          room = f.room;
        }

    pub state_collected : not t ≡ false → (r : Answer) (c z : List ℕ)
        → ((s : Server) (x : State) → Holds s b → fields_ok (context_of s) (state x) ≡ true → write (state x) ≡ e → answered r c z
        ≡ outcome_on (collect_state x s) b o)
        → (s : Server) (x : State) → Holds s b → fields_ok (context_of s) (state x) ≡ true → write (state x) ≡ e → x.sender ≡ k → x.configuration ≡ id
        → answered r c z ≡ outcome_on (ruled s (state x)) b o
    unfolding apply
    state_collected n r c z j s x y i w a d =
        j s x y i w ∙ ap (λ (v : Outcome Record). outcome_on v b o) (sym (passed s (state x) (collecting_state x) (passes n s x y a d)))
