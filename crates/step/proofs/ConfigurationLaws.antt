-- Configurations: whether one can come, and where it leads.
use Prim.Native.Nat.{ℕ}
use mathlib.Core.Path.{◌≡◌, refl, sym, ap, ◌∙◌}
use mathlib.Core.Bool.{Bool, true, false, not}
use mathlib.Core.List.{List}
use mathlib.Core.Option.{some}
use borrow.Author.Tests.{not-true, not-false}
use Rattle.base.specs.Tests.{◌or◌, ◌=?◌, pick}
use Rattle.base.specs.Refusals.{not_now}
use Rattle.format.specs.Types.{Record, regular, transitional}
use Rattle.record.specs.declared.State.{State as Numbers}
use Rattle.replication.specs.Machine.Types.{Mode, Configuration, Server, Outcome, with_votes}
use Rattle.replication.specs.Machine.Rules.{Rule, joining, joining_unmarked, joining_yellow, leaving, on_regular, rule_for, regular_due, transitional_due, possible, from_member, is_ignored, within_quota}
use Rattle.replication.specs.Machine.Step.{join, unmarked, yellow_valid, leave, apply}
use Rattle.replication.specs.Machine.WellFormedRanges.{ConfigurationFits}
use Rattle.replication.specs.Laws.RuleFits.{RuleFits}
use Rattle.image.specs.Image.{image}
use Rattle.image.specs.Header.{header_of, mode_number}
use Rattle.image.specs.Decode.{mode_named}
use Rattle.image.specs.Holding.{Holds, HoldsSuch}
use Rattle.image.proofs.InPlace.{such_fact}
use Rattle.updates.specs.Lists.{configuration_of}
use Rattle.step.specs.declared.Answer.{Answer}
use Rattle.outgoing.specs.Lent.{LentSuch}
use Rattle.step.specs.Answers.{answered, outcome_on, ruled, InForce, refused_with, quietly}
use Rattle.guards.specs.Modes.{mode_after}
use Rattle.outgoing.proofs.LentFacts.{lent_fact}
use Rattle.step.proofs.AnswerLaws.{Passes, untaken, impossible, passed, passed_fits, refused_as, quiet_as}
use Rattle.step.proofs.ModeLaws.{regular_not, no_transitional, leads}
use Rattle.step.proofs.ForceLaws.{numbers_mode, numbers_at_lem}
use Rattle.std.specs.Prelude.{Option as Maybe, Some, None}
use Rattle.record.specs.declared.modes.Mode.{Mode as Code}
use Rattle.record.specs.Codes.{mode_code}

-- ---- regular ones

module _ (h : Numbers) (id set : ℕ) (b o : List ℕ) (f : LentSuch (InForce h (regular id set)) b o) where
  abbrev r : Record
  r = regular id set

  abbrev c : Configuration
  c = configuration_of id set

  force : (s : Server) → Holds s b → InForce h r s
  force s y = lent_fact (InForce h r) b o s f y

  pub regular_untaken : (h.mode ≡ 0 → ⊥) → (h.mode ≡ 7 → ⊥) → (h.mode ≡ 6 → ⊥) → (h.mode ≡ 2 → ⊥) → (v : Answer) → v ≡ refused_with not_now
      → (s : Server) → Holds s b → answered v b o ≡ outcome_on (ruled s (regular id set)) b o
  unfolding rule_for
  regular_untaken a₀ a₇ a₆ a₂ v q s y =
      refused_as (ruled s r) v 5 b o q
      (untaken s r (regular_not h.mode a₀ a₇ a₆ a₂ s.membership.mode _ (numbers_mode h s (force s y).numbers)))

  module _ (t : Bool) (g : (s : Server) → h ≡ header_of s → t ≡ regular_due s.membership) where
    pub regular_early : not t ≡ true → (v : Answer) → v ≡ refused_with not_now → (s : Server) → Holds s b
        → answered v b o ≡ outcome_on (ruled s (regular id set)) b o
    unfolding possible
    regular_early n v q s y = refused_as (ruled s r) v 5 b o q (impossible s r (sym (g s (force s y).numbers) ∙ not-true t n))

    module _ (n : not t ≡ false) where
      -- In the state of the number l it is taken by the rule k.
      module _ (l : ℕ) (k : Rule) (e : h.mode ≡ l) (i : on_regular (mode_named l) c ≡ some k) (heard : is_ignored k ≡ false) where
        passes : (s : Server) → Holds s b → Passes s r k
        unfolding rule_for configuration_of possible from_member within_quota ◌or◌
        passes s y =
            record {
              rule = numbers_at_lem (λ m. on_regular m c ≡ some k) h s l (force s y).numbers e i;
              possible = sym (g s (force s y).numbers)
                  ∙ not-false t n;
              member = rw heard refl;
              quota = refl;
            }

        ready : (RuleFits k f.state → ConfigurationFits f.state.servers f.state.me c)
            → LentSuch (λ s. ConfigurationFits s.servers s.me c) b o
        ready fits =
            let s : Server = f.state in
            record {
              state = s;
              holds = f.holds;
              fact = fits
                  (passed_fits s r k f.holds.formed f.fact.range (passes s f.holds));
              room = f.room;
            }

        taken : (v : Answer) (x z : List ℕ) (s : Server) → Holds s b → answered v x z ≡ outcome_on (apply k s) b o
            → answered v x z ≡ outcome_on (ruled s r) b o
        taken v x z s y w = w ∙ ap (λ (j : Outcome Record). outcome_on j b o) (sym (passed s r k (passes s y)))

      pub first_ready : h.mode ≡ 0 → LentSuch (λ s. ConfigurationFits s.servers s.me (configuration_of id set)) b o
      unfolding mode_named pick ◌=?◌ on_regular is_ignored mode_number
      first_ready e = ready 0 (joining c) e refl refl (λ x. x)

      pub un_ready : h.mode ≡ 7 → LentSuch (λ s. ConfigurationFits s.servers s.me (configuration_of id set)) b o
      unfolding mode_named pick ◌=?◌ on_regular is_ignored mode_number
      un_ready e = ready 7 (joining c) e refl refl (λ x. x)

      pub no_ready : h.mode ≡ 6 → LentSuch (λ s. ConfigurationFits s.servers s.me (configuration_of id set)) b o
      unfolding mode_named pick ◌=?◌ on_regular is_ignored mode_number
      no_ready e = ready 6 (joining_unmarked c) e refl refl (λ x. x)

      pub trans_ready : h.mode ≡ 2 → LentSuch (λ s. ConfigurationFits s.servers s.me (configuration_of id set)) b o
      unfolding mode_named pick ◌=?◌ on_regular is_ignored mode_number
      trans_ready e = ready 2 (joining_yellow c) e refl refl (λ x. x)

      module _ (v : Answer) (x z : List ℕ) where
        pub first_joined : h.mode ≡ 0 → ((s u : Server) → Holds u b → answered v x z ≡ outcome_on (join s (configuration_of id set) u) b o)
            → (s : Server) → Holds s b → answered v x z ≡ outcome_on (ruled s (regular id set)) b o
        unfolding mode_named pick ◌=?◌ on_regular is_ignored apply mode_number
        first_joined e w s y = taken 0 (joining c) e refl refl v x z s y (w s s y)

        pub un_joined : h.mode ≡ 7 → ((s u : Server) → Holds u b → answered v x z ≡ outcome_on (join s (configuration_of id set) u) b o)
            → (s : Server) → Holds s b → answered v x z ≡ outcome_on (ruled s (regular id set)) b o
        unfolding mode_named pick ◌=?◌ on_regular is_ignored apply mode_number
        un_joined e w s y = taken 7 (joining c) e refl refl v x z s y (w s s y)

        pub no_joined : h.mode ≡ 6
            → ((s u : Server) → Holds u b → answered v x z ≡ outcome_on (join s (configuration_of id set) (with_votes (unmarked u.votes) u)) b o)
            → (s : Server) → Holds s b → answered v x z ≡ outcome_on (ruled s (regular id set)) b o
        unfolding mode_named pick ◌=?◌ on_regular is_ignored apply mode_number
        no_joined e w s y = taken 6 (joining_unmarked c) e refl refl v x z s y (w s s y)

        pub trans_joined : h.mode ≡ 2
            → ((s u : Server) → Holds u b → answered v x z
            ≡ outcome_on (join s (configuration_of id set) (with_votes (yellow_valid (unmarked u.votes)) u)) b o)
            → (s : Server) → Holds s b → answered v x z ≡ outcome_on (ruled s (regular id set)) b o
        unfolding mode_named pick ◌=?◌ on_regular is_ignored apply mode_number
        trans_joined e w s y = taken 2 (joining_yellow c) e refl refl v x z s y (w s s y)

-- ---- transitional ones

module _ (h : Numbers) (set : ℕ) (b : List ℕ) (f : HoldsSuch (InForce h (transitional set)) b) where
  abbrev x : Record
  x = transitional set

  force_such : (s : Server) → Holds s b → InForce h x s
  force_such s y = such_fact (InForce h x) b s f y

  pub transitional_second : (t : Bool) → ((s : Server) → h ≡ header_of s → t ≡ transitional_due s.membership) → not t ≡ true → (v : Answer)
      → v ≡ refused_with not_now
      → (s : Server) (o : List ℕ) → Holds s b → answered v b o ≡ outcome_on (ruled s (transitional set)) b o
  unfolding possible
  transitional_second t d n v q s o y = refused_as (ruled s x) v 5 b o q (impossible s x (sym (d s (force_such s y).numbers) ∙ not-true t n))

  module _ (l : Maybe Code) (g : (m : Mode) → h.mode ≡ mode_number m → l ≡ mode_after m) where
    after : (s : Server) → Holds s b → l ≡ mode_after s.membership.mode
    after s y = g s.membership.mode (numbers_mode h s (force_such s y).numbers)

    pub transitional_untaken : l ≡ None → (v : Answer) → v ≡ refused_with not_now
        → (s : Server) (o : List ℕ) → Holds s b → answered v b o ≡ outcome_on (ruled s (transitional set)) b o
    unfolding rule_for
    transitional_untaken e v q s o y =
        refused_as (ruled s x) v 5 b o q (untaken s x (no_transitional s.membership.mode set (sym (after s y) ∙ e)))

    pub transitional_left : (t : Bool) → ((s : Server) → h ≡ header_of s → t ≡ transitional_due s.membership) → (k : Code) → l ≡ Some k → not t ≡ false
        → (v : Answer) (z : List ℕ) → ((s : Server) (m : Mode) → Holds s b → mode_code k ≡ mode_number m → z ≡ image (leave m set s) b) → v ≡ quietly
        → (s : Server) (o : List ℕ) → Holds s b → answered v z o ≡ outcome_on (ruled s (transitional set)) b o
    unfolding rule_for possible is_ignored from_member within_quota ◌or◌ apply
    transitional_left t d j e n v z w q s o y =
        let k = leads s.membership.mode set j (sym (after s y) ∙ e) in
        let p : Passes s x (leaving k.0 set) = record {
          rule = k.1;
          possible = sym (d s (force_such s y).numbers)
              ∙ not-false t n;
          member = refl;
          quota = refl;
        } in
        quiet_as s (leave k.0 set s) (ruled s x) v b z o q (passed s x (leaving k.0 set) p) (w s k.0 y k.2)
