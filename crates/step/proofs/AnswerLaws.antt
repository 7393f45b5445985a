-- The machine's answer by its tests, and the code's answer for each way it ends.
use Prim.Native.Nat.{ℕ}
use mathlib.Core.Path.{◌≡◌, refl, sym, ap, ◌∙◌}
use mathlib.Core.Bool.{true, false}
use mathlib.Core.List.{List, []}
use mathlib.Core.Option.{Option, none, some}
use Rattle.base.specs.Tests.{◌or◌}
use Rattle.base.proofs.TestLaws.{pick_yes, pick_no, and_holds, both_yes, not_both}
use Rattle.base.specs.Bytes.{joined, over}
use Rattle.base.specs.Refusals.{quota_used, not_now, not_from_here}
use Rattle.base.specs.Lists.{is_there}
use Rattle.format.specs.Types.{Record}
use Rattle.format.specs.Range.{context_ok, fields_ok, record_ok}
use Rattle.format.specs.Write.{record_bytes}
use Rattle.replication.specs.Machine.Types.{Server, Outcome, refused, context_of}
use Rattle.replication.specs.Machine.Rules.{Rule, rule_for, possible, from_member, is_ignored, within_quota}
use Rattle.replication.specs.Machine.Step.{quiet, stored, apply, in_bytes}
use Rattle.replication.specs.Machine.WellFormed.{ranges, well_formed}
use Rattle.replication.specs.Laws.RuleFits.{RuleFits}
use Rattle.replication.proofs.WellFormed.RuleFacts.{rule_fits}
use Rattle.image.specs.Image.{image}
use Rattle.image.specs.Outcome.{refusal, result_of}
use Rattle.step.specs.declared.Answer.{Answer}
use Rattle.step.specs.Answers.{answered, outcome_on, by_rows, ruled, refused_with, quietly, stored_first}
use Rattle.step.proofs.OutcomeLaws.{quiet_outcome, stored_outcome}

-- ---- rows 5, 6 and 3

-- The state takes the record by the rule k, and no row applies.
pub record Passes (s : Server) (r : Record) (k : Rule) : Type 0 where
  pub rule : rule_for s.membership.mode r ≡ some k
  pub possible : possible s r ≡ true
  pub member : (is_ignored k or from_member s.membership r) ≡ true
  pub quota : within_quota s r ≡ true

-- Where f is what is made of the rule.
module _ (f : Rule → Server → Outcome Record) (s : Server) (r : Record) where
  abbrev rows : Outcome Record
  rows = by_rows f (rule_for s.membership.mode r) s r

  by_rule : (x : Option Rule) → rule_for s.membership.mode r ≡ x → rows ≡ by_rows f x s r
  by_rule x e = ap (λ (y : Option Rule). by_rows f y s r) e

  pub rows_untaken : rule_for s.membership.mode r ≡ none → by_rows f (rule_for s.membership.mode r) s r ≡ refused not_now
  unfolding by_rows
  rows_untaken e = by_rule none e

  pub rows_impossible : possible s r ≡ false → by_rows f (rule_for s.membership.mode r) s r ≡ refused not_now
  unfolding by_rows
  rows_impossible p = go (rule_for s.membership.mode r) refl
    where
      go : (x : Option Rule) → rule_for s.membership.mode r ≡ x → rows ≡ refused not_now
      go none e = rows_untaken e
      go (some k) e = by_rule (some k) e ∙ sym (pick_no (possible s r) (refused not_now) _ _ p refl)

  module _ (k : Rule) (e : rule_for s.membership.mode r ≡ some k) (p : possible s r ≡ true) where
    pub rows_outside : (is_ignored k or from_member s.membership r) ≡ false → by_rows f (rule_for s.membership.mode r) s r ≡ refused not_from_here
    unfolding by_rows
    rows_outside m =
        by_rule (some k) e ∙ sym
        (pick_yes (possible s r) (refused not_from_here) _ _ p (pick_no (is_ignored k or from_member s.membership r) (refused not_from_here) _ _ m refl))

    pub rows_above : (is_ignored k or from_member s.membership r) ≡ true → within_quota s r ≡ false
        → by_rows f (rule_for s.membership.mode r) s r ≡ refused quota_used
    unfolding by_rows
    rows_above m q =
        by_rule (some k) e ∙ sym
        (pick_yes (possible s r) (refused quota_used) _ _ p
        (pick_yes (is_ignored k or from_member s.membership r) (refused quota_used) _ _ m (pick_no (within_quota s r) (refused quota_used) _ _ q refl)))

  pub rows_passed : (k : Rule) → Passes s r k → by_rows f (rule_for s.membership.mode r) s r ≡ f k s
  unfolding by_rows
  rows_passed k g =
      by_rule (some k) g.rule
      ∙ sym
      (pick_yes (possible s r) (f k s) _ _ g.possible
      (pick_yes (is_ignored k or from_member s.membership r) (f k s) _ _ g.member
      (pick_yes (within_quota s r) (f k s) _ _ g.quota refl)))

-- The rule alone.
module _ (s : Server) (r : Record) where
  pub untaken : rule_for s.membership.mode r ≡ none → ruled s r ≡ refused not_now
  unfolding ruled
  untaken e = rows_untaken apply s r e

  pub impossible : possible s r ≡ false → ruled s r ≡ refused not_now
  unfolding ruled
  impossible p = rows_impossible apply s r p

  module _ (k : Rule) (e : rule_for s.membership.mode r ≡ some k) (p : possible s r ≡ true) where
    pub outside : (is_ignored k or from_member s.membership r) ≡ false → ruled s r ≡ refused not_from_here
    unfolding ruled
    outside m = rows_outside apply s r k e p m

    pub above_quota : (is_ignored k or from_member s.membership r) ≡ true → within_quota s r ≡ false → ruled s r ≡ refused quota_used
    unfolding ruled
    above_quota m q = rows_above apply s r k e p m q

  pub passed : (k : Rule) → Passes s r k → ruled s r ≡ apply k s
  unfolding ruled
  passed k f = rows_passed apply s r k f

  formed_context : well_formed s ≡ true → context_ok (context_of s) ≡ true
  unfolding well_formed ranges
  formed_context ok = (and_holds _ _ (and_holds _ _ ok).0).0

  -- What the rule relies on.
  pub passed_fits : (k : Rule) → well_formed s ≡ true → fields_ok (context_of s) r ≡ true → Passes s r k → RuleFits k s
  unfolding record_ok
  passed_fits k ok range f =
      rule_fits s k r (both_yes (context_ok (context_of s)) (fields_ok (context_of s) r) (formed_context ok) range) f.rule f.possible f.member
      f.quota

pub not_there : {A : Type 0} (x : Option A) → is_there x ≡ false → x ≡ none
unfolding is_there
not_there none e = refl
not_there (some y) e = not_both (sym e)

-- ---- the code's answers

pub refused_as : (x : Outcome Record) (a : Answer) (k : ℕ) (b o : List ℕ) → a ≡ refused_with k → x ≡ refused k → answered a b o ≡ outcome_on x b o
unfolding answered outcome_on in_bytes result_of refusal
refused_as x a k b o e f = ap (λ (y : Answer). answered y b o) e ∙ ap (λ (y : Outcome Record). outcome_on y b o) (sym f)

pub quiet_as : (s t : Server) (x : Outcome Record) (a : Answer) (b c o : List ℕ) → a ≡ quietly → x ≡ quiet s t → c ≡ image t b
    → answered a c o ≡ outcome_on x b o
quiet_as s t x a b c o e f g = quiet_outcome s t b o c a e g ∙ ap (λ (y : Outcome Record). outcome_on y b o) (sym f)

pub stored_as : (s t : Server) (x : Outcome Record) (a : Answer) (b c o : List ℕ) → a ≡ stored_first 0 → x ≡ stored s t [] → c ≡ image t b
    → answered a c o ≡ outcome_on x b o
unfolding record_bytes joined over
stored_as s t x a b c o e f g = stored_outcome s t [] b o c o 0 a e g refl refl ∙ ap (λ (y : Outcome Record). outcome_on y b o) (sym f)
